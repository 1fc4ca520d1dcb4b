-- All that is promised of a new cell with a new least served.
use Rattle.least_served.specs.declared.counts.LeastServed.{LeastServed}
use Rattle.least_served.specs.Meaning.{least_served_meaning}
use Rattle.model.specs.Cell.{Cell}
use Rattle.model.specs.Further.{AllPromises}
use Rattle.served_cell.specs.Counts.{NoCountStops}

pub record Promised (start : Cell LeastServed) : Type 0 where
  pub promises : AllPromises least_served_meaning start
  pub counts : NoCountStops start
