-- Where the twelfth call of the worked run leaves the virtual times and the allowances.
use Rattle.std.specs.Prelude.{◌≡◌, take, pos}
use Rattle.least_served.specs.Meaning.{least_served_meaning}
use Rattle.least_served.specs.declared.counts.LeastServed.{LeastServed}
use Rattle.model.specs.Cell.{Cell}
use Rattle.model.specs.Table.{at}
use Rattle.model.specs.History.{after}
use Rattle.figures.specs.Run.{new_cell, run}

-- the cell after twelve calls of the worked run
abbrev pub twelfth : Cell LeastServed
twelfth = after least_served_meaning new_cell (take 12 run)

pub record TwelfthFigures : Type 0 where
  pub time_0 : (at twelfth.table 0).virtual_time ≡ 402
  pub time_1 : (at twelfth.table 1).virtual_time ≡ 450
  pub allowance_0 : (at twelfth.table 0).allowance ≡ pos 0
  pub allowance_1 : (at twelfth.table 1).allowance ≡ pos 300
