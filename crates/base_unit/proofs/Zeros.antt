-- The cell of zeros.
use Rattle.std.proofs.Common.{ap, refl}
use Rattle.cell.proofs.Zeros.{table_is_vacant, zero_schedule, zeros}
use Rattle.least_served.specs.Served.{unserved}
use Rattle.model.specs.Cell.{Cell}
use Rattle.model.specs.Table.{Table}
use Rattle.least_served.specs.declared.counts.LeastServed.{LeastServed}
use Rattle.base_unit.specs.Zero.{ZeroIsNew}

new_with : Table → Cell LeastServed
new_with t = record { keep = 0; mark = 0; turns = 0; table = t; chooser = unserved }

pub zero_is_new : ZeroIsNew
unfolding new_with
zero_is_new = (
  record { schedule = zero_schedule; chooser = unserved },
  (record { schedule = zeros; credit = refl; extra = refl }, ap new_with table_is_vacant),
)
