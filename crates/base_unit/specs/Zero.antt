-- Memory that is all zero is a cell: the new one with keep 0.
use Rattle.std.specs.Prelude.{◌≡◌, replicate}
use Rattle.cell.specs.Zero.{ZeroSchedule}
use Rattle.least_served.specs.Served.{unserved}
use Rattle.model.specs.Calls.{new}
use Rattle.model.specs.Limits.{places}
use Rattle.base_unit.specs.View.{memory_view}
use Rattle.base_unit.specs.declared.memory.CellMemory.{CellMemory}

-- every number is 0, and every flag is false
pub record Zero (m : CellMemory) : Type 0 where
  pub schedule : ZeroSchedule m.schedule
  pub credit : m.chooser.credit ≡ replicate places 0
  pub extra : m.chooser.extra ≡ replicate places 0

-- zeros are a value of the type, all that it demands of its parts included, and that value is the new cell
abbrev pub ZeroIsNew : Type 0
ZeroIsNew = (m : CellMemory) × (Zero m × (memory_view m ≡ new 0 unserved))
