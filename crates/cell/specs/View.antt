-- A cell of the code as the cell that the definition speaks of.
use Rattle.model.specs.Cell.{Cell as TheCell}
use Rattle.table.specs.Places.{table_of}
use Rattle.cell.specs.declared.cell.Cell.{Cell}
use Rattle.cell.specs.declared.schedule.Schedule.{Schedule}

-- a schedule, and the chooser that belongs to it
abbrev pub cell_of : {C : Type 0} → Schedule → C → TheCell C
cell_of s c = record { keep = s.keep; mark = s.mark; turns = s.turns; table = table_of s.rows; chooser = c }

-- a schedule by itself, for what is asked of no chooser
abbrev pub alone : Schedule → TheCell (Unit {0})
alone s = cell_of s tt

abbrev pub view : {C : Type 0} → Cell C → TheCell C
view x = cell_of x.schedule x.chooser
