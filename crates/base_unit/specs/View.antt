-- The cell in C's memory as the cell that the definition speaks of, and what a call makes of it.
use Rattle.std.specs.Prelude.{ℕ, Bool, Option, Result}
use Rattle.answer.specs.Numbers.{refusal_number}
use Rattle.answer.specs.declared.refusal.Refusal.{Refusal}
use Rattle.answer.specs.declared.turn.Answer.{Answer}
use Rattle.cell.specs.View.{cell_of}
use Rattle.least_served.specs.Meaning.{least_served_meaning}
use Rattle.least_served.specs.Served.{place_count}
use Rattle.least_served.specs.declared.counts.LeastServed.{LeastServed}
use Rattle.model.specs.Calls.{Call, answer_to, cell_after}
use Rattle.model.specs.Cell.{Cell}
use Rattle.base_unit.specs.Numbers.{list_of}
use Rattle.base_unit.specs.declared.memory.CellMemory.{CellMemory}

abbrev pub memory_view : CellMemory → Cell LeastServed
memory_view m = cell_of m.schedule m.chooser

-- what a call answers, also as a number, and the cell that it leaves
abbrev pub answered : CellMemory → Call → Result Answer Refusal
answered m call = answer_to least_served_meaning (memory_view m) call

abbrev pub number_of_call : CellMemory → Call → ℕ
number_of_call m call = refusal_number (answered m call)

-- what the chooser has counted for a place, in one list or the other
abbrev pub count_in : CellMemory → Bool → ℕ → Option ℕ
count_in m extra place = place_count m.chooser (list_of extra) place

abbrev pub cell_left : CellMemory → Call → Cell LeastServed
cell_left m call = cell_after least_served_meaning (memory_view m) call
