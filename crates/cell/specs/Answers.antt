-- Answers of the code as those that the definition gives.
use Rattle.std.specs.Prelude.{Result}
use Rattle.std.specs.Result.{result_map_both}
use Rattle.answer.specs.declared.refusal.Refusal.{Refusal}
use Rattle.answer.specs.declared.turn.Answer.{Answer}
use Rattle.answer.specs.declared.turn.Answer.TheVariants.{Done, Turn as Turned}
use Rattle.answer.specs.declared.turn.Turn.{Turn}
use Rattle.model.specs.Cell.{Cell as TheCell}
use Rattle.cell.specs.View.{alone, view}
use Rattle.cell.specs.declared.cell.Cell.{Cell}
use Rattle.cell.specs.declared.cell.Unmade.{Unmade}
use Rattle.cell.specs.declared.schedule.Schedule.{Schedule}

-- a call that answers no more than that it was done
abbrev pub done_as : Result (Unit {0}) Refusal → Result Answer Refusal
done_as r = result_map_both (λ x. Done) (λ why. why) r

-- a turn
abbrev pub turned_as : Result Turn Refusal → Result Answer Refusal
turned_as r = result_map_both (λ t. Turned t) (λ why. why) r

-- the making of a cell, and of its schedule
abbrev pub made_as : {C : Type 0} → Result (Cell C) (Unmade C) → Result (TheCell C) Refusal
made_as r = result_map_both view (λ u. u.why) r

abbrev pub made_alone : Result Schedule Refusal → Result (TheCell (Unit {0})) Refusal
made_alone r = result_map_both alone (λ why. why) r
