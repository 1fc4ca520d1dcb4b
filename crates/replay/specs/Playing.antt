-- What the next record of an input does to a cell.
use Rattle.std.specs.Prelude.{ℕ, List, Some, None, Ok, Err, Option, Result}
use Rattle.answer.specs.declared.fault.Fault.{Fault}
use Rattle.answer.specs.declared.refusal.Refusal.{Refusal}
use Rattle.answer.specs.declared.turn.Answer.{Answer}
use Rattle.model.specs.Calls.{step}
use Rattle.model.specs.Cell.{Cell}
use Rattle.chooser.specs.Meaning.{Meaning}
use Rattle.record.specs.Layout.{Contents, contents}
use Rattle.replay.specs.Events.{call_in}
use Rattle.replay.specs.declared.playing.Played.{Played}

-- what the code answers, with an event as its record says it
abbrev pub outcome_as : Result (Option Played) Fault → Result (Option (Contents × Result Answer Refusal)) Fault
outcome_as (Ok None) = Ok None
outcome_as (Ok (Some played)) = Ok (Some (contents played.event, played.result))
outcome_as (Err fault) = Err fault

module _ {C : Type 0} (M : Meaning C) (x : Cell C) where
  -- none where the input has ended, what the record says and what the cell answers it, or the fault of a record that
  -- cannot be read
  abbrev pub outcome_of :
      Result (Option (Contents × List ℕ)) Fault → Result (Option (Contents × Result Answer Refusal)) Fault
  outcome_of (Ok None) = Ok None
  outcome_of (Ok (Some r)) = Ok (Some (r.0, (step M x (call_in r.0)).answer))
  outcome_of (Err fault) = Err fault

  -- only a record that was read changes the cell
  abbrev pub cell_played : Result (Option (Contents × List ℕ)) Fault → Cell C
  cell_played (Ok None) = x
  cell_played (Ok (Some r)) = (step M x (call_in r.0)).cell
  cell_played (Err fault) = x
