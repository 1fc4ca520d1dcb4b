-- What is printed of a recording that is played into a cell: a line for each event, and one for the fault that ends it.
use Rattle.std.specs.Prelude.{ℕ, ◌+◌, List, [], ◌∷◌, ◌++◌, Some, None, Option}
use Rattle.answer.specs.declared.fault.Fault.{Fault}
use Rattle.model.specs.Calls.{step}
use Rattle.model.specs.Cell.{Cell}
use Rattle.chooser.specs.Meaning.{Meaning}
use Rattle.record.specs.Layout.{Contents}
use Rattle.record.specs.Lines.{line_text, fault_text}
use Rattle.replay.specs.Events.{call_in}
use Rattle.recording.specs.Recordings.{Recording}

abbrev pub last_line : ℕ → Option Fault → List ℕ
last_line number None = []
last_line number (Some f) = fault_text number f.refusal

module _ {C : Type 0} (M : Meaning C) where
  -- each event is a step of the cell, and its line tells what the cell answers
  unfoldable pub event_lines : Cell C → ℕ → List Contents → Option Fault → List ℕ
  event_lines x number [] fault = last_line number fault
  event_lines x number (c ∷ cs) fault =
      line_text number c (step M x (call_in c)).answer ++ event_lines (step M x (call_in c)).cell (number + 1) cs fault

  -- the first record has this number
  abbrev pub lines_from : Cell C → ℕ → Recording → List ℕ
  lines_from x number r = event_lines x number r.events r.fault

  abbrev pub lines_of : Cell C → Recording → List ℕ
  lines_of x r = lines_from x 1 r
