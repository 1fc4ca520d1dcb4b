-- One record of a recording, fed to a cell: the call that it says, its line, and what C learns
-- besides.
use Rattle.std.specs.Prelude.{ℕ, if◌then◌else◌, List, length, Some, None, Ok, Err}
use Rattle.std.specs.Prelude.{Option, Result, nat_lt}
use Rattle.answer.specs.Numbers.{number_of}
use Rattle.answer.specs.declared.fault.Fault.{Fault}
use Rattle.answer.specs.declared.fault.Layer.TheVariants.{Cell as ByTheCell}
use Rattle.answer.specs.declared.refusal.Refusal.{Refusal}
use Rattle.answer.specs.declared.refusal.Refusal.TheVariants.{BufferTooShort}
use Rattle.answer.specs.declared.turn.Answer.{Answer}
use Rattle.least_served.specs.declared.counts.LeastServed.{LeastServed}
use Rattle.least_served.specs.Meaning.{least_served_meaning}
use Rattle.model.specs.Calls.{step}
use Rattle.model.specs.Cell.{Cell}
use Rattle.record.specs.Layout.{Contents}
use Rattle.record.specs.Lines.{line_text, fault_text}
use Rattle.record.specs.Reading.{reading}
use Rattle.record.specs.declared.layout.TheConstants.{LINE}
use Rattle.record.specs.Writing.{over}
use Rattle.replay.specs.Events.{call_in}
use Rattle.base_unit.specs.Numbers.{layer_number}
use Rattle.base_unit.specs.declared.outs.Fed.{Fed}

-- ---- what C learns, with the bytes of the line

-- the input has ended: the player stops, and there is no line
abbrev pub fed_at_end : Fed
fed_at_end = record { line = 0; byte = 0; refusal = 0; layer = 0; stop = 1 }

-- no event was read: the player stops
abbrev pub fed_fault : ℕ → Fault → Fed
fed_fault n f = record {
  line = n;
  byte = f.byte;
  refusal = number_of f.refusal;
  layer = layer_number f.layer;
  stop = 1;
}

-- whatever the cell answers, the player goes on
abbrev pub fed_of : ℕ → Result Answer Refusal → Fed
fed_of n (Ok a) = record { line = n; byte = 0; refusal = 0; layer = 0; stop = 0 }
fed_of n (Err why) = record {
  line = n;
  byte = 0;
  refusal = number_of why;
  layer = layer_number ByTheCell;
  stop = 0;
}

-- ---- what is left: the cell, the buffer of the line, and what C learns
pub record Feeding : Type 0 where
  pub cell : Cell LeastServed
  pub buffer : List ℕ
  pub fed : Fed

-- an event was read: its call is made
abbrev pub applied : Cell LeastServed → ℕ → Contents → List ℕ → Feeding
applied x number c out =
    let o = step least_served_meaning x (call_in c) in
    let text = line_text number c o.answer in
    record { cell = o.cell; buffer = over text out; fed = fed_of (length text) o.answer }

abbrev pub faulty : Cell LeastServed → ℕ → Fault → List ℕ → Feeding
faulty x number f out =
    let text = fault_text number f.refusal in
    record { cell = x; buffer = over text out; fed = fed_fault (length text) f }

abbrev pub played : Cell LeastServed → ℕ → Result (Option (Contents × List ℕ)) Fault → List ℕ → Feeding
played x number (Ok None) out = record { cell = x; buffer = out; fed = fed_at_end }
played x number (Ok (Some c)) out = applied x number c.0 out
played x number (Err f) out = faulty x number f out

-- ---- the call of C: without room for the longest line nothing is read, and nothing changes
abbrev pub line_room : ℕ
line_room = LINE

abbrev pub fed_answer : List ℕ → ℕ
fed_answer out = if nat_lt (length out) line_room then number_of BufferTooShort else 0

abbrev pub feeding : Cell LeastServed → ℕ → List ℕ → List ℕ → Fed → Feeding
feeding x number bytes out before =
    if nat_lt (length out) line_room then record { cell = x; buffer = out; fed = before }
    else played x number (reading number bytes) out
