-- Writing and reading undo each other.
use Rattle.std.specs.Prelude.{◌≡◌, ℕ, ◌≤◌, List, ◌++◌, length, take, drop, Some, None, Ok, Err, Option, Result}
use Rattle.std.specs.Borrow.{Bor}
use Rattle.answer.specs.declared.fault.Fault.{Fault}
use Rattle.record.specs.declared.event.Event.{Event}
use Rattle.record.specs.declared.event.Event.TheVariants.{Open, Close, Arrive, Good, Bad, Turn}
use Rattle.record.specs.declared.layout.TheConstants.{RECORD}
use Rattle.record.specs.Layout.{Contents, contents, event_note}
use Rattle.record.specs.Reading.{reading, reading_as}
use Rattle.record.specs.Writing.{writing, written}

-- the same event, with its note lying elsewhere
abbrev pub with_note : Bor (List ℕ) → Event → Event
with_note note (Open place rate before) = Open place rate note
with_note note (Close place before) = Close place note
with_note note (Arrive place size tag before) = Arrive place size tag note
with_note note (Good place before) = Good place note
with_note note (Bad place before) = Bad place note
with_note note (Turn before) = Turn note

-- the code's `read` gave this very event, and these bytes after it: but that the note lies where it was read
abbrev pub Gives : Event → List ℕ → Result (Option (Event × Bor (List ℕ))) Fault → Type 0
Gives event rest (Ok (Some x)) =
    (x.0 ≡ with_note (event_note x.0) event) × ((event_note x.0).now ≡ (event_note event).now) × (x.1.now ≡ rest)
Gives event rest (Ok None) = ⊥
Gives event rest (Err fault) = ⊥

-- an event is read from some bytes, by the definition, and whatever answer of `read` meets it gives that event
pub record Reads (event : Event) (rest : List ℕ) (number : ℕ) (bytes : List ℕ) : Type 0 where
  pub says : reading number bytes ≡ Ok (Some (contents event, rest))
  pub gives : (read : Result (Option (Event × Bor (List ℕ))) Fault) → reading_as read ≡ reading number bytes → Gives event rest read

-- what was written reads as that event, under any record number, with the rest of the buffer after it
abbrev pub ReadsBack : Event → List ℕ → List ℕ → Result (Unit {0}) Fault → Type 0
ReadsBack event before after (Ok _) = (number : ℕ) → Reads event (drop RECORD before) number after
ReadsBack event before after (Err _) = Unit {0}

-- what was read is accepted for writing, and gives those sixteen bytes
abbrev pub WritesBack : List ℕ → Result (Option (Contents × List ℕ)) Fault → Type 0
WritesBack input (Ok (Some x)) =
    (out : List ℕ) → RECORD ≤ length out
    → (writing x.0 out ≡ Ok tt) × (written x.0 out ≡ take RECORD input ++ drop RECORD out)
WritesBack input (Ok None) = Unit {0}
WritesBack input (Err _) = Unit {0}
