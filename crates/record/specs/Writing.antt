-- Writing an event into the front of a buffer. A refusal leaves the buffer as it was, and a longer one keeps the rest.
use Rattle.std.specs.Prelude.{ℕ, Bool, if◌then◌else◌, not, ◌&&◌, List, ◌++◌, length, drop, is_some, is_ok, Ok, Err, Result, ◌==◌, nat_lt}
use Rattle.answer.specs.declared.fault.Fault.{Fault}
use Rattle.answer.specs.declared.refusal.Refusal.TheVariants.{NoteNotPrintable, BufferTooShort}
use Rattle.record.specs.Layout.{Contents, encoded}
use Rattle.record.specs.declared.layout.TheConstants.{NOTE, NOTE_LENGTH, RECORD}
use Rattle.record.specs.Reading.{fault, first_unprintable}

-- a buffer with a text over its front
abbrev pub over : List ℕ → List ℕ → List ℕ
over text out = text ++ drop (length text) out

-- a buffer after a call that was to put a text there
abbrev pub after : {X E : Type 0} → Result X E → List ℕ → List ℕ → List ℕ
after answer text out = if is_ok answer then over text out else out

-- eight printable bytes
abbrev pub is_note : List ℕ → Bool
is_note note = length note == NOTE_LENGTH && not (is_some (first_unprintable note))

abbrev pub writing : Contents → List ℕ → Result (Unit {0}) Fault
writing c out =
    if is_note c.note then (if nat_lt (length out) RECORD then Err (fault BufferTooShort 0 0) else Ok tt)
    else Err (fault NoteNotPrintable 0 NOTE)

abbrev pub written : Contents → List ℕ → List ℕ
written c out = after (writing c out) (encoded c) out
