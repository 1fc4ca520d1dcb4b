-- Reading the next record of an input. The faults are looked for in the order of their numbers, and each names the first
-- byte at which it shows; a record that the input ends in names how many of its bytes are there.
use Rattle.std.specs.Prelude.{ℕ, if◌then◌else◌, ◌||◌, List, [], ◌∷◌, length, take, drop, Some, None, Ok, Err, Option, Result, nat_lt, slice_index}
use Rattle.std.specs.Borrow.{Bor}
use Rattle.std.specs.List.{between, position_from}
use Rattle.std.specs.declared.ops.Range.{Range}
use Rattle.answer.specs.Names.{code}
use Rattle.answer.specs.declared.fault.Fault.{Fault}
use Rattle.answer.specs.declared.fault.Layer.TheVariants.{Record}
use Rattle.answer.specs.declared.refusal.Refusal.{Refusal}
use Rattle.answer.specs.declared.refusal.Refusal.TheVariants.{TruncatedRecord, UnknownLetter, UnusedByteNotZero, NoteNotPrintable}
use Rattle.record.specs.declared.event.Event.{Event}
use Rattle.record.specs.declared.letter.Letter.{Letter}
use Rattle.record.specs.Letters.{letter_of}
use Rattle.record.specs.Layout.{Contents, contents, decoded, unused, note_in}
use Rattle.record.specs.declared.layout.TheConstants.{NOTE, RECORD}

abbrev pub fault : Refusal → ℕ → ℕ → Fault
fault why number byte = record { refusal = why; layer = Record; «record» = number; byte = byte }

-- the first byte outside low to high, where the first of the list is numbered i
abbrev pub first_outside : ℕ → ℕ → ℕ → List ℕ → Option ℕ
first_outside low high i bytes = position_from (λ b. nat_lt b low || nat_lt high b) i bytes

-- the first byte of an unused part that is not zero
abbrev pub first_not_zero : Range ℕ → List ℕ → Option ℕ
first_not_zero part bytes = first_outside 0 0 part.start (between part.start part.end bytes)

-- the first byte of a note that is not printable
abbrev pub first_unprintable : List ℕ → Option ℕ
first_unprintable note = first_outside (code " ") (code "~") NOTE note

-- a fault where a byte was found, and otherwise what follows
abbrev pub fault_or : {X : Type 0} → Option ℕ → Refusal → ℕ → Result X Fault → Result X Fault
fault_or None why number r = r
fault_or (Some byte) why number r = Err (fault why number byte)

abbrev pub parsed_as : ℕ → List ℕ → Option Letter → Result Contents Fault
parsed_as number bytes None = Err (fault UnknownLetter number 0)
parsed_as number bytes (Some l) =
    fault_or (first_not_zero (unused l) bytes) UnusedByteNotZero number
    (fault_or (first_unprintable (note_in bytes)) NoteNotPrintable number (Ok (decoded l bytes)))

-- what sixteen bytes say
abbrev pub parsed : ℕ → List ℕ → Result Contents Fault
parsed number bytes = parsed_as number bytes (letter_of (slice_index bytes 0))

abbrev pub with_rest : List ℕ → Result Contents Fault → Result (Option (Contents × List ℕ)) Fault
with_rest rest (Ok c) = Ok (Some (c, rest))
with_rest rest (Err f) = Err f

-- the next record and what follows it, or none where the input has ended
abbrev pub reading : ℕ → List ℕ → Result (Option (Contents × List ℕ)) Fault
reading number [] = Ok None
reading number (b ∷ bs) =
    if nat_lt (length (b ∷ bs)) RECORD then Err (fault TruncatedRecord number (length (b ∷ bs)))
    else with_rest (drop RECORD (b ∷ bs)) (parsed number (take RECORD (b ∷ bs)))

-- what the code answers, in these terms
abbrev pub event_as : Result Event Fault → Result Contents Fault
event_as (Ok e) = Ok (contents e)
event_as (Err f) = Err f

abbrev pub reading_as : Result (Option (Event × Bor (List ℕ))) Fault → Result (Option (Contents × List ℕ)) Fault
reading_as (Ok None) = Ok None
reading_as (Ok (Some x)) = Ok (Some (contents x.0, x.1.now))
reading_as (Err f) = Err f
