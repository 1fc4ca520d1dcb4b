-- What a line says: nothing, an event, or something that isn't read.
use Rattle.std.specs.Result.{result_map_both}
use Rattle.std.specs.Prelude.{ℕ, ◌^◌, Bool, true, if◌then◌else◌, not, ◌&&◌, List, [], ◌∷◌, length, take, drop, Some, None, Ok, Err, Option, Result, ◌==◌, nat_le, codes, is_some, unwrap_or}
use Rattle.answer.specs.Names.{code}
use Rattle.record.specs.declared.call.Call.{Call}
use Rattle.record.specs.declared.layout.TheConstants.{NOTE_LENGTH}
use Rattle.record.specs.Reading.{first_unprintable}
use Rattle.notation.specs.declared.misread.Misread.{Misread}
use Rattle.notation.specs.declared.misread.Misread.TheVariants.{NoCall, NoNote}
use Rattle.notation.specs.declared.noted.NotedCall.{NotedCall}
use Rattle.notation.specs.Front.{◌>>=◌, after, number_below}
use Rattle.notation.specs.Calls.{worded, shortened}
use Rattle.notation.specs.Short.{filled, no_note}

abbrev pub noted : Call → List ℕ → NotedCall
noted call note = record { call = call; note = note }

abbrev pub is_printable : List ℕ → Bool
is_printable bytes = not (is_some (first_unprintable bytes))

-- a line that says nothing
abbrev pub is_comment : List ℕ → Bool
is_comment [] = true
is_comment (b ∷ bs) = b == code "#"

-- a line without the number of its record, where it has one
unfoldable pub bare : List ℕ → List ℕ
bare line = unwrap_or (number_below (2 ^ 64) line >>= λ number. after (codes ": ") number.1) line

-- the note in brackets, and nothing more
unfoldable pub bracketed : List ℕ → Option (List ℕ)
bracketed text = do
  start ← after (codes " [") text
  end ← after (codes "]") (drop NOTE_LENGTH start)
  if length end == 0 && is_printable (take NOTE_LENGTH start) then Some (take NOTE_LENGTH start)
      else None

-- the note behind a space, in eight bytes or fewer, or none
unfoldable pub given : List ℕ → Option (List ℕ)
given [] = Some no_note
given (b ∷ bs) = do
  note ← after (codes " ") (b ∷ bs)
  if nat_le (length note) NOTE_LENGTH && is_printable note then Some (filled note) else None

abbrev pub with_note : Call → Option (List ℕ) → Result NotedCall Misread
with_note call (Some note) = Ok (noted call note)
with_note call None = Err NoNote

abbrev pub in_short : Option (Call × List ℕ) → Result NotedCall Misread
in_short (Some front) = with_note front.0 (given front.1)
in_short None = Err NoCall

abbrev pub in_words : Option (Call × List ℕ) → List ℕ → Result NotedCall Misread
in_words (Some front) text = with_note front.0 (bracketed front.1)
in_words None text = in_short (shortened text)

-- the event that all of a text is, in words or in the short form
unfoldable pub event_in : List ℕ → Result NotedCall Misread
event_in text = in_words (worded text) text

unfoldable pub reading : List ℕ → Result (Option NotedCall) Misread
reading line =
    if is_comment line then Ok None else result_map_both Some (λ why. why) (event_in (bare line))
