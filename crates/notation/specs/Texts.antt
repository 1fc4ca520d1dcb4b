-- The texts of an event, all of them.
use Rattle.std.specs.Prelude.{◌≡◌, ℕ, ◌^◌, ◌<◌, ◌≤◌, ◌⊎◌, List, [], ◌∷◌, ◌++◌, length, true, codes, decimal}
use Rattle.answer.specs.Names.{code}
use Rattle.record.specs.Writing.{is_note}
use Rattle.record.specs.declared.call.Call.{Call}
use Rattle.record.specs.declared.call.Call.TheVariants.{Open, Close, Arrive, Good, Bad, Turn}
use Rattle.record.specs.declared.layout.TheConstants.{NOTE_LENGTH}
use Rattle.notation.specs.declared.noted.NotedCall.{NotedCall}
use Rattle.notation.specs.Short.{filled, no_note, short_words}
use Rattle.notation.specs.Words.{words}

-- the numbers that a record has room for
abbrev pub Fits : Call → Type 0
Fits (Open place rate) = (place < 2 ^ 8) × (rate < 2 ^ 32)
Fits (Close place) = place < 2 ^ 8
Fits (Arrive place size tag) = (place < 2 ^ 8) × (size < 2 ^ 16) × (tag < 2 ^ 32)
Fits (Good place) = place < 2 ^ 8
Fits (Bad place) = place < 2 ^ 8
Fits Turn = Unit {0}

-- in the short form the note is left out, or stands behind a space, without spaces at its end or with some
abbrev pub GivesNote : List ℕ → List ℕ → Type 0
GivesNote text note =
    ((text ≡ []) × (note ≡ no_note))
    ⊎ ((bytes : List ℕ) × (length bytes ≤ NOTE_LENGTH) × (text ≡ code " " ∷ bytes)
    × (note ≡ filled bytes))

-- its words, or its short form
abbrev pub IsTextOf : List ℕ → NotedCall → Type 0
IsTextOf text event =
    (text ≡ words event.call event.note)
    ⊎ ((rest : List ℕ) × (text ≡ short_words event.call ++ rest) × GivesNote rest event.note)

-- one of these, with the number of a record before it or without
abbrev pub Says : List ℕ → NotedCall → Type 0
Says line event =
    IsTextOf line event
    ⊎ ((number : ℕ) × (text : List ℕ) × (number < 2 ^ 64)
    × (line ≡ decimal number ++ (codes ": " ++ text)) × IsTextOf text event)

-- an event that a record can hold
abbrev pub IsRecordable : NotedCall → Type 0
IsRecordable event = Fits event.call × (is_note event.note ≡ true)
