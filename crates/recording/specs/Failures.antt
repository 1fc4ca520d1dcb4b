-- Where an error comes from, and what was written before it.
use Rattle.std.specs.Prelude.{◌≡◌, ℕ, ◌⊎◌, List, take, Some, Option, Result, Ok, Err}
use Rattle.std.specs.Io.KnownBytes.{Appends}

-- an error is the one that is kept; without one, what is kept stays
abbrev pub Notes : {X E : Type 0} → Option E → Option E → Result X E → Type 0
Notes old new (Ok x) = new ≡ old
Notes old new (Err e) = new ≡ Some e

-- all of a text is written, or a front of it where that fails
abbrev pub Puts : {X E : Type 0} → Option (List ℕ) → Option (List ℕ) → List ℕ → Result X E → Type 0
Puts old new text (Ok x) = Appends old new text
Puts old new text (Err e) = (n : ℕ) × Appends old new (take n text)

-- an error of a call that reads and writes is that of the reader or that of the writer; without one neither failed
abbrev pub Fails : {X E : Type 0} → Option E → Option E → Option E → Option E → Result X E → Type 0
Fails reader reader_after writer writer_after (Ok x) = (reader_after ≡ reader) × (writer_after ≡ writer)
Fails reader reader_after writer writer_after (Err e) =
    ((reader_after ≡ Some e) × (writer_after ≡ writer)) ⊎ ((reader_after ≡ reader) × (writer_after ≡ Some e))
