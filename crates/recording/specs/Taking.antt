-- What reading a record takes of an input whose bytes are known.
use Rattle.std.specs.Prelude.{ℕ, ◌<◌, ◌≤◌, List, length, take, Option}
use Rattle.std.specs.Io.KnownBytes.{Consumes, IsAtEnd}
use Rattle.record.specs.declared.layout.TheConstants.{RECORD}

-- the next bytes, so many of them, in their order; fewer than a record has only where the input ends
abbrev pub Takes : Option (List ℕ) → Option (List ℕ) → List ℕ → ℕ → Type 0
Takes before after bytes n = Consumes before after (take n bytes) × (n < RECORD → IsAtEnd after)

-- no more than so many bytes, the next ones
abbrev pub TakesUpTo : ℕ → Option (List ℕ) → Option (List ℕ) → Type 0
TakesUpTo most before after = (taken : List ℕ) × Consumes before after taken × (length taken ≤ most)

-- some of a record's bytes, before reading failed
abbrev pub TakesSome : Option (List ℕ) → Option (List ℕ) → Type 0
TakesSome before after = TakesUpTo RECORD before after
