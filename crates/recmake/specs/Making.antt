-- What is made of a text: the records of the events that its lines say, one after the other.
use Rattle.std.specs.Prelude.{◌≡◌, ℕ, ◌+◌, ◌*◌, ◌<◌, ◌≤◌, Bool, true, List, [], ◌∷◌, ◌++◌, length, Some, None, Ok, Err, Option, Result, ◌==◌, is_ok}
use Rattle.std.specs.List.{flat_map, list_all, slice_split}
use Rattle.record.specs.Layout.{encoded, recorded}
use Rattle.record.specs.declared.layout.TheConstants.{RECORD}
use Rattle.notation.specs.Reading.{reading}
use Rattle.notation.specs.declared.misread.Misread.{Misread}
use Rattle.notation.specs.declared.noted.NotedCall.{NotedCall}
use Rattle.recmake.specs.declared.making.TheConstants.{RECORDS}
use Rattle.recmake.specs.declared.unmade.Unmade.{Unmade}
use Rattle.recmake.specs.declared.unmade.Unmade.TheVariants.{Line, Memory, TooMany}

-- newlines end lines; what follows the last is a line too
abbrev pub lines_of : List ℕ → List (List ℕ)
lines_of text = slice_split (λ b. b == 10) text

abbrev pub record_as : Result (Option NotedCall) Misread → List ℕ
record_as (Ok (Some event)) = encoded (recorded event.call event.note)
record_as (Ok None) = []
record_as (Err why) = []

-- the record of the event that a line says, or nothing
abbrev pub record_of : List ℕ → List ℕ
record_of line = record_as (reading line)

unfoldable pub records_of : List (List ℕ) → List ℕ
records_of lines = flat_map record_of lines

unfoldable pub are_read : List (List ℕ) → Bool
are_read lines = list_all (λ line. is_ok (reading line)) lines

-- the record of each event, and every line was read
pub record Makes (lines : List (List ℕ)) (bytes : List ℕ) : Type 0 where
  pub read : are_read lines ≡ true
  pub whole : bytes ≡ records_of lines
  pub few : length bytes ≤ RECORD * RECORDS

-- a line among others, by its number, counted from 1; those before it were read
pub record Stands (lines : List (List ℕ)) (number : ℕ) (line : List ℕ) (bytes : List ℕ) : Type 0 where
  pub before : List (List ℕ)
  pub behind : List (List ℕ)
  pub stands : lines ≡ before ++ line ∷ behind
  pub counted : number ≡ length before + 1
  pub made : Makes before bytes

-- why nothing is made: the first line that is not read, or the event after the last that there is room for
abbrev pub Stops : List (List ℕ) → Unmade → Type 0
Stops lines Memory = Unit {0}
Stops lines (Line number why) =
    (line bytes : List ℕ) × Stands lines number line bytes × (reading line ≡ Err why)
Stops lines (TooMany number) =
    (line bytes : List ℕ) × (event : NotedCall) × Stands lines number line bytes
    × (RECORD * RECORDS < length bytes + RECORD) × (reading line ≡ Ok (Some event))

-- why a line adds nothing, by its number, where so many bytes were made before it
abbrev pub Leaves : ℕ → Result (Option NotedCall) Misread → ℕ → Unmade → Type 0
Leaves at said bytes Memory = Unit {0}
Leaves at said bytes (Line number why) = (number ≡ at) × (said ≡ Err why)
Leaves at said bytes (TooMany number) =
    (number ≡ at) × (RECORD * RECORDS < bytes + RECORD) × (event : NotedCall) × (said ≡ Ok (Some event))
