-- When progress is told, and in which words.
use Rattle.std.specs.Prelude.{ℕ, ◌+◌, ◌*◌, ◌/◌, ◌-◌, ◌^◌, Bool, ◌&&◌, nat_lt, min, List, ◌++◌, codes, Ok, Err, Result}
use Rattle.std.specs.Fmt.{decimal}
use Rattle.cli.specs.declared.progress.TheConstants.{RECORD, STEP}

-- the bytes after which it is told
abbrev pub step : ℕ
step = RECORD * STEP

-- another step is full, by the bytes that had passed and those that have passed now
abbrev pub due : ℕ → ℕ → Bool
due before after = nat_lt (before / step) (after / step)

abbrev pub is_due : Bool → ℕ → ℕ → Bool
is_due told before after = told && due before after

-- the bytes that have passed with those of one more read
abbrev pub passed_by : {E : Type 0} → ℕ → Result ℕ E → ℕ
passed_by before (Ok n) = min (before + n) (2 ^ 64 - 1)
passed_by before (Err e) = before

abbrev pub progress_text : List ℕ → ℕ → List ℕ
progress_text name records = name ++ codes ": " ++ decimal records ++ codes " records\n"
