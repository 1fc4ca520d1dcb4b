-- What `--every` asks for.
use Rattle.std.specs.Prelude.{◌≡◌, ℕ, ◌^◌, ◌<◌, List, Some, None, Option}
use Rattle.std.specs.Int.NonZero.{non_zero_u64_get}
use Rattle.std.specs.Str.Parse.{IsNumeral, without_leading_plus, digits_value}
use Rattle.std.specs.declared.num.NonZeroU64.{NonZeroU64}

-- the number that decimal digits write, after a plus if there is one
abbrev pub number_in : List ℕ → ℕ
number_in text = digits_value 10 (without_leading_plus text)

-- such digits, of a number of 64 bits
abbrev pub Fitting : List ℕ → Type 0
Fitting text = IsNumeral 10 (without_leading_plus text) × (number_in text < 2 ^ 64)

-- exactly the number that a text is; none where that is 0, or where it is no fitting number
abbrev pub IsNumber : List ℕ → Option NonZeroU64 → Type 0
IsNumber text (Some every) = Fitting text × (non_zero_u64_get every ≡ number_in text)
IsNumber text None = Fitting text → number_in text ≡ 0

-- after how many records a sheet is due: none, the end alone, where nothing is said
abbrev pub AskedFor : Option (List ℕ) → Option NonZeroU64 → Type 0
AskedFor None every = every ≡ None
AskedFor (Some text) every = IsNumber text every
