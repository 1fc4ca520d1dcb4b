-- What the words say of the cell that a program makes.
use Rattle.std.specs.Prelude.{◌≡◌, ℕ, ◌^◌, ◌<◌, List, [], ◌∷◌, ◌++◌, Some, None, Option, codes, false, if◌then◌else◌, map}
use Rattle.std.specs.Str.{bytes_eq}
use Rattle.std.specs.Str.Parse.{IsNumeral, without_leading_plus, digits_value}
use Rattle.clap.specs.Words.{App, Rule, rule_of}
use Rattle.clap.specs.declared.builder.arg.Arg.{Arg}
use Rattle.cli.specs.declared.hall.ChooserName.{ChooserName}
use Rattle.cli.specs.declared.hall.ChooserName.TheVariants.{LargestDebt, LeastServed}

-- the number that decimal digits write, after a plus if there is one
abbrev pub number_in : List ℕ → ℕ
number_in text = digits_value 10 (without_leading_plus text)

-- such digits, of a number of 8 bits
abbrev pub Fitting : List ℕ → Type 0
Fitting text = IsNumeral 10 (without_leading_plus text) × (number_in text < 2 ^ 8)

-- the keep that is given, and 2 where none is, or a text that is no fitting number
abbrev pub KeepAsked : Option (List ℕ) → ℕ → Type 0
KeepAsked None keep = keep ≡ 2
KeepAsked (Some text) keep = (Fitting text → keep ≡ number_in text) × ((Fitting text → ⊥) → keep ≡ 2)

-- the chooser that is named, and least served where none is
abbrev pub chooser_asked : Option (List ℕ) → ChooserName
chooser_asked None = LeastServed
chooser_asked (Some word) = if bytes_eq word (codes "largest-debt") then LargestDebt else LeastServed

-- an option of this name, with what stands in its place where it is not given
abbrev pub IsOption : List ℕ → List ℕ → Arg → Type 0
IsOption name default a = (a.global ≡ false) × ((rule_of a).id ≡ name) × ((rule_of a).defaults ≡ default ∷ [])

-- an option: its name, and what stands in its place where it is not given
abbrev pub options_of : App → List (List ℕ × List (List ℕ))
options_of app = map (λ (r : Rule). (r.id, r.defaults)) app.top.rules

-- the two options of a cell are added, behind those that are there
abbrev pub AddsCell : App → App → Type 0
AddsCell before after = options_of after ≡ options_of before
    ++ (codes "keep", codes "2" ∷ []) ∷ (codes "chooser", codes "least-served" ∷ []) ∷ []
