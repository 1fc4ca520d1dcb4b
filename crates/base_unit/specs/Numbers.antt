-- Answers as the plain numbers that C gets, and the list that it names by a flag.
use Rattle.std.specs.Prelude.{ℕ, Bool, if◌then◌else◌, Option, Result, ok_or}
use Rattle.answer.specs.declared.fault.Layer.{Layer}
use Rattle.answer.specs.declared.fault.Layer.TheVariants.{Record, Cell}
use Rattle.answer.specs.declared.refusal.Refusal.{Refusal}
use Rattle.answer.specs.declared.refusal.Refusal.TheVariants.{PlaceTooHigh}
use Rattle.chooser.specs.declared.entry.ListKind.{ListKind}
use Rattle.chooser.specs.declared.entry.ListKind.TheVariants.{Credit, Extra}

-- a count, which is refused for want of the place alone
abbrev pub counted : Option ℕ → Result ℕ Refusal
counted n = ok_or n PlaceTooHigh

abbrev pub flag : Bool → ℕ
flag b = if b then 1 else 0

abbrev pub layer_number : Layer → ℕ
layer_number Record = 0
layer_number Cell = 1

-- the list that C asks about
abbrev pub list_of : Bool → ListKind
list_of extra = if extra then Extra else Credit
