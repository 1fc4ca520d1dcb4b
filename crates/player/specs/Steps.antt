-- What one record of a recording does: its line, and whether there is a next one.
use Rattle.std.specs.Prelude.{◌≡◌, ℕ, ◌⊎◌, Bool, true, false, List, [], take, Some, None, Ok, Err, Option, Result}
use Rattle.answer.specs.declared.fault.Fault.{Fault}
use Rattle.answer.specs.declared.refusal.Refusal.{Refusal}
use Rattle.answer.specs.declared.turn.Answer.{Answer}
use Rattle.model.specs.Calls.{Call}
use Rattle.model.specs.Cell.{Cell}
use Rattle.model.specs.History.{after}
use Rattle.chooser.specs.Meaning.{Meaning}
use Rattle.record.specs.Layout.{Contents}
use Rattle.record.specs.Lines.{line_text, fault_text}

-- the line of what became of a record
abbrev pub line_of : ℕ → Result (Option (Contents × Result Answer Refusal)) Fault → List ℕ
line_of number (Ok None) = []
line_of number (Ok (Some a)) = line_text number a.0 a.1
line_of number (Err f) = fault_text number f.refusal

-- after an event there is a next record
abbrev pub goes_on : Result (Option (Contents × Result Answer Refusal)) Fault → Bool
goes_on (Ok None) = false
goes_on (Ok (Some a)) = true
goes_on (Err f) = false

-- and it is in what follows the event
abbrev pub Leaves : Result (Option (Contents × List ℕ)) Fault → Bool → Option (List ℕ) → Type 0
Leaves (Ok None) goes left = goes ≡ false
Leaves (Ok (Some r)) goes left = (goes ≡ true) × (left ≡ Some r.1)
Leaves (Err f) goes left = goes ≡ false

-- the cell took a step; where printing or reading fails, or it did not
abbrev pub Stepped : {X E C : Type 0} → Result X E → Cell C → Cell C → Cell C → Type 0
Stepped (Ok x) before step now = now ≡ step
Stepped (Err e) before step now = (now ≡ before) ⊎ (now ≡ step)

-- the cell after all of the calls; where printing or reading fails, after the first of them
abbrev pub Ran : {X E C : Type 0} → Meaning C → Result X E → Cell C → List Call → Cell C → Type 0
Ran M (Ok x) before calls now = now ≡ after M before calls
Ran M (Err e) before calls now = (k : ℕ) × (now ≡ after M before (take k calls))
