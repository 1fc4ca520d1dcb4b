-- What was taken of an input is as good as the input, for the next record.
use Rattle.std.proofs.Common.{◌≡◌, ℕ, ◌≤◌, Bool, inr, List, Option, Some, None, Result, Ok, Err, IfSome, length, take, refl, sym, ap, ◌∙◌, subst}
use Rattle.answer.specs.declared.fault.Fault.{Fault}
use Rattle.model.specs.Cell.{Cell}
use Rattle.chooser.specs.Meaning.{Meaning}
use Rattle.record.specs.Layout.{Contents}
use Rattle.record.specs.Reading.{reading}
use Rattle.recording.specs.Taking.{Takes}
use Rattle.recording.proofs.Reading.{before, taken}
use Rattle.replay.specs.Playing.{cell_played, outcome_of}
use Rattle.std.proofs.lemmas.Option.{IfSome_then}
use Rattle.answer.specs.declared.refusal.Refusal.{Refusal}
use Rattle.answer.specs.declared.turn.Answer.{Answer}
use Rattle.player.specs.Steps.{goes_on, Leaves, line_of, Stepped}

stepped : {X E C : Type 0} (result : Result X E) (x z y : Cell C) → y ≡ z → Stepped result x z y
stepped (Ok a) x z y e = e
stepped (Err b) x z y e = inr e

module _ {C : Type 0} (M : Meaning C) (x : Cell C) (number : ℕ) where
  outcome_before : (rest : List ℕ) (r : Result (Option (Contents × List ℕ)) Fault) → outcome_of M x (before rest r) ≡ outcome_of M x r
  outcome_before rest (Ok None) = refl
  outcome_before rest (Ok (Some r)) = refl
  outcome_before rest (Err f) = refl

  cell_before : (rest : List ℕ) (r : Result (Option (Contents × List ℕ)) Fault) → cell_played M x (before rest r) ≡ cell_played M x r
  cell_before rest (Ok None) = refl
  cell_before rest (Ok (Some r)) = refl
  cell_before rest (Err f) = refl

  leaves_before : (rest : List ℕ) (r : Result (Option (Contents × List ℕ)) Fault) → Leaves (before rest r) (goes_on (outcome_of M x r)) (Some rest)
  leaves_before rest (Ok None) = refl
  leaves_before rest (Ok (Some r)) = (refl, refl)
  leaves_before rest (Err f) = refl

  module _ (old new : Option (List ℕ)) (bytes : List ℕ) (size : ℕ) (fits : size ≤ 16) (long : length bytes ≡ 16) (h : Takes old new bytes size) where
    pub line_taken : (P : List ℕ → Type 0) (o : Result (Option (Contents × Result Answer Refusal)) Fault)
        → o ≡ outcome_of M x (reading number (take size bytes)) → P (line_of number o)
        → IfSome old (λ input. P (line_of number (outcome_of M x (reading number input))))
    line_taken P o e w =
        IfSome_then old (taken number old new bytes size fits long h) (λ input t.
        subst (λ (p : Result (Option (Contents × Result Answer Refusal)) Fault). P (line_of number p))
        (e ∙ sym (ap (outcome_of M x) t.2 ∙ outcome_before t.0 (reading number (take size bytes)))) w)

    pub cell_taken : (y : Cell C) → y ≡ cell_played M x (reading number (take size bytes))
        → IfSome old (λ input. y ≡ cell_played M x (reading number input))
    cell_taken y e =
        IfSome_then old (taken number old new bytes size fits long h) (λ input t.
        e ∙ sym (ap (cell_played M x) t.2 ∙ cell_before t.0 (reading number (take size bytes))))

    pub leaves_taken : (goes : Bool) (o : Result (Option (Contents × Result Answer Refusal)) Fault)
        → o ≡ outcome_of M x (reading number (take size bytes)) → goes ≡ goes_on o
        → IfSome old (λ input. Leaves (reading number input) goes new)
    leaves_taken goes o e f =
        IfSome_then old (taken number old new bytes size fits long h) (λ input t.
        subst (λ (r : Result (Option (Contents × List ℕ)) Fault). Leaves r goes new) (sym t.2)
        (subst (λ (n : Option (List ℕ)). Leaves (before t.0 (reading number (take size bytes))) goes n) (sym t.1)
        (subst (λ (b : Bool). Leaves (before t.0 (reading number (take size bytes))) b (Some t.0)) (sym (f ∙ ap goes_on e))
        (leaves_before t.0 (reading number (take size bytes))))))

    pub stepped_taken : {X E : Type 0} (result : Result X E) (y : Cell C) → y ≡ cell_played M x (reading number (take size bytes))
        → IfSome old (λ input. Stepped result x (cell_played M x (reading number input)) y)
    stepped_taken result y e =
        IfSome_then old {P = λ input. y ≡ cell_played M x (reading number input)} {Q = λ input. Stepped result x (cell_played M x (reading number input)) y}
        (cell_taken y e) (λ input h. stepped result x (cell_played M x (reading number input)) y h)
