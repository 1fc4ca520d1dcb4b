-- The bytes of one record have one event, or a fault, and nothing after it.
use Rattle.std.proofs.Common.{◌≡◌, ℕ, ◌<◌, ◌≤◌, inl, inr, List, [], ◌∷◌, length, take, Option, Some, None, Result, Ok, Err, refl, sym, ap, ◌∙◌, arith}
use Rattle.std.proofs.lemmas.List.{drop_all}
use Rattle.std.proofs.lemmas.Bool.{lt-ltb, le-ltb}
use Rattle.std.proofs.lemmas.Bool.Decides.{leb_tells}
use Rattle.answer.specs.declared.fault.Fault.{Fault}
use Rattle.answer.specs.declared.refusal.Refusal.TheVariants.{TruncatedRecord}
use Rattle.record.specs.Layout.{Contents}
use Rattle.record.specs.Reading.{fault, parsed, reading, with_rest}

reads_one : (number : ℕ) (bs : List ℕ) → 0 < length bs → length bs ≤ 16 → (r : Result Contents Fault) × (reading number bs ≡ with_rest [] r)
reads_one number [] some most = absurd (omega arith)
reads_one number (b ∷ bs) some most =
    elim (leb_tells 16 (length (b ∷ bs))) [
      | inl w ↦ (
        parsed number (take 16 (b ∷ bs)),
        rw (le-ltb (length (b ∷ bs)) 16 w.1) (ap (λ (l : List ℕ). with_rest l (parsed number (take 16 (b ∷ bs)))) (drop_all 16 (b ∷ bs) most)),
      )
      | inr w ↦ (Err (fault TruncatedRecord number (length (b ∷ bs))), rw (lt-ltb (length (b ∷ bs)) 16 (omega arith)) refl)
    ]

not_none : (r : Result Contents Fault) → ◌≡◌ {A = Result (Option (Contents × List ℕ)) Fault} (Ok None) (with_rest [] r) → ⊥
not_none (Ok c) e = cc
not_none (Err f) e = cc

pub one_at_least : (number : ℕ) (bs : List ℕ) → 0 < length bs → length bs ≤ 16
    → ◌≡◌ {A = Result (Option (Contents × List ℕ)) Fault} (Ok None) (reading number bs) → ⊥
one_at_least number bs some most e = let r = reads_one number bs some most in not_none r.0 (e ∙ r.1)

read_first : Result (Option (Contents × List ℕ)) Fault → Contents → Contents
read_first (Ok (Some x)) c = x.0
read_first (Ok None) c = c
read_first (Err f) c = c

the_one : (c : Contents) (rest : List ℕ) (r : Result Contents Fault)
    → ◌≡◌ {A = Result (Option (Contents × List ℕ)) Fault} (Ok (Some (c, rest))) (with_rest [] r)
    → ◌≡◌ {A = Result (Option (Contents × List ℕ)) Fault} (Ok (Some (c, []))) (with_rest [] r)
unfolding read_first
the_one c rest (Ok d) e =
    ap (λ (x : Contents). with_rest [] (Ok x)) (ap (λ (r : Result (Option (Contents × List ℕ)) Fault). read_first r c) e)
the_one c rest (Err f) e = absurd cc

pub nothing_after : (number : ℕ) (bs : List ℕ) (c : Contents) (rest : List ℕ) → 0 < length bs → length bs ≤ 16
    → ◌≡◌ {A = Result (Option (Contents × List ℕ)) Fault} (Ok (Some (c, rest))) (reading number bs)
    → ◌≡◌ {A = Result (Option (Contents × List ℕ)) Fault} (Ok (Some (c, []))) (reading number bs)
nothing_after number bs c rest some most e =
    let r = reads_one number bs some most in the_one c rest r.0 (e ∙ r.1) ∙ sym r.1
