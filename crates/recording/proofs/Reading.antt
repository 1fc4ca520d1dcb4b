-- What was taken of an input is as good as the input, for the next record.
use Rattle.std.proofs.Common.{◌≡◌, ℕ, ◌+◌, ◌<◌, ◌≤◌, ◌⊎◌, inl, inr, List, [], ◌∷◌, ◌++◌, Option, Some, None, Result, Ok, Err, IfSome, length, take, drop, refl, sym, ap, ◌∙◌, subst, arith, append-nil, length-append, length-take-le, take_at, drop_at}
use Rattle.std.proofs.lemmas.Bool.{lt-ltb, le-ltb}
use Rattle.std.proofs.lemmas.Bool.Decides.{leb_tells}
use Rattle.answer.specs.declared.fault.Fault.{Fault}
use Rattle.record.specs.Layout.{Contents}
use Rattle.record.specs.Reading.{fault, reading, with_rest, parsed}
use Rattle.answer.specs.declared.refusal.Refusal.TheVariants.{TruncatedRecord}
use Rattle.recording.specs.Taking.{Takes}

le_cases : (n : ℕ) → n ≤ 16 → (n ≡ 16) ⊎ (n < 16)
le_cases n h = elim (leb_tells (n + 1) 16) [ inl w ↦ inr (omega arith) | inr w ↦ inl (omega arith) ]

-- the same record, with other bytes after it
abbrev pub before : List ℕ → Result (Option (Contents × List ℕ)) Fault → Result (Option (Contents × List ℕ)) Fault
before rest (Ok None) = Ok None
before rest (Ok (Some r)) = Ok (Some (r.0, rest))
before rest (Err f) = Err f

before_before : (rest more : List ℕ) (r : Result (Option (Contents × List ℕ)) Fault) → before rest (before more r) ≡ before rest r
before_before rest more (Ok None) = refl
before_before rest more (Ok (Some r)) = refl
before_before rest more (Err f) = refl

with_other : (rest more : List ℕ) (r : Result Contents Fault) → with_rest rest r ≡ before rest (with_rest more r)
with_other rest more (Ok c) = refl
with_other rest more (Err f) = refl

-- sixteen bytes
whole : (number : ℕ) (bytes : List ℕ) → 16 ≤ length bytes → reading number bytes ≡ with_rest (drop 16 bytes) (parsed number (take 16 bytes))
whole number [] h = absurd (omega arith)
whole number (b ∷ bs) h = rw (le-ltb (length (b ∷ bs)) 16 h) refl

truncated : (number b : ℕ) (bs : List ℕ) → length (b ∷ bs) < 16 → reading number (b ∷ bs) ≡ Err (fault TruncatedRecord number (length (b ∷ bs)))
truncated number b bs h = rw (lt-ltb (length (b ∷ bs)) 16 h) refl

full : (number : ℕ) (bytes rest : List ℕ) → length bytes ≡ 16 → reading number (bytes ++ rest) ≡ before rest (reading number bytes)
full number bytes rest h =
    let long : 16 ≤ length (bytes ++ rest) = simp length-append (omega arith) in
    let one : reading number (bytes ++ rest) ≡ with_rest rest (parsed number bytes) =
    whole number (bytes ++ rest) long
    ∙ ap (λ (l : List ℕ). with_rest l (parsed number (take 16 (bytes ++ rest)))) (drop_at bytes rest 16 h)
    ∙ ap (λ (l : List ℕ). with_rest rest (parsed number l)) (take_at bytes rest 16 h) in
    let other : reading number bytes ≡ with_rest (drop 16 bytes) (parsed number bytes) =
    whole number bytes (omega arith)
    ∙ ap (λ (l : List ℕ). with_rest (drop 16 bytes) (parsed number l)) (ap (take 16) (sym (append-nil bytes)) ∙ take_at bytes [] 16 h) in
    one ∙ with_other rest (drop 16 bytes) (parsed number bytes) ∙ sym (ap (before rest) other)

short : (number : ℕ) (bytes : List ℕ) → length bytes < 16 → reading number (bytes ++ []) ≡ before [] (reading number bytes)
short number [] h = refl
short number (b ∷ bs) h =
    ap (reading number) (append-nil (b ∷ bs)) ∙ truncated number b bs h ∙ sym (ap (before []) (truncated number b bs h))

pub reading_front : (number : ℕ) (bytes rest : List ℕ) → length bytes ≤ 16 → (length bytes < 16 → rest ≡ [])
    → reading number (bytes ++ rest) ≡ before rest (reading number bytes)
reading_front number bytes rest fits last =
    elim (le_cases (length bytes) fits) [
      | inl h ↦ full number bytes rest h
      | inr h ↦ subst (λ (l : List ℕ). reading number (bytes ++ l) ≡ before l (reading number bytes)) (sym (last h)) (short number bytes h)
    ]

-- ---- what was taken of an input

pub taken : (number : ℕ) (old new : Option (List ℕ)) (bytes : List ℕ) (size : ℕ) → size ≤ 16 → length bytes ≡ 16 → Takes old new bytes size
    → IfSome old (λ input. (rest : List ℕ) × (new ≡ Some rest) × (reading number input ≡ before rest (reading number (take size bytes))))
taken number None new bytes size fits long h = tt
taken number (Some xs) None bytes size fits long h = absurd h.0
taken number (Some xs) (Some ys) bytes size fits long h =
    let n : length (take size bytes) ≡ size = length-take-le size bytes (omega arith) in
    (ys, refl, ap (reading number) h.0 ∙ reading_front number (take size bytes) ys (omega arith) (λ lt. h.1 (omega arith)))
