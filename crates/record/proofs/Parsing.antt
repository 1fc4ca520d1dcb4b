-- Sixteen bytes that pass the checks, letter by letter.
use Rattle.std.proofs.Common.{◌≡◌, ℕ, zero, suc, ◌+◌, ◌-◌, ◌<◌, ◌≤◌, List, [], ◌∷◌, length, get_or, drop, Some, None, Ok, Option, Result, sym, refl, ap, ◌∙◌, arith, length-drop, length-take, get_or-drop, get_or-take}
use Rattle.std.specs.List.{between}
use Rattle.std.proofs.lemmas.Bool.Decides.{nat_tests}
use Rattle.answer.specs.declared.fault.Fault.{Fault}
use Rattle.answer.specs.declared.refusal.Refusal.TheVariants.{UnusedByteNotZero, NoteNotPrintable}
use Rattle.record.specs.declared.letter.Letter.{Letter}
use Rattle.record.specs.declared.letter.Letter.TheVariants.{O, C, A, G, B, T}
use Rattle.record.specs.Letters.{letter_of}
use Rattle.record.specs.Layout.{Contents, from_to, saying, unused, used, decoded, place_in, length_in, value_in, note_in}
use Rattle.record.specs.Reading.{first_outside, first_not_zero, first_unprintable, fault_or, parsed, parsed_as}
use Rattle.record.proofs.Numbers.{length_is, value_is}

-- where no byte lies outside a range, each is in it
pub each_inside : (low high i : ℕ) (bs : List ℕ) → first_outside low high i bs ≡ None → (k : ℕ) → k < length bs
    → (low ≤ get_or bs k 0) × (get_or bs k 0 ≤ high)
each_inside low high i [] e k h = absurd (omega arith)
each_inside low high i (b ∷ bs) e zero h = grind (arith, nat_tests)
each_inside low high i (b ∷ bs) e (suc k) h = grind (arith, nat_tests, each_inside low high (i + 1) bs)

module _ (bs : List ℕ) (sixteen : length bs ≡ 16) where
  zero_at : (from to : ℕ) → to ≤ 16 → first_not_zero (from_to from to) bs ≡ None → (k : ℕ) → from ≤ k → k < to → get_or bs k 0 ≡ 0
  zero_at from to small e k low high =
      let long : length (between from to bs) ≡ to - from = simp (length-take, length-drop) (omega arith) in
      let at = each_inside 0 0 from (between from to bs) e (k - from) (omega arith) in
      let same : get_or (between from to bs) (k - from) 0 ≡ get_or bs k 0 =
      get_or-take (to - from) (drop from bs) (k - from) 0 (omega arith) ∙ get_or-drop from bs (k - from) 0 ∙ ap (λ (j : ℕ). get_or bs j 0) (omega arith) in
      omega arith

  no_length : (from to : ℕ) → from ≤ 2 → 4 ≤ to → to ≤ 8 → first_not_zero (from_to from to) bs ≡ None → 0 ≡ length_in bs
  no_length from to a b s e =
      let z = zero_at from to (omega arith) e in
      omega (arith, length_is bs (omega arith), z 2 (omega arith) (omega arith), z 3 (omega arith) (omega arith))

  no_value : (from : ℕ) → from ≤ 4 → first_not_zero (from_to from 8) bs ≡ None → 0 ≡ value_in bs
  no_value from a e =
      let z = zero_at from 8 (omega arith) e in
      let four = z 4 (omega arith) (omega arith) in
      let five = z 5 (omega arith) (omega arith) in
      let six = z 6 (omega arith) (omega arith) in
      let seven = z 7 (omega arith) (omega arith) in
      omega (arith, value_is bs (omega arith))

  plain : (l : Letter) → first_not_zero (from_to 2 8) bs ≡ None → saying l (place_in bs) 0 0 (note_in bs) ≡ decoded l bs
  plain l e = λ i. saying l (place_in bs) (no_length 2 8 (omega arith) (omega arith) (omega arith) e i) (no_value 2 (omega arith) e i) (note_in bs)

  pub says : (l : Letter) → first_not_zero (unused l) bs ≡ None → used l (decoded l bs) ≡ decoded l bs
  says O e = λ i. saying O (place_in bs) (no_length 2 4 (omega arith) (omega arith) (omega arith) e i) (value_in bs) (note_in bs)
  says C e = plain C e
  says A e = refl
  says G e = plain G e
  says B e = plain B e
  says T e =
      let place : 0 ≡ place_in bs = sym (zero_at 1 8 (omega arith) e 1 (omega arith) (omega arith)) in
      λ i. saying T (place i) (no_length 1 8 (omega arith) (omega arith) (omega arith) e i) (no_value 1 (omega arith) e i) (note_in bs)

-- the checks that sixteen bytes have passed, put together
pub accepted : (number : ℕ) (bs : List ℕ) (l : Letter) → Some l ≡ letter_of (get_or bs 0 0) → None ≡ first_not_zero (unused l) bs
    → None ≡ first_unprintable (note_in bs) → (c : Contents) → c ≡ decoded l bs → Ok c ≡ parsed number bs
accepted number bs l some zeros clean c e =
    let ok : Contents → Result Contents Fault = λ x. Ok x in
    let noted : Option ℕ → Result Contents Fault = λ o. fault_or o NoteNotPrintable number (Ok (decoded l bs)) in
    ap ok e
    ∙ ap noted clean
    ∙ ap (λ (o : Option ℕ). fault_or o UnusedByteNotZero number (noted (first_unprintable (note_in bs)))) zeros
    ∙ ap (parsed_as number bs) some
