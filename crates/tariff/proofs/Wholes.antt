-- A table of the tariff is tested once as a whole, and the test turned into the rule at each entry.
use Rattle.std.proofs.Common.{◌≡◌, ℕ, zero, suc, ◌+◌, ◌*◌, ◌/◌, ◌%◌, ◌<◌, ◌≤◌, Bool, true, false, not, ◌&&◌, ◌||◌, eqb, ltb, List, [], ◌∷◌, length, get_or, is_ok, Ok, Err, Result, sym, ap, ◌∙◌, subst, ⊎_elim, mul_comm, mul-le-mul, zero-mul, mul-div_cancel, add-one, arith, MatchResult}
use native.Mathlib.Nat.{mul-div_cancel', dvd_of_mod-eq-zero, mul-mod_right}
use Rattle.std.specs.Ordering.{nat_cmp}
use Rattle.std.specs.List.Sorted.{IsBinarySearchResult}
use Rattle.std.proofs.lemmas.List.{get_or_default}
use Rattle.std.proofs.lemmas.List.Sorted.{searched, IsNonDecreasingBy-from_all_adjacent}
use Rattle.std.specs.List.{ContainsAt}
use Rattle.std.proofs.lemmas.Bool.{and_parts, and_from, or_cases, eqb-true, eq-eqb, lt-ltb, ltb-true, cases_Bool, cases_lt, not-true, both_ways}
use Rattle.tariff.specs.Tariff.{in_tariff, Whole}

-- the test: each entry is larger than the one before it, and divides
abbrev rising : ℕ → List ℕ → Bool
rising low [] = true
rising low (x ∷ xs) = ltb low x && (in_tariff x && rising x xs)

abbrev member : ℕ → List ℕ → Bool
member n [] = false
member n (x ∷ xs) = eqb n x || member n xs

-- n is no divisor, or it and its cofactor stand in xs
abbrev paired : List ℕ → ℕ → Bool
paired xs n = not (in_tariff n) || (member n xs && member (720720 / n) xs)

abbrev pairs : List ℕ → ℕ → Bool
pairs xs zero = true
pairs xs (suc n) = paired xs n && pairs xs n

parts : (low x : ℕ) (xs : List ℕ) → rising low (x ∷ xs) ≡ true → (ltb low x ≡ true) × ((in_tariff x ≡ true) × (rising x xs ≡ true))
parts low x xs t = let p = and_parts (ltb low x) (in_tariff x && rising x xs) t in (p.0, and_parts (in_tariff x) (rising x xs) p.1)

rising_divides : (low : ℕ) (xs : List ℕ) → rising low xs ≡ true → (i : ℕ) → i < length xs → in_tariff (get_or xs i 0) ≡ true
rising_divides low [] t i h = absurd (omega arith)
rising_divides low (x ∷ xs) t zero h = (parts low x xs t).1.0
rising_divides low (x ∷ xs) t (suc i) h = rising_divides x xs (parts low x xs t).1.1 i (omega arith)

rising_ascends : (low : ℕ) (xs : List ℕ) → rising low xs ≡ true → (i : ℕ) → suc i < length xs → get_or xs i 0 < get_or xs (suc i) 0
rising_ascends low [] t i h = absurd (omega arith)
rising_ascends low (x ∷ []) t i h = absurd (omega arith)
rising_ascends low (x ∷ y ∷ xs) t zero h = ltb-true x y (parts x y xs (parts low x (y ∷ xs) t).1.1).0
rising_ascends low (x ∷ y ∷ xs) t (suc i) h = rising_ascends x (y ∷ xs) (parts low x (y ∷ xs) t).1.1 i (omega arith)

has_member : (n : ℕ) (xs : List ℕ) → member n xs ≡ true → ContainsAt xs n
has_member n [] t = let z : ◌≡◌ {A = ℕ} 0 1 = cc in absurd (omega arith)
has_member n (x ∷ xs) t =
    ⊎_elim
    (λ e. (0, omega arith, λ d. sym (eqb-true n x e)))
    (λ e. let r = has_member n xs e in (suc r.0, omega (arith, r.1), r.2))
    (or_cases _ _ t)

pairs_at : (xs : List ℕ) (n : ℕ) → pairs xs n ≡ true → (k : ℕ) → k < n → paired xs k ≡ true
pairs_at xs zero t k h = absurd (omega arith)
pairs_at xs (suc n) t k h =
    let p = and_parts _ _ t in
    ⊎_elim (λ (lt : k < n). pairs_at xs n p.1 k lt) (λ (ge : n ≤ k). let e : n ≡ k = omega arith in subst (λ (m : ℕ). paired xs m ≡ true) e p.0) (cases_lt k n)

both_stand : (xs : List ℕ) (n : ℕ) → paired xs n ≡ true → in_tariff n ≡ true → ContainsAt xs n × ContainsAt xs (720720 / n)
both_stand xs n t d =
    ⊎_elim
    (λ e. absurd (both_ways _ (not-true _ e) d))
    (λ e. let p = and_parts _ _ e in (has_member n xs p.0, has_member _ xs p.1))
    (or_cases _ _ t)

pub divisor : (n k : ℕ) → n * k ≡ 720720 → in_tariff n ≡ true
divisor zero k e = let z : ◌≡◌ {A = ℕ} 0 720720 = sym (zero-mul k) ∙ e in absurd (omega arith)
divisor (suc n) k e =
    and_from _ _ (lt-ltb 0 (suc n) (omega arith)) (eq-eqb _ 0 (subst (λ (m : ℕ). m % suc n ≡ 0) e (mul-mod_right (suc n) k)))

complete_from : (xs : List ℕ) → pairs xs 849 ≡ true → (n k : ℕ) → n * k ≡ 720720 → ContainsAt xs n
complete_from xs t n k e =
    ⊎_elim
    (λ (lt : n < 849). (both_stand xs n (pairs_at xs 849 t n lt) (divisor n k e)).0)
    (λ (ge : 849 ≤ n).
    ⊎_elim
    (λ (lt : k < 849).
    let e' : k * n ≡ 720720 = mul_comm k n ∙ e in
    let some = ltb-true 0 k (and_parts _ _ (divisor k n e')).0 in
    let back : 720720 / k ≡ n = ap (λ (m : ℕ). m / k) (sym e) ∙ mul-div_cancel n some in
    subst (ContainsAt xs) back (both_stand xs k (pairs_at xs 849 t k lt) (divisor k n e')).1)
    (λ (ge' : 849 ≤ k). let big : 849 * 849 ≤ n * k = mul-le-mul ge ge' in absurd (omega arith))
    (cases_lt k 849))
    (cases_lt n 849)

-- one test for the whole table
abbrev pub tested : List ℕ → Bool
tested xs = eqb (length xs) 240 && (rising 0 xs && pairs xs 849)

pub whole : (xs : List ℕ) → tested xs ≡ true → Whole xs
whole xs t =
    let p = and_parts (eqb (length xs) 240) (rising 0 xs && pairs xs 849) t in
    let q = and_parts (rising 0 xs) (pairs xs 849) p.1 in
    record {
      counted = eqb-true _ _ p.0;
      ascends = λ i h. rw add-one (rising_ascends 0 xs q.0 i (omega arith));
      divides = rising_divides 0 xs q.0;
      complete = complete_from xs q.1;
    }

-- a divisor is one of two factors
pub factored : (n : ℕ) → in_tariff n ≡ true → n * (720720 / n) ≡ 720720
factored n t = mul-div_cancel' n (dvd_of_mod-eq-zero n (eqb-true (720720 % n) 0 (and_parts (ltb 0 n) (eqb (720720 % n) 0) t).1))

-- what a search of such a table says
module _ (xs : List ℕ) (w : Whole xs) where
  rising_table : (i j : ℕ) → i ≤ j → j < length xs → get_or xs i 0 ≤ get_or xs j 0
  rising_table i j h k =
      IsNonDecreasingBy-from_all_adjacent (λ x. x) xs
      (λ m d below.
      let up : get_or xs m 0 < get_or xs (m + 1) 0 = w.ascends m below in
      let here : get_or xs m d ≡ get_or xs m 0 = get_or_default xs m d 0 (omega arith) in
      let next : get_or xs (m + 1) d ≡ get_or xs (m + 1) 0 = get_or_default xs (m + 1) d 0 below in
      omega arith)
      i j 0 h k

  told : (n : ℕ) (r : Result ℕ ℕ) → MatchResult r (λ i. (i < length xs) × (get_or xs i 0 ≡ n)) (λ i. (i ≤ length xs) × ((k : ℕ) → k < i → get_or xs k 0 < n) × ((k : ℕ) → i ≤ k → k < length xs → n < get_or xs k 0)) → is_ok r ≡ in_tariff n
  told n (Ok i) h = sym (subst (λ (m : ℕ). in_tariff m ≡ true) h.1 (w.divides i h.0))
  told n (Err i) h =
      ⊎_elim
      (λ t.
      let at = w.complete n (720720 / n) (factored n t) in
      let here : get_or xs at.0 0 ≡ n = at.2 0 in
      ⊎_elim (λ (lt : at.0 < i). absurd (omega (arith, h.1 at.0 lt))) (λ (ge : i ≤ at.0). absurd (omega (arith, h.2 at.0 ge at.1))) (cases_lt at.0 i))
      (λ f. sym f)
      (cases_Bool (in_tariff n))

  pub found_is : (n : ℕ) (r : Result ℕ ℕ) → IsBinarySearchResult (λ y. nat_cmp y n) xs r → is_ok r ≡ in_tariff n
  found_is n r h = told n r (searched xs n r h rising_table)
