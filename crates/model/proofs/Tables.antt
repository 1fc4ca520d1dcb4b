-- Facts about a table of places: one place read, one place changed, sums over all places.
use Rattle.std.proofs.Common.{◌≡◌, ℕ, zero, suc, ◌+◌, ◌*◌, ◌<◌, ◌≤◌, Bool, true, false, cond, ◌⊎◌}
use Rattle.std.proofs.Common.{[], ◌∷◌, length, get_or, set, replicate, ℤ, pos, ◌+ℤ◌, Some, None}
use Rattle.std.proofs.Common.{Option, sym, refl, ap, ◌∙◌, subst, inl, inr, arith}
use Rattle.std.specs.Prelude.{option_map}
use borrow.Author.Differences.{ints}
use Rattle.std.proofs.lemmas.Bool.{cases_Bool, both_ways, cond-true}
use Rattle.model.specs.Session.{Session, vacant}
use Rattle.model.specs.Table.{Table, at, change, vacancies, total, totalℤ, first}

pub length_change : (t : Table) (k : ℕ) (f : Session → Session) → length (change t k f) ≡ length t
unfolding change
length_change [] k f = refl
length_change (s ∷ t) zero f = refl
length_change (s ∷ t) (suc k) f = ap suc (length_change t k f)

pub at_past : (t : Table) (k : ℕ) → length t ≤ k → at t k ≡ vacant
unfolding at
at_past [] k h = refl
at_past (s ∷ t) zero h = absurd (omega arith)
at_past (s ∷ t) (suc k) h = at_past t k (omega arith)

pub at_change : (t : Table) (k : ℕ) (f : Session → Session) → k < length t →
    at (change t k f) k ≡ f (at t k)
unfolding at change
at_change [] k f h = absurd (omega arith)
at_change (s ∷ t) zero f h = refl
at_change (s ∷ t) (suc k) f h = at_change t k f (omega arith)

pub at_other : (t : Table) (k j : ℕ) (f : Session → Session) → (k ≡ j → ⊥) →
    at (change t k f) j ≡ at t j
unfolding at change
at_other [] k j f n = refl
at_other (s ∷ t) zero zero f n = absurd (n refl)
at_other (s ∷ t) zero (suc j) f n = refl
at_other (s ∷ t) (suc k) zero f n = refl
at_other (s ∷ t) (suc k) (suc j) f n = at_other t k j f (λ e. n (ap suc e))

pub total_change : (g : Session → ℕ) (t : Table) (k : ℕ) (f : Session → Session) → k < length t →
    total g (change t k f) + g (at t k) ≡ total g t + g (f (at t k))
unfolding at change total
total_change g [] k f h = absurd (omega arith)
total_change g (s ∷ t) zero f h = omega arith
total_change g (s ∷ t) (suc k) f h = omega (arith, total_change g t k f (omega arith))

pub total_le : (f g : Session → ℕ) (t : Table) → ((j : ℕ) → f (at t j) ≤ g (at t j)) →
    total f t ≤ total g t
unfolding at total
total_le f g [] h = omega arith
total_le f g (s ∷ t) h = omega (arith, h 0, total_le f g t (λ j. h (suc j)))

pub at_le_total : (g : Session → ℕ) (t : Table) (k : ℕ) → k < length t → g (at t k) ≤ total g t
unfolding at total
at_le_total g [] k h = absurd (omega arith)
at_le_total g (s ∷ t) zero h = omega arith
at_le_total g (s ∷ t) (suc k) h = omega (arith, at_le_total g t k (omega arith))

pub total_bound : (g : Session → ℕ) (b : ℕ) (t : Table) → ((j : ℕ) → g (at t j) ≤ b) →
    total g t ≤ length t * b
unfolding at total
total_bound g b [] h = omega arith
total_bound g b (s ∷ t) h = omega (arith, h 0, total_bound g b t (λ j. h (suc j)))

-- all places but one
pub total_but_one : (g : Session → ℕ) (b : ℕ) (t : Table) (i : ℕ) → i < length t →
    ((j : ℕ) → g (at t j) ≤ b) →
    total g t + b ≤ g (at t i) + length t * b
unfolding at total
total_but_one g b [] i l h = absurd (omega arith)
total_but_one g b (s ∷ t) zero l h = omega (arith, total_bound g b t (λ j. h (suc j)))
total_but_one g b (s ∷ t) (suc i) l h =
    omega (arith, h 0, total_but_one g b t i (omega arith) (λ j. h (suc j)))

-- all places but two
pub total_but_two : (g : Session → ℕ) (b : ℕ) (t : Table) (i k : ℕ) → i < length t → k < length t →
    (i ≡ k → ⊥) →
    ((j : ℕ) → g (at t j) ≤ b) → total g t + (b + b) ≤ g (at t i) + g (at t k) + length t * b
unfolding at total
total_but_two g b [] i k l m n h = absurd (omega arith)
total_but_two g b (s ∷ t) zero zero l m n h = absurd (n refl)
total_but_two g b (s ∷ t) zero (suc k) l m n h =
    omega (arith, total_but_one g b t k (omega arith) (λ j. h (suc j)))
total_but_two g b (s ∷ t) (suc i) zero l m n h =
    omega (arith, total_but_one g b t i (omega arith) (λ j. h (suc j)))
total_but_two g b (s ∷ t) (suc i) (suc k) l m n h =
    omega (arith, h 0, total_but_two g b t i k (omega arith) (omega arith) (λ e. n (ap suc e)) (λ j. h (suc j)))

-- a sum that rises by at most c times another
pub total_drop : (f g r : Session → ℕ) (c : ℕ) (t : Table) →
    ((j : ℕ) → f (at t j) ≤ g (at t j) + c * r (at t j)) →
    total f t ≤ total g t + c * total r t
unfolding at total
total_drop f g r c [] h = omega arith
total_drop f g r c (s ∷ t) h = omega (arith, h 0, total_drop f g r c t (λ j. h (suc j)))

-- ---- searches

some_0 : (b : Bool) (o : Option ℕ) (k : ℕ) → cond b (Some 0) (option_map suc o) ≡ Some k →
    ((b ≡ true) × (0 ≡ k)) ⊎ ((j : ℕ) × (o ≡ Some j) × (suc j ≡ k))
some_0 true o k e = inl (refl, cc)
some_0 false None k e = let z : ◌≡◌ {A = ℕ} 0 1 = cc in absurd (omega arith)
some_0 false (Some j) k e = inr (j, refl, cc)

none_0 : (b : Bool) (o : Option ℕ) → cond b (Some 0) (option_map suc o) ≡ None →
    (b ≡ false) × (o ≡ None)
none_0 true o e = let z : ◌≡◌ {A = ℕ} 0 1 = cc in absurd (omega arith)
none_0 false None e = (refl, refl)
none_0 false (Some j) e = let z : ◌≡◌ {A = ℕ} 0 1 = cc in absurd (omega arith)

pub first_found : (p : Session → Bool) (t : Table) (k : ℕ) → first p t ≡ Some k →
    (k < length t) × (p (at t k) ≡ true)
unfolding at first
first_found p [] k e = let z : ◌≡◌ {A = ℕ} 0 1 = cc in absurd (omega arith)
first_found p (s ∷ t) k e = by (some_0 (p s) (first p t) k e) (λ j h. first_found p t j h)
  where
    by : ((p s ≡ true) × (0 ≡ k)) ⊎ ((j : ℕ) × (first p t ≡ Some j) × (suc j ≡ k)) →
        ((j : ℕ) → first p t ≡ Some j → (j < length t) × (p (at t j) ≡ true)) →
        (k < length (s ∷ t)) × (p (at (s ∷ t) k) ≡ true)
    by (inl h) ih =
        subst (λ (k : ℕ). (k < length (s ∷ t)) × (p (at (s ∷ t) k) ≡ true)) h.1 (omega arith, h.0)
    by (inr h) ih = let r = ih h.0 h.1 in subst (λ (k : ℕ). (k < length (s ∷ t)) × (p (at (s ∷ t) k) ≡ true)) h.2 (omega (arith, r.0), r.1)

pub first_before : (p : Session → Bool) (t : Table) (k : ℕ) → first p t ≡ Some k → (j : ℕ) → j < k →
    p (at t j) ≡ false
unfolding at first
first_before p [] k e j l = let z : ◌≡◌ {A = ℕ} 0 1 = cc in absurd (omega arith)
first_before p (s ∷ t) k e j l = by (cases_Bool (p s)) (λ i h j l. first_before p t i h j l) j l
  where
    by : (p s ≡ true) ⊎ (p s ≡ false) →
        ((i : ℕ) → first p t ≡ Some i → (j : ℕ) → j < i → p (at t j) ≡ false) →
        (j : ℕ) → j < k → p (at (s ∷ t) j) ≡ false
    by (inl h) ih j l =
        let z : Some 0 ≡ Some k = sym (cond-true (p s) (Some 0) (option_map suc (first p t)) h) ∙ e in
        let y : 0 ≡ k = cc in
        absurd (omega arith)
    by (inr h) ih zero l = h
    by (inr h) ih (suc j) l = after (some_0 (p s) (first p t) k e)
      where
        after : ((p s ≡ true) × (0 ≡ k)) ⊎ ((i : ℕ) × (first p t ≡ Some i) × (suc i ≡ k)) →
            p (at t j) ≡ false
        after (inl g) = absurd (both_ways (p s) h g.0)
        after (inr g) = ih g.0 g.1 j (omega (arith, g.2))

pub first_none : (p : Session → Bool) (t : Table) → p vacant ≡ false → first p t ≡ None → (j : ℕ) →
    p (at t j) ≡ false
unfolding at first
first_none p [] v e j = v
first_none p (s ∷ t) v e zero = (none_0 (p s) (first p t) e).0
first_none p (s ∷ t) v e (suc j) = first_none p t v (none_0 (p s) (first p t) e).1 j

pub first_never : (p : Session → Bool) (t : Table) → ((j : ℕ) → p (at t j) ≡ false) →
    first p t ≡ None
unfolding at first
first_never p [] h = refl
first_never p (s ∷ t) h = ap (λ (b : Bool). cond b (Some 0) (option_map suc (first p t))) (h 0) ∙ ap (option_map suc) (first_never p t (λ j. h (suc j)))

pub change_past : (t : Table) (k : ℕ) (f : Session → Session) → length t ≤ k → change t k f ≡ t
unfolding change
change_past [] k f h = refl
change_past (s ∷ t) zero f h = absurd (omega arith)
change_past (s ∷ t) (suc k) f h = ap (λ (u : Table). s ∷ u) (change_past t k f (omega arith))

-- a sum that one change does not touch
pub total_same : (g : Session → ℕ) (t : Table) (k : ℕ) (f : Session → Session) →
    g (f (at t k)) ≡ g (at t k) →
    total g (change t k f) ≡ total g t
unfolding at change total
total_same g [] k f e = refl
total_same g (s ∷ t) zero f e = ap (λ (n : ℕ). n + total g t) e
total_same g (s ∷ t) (suc k) f e = ap (λ (n : ℕ). g s + n) (total_same g t k f e)

pub totalℤ_change : (g : Session → ℤ) (t : Table) (k : ℕ) (f : Session → Session) → k < length t →
    totalℤ g (change t k f) +ℤ g (at t k) ≡ totalℤ g t +ℤ g (f (at t k))
unfolding at change totalℤ
totalℤ_change g [] k f h = absurd (omega arith)
totalℤ_change g (s ∷ t) zero f h = omega (arith, ints)
totalℤ_change g (s ∷ t) (suc k) f h = let r = totalℤ_change g t k f (omega arith) in omega (arith, ints)

pub totalℤ_none : (g : Session → ℤ) (t : Table) → ((j : ℕ) → g (at t j) ≡ pos 0) →
    totalℤ g t ≡ pos 0
unfolding at totalℤ
totalℤ_none g [] h = refl
totalℤ_none g (s ∷ t) h = let a = h 0 in let b = totalℤ_none g t (λ j. h (suc j)) in omega (arith, ints)

pub total_zero : (g : Session → ℕ) (t : Table) → total g t ≡ 0 → g vacant ≡ 0 → (j : ℕ) →
    g (at t j) ≡ 0
unfolding at total
total_zero g [] e v j = v
total_zero g (s ∷ t) e v zero = omega arith
total_zero g (s ∷ t) e v (suc j) = total_zero g t (omega arith) v j

pub totalℤ_same : (g : Session → ℤ) (t : Table) (k : ℕ) (f : Session → Session) →
    g (f (at t k)) ≡ g (at t k) →
    totalℤ g (change t k f) ≡ totalℤ g t
unfolding at change totalℤ
totalℤ_same g [] k f e = refl
totalℤ_same g (s ∷ t) zero f e = ap (λ (n : ℤ). n +ℤ totalℤ g t) e
totalℤ_same g (s ∷ t) (suc k) f e = ap (λ (n : ℤ). g s +ℤ n) (totalℤ_same g t k f e)

pub change_same : {X : Type 0} (g : Session → X) (t : Table) (k : ℕ) (f : Session → Session) →
    ((s : Session) → g (f s) ≡ g s) → (j : ℕ) → g (at (change t k f) j) ≡ g (at t j)
unfolding at change
change_same g [] k f h j = refl
change_same g (s ∷ t) zero f h zero = h s
change_same g (s ∷ t) zero f h (suc j) = refl
change_same g (s ∷ t) (suc k) f h zero = refl
change_same g (s ∷ t) (suc k) f h (suc j) = change_same g t k f h j

-- a sum that one change raises by n at the most
pub total_change_le : (g : Session → ℕ) (n : ℕ) (t : Table) (k : ℕ) (f : Session → Session) →
    g (f (at t k)) ≤ g (at t k) + n → total g (change t k f) ≤ total g t + n
unfolding at change total
total_change_le g n [] k f h = omega arith
total_change_le g n (s ∷ t) zero f h = omega arith
total_change_le g n (s ∷ t) (suc k) f h = omega (arith, total_change_le g n t k f h)

-- what holds of each place holds after a change, if it holds of the changed one
pub each_change : (P : Session → Type 0) (t : Table) (k : ℕ) (f : Session → Session) →
    ((j : ℕ) → P (at t j)) →
    P (f (at t k)) → (j : ℕ) → P (at (change t k f) j)
unfolding at change
each_change P [] k f h n j = h j
each_change P (s ∷ t) zero f h n zero = n
each_change P (s ∷ t) zero f h n (suc j) = h (suc j)
each_change P (s ∷ t) (suc k) f h n zero = h 0
each_change P (s ∷ t) (suc k) f h n (suc j) = each_change P t k f (λ j. h (suc j)) n j

-- ---- the same in the words of `lib.ListN`, which contracts over arrays use
pub at_is : (t : Table) (k : ℕ) → at t k ≡ get_or t k vacant
unfolding at
at_is [] k = refl
at_is (s ∷ t) zero = refl
at_is (s ∷ t) (suc k) = at_is t k

pub vacancies_is : (n : ℕ) → vacancies n ≡ replicate n vacant
unfolding vacancies
vacancies_is zero = refl
vacancies_is (suc n) = ap (λ (t : Table). vacant ∷ t) (vacancies_is n)

pub change_is : (t : Table) (k : ℕ) (f : Session → Session) →
    change t k f ≡ set t k (f (get_or t k vacant))
unfolding change
change_is [] k f = refl
change_is (s ∷ t) zero f = refl
change_is (s ∷ t) (suc k) f = ap (λ (u : Table). s ∷ u) (change_is t k f)
