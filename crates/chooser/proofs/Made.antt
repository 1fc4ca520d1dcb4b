-- What `array::from_fn` makes with a closure that its calls leave as it was.
use Rattle.std.proofs.Common.{◌≡◌, ℕ, zero, suc, ◌+◌, ◌<◌, ◌≤◌, List, get_or, ◌∙◌, subst, ⊎_elim, arith}
use Rattle.std.specs.Array.{IsFromFnResult, IsFromFnResultFrom}
use Rattle.std.proofs.lemmas.Bool.{cases_lt}
use denote.Param.Members.{Mut, Called}

module _ {F B : Type 0} (g : Mut F (ℕ × Unit {0}) B) (f : F) (ys : List B) (h : ℕ → B) (m : ℕ)
    (gives : (k : ℕ) → k < m → (y : B) (q : F) → Called g f (k, tt) y q → (q ≡ f) × (y ≡ h k)) where
  made_from : (i n : ℕ) → i + n ≤ m → IsFromFnResultFrom g f ys i n → (k : ℕ) (d : B) → i ≤ k → k < i + n → get_or ys k d ≡ h k
  made_from i zero within made k d low high = absurd (omega arith)
  made_from i (suc n) within (q, y, is, call, made) k d low high =
      let here = gives i (omega arith) y q call in
      ⊎_elim
      (λ (lt : i < k).
      made_from (i + 1) n (omega arith) (subst (λ p. IsFromFnResultFrom g p ys (i + 1) n) here.0 made) k d (omega arith) (omega arith))
      (λ (ge : k ≤ i). subst (λ (j : ℕ). get_or ys j d ≡ h j) (omega arith) (is.1 d ∙ here.1))
      (cases_lt i k)

  -- has at each index what the closure gives of it
  pub made_at : IsFromFnResult g f ys m → (k : ℕ) (d : B) → k < m → get_or ys k d ≡ h k
  made_at made k d lt = made_from 0 m (omega arith) made.each k d (omega arith) (omega arith)
