-- A place in a part of a record, as it is numbered in the whole.
use Rattle.std.proofs.Common.{◌≡◌, ℕ, ◌+◌, Bool, List, [], ◌∷◌, refl, ap, ◌∙◌, arith, add-zero}
use Rattle.std.proofs.lemmas.Iterator.Adapters.{position_from-zero}
use Rattle.std.specs.Option.{option_map}
use Rattle.std.specs.List.{position_from, position}

shifted : (p : ℕ → Bool) (base i : ℕ) (xs : List ℕ) → option_map (λ k. base + k) (position_from p i xs) ≡ position_from p (base + i) xs
shifted p base i [] = refl
shifted p base i (x ∷ xs) = grind (arith, shifted p base (i + 1) xs)

pub numbered : (p : ℕ → Bool) (base : ℕ) (xs : List ℕ) → option_map (λ k. base + k) (position p xs) ≡ position_from p base xs
numbered p base xs = ap (option_map (λ k. base + k)) (position_from-zero p xs) ∙ shifted p base 0 xs ∙ ap (λ (i : ℕ). position_from p i xs) (add-zero base)
