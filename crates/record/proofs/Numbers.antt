-- Numbers of several bytes, the lowest first.
use Rattle.std.proofs.Common.{◌≡◌, ℕ, zero, suc, ◌+◌, ◌*◌, ◌/◌, ◌%◌, ◌^◌, ◌<◌, ◌≤◌, List, [], ◌∷◌, length, get_or, take, drop, refl, ap, ◌∙◌, pow-suc, arith}
use Rattle.std.proofs.lemmas.List.{drop_more}
use Rattle.record.specs.Layout.{little, spread, length_in, value_in}

low_is : (b m : ℕ) → b < 256 → (b + 256 * m) % 256 ≡ b
low_is b m h = omega arith

high_is : (b m : ℕ) → b < 256 → (b + 256 * m) / 256 ≡ m
high_is b m h = omega arith

pub spread_little : (bs : List ℕ) → ((i : ℕ) → get_or bs i 0 < 2 ^ 8) → spread (length bs) (little bs) ≡ bs
spread_little [] h = refl
spread_little (b ∷ bs) h =
    λ i. low_is b (little bs) (h 0) i ∷ (ap (spread (length bs)) (high_is b (little bs) (h 0)) ∙ spread_little bs (λ k. h (suc k))) i

pub little_spread : (k n : ℕ) → n < 256 ^ k → little (spread k n) ≡ n
little_spread zero n h = omega arith
little_spread (suc k) n h =
    let small : n < 256 ^ k * 256 = rw pow-suc at h in
    let rest = little_spread k (n / 256) (omega arith) in
    omega arith

-- the numbers that stand in a list, byte by byte
little_more : (bs : List ℕ) (i k : ℕ) → i < length bs → little (take (suc k) (drop i bs)) ≡ get_or bs i 0 + 256 * little (take k (drop (i + 1) bs))
little_more bs i k h = ap (λ (l : List ℕ). little (take (suc k) l)) (drop_more bs i 0 h)

module _ (bs : List ℕ) (long : 8 ≤ length bs) where
  pub length_is : length_in bs ≡ get_or bs 2 0 + get_or bs 3 0 * 256
  length_is = omega (arith, little_more bs 2 1 (omega arith), little_more bs 3 0 (omega arith))

  pub value_is : value_in bs ≡ get_or bs 4 0 + get_or bs 5 0 * 256 + get_or bs 6 0 * 65536 + get_or bs 7 0 * 16777216
  value_is =
      omega (arith, little_more bs 4 3 (omega arith), little_more bs 5 2 (omega arith), little_more bs 6 1 (omega arith), little_more bs 7 0 (omega arith))
