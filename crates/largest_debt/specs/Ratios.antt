-- Where rate times price is the link, lag times price orders two places as lag / rate does.
use Rattle.std.specs.Prelude.{◌≡◌, ℕ, zero, suc, ◌*◌, ◌<◌, ◌≤◌, ℤ, pos, negsuc, ◌*ℤ◌, ◌≤ℤ◌}
use Rattle.std.proofs.Common.{sym, ap, ◌∙◌, mul_comm, mul-zero, mul-le-mul_right, le_of_mul-le-mul_right, arith}
use Rattle.std.proofs.Math.Nat.{mul-mul-mul_comm}
use Rattle.std.proofs.lemmas.Int.{ints}

-- of naturals: a at rate r and price p, b at rate s and price q
cross : (a b p q r s : ℕ) → r * p ≡ 720720 → s * q ≡ 720720 → a * p ≤ b * q → a * s ≤ b * r
cross a b p q r s e f h =
    let left : a * s * 720720 ≡ a * p * (r * s) =
    ap (λ n. a * s * n) (sym e ∙ mul_comm r p) ∙ mul-mul-mul_comm a s p r ∙ ap (λ n. a * p * n) (mul_comm s r) in
    let right : b * q * (r * s) ≡ b * r * 720720 =
    mul-mul-mul_comm b q r s ∙ ap (λ n. b * r * n) (mul_comm q s ∙ f) in
    let m : a * p * (r * s) ≤ b * q * (r * s) = mul-le-mul_right (r * s) h in
    let n : a * s * 720720 ≤ b * r * 720720 = omega arith in
    le_of_mul-le-mul_right n (omega arith)

positive : (s q : ℕ) → s * q ≡ 720720 → 0 < q
positive s zero f = let z : ◌≡◌ {A = ℕ} 0 720720 = sym (mul-zero s) ∙ f in absurd (omega arith)
positive s (suc q) f = omega arith

pub same_order : (x y : ℤ) (p q r s : ℕ) → r * p ≡ 720720 → s * q ≡ 720720 → (x *ℤ pos p) ≤ℤ (y *ℤ pos q) → (x *ℤ pos s) ≤ℤ (y *ℤ pos r)
same_order (pos a) (pos b) p q r s e f h =
    let k : a * p ≤ b * q = omega (arith, ints) in
    let c = cross a b p q r s e f k in
    omega (arith, ints)
same_order (pos a) (negsuc b) p q r s e f h =
    let one : 1 ≤ suc b = omega arith in
    let m : 1 * q ≤ suc b * q = mul-le-mul_right q one in
    absurd (omega (arith, ints, positive s q f))
same_order (negsuc a) (pos b) p q r s e f h = omega (arith, ints)
same_order (negsuc a) (negsuc b) p q r s e f h =
    let k : suc b * q ≤ suc a * p = omega (arith, ints) in
    let c = cross (suc b) (suc a) q p s r f e k in
    omega (arith, ints)
