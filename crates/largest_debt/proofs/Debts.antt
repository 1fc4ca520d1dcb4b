-- A debt fits its type.
use Rattle.std.proofs.Common.{ℕ, suc, ◌*◌, ◌≤◌, ℤ, pos, negsuc, ◌*ℤ◌, nat_abs, mul-le-mul, arith, w64, SFits}
use Rattle.std.proofs.lemmas.Int.{ints}
use Rattle.chooser.specs.Offers.{lag_bound}

pub product_fits : (z : ℤ) (p : ℕ) → nat_abs z ≤ lag_bound → p ≤ 720720 → SFits w64 (z *ℤ pos p)
product_fits (pos a) p h k = let m : a * p ≤ 3072000000000 * 720720 = mul-le-mul h k in record { sfits = omega arith }
product_fits (negsuc a) p h k = let m : suc a * p ≤ 3072000000000 * 720720 = mul-le-mul h k in record { sfits = omega (arith, ints) }
