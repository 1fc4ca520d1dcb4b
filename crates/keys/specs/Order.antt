-- Which of two keys comes first, by their order, and the laws of such an order.
use Rattle.std.specs.Prelude.{◌≡◌, Bool, true, false}
use Rattle.std.specs.declared.cmp.Ordering.{Ordering}
use Rattle.std.specs.Ordering.{is_lt}

abbrev pub lt_by_cmp : {K : Type 0} → (K → K → Ordering) → K → K → Bool
lt_by_cmp cmp x y = is_lt (cmp x y)

-- no key comes before itself
abbrev pub IsIrreflexive : {K : Type 0} → (K → K → Bool) → Type 0
IsIrreflexive {K} before = (x : K) → before x x ≡ false

-- what comes before a key comes before all that the key comes before
abbrev pub IsTransitive : {K : Type 0} → (K → K → Bool) → Type 0
IsTransitive {K} before = (x y z : K) → before x y ≡ true → before y z ≡ true → before x z ≡ true

-- of two keys that differ one comes before the other
abbrev pub IsConnected : {K : Type 0} → (K → K → Bool) → Type 0
IsConnected {K} before = (x y : K) → before x y ≡ false → before y x ≡ false → x ≡ y
