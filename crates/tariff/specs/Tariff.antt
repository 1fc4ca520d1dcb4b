-- The tariff. The link has 720,720 units, and a rate may be booked when it divides them.
use Rattle.std.specs.Prelude.{◌≡◌, ℕ, ◌+◌, ◌*◌, ◌/◌, ◌%◌, ◌<◌, Bool, true, ◌&&◌, List, length, ◌==◌, nat_lt}
use Rattle.std.specs.Prelude.{slice_index}
use Rattle.std.specs.List.{ContainsAt}
use Rattle.tariff.specs.declared.TheConstants.{LINK, RATES}

abbrev pub link : ℕ
link = LINK

abbrev pub in_tariff : ℕ → Bool
in_tariff rate = nat_lt 0 rate && link % rate == 0

abbrev pub price_of : ℕ → ℕ
price_of rate = link / rate

-- a table of the tariff: so many rates, ascending, each in the tariff, and none of the link's divisors missing
pub record Whole (rates : List ℕ) : Type 0 where
  pub counted : length rates ≡ RATES
  pub ascends : (i : ℕ) → i + 1 < length rates → slice_index rates i < slice_index rates (i + 1)
  pub divides : (i : ℕ) → i < length rates → in_tariff (slice_index rates i) ≡ true
  pub complete : (rate price : ℕ) → rate * price ≡ link → ContainsAt rates rate
