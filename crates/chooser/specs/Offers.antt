-- An offer is an entry for each place. An offered one has a booked rate, its price, and a lag that
-- is within what the longest frame in each of a cell's turns can bring about; every other one has
-- lag 0, rate 1 and the price of rate 1.
use Rattle.std.specs.Prelude.{◌≡◌, ℕ, ◌*◌, ◌==◌, nat_le, nat_lt}
use Rattle.std.specs.Prelude.{Bool, true, false, ◌&&◌, if◌then◌else◌}
use Rattle.std.specs.Prelude.{List, [], ◌∷◌, length, get_or, replicate, slice_index_or, slice_set}
use Rattle.std.specs.Prelude.{ℤ, pos, unsigned_abs, Some, None, Option}
use Rattle.tariff.specs.Tariff.{link}
use Rattle.chooser.specs.Limits.{places, longest, most_turns}
use Rattle.chooser.specs.declared.entry.Entry.{Entry}

-- the entry of a place that is not offered
abbrev pub unoffered : Entry
unoffered = record { offered = false; lag = pos 0; rate = 1; price = link }

-- the entry of one that is
abbrev pub offered : ℤ → ℕ → ℕ → Entry
offered lag rate price = record { offered = true; lag = lag; rate = rate; price = price }

-- how far a lag may be from 0: as far as the longest frame can bring it in every turn
abbrev pub lag_bound : ℕ
lag_bound = longest * most_turns

abbrev pub is_unoffered : Entry → Bool
is_unoffered e = unsigned_abs e.lag == 0 && (e.rate == 1 && e.price == link)

abbrev pub is_booked : Entry → Bool
is_booked e = e.rate * e.price == link && nat_le (unsigned_abs e.lag) lag_bound

abbrev pub sound_entry : Entry → Bool
sound_entry e = if e.offered then is_booked e else is_unoffered e

unfoldable pub all_sound : List Entry → Bool
all_sound [] = true
all_sound (e ∷ es) = sound_entry e && all_sound es

abbrev pub sound : List Entry → Bool
sound es = length es == places && all_sound es

-- the offer of nobody
abbrev pub nobody : List Entry
nobody = replicate places unoffered

-- the entry of a place
abbrev pub entry_at : List Entry → ℕ → Option Entry
entry_at es place = if nat_lt place places then Some (slice_index_or es place unoffered) else None

-- a place is offered; a number that is no place's and a lag past the bound change nothing
abbrev pub with_offered : List Entry → ℕ → ℤ → ℕ → ℕ → List Entry
with_offered es place lag rate price =
    if nat_lt place places && nat_le (unsigned_abs lag) lag_bound
    then slice_set es place (offered lag rate price)
    else es

abbrev pub offered_at : List Entry → ℕ → Bool
offered_at es place = (get_or es place unoffered).offered

-- a pick is an offered place if there is one, and none otherwise
abbrev pub PicksOffered : List Entry → Option ℕ → Type 0
PicksOffered es None = (place : ℕ) → offered_at es place ≡ false
PicksOffered es (Some place) = offered_at es place ≡ true
