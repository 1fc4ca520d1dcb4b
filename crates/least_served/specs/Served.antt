-- Least served: each place has two counts, one for each list, of the service that it has had from
-- that list, in bytes times price. The offered place with the smallest count is picked, the lower
-- place on a tie.
use Rattle.std.specs.Prelude.{◌≡◌, ℕ, ◌+◌, ◌-◌, ◌*◌, ◌^◌, ◌≤◌, min, max, nat_le, nat_lt}
use Rattle.std.specs.Prelude.{Bool, true, false, ◌&&◌, if◌then◌else◌, Some, None, Option}
use Rattle.std.specs.Prelude.{List, replicate, slice_index, slice_set}
use Rattle.tariff.specs.Tariff.{in_tariff}
use Rattle.keys.specs.declared.count.Count.{Count}
use Rattle.keys.specs.Kinds.{count, count_before}
use Rattle.chooser.specs.declared.entry.Entry.{Entry}
use Rattle.chooser.specs.declared.entry.ListKind.{ListKind}
use Rattle.chooser.specs.declared.entry.ListKind.TheVariants.{Credit, Extra}
use Rattle.chooser.specs.Limits.{places, longest}
use Rattle.chooser.specs.Offers.{offered_at}
use Rattle.chooser.specs.Picks.{first_by}
use Rattle.least_served.specs.declared.counts.LeastServed.{LeastServed}

-- ---- the counts
abbrev pub unserved : LeastServed
unserved = record { credit = replicate places 0; extra = replicate places 0 }

abbrev pub counts : LeastServed → ListKind → List ℕ
counts c Credit = c.credit
counts c Extra = c.extra

abbrev pub count_at : LeastServed → ListKind → ℕ → ℕ
count_at c list place = slice_index (counts c list) place

abbrev pub with_count : LeastServed → ListKind → ℕ → ℕ → LeastServed
with_count c Credit place n = record c { credit = slice_set c.credit place n }
with_count c Extra place n = record c { extra = slice_set c.extra place n }

-- the count of a place, if there is such a place
abbrev pub place_count : LeastServed → ListKind → ℕ → Option ℕ
place_count c list place = if nat_lt place places then Some (count_at c list place) else None

-- ---- the pick
abbrev pub count_key : LeastServed → ListKind → ℕ → Count
count_key c list place = count (count_at c list place)

abbrev pub least_served : LeastServed → ListKind → List Entry → Option ℕ
least_served c list es = first_by count_before (count_key c list) es

-- the place is offered; no offered place has a smaller count in the list,
-- and one with the same count stands no lower
pub record IsLeastServed (c : LeastServed) (list : ListKind) (es : List Entry) (place : ℕ)
    : Type 0 where
  pub offered : offered_at es place ≡ true
  pub none_smaller : (other : ℕ)
      → offered_at es other ≡ true → count_at c list place ≤ count_at c list other
  pub lowest : (other : ℕ)
      → offered_at es other ≡ true → count_at c list other ≡ count_at c list place → place ≤ other

-- none is picked only when no place is offered
abbrev pub PicksLeastServed : LeastServed → ListKind → List Entry → Option ℕ → Type 0
PicksLeastServed c list es None = (place : ℕ) → offered_at es place ≡ false
PicksLeastServed c list es (Some place) = IsLeastServed c list es place

-- ---- the tellings
-- a count stops at 2^63 - 1
abbrev pub stopped : ℕ → ℕ
stopped n = min n (2 ^ 63 - 1)

-- a serving is counted if place, length and price can be
abbrev pub countable : ℕ → ℕ → ℕ → Bool
countable place length price = nat_lt place places && (nat_le length longest && in_tariff price)

-- served adds length times price to the count of the list;
-- `stop` is what becomes of a count that grew
abbrev pub after_served : (ℕ → ℕ) → LeastServed → ListKind → ℕ → ℕ → ℕ → LeastServed
after_served stop c list place length price =
    if countable place length price
    then with_count c list place (stop (count_at c list place + length * price))
    else c

-- the larger of n and the count of a pick; n if there is none
abbrev pub raised : LeastServed → ListKind → ℕ → Option ℕ → ℕ
raised c list n None = n
raised c list n (Some first) = max n (count_at c list first)

-- joined raises the count to the smallest one offered
abbrev pub joined_count : LeastServed → ListKind → ℕ → List Entry → ℕ
joined_count c list place es = raised c list (count_at c list place) (least_served c list es)

abbrev pub after_joined : LeastServed → ListKind → ℕ → List Entry → LeastServed
after_joined c list place es =
    if nat_lt place places then with_count c list place (joined_count c list place es) else c

-- cleared sets both counts to 0
abbrev pub after_cleared : LeastServed → ℕ → LeastServed
after_cleared c place =
    if nat_lt place places then with_count (with_count c Credit place 0) Extra place 0 else c
