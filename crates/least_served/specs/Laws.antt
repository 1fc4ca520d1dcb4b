-- The pick has been served least.
use Rattle.std.specs.Prelude.{◌≡◌, ℕ, ◌<◌, true, List, Some, None, Option}
use Rattle.std.proofs.Common.{ap}
use Rattle.std.proofs.lemmas.Bool.{ltb-false}
use Rattle.keys.specs.Kinds.{count, count_before}
use Rattle.keys.proofs.Orders.{count_order}
use Rattle.chooser.specs.declared.entry.Entry.{Entry}
use Rattle.chooser.specs.declared.entry.ListKind.{ListKind}
use Rattle.chooser.specs.Limits.{places}
use Rattle.chooser.specs.Offers.{sound, PicksOffered}
use Rattle.chooser.specs.Picks.{PicksFirst}
use Rattle.chooser.proofs.Picks.{picks_first, picks_offered, picked_inside}
use Rattle.least_served.specs.declared.counts.LeastServed.{LeastServed}
use Rattle.least_served.specs.Served.{count_at, count_key, least_served, PicksLeastServed}

module _ (c : LeastServed) (list : ListKind) (es : List Entry) (s : sound es ≡ true) where
  picks_least_from : (r : Option ℕ)
      → PicksFirst count_before (count_key c list) es r → PicksLeastServed c list es r
  picks_least_from None h = h
  picks_least_from (Some place) h = record {
    offered = h.offered;
    none_smaller = λ other t.
        ltb-false (count_at c list other) (count_at c list place) (h.none_before other t);
    lowest = λ other t same. h.lowest other t (ap count same);
  }

  pub picks_least_served : PicksLeastServed c list es (least_served c list es)
  picks_least_served =
      picks_least_from (least_served c list es) (picks_first count_order es s (count_key c list))

  pub least_is_offered : PicksOffered es (least_served c list es)
  least_is_offered = picks_offered count_order es s (count_key c list)

  pub least_inside : (place : ℕ) → Some place ≡ least_served c list es → place < places
  least_inside = picked_inside es s (least_served c list es) least_is_offered
