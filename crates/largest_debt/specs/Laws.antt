-- The pick has the largest debt.
use Rattle.std.specs.Prelude.{◌≡◌, ℕ, true, false, List, ℤ, ◌≤ℤ◌, Some, None, Option, int_lt}
use Rattle.std.proofs.Common.{ap, arith}
use Rattle.std.proofs.lemmas.Int.{ints}
use Rattle.keys.specs.Kinds.{debt, debt_before}
use Rattle.keys.proofs.Orders.{debt_order}
use Rattle.chooser.specs.declared.entry.Entry.{Entry}
use Rattle.chooser.specs.Offers.{sound, PicksOffered}
use Rattle.chooser.specs.Picks.{PicksFirst}
use Rattle.chooser.proofs.Sound.{said_at}
use Rattle.chooser.proofs.Picks.{picks_first, picks_offered}
use Rattle.largest_debt.specs.Largest.{debt_at, debt_key, largest_debt, PicksLargest}
use Rattle.largest_debt.specs.Ratios.{same_order}

not_under : (a b : ℤ) → int_lt a b ≡ false → b ≤ℤ a
not_under a b h = grind (arith, ints)

module _ (es : List Entry) (s : sound es ≡ true) where
  picks_largest_from : (r : Option ℕ)
      → PicksFirst debt_before (debt_key es) es r → PicksLargest es r
  picks_largest_from None h = h
  picks_largest_from (Some place) h = record {
    offered = h.offered;
    none_greater = λ other t.
        not_under (debt_at es place) (debt_at es other) (h.none_before other t);
    none_steeper = λ other t.
        let under = not_under (debt_at es place) (debt_at es other) (h.none_before other t) in
        same_order _ _ _ _ _ _ (said_at es s other).exact (said_at es s place).exact under;
    lowest = λ other t same. h.lowest other t (ap debt same);
  }

  pub picks_largest : PicksLargest es (largest_debt es)
  picks_largest = picks_largest_from (largest_debt es) (picks_first debt_order es s (debt_key es))

  pub largest_is_offered : PicksOffered es (largest_debt es)
  largest_is_offered = picks_offered debt_order es s (debt_key es)
