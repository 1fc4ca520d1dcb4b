-- The largest debt: of the offered places the one with the greatest lag / rate, the lower place on
-- a tie. Since rate times price is the link for each of them, lag times price puts the places in
-- the same order, in whole numbers.
use Rattle.std.specs.Prelude.{◌≡◌, ℕ, ◌≤◌, true, false, List, Some, None, Option, slice_index_or}
use Rattle.std.specs.Prelude.{ℤ, pos, ◌*ℤ◌, ◌≤ℤ◌}
use Rattle.keys.specs.declared.debt.Debt.{Debt}
use Rattle.keys.specs.Kinds.{debt, debt_before}
use Rattle.chooser.specs.declared.entry.Entry.{Entry}
use Rattle.chooser.specs.Offers.{unoffered, offered_at}
use Rattle.chooser.specs.Picks.{first_by}

abbrev pub lag_at : List Entry → ℕ → ℤ
lag_at es place = (slice_index_or es place unoffered).lag

abbrev pub rate_at : List Entry → ℕ → ℕ
rate_at es place = (slice_index_or es place unoffered).rate

abbrev pub price_at : List Entry → ℕ → ℕ
price_at es place = (slice_index_or es place unoffered).price

abbrev pub debt_at : List Entry → ℕ → ℤ
debt_at es place = lag_at es place *ℤ pos (price_at es place)

abbrev pub debt_key : List Entry → ℕ → Debt
debt_key es place = debt (debt_at es place)

abbrev pub largest_debt : List Entry → Option ℕ
largest_debt es = first_by debt_before (debt_key es) es

-- the place is offered; no offered place has a greater debt, nor a greater lag / rate (by cross
-- products), and one with the same debt stands no lower
pub record Largest (es : List Entry) (place : ℕ) : Type 0 where
  pub offered : offered_at es place ≡ true
  pub none_greater : (other : ℕ) → offered_at es other ≡ true → debt_at es other ≤ℤ debt_at es place
  pub none_steeper : (other : ℕ) → offered_at es other ≡ true
      → (lag_at es other *ℤ pos (rate_at es place)) ≤ℤ (lag_at es place *ℤ pos (rate_at es other))
  pub lowest : (other : ℕ)
      → offered_at es other ≡ true → debt_at es other ≡ debt_at es place → place ≤ other

-- none is picked only when no place is offered
abbrev pub PicksLargest : List Entry → Option ℕ → Type 0
PicksLargest es None = (place : ℕ) → offered_at es place ≡ false
PicksLargest es (Some place) = Largest es place
