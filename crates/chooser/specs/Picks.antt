-- The pick by keys: of the offered places the one whose key comes first, the lower place on a tie.
use Rattle.std.specs.Prelude.{◌≡◌, ℕ, ◌≤◌, Bool, true, false, List, Some, None, Option}
use Rattle.keys.specs.Places.{first_place}
use Rattle.chooser.specs.declared.entry.Entry.{Entry}
use Rattle.chooser.specs.Limits.{places}
use Rattle.chooser.specs.Offers.{offered_at}

abbrev pub first_by : {K : Type 0} → (K → K → Bool) → (ℕ → K) → List Entry → Option ℕ
first_by before key es = first_place before places (offered_at es) key

-- the place is offered; no offered place has a key that comes before its own,
-- and one with the same key stands no lower
pub record FirstOffered {K : Type 0} (before : K → K → Bool) (key : ℕ → K) (es : List Entry)
    (place : ℕ) : Type 0 where
  pub offered : offered_at es place ≡ true
  pub none_before : (other : ℕ)
      → offered_at es other ≡ true → before (key other) (key place) ≡ false
  pub lowest : (other : ℕ) → offered_at es other ≡ true → key other ≡ key place → place ≤ other

abbrev pub PicksFirst : {K : Type 0}
    → (K → K → Bool) → (ℕ → K) → List Entry → Option ℕ → Type 0
PicksFirst before key es None = (place : ℕ) → offered_at es place ≡ false
PicksFirst before key es (Some place) = FirstOffered before key es place
