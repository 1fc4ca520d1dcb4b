-- What the model says of a table is what the library says of a chain over its rows.
use Rattle.std.proofs.Common.{◌≡◌, ℕ, suc, ◌+◌, ◌-◌, ◌/◌, ◌^◌, ◌<◌, ◌≤◌, length, max, Bool, true, false, cond, not, ◌&&◌, ◌||◌, List, [], ◌∷◌, Some, None, Option, refl, sym, ap, ◌∙◌, arith}
use Rattle.std.proofs.lemmas.Iterator.{YieldsList}
use Rattle.std.proofs.lemmas.Iterator.Adapters.{at_most_from_yields_List, fits_from_length, position_from-zero}
use Rattle.std.specs.Prelude.{is_none}
use Rattle.std.specs.Fn.{Called}
use Rattle.std.specs.Iterator.Adapters.{map_source, map_callee, map_steps}
use Rattle.std.specs.Iterator.Runs.{EachRunFrom}
use Rattle.std.specs.declared.iter.Map.{Map}
use Rattle.std.proofs.lemmas.List.Recursion.{is_sum_by}
use Rattle.std.specs.List.{fold, sum_by, list_any, position, position_from, zip}
use Rattle.std.specs.Option.{option_map}
use Rattle.chooser.specs.Limits.{places}
use Rattle.model.specs.Lists.{ListKind, stands_in}
use Rattle.model.specs.Session.{Session}
use Rattle.model.specs.Table.{first, total, least_time, sooner, latest_time, none_active}
use Rattle.session.specs.Seen.{seen}
use Rattle.session.specs.declared.row.Row.{Row}
use Rattle.table.specs.Joiners.{any_joins}
use Rattle.table.specs.Places.{table_of}
use denote.Param.Members.{Mut}

pub total_of : (g : Session → ℕ) (rows : List Row) → total g (table_of rows) ≡ sum_by (λ r. g (seen r)) rows
unfolding table_of total
total_of g rows = is_sum_by (λ rows. total g (table_of rows)) (λ r. g (seen r)) refl (λ _ _. refl) rows

-- the sum of as many numbers as there are places, of at most 32 bits each, fits 64 bits
pub sum_fits : {S A F : Type 0} {steps : S → Option A → S → Type 0} {v : A → Row} {s : Map S F} {rows : List Row} (g : Mut F (A × Unit {0}) ℕ) (f : F)
    → YieldsList steps v (map_source s) rows → length rows ≡ places → map_callee s ≡ f
    → ((x : A) (r : ℕ) (q : F) → Called g f (x, tt) r q → (q ≡ f) × (r ≤ (2 ^ 64 - 1) / places))
    → EachRunFrom (map_steps steps g) s (λ p. fold (λ a x. a + x) 0 p.items < 2 ^ 64)
sum_fits g f road told callee each = fits_from_length g f places (2 ^ 64) (at_most_from_yields_List road (omega (arith, told))) callee (omega arith) each

-- ---- the largest

latest_from : (rows : List Row) (n : ℕ) → max n (latest_time (table_of rows)) ≡ fold (λ (m : ℕ) (r : Row). max m r.virtual_time) n rows
unfolding table_of latest_time
latest_from [] n = omega arith
latest_from (r ∷ rows) n = omega (arith, latest_from rows (max n r.virtual_time))

pub latest_of : (rows : List Row) → latest_time (table_of rows) ≡ fold (λ (m : ℕ) (r : Row). max m r.virtual_time) 0 rows
latest_of rows = omega (arith, latest_from rows 0)

-- ---- the first that passes a test

module _ (p : Session → Bool) where
  one_on : (b : Bool) (i : ℕ) (o : Option ℕ) → cond b (Some i) (option_map (λ k. i + 1 + k) o) ≡ option_map (λ k. i + k) (cond b (Some 0) (option_map suc o))
  one_on true i o = ap Some (omega arith)
  one_on false i None = refl
  one_on false i (Some k) = ap Some (omega arith)

  first_from : (rows : List Row) (i : ℕ) → position_from (λ r. p (seen r)) i rows ≡ option_map (λ k. i + k) (first p (table_of rows))
  unfolding table_of first
  first_from [] i = refl
  first_from (r ∷ rows) i =
      ap (λ (o : Option ℕ). cond (p (seen r)) (Some i) o) (first_from rows (i + 1)) ∙ one_on (p (seen r)) i (first p (table_of rows))

  from_zero : (o : Option ℕ) → option_map (λ k. 0 + k) o ≡ o
  from_zero None = refl
  from_zero (Some k) = ap Some (omega arith)

  pub first_of : (rows : List Row) → first p (table_of rows) ≡ position (λ r. p (seen r)) rows
  first_of rows = sym (position_from-zero (λ r. p (seen r)) rows ∙ first_from rows 0 ∙ from_zero (first p (table_of rows)))

-- ---- whether one passes a test

sooner_is_none : (b : Bool) (v : ℕ) (o : Option ℕ) (any : Bool) → is_none o ≡ not any → is_none (sooner b v o) ≡ not (b || any)
sooner_is_none true v None any e = refl
sooner_is_none true v (Some w) any e = refl
sooner_is_none false v o any e = e

pub idle_of : (rows : List Row) → none_active (table_of rows) ≡ not (list_any (λ (r : Row). r.active) rows)
unfolding table_of least_time
idle_of [] = refl
idle_of (r ∷ rows) = sooner_is_none r.active r.virtual_time (least_time (table_of rows)) _ (idle_of rows)

pub joins_of : (l : ListKind) (rows : List Row) (before : List Bool) → any_joins l before (table_of rows) ≡ list_any (λ (p : Row × Bool). not p.1 && stands_in l (seen p.0)) (zip rows before)
unfolding table_of any_joins
joins_of l [] [] = refl
joins_of l [] (b ∷ before) = refl
joins_of l (r ∷ rows) [] = refl
joins_of l (r ∷ rows) (b ∷ before) = ap (λ (any : Bool). (not b && stands_in l (seen r)) || any) (joins_of l rows before)
