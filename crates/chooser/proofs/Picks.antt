-- The pick by keys is lawful, whatever the keys.
use Rattle.std.proofs.Common.{◌≡◌, ℕ, ◌<◌, ◌≤◌, Bool, true, List, Some, None, Option, sym, ap, ◌∙◌, subst, ⊎_elim}
use Rattle.std.proofs.lemmas.Bool.{both_ways, cases_lt}
use Rattle.std.specs.Array.{IsFromFnResult}
use Rattle.std.specs.Cmp.{IsStrictWeakOrder}
use denote.Param.Members.{Mut, Called}
use Rattle.keys.specs.Least.{least_of}
use Rattle.keys.specs.Places.{key_at, First}
use Rattle.keys.proofs.Orders.{irreflexive}
use Rattle.keys.proofs.Places.{row_is, first_place_is_first}
use Rattle.chooser.specs.declared.entry.Entry.{Entry}
use Rattle.chooser.specs.Offers.{offered_at, sound, PicksOffered}
use Rattle.chooser.specs.Picks.{first_by, PicksFirst}
use Rattle.chooser.proofs.Made.{made_at}
use Rattle.chooser.proofs.Sound.{nobody_past}

-- an offered place is one of the 64
pub offered_inside : (es : List Entry) → sound es ≡ true → (place : ℕ) → offered_at es place ≡ true → place < 64
offered_inside es s place t =
    ⊎_elim (λ (lt : place < 64). lt) (λ (ge : 64 ≤ place). absurd (both_ways _ (nobody_past es s place ge) t)) (cases_lt place 64)

-- and so is a picked one
pub picked_inside : (es : List Entry) → sound es ≡ true → (r : Option ℕ) → PicksOffered es r → (place : ℕ) → Some place ≡ r → place < 64
picked_inside es s r h place e = offered_inside es s place (subst (PicksOffered es) (sym e) h)

-- the least of a row that a closure filled with the key of each place is the pick
pub row_pick : {K F : Type 0} (before : K → K → Bool) (es : List Entry) (key : ℕ → K) (g : Mut F (ℕ × Unit {0}) (Option K)) (f : F)
    → ((k : ℕ) → k < 64 → (x : Option K) (q : F) → Called g f (k, tt) x q → (q ≡ f) × (x ≡ key_at (offered_at es) key k))
    → (row : List (Option K)) → IsFromFnResult g f row 64 → (r : Option ℕ) → r ≡ least_of before row → r ≡ first_by before key es
row_pick before es key g f gives row made r is =
    is ∙ ap (least_of before) (row_is before 64 (offered_at es) key row made.long (λ k h. made_at g f row _ 64 gives made k None h))

module _ {K : Type 0} {before : K → K → Bool} (order : IsStrictWeakOrder before) (es : List Entry) (s : sound es ≡ true) (key : ℕ → K) where
  picks_first_from : (r : Option ℕ) → First before 64 (offered_at es) key r → PicksFirst before key es r
  picks_first_from None h = λ place. ⊎_elim (λ (lt : place < 64). h place lt) (λ (ge : 64 ≤ place). nobody_past es s place ge) (cases_lt place 64)
  picks_first_from (Some place) h = record {
    offered = h.chosen;
    none_before = λ other t. h.none_before other (offered_inside es s other t) t;
    lowest = λ other t same.
        ⊎_elim
        (λ (lt : other < place).
        let above = subst (λ (k : K). before (key place) k ≡ true) same (h.lowest other lt t) in
        absurd (both_ways _ (irreflexive order (key place)) above))
        (λ (ge : place ≤ other). ge)
        (cases_lt other place);
  }

  offered_from : (r : Option ℕ) → PicksFirst before key es r → PicksOffered es r
  offered_from None h = h
  offered_from (Some place) h = h.offered

  pub picks_first : PicksFirst before key es (first_by before key es)
  picks_first = picks_first_from (first_by before key es) (first_place_is_first before 64 (offered_at es) key order)

  -- what every chooser shows, of one that picks by keys
  pub picks_offered : PicksOffered es (first_by before key es)
  picks_offered = offered_from (first_by before key es) picks_first
