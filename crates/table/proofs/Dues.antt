-- Who is due: what the one search for the least key finds is the session that the definition asks for.
use Rattle.std.proofs.Common.{◌≡◌, ℕ, zero, suc, ◌<◌, ◌≤◌, Bool, true, false, cond, ◌⊎◌, [], ◌∷◌, map, length, get_or, IfSome, Some, None, Option, sym, refl, ap, ◌∙◌, inl, inr, arith}
use Rattle.std.proofs.lemmas.Bool.{both_ways, cases_lt, cond-true, ltb-true, ltb-false}
use Rattle.std.specs.Prelude.{is_none, option_and_then}
use Rattle.std.specs.Option.{option_map}
use Rattle.chooser.specs.Limits.{places}
use Rattle.keys.specs.Kinds.{time, time_before}
use Rattle.keys.specs.Least.{Least, LeastAt}
use Rattle.keys.specs.declared.time.VirtualTime.{VirtualTime}
use Rattle.model.proofs.Chosen.{Next, chosen_next, chosen_some, next_chosen}
use Rattle.model.proofs.Settle.{least_some}
use Rattle.model.proofs.Share.{least_reached}
use Rattle.model.proofs.Tables.{at_past}
use Rattle.model.specs.Session.{Session}
use Rattle.model.specs.Table.{Table, at, due, first, none_active, least_time, chosen}
use Rattle.session.specs.Seen.{time_key}

-- ---- the keys of a table

key_read : (t : Table) (j : ℕ) → get_or (map time_key t) j None ≡ time_key (at t j)
unfolding at
key_read [] j = refl
key_read (s ∷ t) zero = refl
key_read (s ∷ t) (suc j) = key_read t j

key_active : (t : Table) (j : ℕ) → (at t j).active ≡ true → get_or (map time_key t) j None ≡ Some (time (at t j).virtual_time)
key_active t j a = key_read t j ∙ cond-true (at t j).active (Some (time (at t j).virtual_time)) None a

key_some : (b : Bool) (v : ℕ) (key : VirtualTime) → cond b (Some (time v)) None ≡ Some key → (b ≡ true) × (key.0 ≡ v)
key_some true v key e = (refl, let s : key ≡ time v = cc in ap (λ (k : VirtualTime). k.0) s)
key_some false v key e = absurd (cc)

active_inside : (t : Table) (j : ℕ) → (at t j).active ≡ true → j < length t
active_inside t j a = by (cases_lt j (length t))
  where
    by : (j < length t) ⊎ (length t ≤ j) → j < length t
    by (inl h) = h
    by (inr h) = absurd (both_ways (at t j).active (ap (λ (s : Session). s.active) (at_past t j h)) a)

-- ---- what the search finds

least_next : (t : Table) (i : ℕ) (key : VirtualTime) → LeastAt time_before (map time_key t) i key → Next t i
least_next t i key h = record {
  inside = active_inside t i here.0;
  active = here.0;
  least = λ j a. omega (arith, here.1, ltb-false (at t j).virtual_time key.0 (h.none_before j (time (at t j).virtual_time) (key_active t j a)));
  before = λ j a l. omega (arith, here.1, ltb-true key.0 (at t j).virtual_time (h.lowest j (time (at t j).virtual_time) l (key_active t j a)));
}
  where
    here : ((at t i).active ≡ true) × (key.0 ≡ (at t i).virtual_time)
    here = key_some (at t i).active (at t i).virtual_time key (sym (key_read t i) ∙ h.candidate)

none_chosen : (t : Table) (o : Option ℕ) → chosen t ≡ o → ((j : ℕ) → get_or (map time_key t) j None ≡ None) → None ≡ o
none_chosen t None e h = refl
none_chosen t (Some c) e h =
    let some = key_active t c (chosen_next t c e).active in
    let none = h c in
    absurd (cc)

pub search_is : (t : Table) (r : Option ℕ) → Least time_before (map time_key t) r → r ≡ chosen t
search_is t None h = none_chosen t (chosen t) refl h
search_is t (Some i) h = sym (next_chosen t i (least_next t i h.0 h.1))

pub chosen_inside : (t : Table) (o : Option ℕ) → length t ≡ places → o ≡ chosen t → IfSome o (λ i. i < places)
chosen_inside t None n e = tt
chosen_inside t (Some c) n e = omega (arith, (chosen_next t c (sym e)).inside)

-- ---- and who is due has the smallest virtual time

pub least_is : (t : Table) → least_time t ≡ option_map (λ i. (at t i).virtual_time) (chosen t)
unfolding chosen
least_is t = by (least_time t) refl
  where
    same : (a b : ℕ) → Some a ≡ Some b → a ≡ b
    same a b e = cc

    by : (o : Option ℕ) → least_time t ≡ o → least_time t ≡ option_map (λ i. (at t i).virtual_time) (chosen t)
    by None e = e ∙ ap (λ (o : Option ℕ). option_map (λ i. (at t i).virtual_time) (option_and_then (λ v. first (due v) t) o)) (sym e)
    by (Some v) e =
        let c = chosen_some t (ap is_none e) in
        let low = (chosen_next t c.0 c.1).least in
        let reached = least_reached t v e in
        let over = least_some t c.0 (chosen_next t c.0 c.1).active in
        let is : v ≡ (at t c.0).virtual_time = omega (arith, same v over.0 (sym e ∙ over.1), over.2, low reached.0 reached.2, reached.3) in
        e ∙ ap Some is ∙ ap (option_map (λ i. (at t i).virtual_time)) (sym c.1)

none_mapped : (f : ℕ → ℕ) (o : Option ℕ) → is_none (option_map f o) ≡ is_none o
none_mapped f None = refl
none_mapped f (Some c) = refl

-- nobody is due exactly when nobody is active
pub idle_is : (t : Table) → none_active t ≡ is_none (chosen t)
idle_is t = ap is_none (least_is t) ∙ none_mapped (λ i. (at t i).virtual_time) (chosen t)
