-- Whose turn it is, said by what it is: active, at the smallest virtual time, and the lowest place
-- of those.
use Rattle.std.proofs.Common.{◌≡◌, ℕ, ◌<◌, ◌≤◌, true, false, eqb, ◌⊎◌, length, Some, None, Option}
use Rattle.std.proofs.Common.{sym, refl, ap, ◌∙◌, inl, inr, arith}
use Rattle.std.specs.Prelude.{is_none, option_and_then}
use Rattle.std.proofs.lemmas.Bool.{true≢false, and_parts, and_from, both_ways, eqb-true, eq-eqb}
use Rattle.std.proofs.lemmas.Bool.{cases_lt}
use Rattle.model.specs.Session.{Session}
use Rattle.model.specs.Table.{Table, at, due, first, least_time, none_active, chosen}
use Rattle.model.proofs.Tables.{first_found, first_none, first_before}
use Rattle.model.proofs.Share.{least_reached}
use Rattle.model.proofs.Settle.{least_some}

pub record Next (t : Table) (c : ℕ) : Type 0 where
  pub inside : c < length t
  pub active : (at t c).active ≡ true
  pub least : (j : ℕ) → (at t j).active ≡ true → (at t c).virtual_time ≤ (at t j).virtual_time
  pub before : (j : ℕ) → (at t j).active ≡ true → j < c →
      (at t c).virtual_time < (at t j).virtual_time

due_from : (v : ℕ) (s : Session) → s.active ≡ true → s.virtual_time ≡ v → due v s ≡ true
due_from v s a e = and_from s.active (eqb s.virtual_time v) a (eq-eqb s.virtual_time v e)

next_from : (t : Table) (v c : ℕ) → least_time t ≡ Some v → first (due v) t ≡ Some c → Next t c
next_from t v c e f = record {
  inside = (first_found (due v) t c f).0;
  active = hit.0;
  least = λ j a. omega (arith, up j a, level);
  before =
      λ j a l. apart (at t j).virtual_time (up j a)
      (λ g. both_ways (due v (at t j)) (first_before (due v) t c f j l) (due_from v (at t j) a g));
}
  where
    hit : ((at t c).active ≡ true) × (eqb (at t c).virtual_time v ≡ true)
    hit = and_parts (at t c).active (eqb (at t c).virtual_time v) (first_found (due v) t c f).1

    level : (at t c).virtual_time ≡ v
    level = eqb-true (at t c).virtual_time v hit.1

    same : (a b : ℕ) → Some a ≡ Some b → a ≡ b
    same a b g = cc

    up : (j : ℕ) → (at t j).active ≡ true → v ≤ (at t j).virtual_time
    up j a = let r = least_some t j a in omega (arith, r.2, same v r.0 (sym e ∙ r.1))

    apart : (w : ℕ) → v ≤ w → (w ≡ v → ⊥) → (at t c).virtual_time < w
    apart w l n = by (cases_lt v w)
      where
        by : (v < w) ⊎ (w ≤ v) → (at t c).virtual_time < w
        by (inl h) = omega (arith, level)
        by (inr h) = absurd (n (omega arith))

pub chosen_next : (t : Table) (c : ℕ) → chosen t ≡ Some c → Next t c
unfolding chosen
chosen_next t c e = by (least_time t) refl e
  where
    by : (o : Option ℕ) → least_time t ≡ o → option_and_then (λ v. first (due v) t) o ≡ Some c →
        Next t c
    by None f g = let z : ◌≡◌ {A = ℕ} 0 1 = cc in absurd (omega arith)
    by (Some v) f g = next_from t v c f g

-- somebody is chosen unless none is active
pub chosen_some : (t : Table) → none_active t ≡ false → (c : ℕ) × (chosen t ≡ Some c)
unfolding chosen
chosen_some t e = by (least_time t) refl e
  where
    hit : (v : ℕ) → least_time t ≡ Some v → (o : Option ℕ) → first (due v) t ≡ o →
        (c : ℕ) × (o ≡ Some c)
    hit v f (Some c) g = (c, refl)
    hit v f None g =
        let r = least_reached t v f in
        absurd (both_ways (due v (at t r.0)) (first_none (due v) t refl g r.0) (due_from v (at t r.0) r.2 r.3))

    by : (o : Option ℕ) → least_time t ≡ o → is_none o ≡ false →
        (c : ℕ) × (option_and_then (λ v. first (due v) t) o ≡ Some c)
    by None f g = absurd (true≢false g)
    by (Some v) f g = hit v f (first (due v) t) refl

-- nobody else can be
pub next_chosen : (t : Table) (c : ℕ) → Next t c → chosen t ≡ Some c
next_chosen t c n =
    let s = chosen_some t (busy (least_time t) refl) in
    let m = chosen_next t s.0 s.1 in
    s.1 ∙ ap Some (by m (cases_lt s.0 c))
  where
    busy : (o : Option ℕ) → least_time t ≡ o → is_none (least_time t) ≡ false
    busy None e = let r = least_some t c n.active in let z : ◌≡◌ {A = ℕ} 0 1 = cc in absurd (omega arith)
    busy (Some v) e = ap is_none e

    by : {d : ℕ} → Next t d → (d < c) ⊎ (c ≤ d) → d ≡ c
    by {d} m (inl h) = absurd (omega (arith, n.before d m.active h, m.least c n.active))
    by {d} m (inr h) = last (cases_lt c d)
      where
        last : (c < d) ⊎ (d ≤ c) → d ≡ c
        last (inl k) = absurd (omega (arith, m.before c n.active k, n.least d m.active))
        last (inr k) = omega arith
