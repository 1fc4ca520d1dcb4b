-- One departure, and all of them, as the code makes them.
use Rattle.std.proofs.Common.{◌≡◌, ℕ, suc, ◌+◌, ◌≤◌, Some, None, Option, sym, refl, ap, ◌∙◌, arith}
use Rattle.std.proofs.lemmas.Bool.{cond_both}
use Rattle.model.specs.Departures.{departing, gone, active_rate, share, departed, depart, departures}
use Rattle.model.specs.Session.{above_zero}
use Rattle.model.specs.Table.{Table, at, change, total, total_owed, booked_total, first, active_count}
use Rattle.model.proofs.Departures.{once_fewer, depart_still, depart_total, depart_owes}
use Rattle.model.proofs.Tables.{first_found, total_change, total_same, total_le}

-- those who share have booked their rates
pub rates_gone : (t : Table) (k : ℕ) → total active_rate (change t k gone) ≤ booked_total t
rates_gone t k =
    let u = change t k gone in
    let less = total_le active_rate (λ s. s.rate) u (λ j. cond_both (at u j).active (at u j).rate 0 (λ n. n ≤ (at u j).rate) (λ _. omega arith) (λ _. omega arith)) in
    omega (arith, less, total_same (λ s. s.rate) t k gone refl)

-- a departure is a lag shared over the table without its session
pub departed_is : (t : Table) (k lag rates : ℕ) (left : Table) → left ≡ change t k gone → lag ≡ above_zero (at t k).lag → rates ≡ total active_rate left
    → share lag rates 0 left ≡ departed t (Some k)
unfolding departed
departed_is t k lag rates left e l r =
    ap (λ (u : Table). share lag rates 0 u) e
    ∙ ap (λ (n : ℕ). share n rates 0 (change t k gone)) l
    ∙ ap (λ (n : ℕ). share (above_zero (at t k).lag) n 0 (change t k gone)) (r ∙ ap (total active_rate) e)

-- a departure keeps what is booked, and adds nothing to what is owed
module _ (t : Table) (k : ℕ) (found : first departing t ≡ Some k) where
  -- what the others are owed, and what the one was that is gone
  pub owed_gone : total_owed (change t k gone) + above_zero (at t k).lag ≡ total_owed t
  owed_gone = omega (arith, total_change (λ s. above_zero s.lag) t k gone (first_found departing t k found).0)

  pub same_booked : booked_total (departed t (Some k)) ≡ booked_total t
  unfolding depart
  same_booked = ap (λ (o : Option ℕ). booked_total (departed t o)) (sym found) ∙ depart_total (λ s. s.rate) (λ n s. refl) (λ s. refl) 1 t

  pub no_more_owed : total_owed (departed t (Some k)) ≤ total_owed t
  unfolding depart
  no_more_owed = omega (arith, ap (λ (o : Option ℕ). total_owed (departed t o)) (sym found), depart_owes 1 t)

-- one departure, and then the others
pub departures_more : (t : Table) (k : ℕ) → first departing t ≡ Some k → departures t ≡ departures (departed t (Some k))
unfolding departures depart
departures_more t k found =
    let n : active_count t ≡ suc (active_count (departed t (Some k))) = omega (arith, once_fewer t k found) in
    ap (λ (n : ℕ). depart n t) n ∙ ap (λ (o : Option ℕ). depart (active_count (departed t (Some k))) (departed t o)) found

-- nobody departs
pub departures_none : (t : Table) → first departing t ≡ None → departures t ≡ t
unfolding departures
departures_none t e = depart_still (active_count t) t e

-- for the goals of the recursion
pub ruleset onward = (once_fewer, same_booked, no_more_owed, departures_more, departures_none)
