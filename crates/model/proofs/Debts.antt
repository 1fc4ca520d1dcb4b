-- The debt that a turn leaves: what another sent in it is owed to the chosen, and nothing else
-- moves a lag but a departure.
use Rattle.std.proofs.Common.{◌≡◌, ℕ, zero, suc, ◌+◌, ◌<◌, ◌≤◌, length, Some, None, Option, sym}
use Rattle.std.proofs.Common.{refl, ap, ◌∙◌, subst, le_trans, le_refl, arith}
use Rattle.model.specs.Session.{Session}
use Rattle.model.specs.Table.{Table, at, change, first, one_if, active_count}
use Rattle.model.specs.Turn.{Way, sender, sent_of, charged, sends, hands_on, takes_up, turned}
use Rattle.model.specs.Departures.{departing, departed, depart, departures}
use Rattle.model.specs.Reasons.{sender_of, Debt}
use Rattle.model.proofs.Tables.{length_change, at_change, at_other, change_same, total_same}
use Rattle.model.proofs.Departures.{once_fewer, depart_still}
use Rattle.model.proofs.Share.{able_within}
use Rattle.model.proofs.Senders.{Rightly}
use Rattle.model.proofs.Reasons.{sender_is}
use Rattle.model.proofs.Turn.{Handed, each_way}

-- ---- a turn in which as many are active after it as before: nobody departed

depart_fewer : (n : ℕ) (t : Table) → active_count (depart n t) ≤ active_count t
unfolding depart departed
depart_fewer zero t = le_refl _
depart_fewer (suc n) t =
    le_trans (depart_fewer n (departed t (first departing t))) (once (first departing t) refl)
  where
    once : (o : Option ℕ) → first departing t ≡ o → active_count (departed t o) ≤ active_count t
    once None e = le_refl _
    once (Some k) e = omega (arith, once_fewer t k e)

goes : (n : ℕ) (t : Table) (k : ℕ) → first departing t ≡ Some k →
    active_count (depart (suc n) t) + 1 ≤ active_count t
unfolding depart
goes n t k e =
    let same = ap (λ (o : Option ℕ). active_count (depart n (departed t o))) e in
    omega (arith, depart_fewer n (departed t (Some k)), once_fewer t k e)

none_goes : (n : ℕ) (t : Table) → active_count t ≡ n → active_count (depart n t) ≡ n →
    depart n t ≡ t
none_goes n t = by n (first departing t) refl
  where
    by : (n : ℕ) (o : Option ℕ) → first departing t ≡ o → active_count t ≡ n →
        active_count (depart n t) ≡ n → depart n t ≡ t
    by n None f a e = depart_still n t f
    by zero (Some k) f a e = absurd (omega (arith, once_fewer t k f))
    by (suc n) (Some k) f a e = absurd (omega (arith, goes n t k f))

nobody_departs : (t : Table) → active_count (departures t) ≡ active_count t → departures t ≡ t
unfolding departures
nobody_departs t e = none_goes (active_count t) t refl e

-- ---- the lags

module _ (keep n : ℕ) (t : Table) (c : ℕ) (inside : c < length t) where
  alone : (f : Session → Session) → ((s : Session) → (f s).lag ≡ s.lag) →
      Debt c n (Some c) t (change t c f)
  alone f h = (λ _. change_same (λ s. s.lag) t c f h, λ d. absurd (d refl))

  handed : (q : ℕ) → Handed t c q →
      Debt c n (Some q) t (change (change t c (hands_on keep n)) q (takes_up n))
  handed q p =
      let given = change t c (hands_on keep n) in
      let lag = λ (s : Session). s.lag in
      let inq : q < length given = omega (arith, length_change t c (hands_on keep n), able_within t q p.ready) in (
        λ e. absurd (p.apart e),
        λ _. (
          ap lag (at_other given q c (takes_up n) (λ e. p.apart (sym e)) ∙ at_change t c (hands_on keep n) inside),
          ap lag (at_change given q (takes_up n) inq ∙ ap (takes_up n) (at_other t c q (hands_on keep n) p.apart)),
          λ i d e. ap lag (at_other given q i (takes_up n) e ∙ at_other t c i (hands_on keep n) d),
        ),
      )

  way_debt : (w : Way) → Rightly t (at t c) w → Debt c n (sender c w) t (turned keep t c n w)
  way_debt =
      each_way keep n t c (λ o u. Debt c n o t u) (λ spent _ _. alone (sends keep spent n) (λ s. refl)) handed
      (λ _. change_same (λ s. s.lag) t c (charged keep 0 n) (λ s. refl))

  -- no turn makes anybody active, or ends that, before departures
  way_active : (w : Way) → Rightly t (at t c) w →
      active_count (turned keep t c n w) ≡ active_count t
  way_active =
      let one = λ (s : Session). one_if s.active in
      each_way keep n t c (λ _ u. active_count u ≡ active_count t) (λ spent _ _. total_same one t c (sends keep spent n) refl)
      (λ q _. total_same one (change t c (hands_on keep n)) q (takes_up n) refl ∙ total_same one t c (hands_on keep n) refl)
      (λ _. total_same one t c (charged keep 0 n) refl)

  -- as its answer names the sender
  pub turn_debt : (w : Way) → Rightly t (at t c) w →
      let u = departures (turned keep t c n w) in
      active_count u ≡ active_count t → Debt c n (sender_of (sent_of t (sender c w))) t u
  turn_debt w r e =
      let u = turned keep t c n w in
      let v = departures u in
      let stays = nobody_departs u (e ∙ sym (way_active w r)) in
      subst (λ (o : Option ℕ). Debt c n o t v) (sym (sender_is t (sender c w)))
      (subst (Debt c n (sender c w) t) (sym stays) (way_debt w r))
