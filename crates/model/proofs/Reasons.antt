-- Why a turn goes to whom it goes, and whom it is charged to.
use Rattle.std.proofs.Common.{◌≡◌, ℕ, ◌+◌, ◌*◌, ◌<◌, Bool, true, false, not, ◌&&◌, length, pos}
use Rattle.std.proofs.Common.{Some, None, Option, sym, refl, ap, ◌∙◌, subst, ap₂}
use lib.Signed.{le_z}
use Rattle.chooser.specs.Offers.{PicksOffered}
use Rattle.model.specs.Limits.{quarters}
use Rattle.model.specs.Session.{Session, able, leads}
use Rattle.model.specs.Table.{Table, at, change, active_count}
use Rattle.model.specs.Lists.{ListKind, Credit, Extra, offer, picked_from}
use Rattle.chooser.specs.Meaning.{Meaning, Lawful}
use Rattle.model.specs.Turn.{Way, by_right, by_allowance, by_credit, unclaimed, by_extra, idle, way}
use Rattle.model.specs.Turn.{sender, kind, sent_of}
use Rattle.model.specs.Turn.{charged, sends, hands_on, takes_up, turned}
use Rattle.model.specs.Departures.{departures}
use Rattle.model.specs.Reasons.{overdrawn, NobodyIn, sender_of, Reason}
use Rattle.model.specs.Cell.{Cell}
use Rattle.model.specs.Calls.{decide}
use Rattle.model.proofs.Ledger.{Ordered}
use Rattle.model.proofs.Tables.{at_change, at_other, change_same}
use Rattle.model.proofs.Departures.{depart_same}
use Rattle.model.proofs.Senders.{offered_is, sound_offer}

-- ---- why

nobody : (l : ListKind) (t : Table) → PicksOffered (offer l t) None → NobodyIn l t
nobody l t g j = sym (offered_is l t j) ∙ g j

reason : {C : Type 0} (M : Meaning C) (k : C) (t : Table) (c : ℕ) (a l b : Bool) (p q : Option ℕ) →
    p ≡ picked_from M k Credit t → q ≡ picked_from M k Extra t → able (at t c) ≡ a →
    overdrawn (at t c) ≡ (l && not b) →
    PicksOffered (offer Credit t) p → PicksOffered (offer Extra t) q →
    Reason M k t c (sender c (way a l b p q)) (kind (way a l b p q))
reason M k t c true false b p q f d e o g h = (refl, e, o)
reason M k t c true true true p q f d e o g h = (refl, e, o)
reason M k t c true true false (Some j) q f d e o g h =
    ((f, sym (offered_is Credit t j) ∙ g), ap₂ (λ (a z : Bool). a && not z) e o)
reason M k t c true true false None q f d e o g h = (refl, e, o, nobody Credit t g)
reason M k t c false l b (Some j) q f d e o g h =
    ((f, sym (offered_is Credit t j) ∙ g), ap (λ (a : Bool). a && not (overdrawn (at t c))) e)
reason M k t c false l b None (Some j) f d e o g h =
    ((d, sym (offered_is Extra t j) ∙ h), e, nobody Credit t g)
reason M k t c false l b None None f d e o g h = (refl, nobody Credit t g, nobody Extra t h)

-- the place that an answer names
pub sender_is : (t : Table) (o : Option ℕ) → sender_of (sent_of t o) ≡ o
sender_is t None = refl
sender_is t (Some q) = refl

pub way_reason : {C : Type 0} (M : Meaning C) → Lawful M → (x : Cell C) (c : ℕ) → Ordered x →
    let w = decide M x.chooser x.table c in
    Reason M x.chooser x.table c (sender_of (sent_of x.table (sender c w))) (kind w)
way_reason M law x c f =
    let t = x.table in
    let w = decide M x.chooser x.table c in
    subst (λ (o : Option ℕ). Reason M x.chooser t c o (kind w)) (sym (sender_is t (sender c w)))
    (reason M x.chooser t c (able (at t c)) (leads (at t c)) (le_z (pos 0) (at t c).allowance) _ _ refl refl refl refl
    (law x.chooser Credit (offer Credit t) (sound_offer x f Credit))
    (law x.chooser Extra (offer Extra t) (sound_offer x f Extra)))

-- ---- whom it is charged to

-- n bytes at the price of place c are charged to it between two tables, and nothing to any other
abbrev pub Charged : ℕ → ℕ → Table → Table → Type 0
Charged c n t u =
    ((at u c).virtual_time ≡ (at t c).virtual_time + n * (at t c).price) ×
    ((i : ℕ) → (c ≡ i → ⊥) → (at u i).virtual_time ≡ (at t i).virtual_time)

module _ (keep c n : ℕ) (t : Table) (inside : c < length t) where
  alone : (f : Session → Session) →
      ((s : Session) → (f s).virtual_time ≡ s.virtual_time + n * s.price) →
      Charged c n t (change t c f)
  alone f h =
      let time = λ (s : Session). s.virtual_time in
      (ap time (at_change t c f inside) ∙ h (at t c), λ i d. ap time (at_other t c i f d))

  and_then : (u v : Table) → ((j : ℕ) → (at v j).virtual_time ≡ (at u j).virtual_time) →
      Charged c n t u → Charged c n t v
  and_then u v same h = (same c ∙ h.0, λ i d. same i ∙ h.1 i d)

  handed : (q : ℕ) → Charged c n t (change (change t c (hands_on keep n)) q (takes_up n))
  handed q =
      and_then (change t c (hands_on keep n)) _
      (change_same (λ s. s.virtual_time) (change t c (hands_on keep n)) q (takes_up n) (λ s. refl)) (alone (hands_on keep n) (λ s. refl))

  way_charged : (w : Way) → Charged c n t (turned keep t c n w)
  way_charged by_right = alone (sends keep 0 n) (λ s. refl)
  way_charged by_allowance = alone (sends keep quarters n) (λ s. refl)
  way_charged (by_credit q) = handed q
  way_charged unclaimed = alone (sends keep 0 n) (λ s. refl)
  way_charged (by_extra q) = handed q
  way_charged idle = alone (charged keep 0 n) (λ s. refl)

  pub turn_charged : (w : Way) → Charged c n t (departures (turned keep t c n w))
  unfolding departures
  turn_charged w =
      let u = turned keep t c n w in
      and_then u _ (depart_same (λ s. s.virtual_time) (λ _ _. refl) (λ _. refl) (active_count u) u) (way_charged w)
