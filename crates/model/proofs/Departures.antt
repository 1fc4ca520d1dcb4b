-- Departures keep the accounts, and end when nobody is gone to depart.
use Rattle.std.proofs.Common.{◌≡◌, ℕ, zero, suc, ◌+◌, ◌-◌, ◌*◌, ◌/◌, ◌<◌, ◌≤◌, Bool, true, false}
use Rattle.std.proofs.Common.{not, ◌&&◌, ◌||◌, ◌⊎◌, [], ◌∷◌, length, ℤ, pos, negsuc, ◌+ℤ◌, ◌≤ℤ◌}
use Rattle.std.proofs.Common.{Some, None, Option, sym, refl, ap, ◌∙◌, subst, ap₂, inl, inr}
use Rattle.std.proofs.Common.{le_trans, le_refl, add-zero, mul-le-mul_left, mul-zero}
use Rattle.std.proofs.Common.{le-div_iff_mul-le, zero-add, div-mul-le_self, mul-div_cancel, arith}
use native.Mathlib.Nat.{div-zero}
use native.Mathlib.Nat.{zero-div, sub_self}
use lib.Signed.{lt_z}
use borrow.Author.Differences.{ints}
use Rattle.std.proofs.lemmas.Bool.{cases_Bool, both_ways, true≢false, false≢true, and_parts}
use Rattle.std.proofs.lemmas.Bool.{not-true, cond-true, cond-false}
use Rattle.tariff.specs.Tariff.{link}
use Rattle.model.specs.Session.{Session, vacant, waiting, leads, above_zero}
use Rattle.model.specs.Table.{active_count, Table, at, change, total, totalℤ, first, one_if}
use Rattle.model.specs.Table.{total_owed}
use Rattle.model.specs.Turn.{owed}
use Rattle.model.specs.Departures.{departing, gone, active_rate, share, departed, depart}
use Rattle.model.specs.Departures.{departures}
use Rattle.model.specs.Sound.{Midway}
use Rattle.model.proofs.Tables.{length_change, at_other, total_change, total_same, totalℤ_change}
use Rattle.model.proofs.Tables.{totalℤ_none}
use Rattle.model.proofs.Tables.{total_zero, first_found, first_none, first_never, each_change}
use Rattle.model.proofs.Tables.{change_same}
use Rattle.model.proofs.Ledger.{Row, Draft}
use Rattle.model.proofs.Share.{active_booked}

div_mono : (r : ℕ) {a b : ℕ} → a ≤ b → a / r ≤ b / r
div_mono zero {a} {b} h = omega (arith, div-zero a, div-zero b)
div_mono (suc r) {a} {b} h =
    (le-div_iff_mul-le (omega arith)).1 (le_trans (div-mul-le_self a (suc r)) h)

pub owed_more : (z : ℤ) (n : ℕ) → above_zero (z +ℤ pos n) ≤ above_zero z + n
owed_more z n = by (z +ℤ pos n) z refl
  where
    by : (w z : ℤ) → w ≡ z +ℤ pos n → above_zero w ≤ above_zero z + n
    by (pos k) (pos a) e = omega (arith, ints)
    by (pos k) (negsuc a) e = omega (arith, ints)
    by (negsuc k) z e = omega arith

-- ---- one lag shared

length_share : (l r c : ℕ) (t : Table) → length (share l r c t) ≡ length t
unfolding share
length_share l r c [] = refl
length_share l r c (s ∷ t) = ap suc (length_share l r (c + active_rate s) t)

no_part : (l r c a : ℕ) → a ≡ 0 → l * (c + a) / r - l * c / r ≡ 0
no_part l r c a e =
    ap (λ (a : ℕ). l * (c + a) / r - l * c / r) e ∙ ap (λ (k : ℕ). l * k / r - l * c / r) (add-zero c) ∙ sub_self (l * c / r)

-- each place gets a part, and one that is not active gets None
pub share_at : (l r c : ℕ) (t : Table) (j : ℕ) →
    (n : ℕ) × (at (share l r c t) j ≡ owed n (at t j)) × ((at t j).active ≡ false → n ≡ 0)
unfolding at share
share_at l r c [] j = (0, refl, λ e. refl)
share_at l r c (s ∷ t) zero =
    (l * (c + active_rate s) / r - l * c / r, refl, λ e. no_part l r c (active_rate s) (cond-false s.active s.rate 0 e))
share_at l r c (s ∷ t) (suc j) = share_at l r (c + active_rate s) t j

total_share : (g : Session → ℕ) → ((n : ℕ) (s : Session) → g (owed n s) ≡ g s) →
    (l r c : ℕ) (t : Table) →
    total g (share l r c t) ≡ total g t
unfolding share total
total_share g h l r c [] = refl
total_share g h l r c (s ∷ t) =
    omega (arith, h (l * (c + active_rate s) / r - l * c / r) s, total_share g h l r (c + active_rate s) t)

-- the parts add up
pub parts : (l r c e : ℕ) (t : Table) → c + total active_rate t ≡ e →
    totalℤ (λ s. s.lag) (share l r c t) ≡ totalℤ (λ s. s.lag) t +ℤ pos (l * e / r - l * c / r)
unfolding share total totalℤ
parts l r c e [] h =
    let z : l * e / r - l * c / r ≡ 0 = ap (λ (k : ℕ). l * k / r - l * c / r) (sym h ∙ add-zero c) ∙ sub_self (l * c / r) in
    ap pos (omega arith)
parts l r c e (s ∷ t) h =
    let f = parts l r (c + active_rate s) e t (omega arith) in
    let low : l * c / r ≤ l * (c + active_rate s) / r = div_mono r (mul-le-mul_left l (omega arith)) in
    let high : l * (c + active_rate s) / r ≤ l * e / r = div_mono r (mul-le-mul_left l (omega arith)) in
    joined s.lag _ _ _ _ _ f low high
  where
    joined : (a b d : ℤ) (x y z : ℕ) → d ≡ b +ℤ pos (z - y) → x ≤ y → y ≤ z →
        (a +ℤ pos (y - x)) +ℤ d ≡ (a +ℤ b) +ℤ pos (z - x)
    joined a b d x y z f low high = omega (arith, ints)

-- and no more is owed after than before, but for what was shared
parts_owed : (l r c e : ℕ) (t : Table) → c + total active_rate t ≡ e →
    total_owed (share l r c t) ≤ total_owed t + (l * e / r - l * c / r)
unfolding share total
parts_owed l r c e [] h = omega arith
parts_owed l r c e (s ∷ t) h =
    let f = parts_owed l r (c + active_rate s) e t (omega arith) in
    let low : l * c / r ≤ l * (c + active_rate s) / r = div_mono r (mul-le-mul_left l (omega arith)) in
    let high : l * (c + active_rate s) / r ≤ l * e / r = div_mono r (mul-le-mul_left l (omega arith)) in
    let g = owed_more s.lag (l * (c + active_rate s) / r - l * c / r) in
    omega arith

-- ---- one departure

departs : (s : Session) → departing s ≡ true →
    (s.active ≡ true) × (waiting s ≡ false) × (leads s ≡ false)
departs s e =
    let p = and_parts s.active (not (waiting s) && not (leads s)) e in
    let q = and_parts (not (waiting s)) (not (leads s)) p.1 in
    (p.0, not-true (waiting s) q.0, not-true (leads s) q.1)

pub whole : (l r : ℕ) → (r ≡ 0 → l ≡ 0) → l * r / r - l * 0 / r ≡ l
whole l zero h = sub_self (l * 0 / 0) ∙ sym (h refl)
whole l (suc r) h =
    let a = mul-div_cancel l {n = suc r} (omega arith) in
    let b : l * 0 / suc r ≡ 0 = ap (λ (k : ℕ). k / suc r) (mul-zero l) ∙ zero-div (suc r) in
    omega arith

not_more : (l r : ℕ) → l * r / r - l * 0 / r ≤ l
not_more l zero = omega (arith, sub_self (l * 0 / 0))
not_more l (suc r) = omega (arith, mul-div_cancel l {n = suc r} (omega arith))

-- the table without the one that departs, what it was owed, and the rates that share it
abbrev less : Table → ℕ → Table
less t k = change t k gone

abbrev lost : Table → ℕ → ℕ
lost t k = above_zero (at t k).lag

abbrev rates_left : Table → ℕ → ℕ
rates_left t k = total active_rate (less t k)

still : (z : ℤ) (n : ℕ) → z ≡ pos 0 → n ≡ 0 → z +ℤ pos n ≡ pos 0
still z n a b = omega (arith, ints)

row_owed : (m n : ℕ) (s : Session) → Row m s → (s.active ≡ false → n ≡ 0) → Row m (owed n s)
row_owed m n s r h = record {
  priced = r.priced;
  bare = λ b. none (r.bare b);
  near = r.near;
  ahead = r.ahead;
  quiet = λ e. (still s.lag n (r.quiet e).0 (h e), (r.quiet e).1);
  frames = r.frames;
  room = r.room;
}
  where
    none : s ≡ vacant → owed n s ≡ vacant
    none e = ap₂ owed (h (ap (λ (s : Session). s.active) e)) e

row_gone : (m : ℕ) (s : Session) → Row m s → s.active ≡ true → waiting s ≡ false → Row m (gone s)
row_gone m s r a w = record {
  priced = r.priced;
  bare = λ b. absurd (both_ways s.booked b (active_booked m s r a));
  near = r.near;
  ahead = λ e. absurd (false≢true e);
  quiet = λ e. (refl, w);
  frames = r.frames;
  room = r.room;
}

above_is : (z : ℤ) → lt_z z (pos 0) ≡ false → z ≡ pos (above_zero z)
above_is (pos n) e = refl
above_is (negsuc n) e = absurd (true≢false e)

-- who shares by rate 0 is not active
rate_counts : (s : Session) → (s.active ≡ true → 0 < s.rate) → active_rate s ≡ 0 → s.active ≡ false
rate_counts s r e = by (cases_Bool s.active)
  where
    by : (s.active ≡ true) ⊎ (s.active ≡ false) → s.active ≡ false
    by (inr h) = h
    by (inl h) = absurd (omega (arith, r h, cond-true s.active s.rate 0 h))

-- an active session has booked a rate
rate_some : (m : ℕ) (s : Session) → Row m s → s.active ≡ true → 0 < s.rate
rate_some m s r a = by s.rate (r.priced (active_booked m s r a))
  where
    by : (k : ℕ) → k * s.price ≡ link → 0 < k
    by zero e = absurd (omega arith)
    by (suc k) e = omega arith

pub midway_of : (m most : ℕ) (t : Table) → Draft m t → total_owed t ≤ most → Midway most t
midway_of m most t d o = record {
  size = d.size;
  rates = d.rates;
  balance = d.balance;
  owing = o;
  quiet = λ j a. ((d.rows j).quiet a).0;
  counted = λ j. rate_some m (at t j) (d.rows j);
}

-- a session that has no frame and does not lead departs
module _ (t : Table) (k : ℕ) (inside : k < length t) (goes : departing (at t k) ≡ true) where
  lag_less : totalℤ (λ s. s.lag) (less t k) +ℤ pos (lost t k) ≡ totalℤ (λ s. s.lag) t
  lag_less =
      let a = totalℤ_change (λ s. s.lag) t k gone inside in
      let b = above_is (at t k).lag (departs (at t k) goes).2 in
      omega (arith, ints)

  -- what it was owed is handed out whole, unless nobody is left to have it
  pub departed_sum : (rates_left t k ≡ 0 → lost t k ≡ 0) →
      totalℤ (λ s. s.lag) (departed t (Some k)) ≡ totalℤ (λ s. s.lag) t
  unfolding departed
  departed_sum h =
      parts (lost t k) (rates_left t k) 0 (rates_left t k) (less t k) (zero-add (rates_left t k))
      ∙ ap (λ (n : ℕ). totalℤ (λ s. s.lag) (less t k) +ℤ pos n) (whole (lost t k) (rates_left t k) h)
      ∙ lag_less

  -- no more is owed than before
  departed_owes : total_owed (departed t (Some k)) ≤ total_owed t
  unfolding departed
  departed_owes =
      let a = parts_owed (lost t k) (rates_left t k) 0 (rates_left t k) (less t k) (zero-add (rates_left t k)) in
      let b = total_change (λ s. above_zero s.lag) t k gone inside in
      let c = not_more (lost t k) (rates_left t k) in
      omega arith

  module _ (most : ℕ) (d : Midway most t) where
    quiet_less : (j : ℕ) → (at (less t k) j).active ≡ false → (at (less t k) j).lag ≡ pos 0
    quiet_less = each_change (λ s. s.active ≡ false → s.lag ≡ pos 0) t k gone d.quiet (λ _. refl)

    counted_less : (j : ℕ) → (at (less t k) j).active ≡ true → 0 < (at (less t k) j).rate
    counted_less = each_change (λ s. s.active ≡ true → 0 < s.rate) t k gone d.counted (λ e. absurd (false≢true e))

    -- with nobody left to share it, nothing was owed
    nobody_left : rates_left t k ≡ 0 → lost t k ≡ 0
    nobody_left e =
        let z =
        totalℤ_none (λ s. s.lag) (less t k)
        (λ j. quiet_less j (rate_counts (at (less t k) j) (counted_less j) (total_zero active_rate (less t k) e refl j))) in
        let a = lag_less ∙ d.balance in
        omega (arith, ints)

    departed_midway : Midway most (departed t (Some k))
    unfolding departed
    departed_midway = record {
      size =
          length_share (lost t k) (rates_left t k) 0 (less t k) ∙ length_change t k gone ∙ d.size;
      rates =
          omega (
            arith,
            total_share (λ s. s.rate) (λ n s. refl) (lost t k) (rates_left t k) 0 (less t k),
            total_same (λ s. s.rate) t k gone refl,
            d.rates,
          );
      balance = departed_sum nobody_left ∙ d.balance;
      owing = le_trans departed_owes d.owing;
      quiet =
          λ j. let r = given j in subst (λ (s : Session). s.active ≡ false → s.lag ≡ pos 0) (sym r.1)
          (λ a. still (at (less t k) j).lag r.0 (quiet_less j a) (r.2 a));
      counted = λ j. let r = given j in subst (λ (s : Session). s.active ≡ true → 0 < s.rate) (sym r.1) (counted_less j);
    }
      where
        given : (j : ℕ) →
            (n : ℕ) × (at (share (lost t k) (rates_left t k) 0 (less t k)) j ≡ owed n (at (less t k) j)) × ((at (less t k) j).active ≡ false → n ≡ 0)
        given j = share_at (lost t k) (rates_left t k) 0 (less t k) j

  departed_draft : (m : ℕ) → Draft m t → Draft m (departed t (Some k))
  unfolding departed
  departed_draft m d =
      let w = departed_midway (total_owed t) (midway_of m (total_owed t) t d (le_refl (total_owed t))) in
      let rows =
      each_change (Row m) t k gone d.rows
      (row_gone m (at t k) (d.rows k) (departs (at t k) goes).0 (departs (at t k) goes).1) in
      record {
        size = w.size;
        rows =
            λ j. let r = share_at (lost t k) (rates_left t k) 0 (less t k) j in subst (Row m) (sym r.1)
            (row_owed m r.0 (at (less t k) j) (rows j) r.2);
        rates = w.rates;
        balance = w.balance;
      }

  -- one active session less
  departed_count : active_count (departed t (Some k)) + 1 ≡ active_count t
  unfolding departed
  departed_count =
      let a = total_share (λ s. one_if s.active) (λ n s. refl) (lost t k) (rates_left t k) 0 (less t k) in
      let b = total_change (λ s. one_if s.active) t k gone inside in
      let c : one_if (at t k).active ≡ 1 = ap one_if (departs (at t k) goes).0 in
      omega arith

  -- a session with a frame stays, and its lag does not fall
  departed_waits : (j : ℕ) → waiting (at t j) ≡ true →
      (n : ℕ) × (at (departed t (Some k)) j ≡ owed n (at t j))
  unfolding departed
  departed_waits j w =
      let r = share_at (lost t k) (rates_left t k) 0 (less t k) j in
      (r.0, r.1 ∙ ap (owed r.0) (at_other t k j gone other))
    where
      other : k ≡ j → ⊥
      other e = both_ways (waiting (at t j)) (subst (λ (j : ℕ). waiting (at t j) ≡ false) e (departs (at t k) goes).1) w

  -- what does not read lag or status
  departed_same : {X : Type 0} (g : Session → X) → ((n : ℕ) (s : Session) → g (owed n s) ≡ g s) →
      ((s : Session) → g (gone s) ≡ g s) → (j : ℕ) → g (at (departed t (Some k)) j) ≡ g (at t j)
  unfolding departed
  departed_same g h l j =
      let r = share_at (lost t k) (rates_left t k) 0 (less t k) j in
      ap g r.1 ∙ h r.0 (at (less t k) j) ∙ change_same g t k gone l j

  departed_total : (g : Session → ℕ) → ((n : ℕ) (s : Session) → g (owed n s) ≡ g s) →
      ((s : Session) → g (gone s) ≡ g s) → total g (departed t (Some k)) ≡ total g t
  unfolding departed
  departed_total g h l =
      total_share g h (lost t k) (rates_left t k) 0 (less t k) ∙ total_same g t k gone (l (at t k))

-- ---- all departures

once_draft : (m : ℕ) (t : Table) (o : Option ℕ) → first departing t ≡ o → Draft m t →
    Draft m (departed t o)
unfolding departed
once_draft m t None e d = d
once_draft m t (Some k) e d = let f = first_found departing t k e in departed_draft t k f.0 f.1 m d

pub once_fewer : (t : Table) (k : ℕ) → first departing t ≡ Some k →
    active_count (departed t (Some k)) + 1 ≡ active_count t
once_fewer t k e = let f = first_found departing t k e in departed_count t k f.0 f.1

pub depart_draft : (m n : ℕ) (t : Table) → Draft m t → Draft m (depart n t)
unfolding depart
depart_draft m zero t d = d
depart_draft m (suc n) t d =
    depart_draft m n (departed t (first departing t)) (once_draft m t (first departing t) refl d)

once_same : {X : Type 0} (g : Session → X) → ((n : ℕ) (s : Session) → g (owed n s) ≡ g s) →
    ((s : Session) → g (gone s) ≡ g s) → (t : Table) (o : Option ℕ) → first departing t ≡ o →
    (j : ℕ) →
    g (at (departed t o) j) ≡ g (at t j)
unfolding departed
once_same g h l t None e j = refl
once_same g h l t (Some k) e j = let f = first_found departing t k e in departed_same t k f.0 f.1 g h l j

pub depart_same : {X : Type 0} (g : Session → X) → ((n : ℕ) (s : Session) → g (owed n s) ≡ g s) →
    ((s : Session) → g (gone s) ≡ g s) → (n : ℕ) (t : Table) (j : ℕ) →
    g (at (depart n t) j) ≡ g (at t j)
unfolding depart
depart_same g h l zero t j = refl
depart_same g h l (suc n) t j =
    depart_same g h l n (departed t (first departing t)) j ∙ once_same g h l t (first departing t) refl j

once_total : (g : Session → ℕ) → ((n : ℕ) (s : Session) → g (owed n s) ≡ g s) →
    ((s : Session) → g (gone s) ≡ g s) →
    (t : Table) (o : Option ℕ) → first departing t ≡ o → total g (departed t o) ≡ total g t
unfolding departed
once_total g h l t None e = refl
once_total g h l t (Some k) e = let f = first_found departing t k e in departed_total t k f.0 f.1 g h l

pub depart_total : (g : Session → ℕ) → ((n : ℕ) (s : Session) → g (owed n s) ≡ g s) →
    ((s : Session) → g (gone s) ≡ g s) → (n : ℕ) (t : Table) → total g (depart n t) ≡ total g t
unfolding depart
depart_total g h l zero t = refl
depart_total g h l (suc n) t = depart_total g h l n (departed t (first departing t)) ∙ once_total g h l t (first departing t) refl

once_owes : (t : Table) (o : Option ℕ) → first departing t ≡ o →
    total_owed (departed t o) ≤ total_owed t
unfolding departed
once_owes t None e = le_refl _
once_owes t (Some k) e = let f = first_found departing t k e in departed_owes t k f.0 f.1

pub depart_owes : (n : ℕ) (t : Table) → total_owed (depart n t) ≤ total_owed t
unfolding depart
depart_owes zero t = le_refl _
depart_owes (suc n) t =
    le_trans (depart_owes n (departed t (first departing t))) (once_owes t (first departing t) refl)

-- a session with a frame keeps its lag or gets more
once_waits : (t : Table) (o : Option ℕ) → first departing t ≡ o → (j : ℕ) →
    waiting (at t j) ≡ true →
    (at t j).lag ≤ℤ (at (departed t o) j).lag
unfolding departed
once_waits t None e j w = omega (arith, ints)
once_waits t (Some k) e j w =
    let f = first_found departing t k e in
    let r = departed_waits t k f.0 f.1 j w in
    let q : (at (departed t (Some k)) j).lag ≡ (at t j).lag +ℤ pos r.0 = ap (λ (s : Session). s.lag) r.1 in
    omega (arith, ints)

le_transℤ : (a b c : ℤ) → a ≤ℤ b → b ≤ℤ c → a ≤ℤ c
le_transℤ a b c h k = omega (arith, ints)

pub depart_waits : (n : ℕ) (t : Table) (j : ℕ) → waiting (at t j) ≡ true →
    (at t j).lag ≤ℤ (at (depart n t) j).lag
unfolding depart
depart_waits zero t j w = omega (arith, ints)
depart_waits (suc n) t j w =
    le_transℤ _ _ _ (once_waits t (first departing t) refl j w)
    (depart_waits n (departed t (first departing t)) j (once_same waiting (λ n s. refl) (λ s. refl) t (first departing t) refl j ∙ w))

pub depart_still : (n : ℕ) (t : Table) → first departing t ≡ None → depart n t ≡ t
unfolding depart departed
depart_still zero t e = refl
depart_still (suc n) t e = ap (λ (o : Option ℕ). depart n (departed t o)) e ∙ depart_still n t e

-- nobody is gone to depart
depart_ends : (n : ℕ) (t : Table) → active_count t ≤ n → first departing (depart n t) ≡ None
unfolding depart departed
depart_ends zero t h = first_never departing t (λ j. quiet j)
  where
    quiet : (j : ℕ) → departing (at t j) ≡ false
    quiet j = by (cases_Bool (at t j).active)
      where
        by : ((at t j).active ≡ true) ⊎ ((at t j).active ≡ false) → departing (at t j) ≡ false
        by (inl e) =
            let z = total_zero (λ s. one_if s.active) t (omega arith) refl j in
            let o : one_if (at t j).active ≡ 1 = ap one_if e in
            absurd (omega arith)
        by (inr e) = ap (λ (b : Bool). b && (not (waiting (at t j)) && not (leads (at t j)))) e
depart_ends (suc n) t h = by (first departing t) refl (λ u g. depart_ends n u g)
  where
    by : (o : Option ℕ) → first departing t ≡ o →
        ((u : Table) → active_count u ≤ n → first departing (depart n u) ≡ None) →
        first departing (depart n (departed t (first departing t))) ≡ None
    by None e ih =
        ap (λ (o : Option ℕ). first departing (depart n (departed t o))) e ∙ ap (first departing) (depart_still n t e) ∙ e
    by (Some k) e ih =
        let f = first_found departing t k e in
        let c = departed_count t k f.0 f.1 in
        ap (λ (o : Option ℕ). first departing (depart n (departed t o))) e ∙ ih (departed t (Some k)) (omega arith)

stays_busy : (s : Session) → departing s ≡ false → s.active ≡ true → (waiting s || leads s) ≡ true
stays_busy s e a = by (waiting s) (leads s) (sym (ap (λ (b : Bool). b && (not (waiting s) && not (leads s))) a) ∙ e)
  where
    by : (w g : Bool) → (not w && not g) ≡ false → (w || g) ≡ true
    by true g h = refl
    by false true h = refl
    by false false h = absurd (true≢false h)

-- nobody is left that would depart
pub departures_end : (t : Table) (j : ℕ) → departing (at (departures t) j) ≡ false
unfolding departures
departures_end t j =
    first_none departing (depart (active_count t) t) refl (depart_ends (active_count t) t (le_refl (active_count t))) j

pub departures_busy : (t : Table) (j : ℕ) → (at (departures t) j).active ≡ true →
    (waiting (at (departures t) j) || leads (at (departures t) j)) ≡ true
departures_busy t j a = stays_busy (at (departures t) j) (departures_end t j) a
