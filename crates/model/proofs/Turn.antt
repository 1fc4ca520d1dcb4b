-- What one turn leaves in the accounts before departures: the chosen session is charged, and if it
-- hands its turn on, another is repaid what the chosen is owed.
use Rattle.std.proofs.Common.{◌≡◌, ℕ, ◌+◌, ◌-◌, ◌*◌, ◌<◌, ◌≤◌, true, false, cond, eqb, ◌⊎◌, List}
use Rattle.std.proofs.Common.{[], ◌∷◌, length, ℤ, pos, negsuc, ◌+ℤ◌, ◌-ℤ◌, ◌≤ℤ◌, Some, None, Option}
use Rattle.std.proofs.Common.{sym, refl, ap, ◌∙◌, subst, ap₂, inl, inr, le_trans, le_refl}
use Rattle.std.proofs.Common.{mul-le-mul_right, arith}
use native.Mathlib.Decide.{ℕ_discrete}
use lib.Signed.{lt_z}
use borrow.Author.Differences.{ints}
use Rattle.std.proofs.lemmas.Bool.{both_ways, false≢true, and_parts, cond-true, cond-false, eq-eqb}
use Rattle.std.proofs.lemmas.Bool.{ne_eqb}
use Rattle.std.specs.List.{AllByRecursion}
use Rattle.tariff.specs.Tariff.{link}
use Rattle.model.specs.Limits.{longest, quarters}
use Rattle.model.specs.Session.{Frame, Session, able, waiting, some_wait, leads, lags, above_zero}
use Rattle.model.specs.Table.{Table, at, change, total, total_owed}
use Rattle.model.specs.Turn.{Way, by_right, by_allowance, by_credit, unclaimed, by_extra, idle}
use Rattle.model.specs.Turn.{sender, first_frame, rest}
use Rattle.model.specs.Turn.{length_of, charged, sends, hands_on, takes_up, turned}
use Rattle.model.specs.Sound.{Fits}
use Rattle.model.proofs.Tables.{length_change, at_change, at_other, total_change, total_same}
use Rattle.model.proofs.Tables.{totalℤ_change}
use Rattle.model.proofs.Tables.{totalℤ_same, change_same, total_change_le, each_change}
use Rattle.model.proofs.Ledger.{Row, Draft, excess}
use Rattle.model.proofs.Senders.{Rightly, Chosen}
use Rattle.model.proofs.Share.{active_booked, able_active, able_within}
use Rattle.model.proofs.Departures.{owed_more}

-- ---- what a charge of n bytes leaves; the lag is not spoken of

pub record Charges (n : ℕ) (f : Session → Session) : Type 0 where
  pub booked : (s : Session) → (f s).booked ≡ s.booked
  pub rate : (s : Session) → (f s).rate ≡ s.rate
  pub price : (s : Session) → (f s).price ≡ s.price
  pub active : (s : Session) → (f s).active ≡ s.active
  pub time : (s : Session) → (f s).virtual_time ≡ s.virtual_time + n * s.price
  pub frames : (s : Session) → AllByRecursion Fits s.queue → AllByRecursion Fits (f s).queue
  pub room : (s : Session) → length (f s).queue ≤ length s.queue

all_rest : (q : List Frame) → AllByRecursion Fits q → AllByRecursion Fits (rest q)
all_rest [] a = a
all_rest (f ∷ q) a = a.1

less_rest : (q : List Frame) → length (rest q) ≤ length q
less_rest [] = le_refl 0
less_rest (f ∷ q) = omega arith

sends_charges : (keep spent n : ℕ) → Charges n (sends keep spent n)
sends_charges keep spent n = record {
  booked = λ s. refl;
  rate = λ s. refl;
  price = λ s. refl;
  active = λ s. refl;
  time = λ s. refl;
  frames = λ s a. all_rest s.queue a;
  room = λ s. less_rest s.queue;
}

charged_charges : (keep spent n : ℕ) → Charges n (charged keep spent n)
charged_charges keep spent n = record {
  booked = λ s. refl;
  rate = λ s. refl;
  price = λ s. refl;
  active = λ s. refl;
  time = λ s. refl;
  frames = λ s a. a;
  room = λ s. le_refl (length s.queue);
}

hands_charges : (keep n : ℕ) → Charges n (hands_on keep n)
hands_charges keep n =
    let c = charged_charges keep 0 n in
    record {
      booked =
          c.booked;
      rate = c.rate;
      price = c.price;
      active = c.active;
      time = c.time;
      frames = c.frames;
      room = c.room;
    }

-- ---- the ways a turn can go: one place changes, or two

not_both : (z : ℤ) → lt_z (pos 0) z ≡ true → lt_z z (pos 0) ≡ true → ⊥
not_both z e f = omega (arith, ints)

-- whoever takes a turn up is another than the chosen
pub apart_credit : (t : Table) (c q : ℕ) → Rightly t (at t c) (by_credit q) → c ≡ q → ⊥
apart_credit t c q r e =
    not_both (at t c).lag (subst (λ (j : ℕ). lags (at t j) ≡ true) (sym e) r.1)
    (r.2 (subst (λ (j : ℕ). able (at t j) ≡ true) (sym e) r.0))

pub apart_extra : (t : Table) (c q : ℕ) → Rightly t (at t c) (by_extra q) → c ≡ q → ⊥
apart_extra t c q r e =
    both_ways (able (at t c)) r.1 (subst (λ (j : ℕ). able (at t j) ≡ true) (sym e) r.0)

-- a chosen session that hands its turn on, and the sender
pub record Handed (t : Table) (c q : ℕ) : Type 0 where
  pub ready : able (at t q) ≡ true
  pub apart : c ≡ q → ⊥
  pub led : able (at t c) ≡ true → leads (at t c) ≡ true

module _ (keep n : ℕ) (t : Table) (c : ℕ) (P : Option ℕ → Table → Type 0)
    (alone : (spent : ℕ) → spent ≤ quarters → able (at t c) ≡ true → P (Some c) (change t c (sends keep spent n)))
    (handed : (q : ℕ) → Handed t c q → P (Some q) (change (change t c (hands_on keep n)) q (takes_up n)))
    (idles : ((j : ℕ) → able (at t j) ≡ false) → P None (change t c (charged keep 0 n))) where
  pub each_way : (w : Way) → Rightly t (at t c) w → P (sender c w) (turned keep t c n w)
  each_way by_right r = alone 0 (omega arith) r
  each_way by_allowance r = alone quarters (omega arith) r
  each_way (by_credit q) r = handed q (record { ready = r.0; apart = apart_credit t c q r; led = r.2 })
  each_way unclaimed r = alone 0 (omega arith) r
  each_way (by_extra q) r =
      handed q (record { ready = r.0; apart = apart_extra t c q r; led = λ a. absurd (both_ways (able (at t c)) r.1 a) })
  each_way idle r = idles r

-- no frame that is sent is longer than the longest
front_fits : (q : List Frame) → some_wait q ≡ true → AllByRecursion Fits q →
    (first_frame q).length ≤ longest
front_fits [] e a = absurd (false≢true e)
front_fits (f ∷ q) e a = a.0.1

able_fits : (m : ℕ) (t : Table) (q : ℕ) → Draft m t → able (at t q) ≡ true →
    length_of t (Some q) ≤ longest
able_fits m t q d a =
    front_fits (at t q).queue (and_parts (waiting (at t q)) (at t q).good a).0 (d.rows q).frames

pub way_fits : (m : ℕ) (t : Table) (c : ℕ) (w : Way) → Draft m t → Rightly t (at t c) w →
    length_of t (sender c w) ≤ longest
way_fits m t c w d r =
    each_way 0 0 t c (λ o _. length_of t o ≤ longest) (λ _ _ a. able_fits m t c d a) (λ q h. able_fits m t q d h.ready) (λ _. omega arith) w r

-- ---- one place charged

row_charged : (m n : ℕ) (s : Session) (f : Session → Session) → Charges n f → n ≤ longest →
    s.active ≡ true → s.virtual_time ≡ m →
    Row m s → Row m (f s)
row_charged m n s f h l a v r = record {
  priced = λ b. ap₂ (λ (x y : ℕ). x * y) (h.rate s) (h.price s) ∙ r.priced (active_booked m s r a);
  bare = λ b. absurd (both_ways s.booked (sym (h.booked s) ∙ b) (active_booked m s r a));
  near = omega (arith, h.time s, h.price s, mul-le-mul_right s.price l);
  ahead = λ _. omega (arith, h.time s);
  quiet = λ b. absurd (both_ways s.active (sym (h.active s) ∙ b) a);
  frames = h.frames s r.frames;
  room = le_trans (h.room s) r.room;
}

row_takes : (m n : ℕ) (s : Session) → s.active ≡ true → Row m s → Row m (takes_up n s)
row_takes m n s a r = record {
  priced = r.priced;
  bare = λ b. absurd (both_ways s.booked b (active_booked m s r a));
  near = r.near;
  ahead = r.ahead;
  quiet = λ b. absurd (both_ways s.active b a);
  frames = all_rest s.queue r.frames;
  room = le_trans (less_rest s.queue) r.room;
}

abbrev SameLag : (Session → Session) → Type 0
SameLag f = (s : Session) → (f s).lag ≡ s.lag

module _ (m n : ℕ) (t : Table) (c : ℕ) (f : Session → Session) (k : Chosen m t c) (h : Charges n f) where
  -- the chosen session is charged for a frame of its own, or for an idle turn
  solo_draft : Draft m t → n ≤ longest → SameLag f → Draft m (change t c f)
  solo_draft d l g = record {
    size = length_change t c f ∙ d.size;
    rows = each_change (Row m) t c f d.rows (row_charged m n (at t c) f h l k.active k.level (d.rows c));
    rates = omega (arith, total_same (λ s. s.rate) t c f (h.rate (at t c)), d.rates);
    balance = totalℤ_same (λ s. s.lag) t c f (g (at t c)) ∙ d.balance;
  }

  -- n bytes at the chosen session's price, times its rate, are n times the link
  solo_pays : Draft m t → total (excess m) (change t c f) ≡ total (excess m) t + n * link
  solo_pays d =
      let a = total_change (excess m) t c f k.inside in
      let z : (at t c).virtual_time - m ≡ 0 = omega (arith, k.level) in
      let y = ap (λ (v : ℕ). v * (at t c).rate) z in
      let v : (f (at t c)).virtual_time - m ≡ n * (at t c).price = omega (arith, h.time (at t c), k.level) in
      let w = ap₂ (λ (x y : ℕ). x * y) v (h.rate (at t c)) in
      let u = ap (λ (x : ℕ). n * x) ((d.rows c).priced (active_booked m (at t c) (d.rows c) k.active)) in
      omega arith

-- ---- a turn handed on

module _ (keep m n : ℕ) (t : Table) (c q : ℕ) (k : Chosen m t c) (p : Handed t c q) where
  abbrev given : Table
  given = change t c (hands_on keep n)

  inq : q < length given
  inq = omega (arith, length_change t c (hands_on keep n), able_within t q p.ready)

  same : at given q ≡ at t q
  same = at_other t c q (hands_on keep n) p.apart

  pair_draft : Draft m t → n ≤ longest → Draft m (change given q (takes_up n))
  pair_draft d l = record {
    size = length_change given q (takes_up n) ∙ length_change t c (hands_on keep n) ∙ d.size;
    rows =
        each_change (Row m) given q (takes_up n)
        (each_change (Row m) t c (hands_on keep n) d.rows
        (row_charged m n (at t c) (hands_on keep n) (hands_charges keep n) l k.active k.level (d.rows c)))
        (subst (λ (s : Session). Row m (takes_up n s)) (sym same)
        (row_takes m n (at t q) (able_active m (at t q) (d.rows q) p.ready) (d.rows q)));
    rates =
        omega (arith, total_same (λ s. s.rate) given q (takes_up n) refl, total_same (λ s. s.rate) t c (hands_on keep n) refl, d.rates);
    balance =
        let a = totalℤ_change (λ s. s.lag) given q (takes_up n) inq in
        let b = totalℤ_change (λ s. s.lag) t c (hands_on keep n) k.inside in
        let e : (at given q).lag ≡ (at t q).lag = ap (λ (s : Session). s.lag) same in
        let z = d.balance in
        omega (arith, ints);
  }

  pair_pays : Draft m t →
      total (excess m) (change given q (takes_up n)) ≡ total (excess m) t + n * link
  pair_pays d = total_same (excess m) given q (takes_up n) refl ∙ solo_pays m n t c (hands_on keep n) k (hands_charges keep n) d

-- ---- what all lagging sessions together are owed: one frame more at the most

owed_less : (z : ℤ) (n : ℕ) → above_zero (z -ℤ pos n) ≤ above_zero z + 0
owed_less z n = by (z -ℤ pos n) z refl
  where
    by : (w z : ℤ) → w ≡ z -ℤ pos n → above_zero w ≤ above_zero z + 0
    by (pos k) (pos a) e = omega (arith, ints)
    by (pos k) (negsuc a) e = omega (arith, ints)
    by (negsuc k) z e = omega arith

solo_owes : (n : ℕ) (t : Table) (c : ℕ) (f : Session → Session) → SameLag f →
    total_owed (change t c f) ≤ total_owed t + n
solo_owes n t c f g =
    omega (arith, total_same (λ s. above_zero s.lag) t c f (ap above_zero (g (at t c))))

pair_owes : (keep n : ℕ) (t : Table) (c q : ℕ) →
    total_owed (change (change t c (hands_on keep n)) q (takes_up n)) ≤ total_owed t + n
pair_owes keep n t c q =
    let u = change t c (hands_on keep n) in
    let a = total_change_le (λ s. above_zero s.lag) n t c (hands_on keep n) (owed_more (at t c).lag n) in
    let b = total_change_le (λ s. above_zero s.lag) 0 u q (takes_up n) (owed_less (at u q).lag n) in
    omega arith

-- ---- one session's part in a turn

pub record Part (i : ℕ) (t v : Table) (s b : ℕ) : Type 0 where
  pub time : (at v i).virtual_time ≡ (at t i).virtual_time + (at t i).price * b
  pub lag : ((at t i).lag +ℤ pos b) ≤ℤ ((at v i).lag +ℤ pos s)
  pub given : (b ≤ s) ⊎ ((leads (at t i) ≡ true) × (b ≤ s + longest))

-- the bytes that session i is named for as the sender
abbrev pub named : ℕ → ℕ → Option ℕ → ℕ
named i n None = 0
named i n (Some q) = cond (eqb q i) n 0

-- a session that the turn does not touch
part_none : (i : ℕ) (t v : Table) (s : ℕ) → at v i ≡ at t i → Part i t v s 0
part_none i t v s a =
    let lg : (at v i).lag ≡ (at t i).lag = ap (λ (s : Session). s.lag) a in
    record { time = ap (λ (s : Session). s.virtual_time) a ∙ omega arith; lag = omega (arith, ints); given = inl (omega arith) }

solo_part : (i m n keep spent : ℕ) (t : Table) (c : ℕ) → Chosen m t c →
    (b : ℕ) × Part i t (change t c (sends keep spent n)) (named i n (Some c)) b
solo_part i m n keep spent t c k = by (ℕ_discrete c i)
  where
    v : Table
    v = change t c (sends keep spent n)

    by : Dec (c ≡ i) → (b : ℕ) × Part i t v (named i n (Some c)) b
    by (yes e) =
        let a : at v i ≡ sends keep spent n (at t i) =
        subst (λ (j : ℕ). at v j ≡ sends keep spent n (at t j)) e (at_change t c (sends keep spent n) k.inside) in
        let s : cond (eqb c i) n 0 ≡ n = cond-true (eqb c i) n 0 (eq-eqb c i e) in
        let lg : (at v i).lag ≡ (at t i).lag = ap (λ (s : Session). s.lag) a in (
          n,
          record {
            time =
                ap (λ (s : Session). s.virtual_time) a ∙ omega arith;
            lag = omega (arith, ints);
            given = inl (omega arith);
          },
        )
    by (no e) = (0, part_none i t v _ (at_other t c i (sends keep spent n) e))

pair_part : (i keep m n : ℕ) (t : Table) (c q : ℕ) → Chosen m t c → Handed t c q → n ≤ longest →
    able (at t i) ≡ true →
    (b : ℕ) × Part i t (change (change t c (hands_on keep n)) q (takes_up n)) (named i n (Some q)) b
pair_part i keep m n t c q k p l a = by (ℕ_discrete c i) (ℕ_discrete q i)
  where
    u : Table
    u = change t c (hands_on keep n)

    v : Table
    v = change u q (takes_up n)

    given_at : c ≡ i → at u i ≡ hands_on keep n (at t i)
    given_at e = subst (λ (j : ℕ). at u j ≡ hands_on keep n (at t j)) e (at_change t c (hands_on keep n) k.inside)

    taken_at : q ≡ i → at v i ≡ takes_up n (at u i)
    taken_at f = subst (λ (j : ℕ). at v j ≡ takes_up n (at u j)) f (at_change u q (takes_up n) (inq keep m n t c q k p))

    by : Dec (c ≡ i) → Dec (q ≡ i) → (b : ℕ) × Part i t v (named i n (Some q)) b
    by (yes e) (yes f) = absurd (p.apart (e ∙ sym f))
    by (yes e) (no f) =
        let d : at v i ≡ hands_on keep n (at t i) = at_other u q i (takes_up n) f ∙ given_at e in
        let s : cond (eqb q i) n 0 ≡ 0 = cond-false (eqb q i) n 0 (ne_eqb q i f) in
        let lg : (at v i).lag ≡ (at t i).lag +ℤ pos n = ap (λ (s : Session). s.lag) d in
        let led = subst (λ (j : ℕ). able (at t j) ≡ true → leads (at t j) ≡ true) e p.led a in (
          n,
          record {
            time =
                ap (λ (s : Session). s.virtual_time) d ∙ omega arith;
            lag = omega (arith, ints);
            given = inr
                (led, omega arith);
          },
        )
    by (no e) (yes f) =
        let d : at v i ≡ takes_up n (at t i) = taken_at f ∙ ap (takes_up n) (at_other t c i (hands_on keep n) e) in
        let s : cond (eqb q i) n 0 ≡ n = cond-true (eqb q i) n 0 (eq-eqb q i f) in
        let lg : (at v i).lag ≡ (at t i).lag -ℤ pos n = ap (λ (s : Session). s.lag) d in (
          0,
          record {
            time =
                ap (λ (s : Session). s.virtual_time) d ∙ omega arith;
            lag = omega (arith, ints);
            given = inl (omega arith);
          },
        )
    by (no e) (no f) =
        (0, part_none i t v _ (at_other u q i (takes_up n) f ∙ at_other t c i (hands_on keep n) e))

-- ---- every way

module _ (keep m n : ℕ) (t : Table) (c : ℕ) (w : Way) (k : Chosen m t c) (r : Rightly t (at t c) w) where
  pub way_draft : Draft m t → n ≤ longest → Draft m (turned keep t c n w)
  way_draft d l =
      each_way keep n t c (λ _ v. Draft m v)
      (λ p _ _. solo_draft m n t c (sends keep p n) k (sends_charges keep p n) d l (λ s. refl))
      (λ q h. pair_draft keep m n t c q k h d l)
      (λ _. solo_draft m n t c (charged keep 0 n) k (charged_charges keep 0 n) d l (λ s. refl)) w r

  pub way_pays : Draft m t → total (excess m) (turned keep t c n w) ≡ total (excess m) t + n * link
  way_pays d =
      each_way keep n t c (λ _ v. total (excess m) v ≡ total (excess m) t + n * link)
      (λ p _ _. solo_pays m n t c (sends keep p n) k (sends_charges keep p n) d)
      (λ q h. pair_pays keep m n t c q k h d)
      (λ _. solo_pays m n t c (charged keep 0 n) k (charged_charges keep 0 n) d) w r

  pub way_owes : total_owed (turned keep t c n w) ≤ total_owed t + n
  way_owes =
      each_way keep n t c (λ _ v. total_owed v ≤ total_owed t + n)
      (λ p _ _. solo_owes n t c (sends keep p n) (λ s. refl))
      (λ q _. pair_owes keep n t c q)
      (λ _. solo_owes n t c (charged keep 0 n) (λ s. refl)) w r

  -- what neither a charge nor a payment changes: status and price
  pub way_same : {X : Type 0} (g : Session → X) →
      ((p : ℕ) (s : Session) → g (sends keep p n s) ≡ g s) →
      ((s : Session) → g (hands_on keep n s) ≡ g s) → ((s : Session) → g (takes_up n s) ≡ g s) →
      ((s : Session) → g (charged keep 0 n s) ≡ g s) → (j : ℕ) →
      g (at (turned keep t c n w) j) ≡ g (at t j)
  way_same g a b d e j =
      each_way keep n t c (λ _ v. g (at v j) ≡ g (at t j))
      (λ p _ _. change_same g t c (sends keep p n) (a p) j)
      (λ q _. change_same g (change t c (hands_on keep n)) q (takes_up n) d j ∙ change_same g t c (hands_on keep n) b j)
      (λ _. change_same g t c (charged keep 0 n) e j) w r

  pub way_part : (i : ℕ) → n ≤ longest → able (at t i) ≡ true →
      (b : ℕ) × Part i t (turned keep t c n w) (named i n (sender c w)) b
  way_part i l a =
      each_way keep n t c (λ o v. (b : ℕ) × Part i t v (named i n o) b)
      (λ p _ _. solo_part i m n keep p t c k)
      (λ q h. pair_part i keep m n t c q k h l a)
      (λ h. absurd (both_ways (able (at t i)) (h i) a)) w r
