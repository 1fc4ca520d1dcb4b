-- A session that is able throughout a stretch gets its share, from what each call does to the
-- accounts.
use Rattle.std.proofs.Common.{◌≡◌, ℕ, suc, ◌+◌, ◌-◌, ◌*◌, ◌<◌, ◌≤◌, min, Bool, true, false, ◌⊎◌}
use Rattle.std.proofs.Common.{List, [], ◌∷◌, length, ℤ, pos, negsuc, ◌+ℤ◌, ◌≤ℤ◌, Some, None, Option}
use Rattle.std.proofs.Common.{sym, refl, ap, ◌∙◌, inl, inr, le_trans, mul-le-mul_right}
use Rattle.std.proofs.Common.{mul-le-mul_left, zero-mul, arith}
use native.Mathlib.Decide.{ℕ_discrete}
use Rattle.std.proofs.lemmas.Bool.{cases_lt, and_parts, both_ways, cases_Bool}
use lib.Signed.{lt_z}
use borrow.Author.Differences.{ints}
use Rattle.tariff.specs.Tariff.{link}
use Rattle.model.specs.Limits.{longest}
use Rattle.model.specs.Session.{Session, able, waiting, lead, below_zero}
use Rattle.model.specs.Table.{Table, at, least_time, sooner}
use Rattle.chooser.specs.Meaning.{Meaning}
use Rattle.model.specs.Cell.{Cell}
use Rattle.model.specs.Calls.{Call, step}
use Rattle.model.specs.History.{after, sent, sent_by, Always, Able, taken, taken_from, bytes}
use Rattle.model.proofs.Tables.{at_past, at_le_total, total_but_one, total_but_two}
use Rattle.model.proofs.Ledger.{Row, Book, Move, Ran, excess}

-- ---- the arithmetic at the two ends of a stretch
-- m, n: the mark before and after; v, u: the session's virtual time; x, y: the totals of all
-- excesses; w bytes are sent, b are charged to the session; p is its price, r its rate

-- somebody else has the smallest virtual time at the end
other_ends : (m n v u x y w b p r : ℕ) → w * link + x + m * link ≤ n * link + y → u ≡ v + p * b →
    v ≤ m + longest * p →
    n ≤ u → r ≤ link →
    y ≤ (u - n) * r + 62 * (longest * link) → w ≤ p * b + longest * p + 62 * longest
other_ends m n v u x y w b p r paid e near ahead few bound =
    omega (arith, mul-le-mul_left (u - n) few)

-- the session sends has it
itself_ends : (m n v u x y w b p r d : ℕ) → w * link + x + m * link ≤ n * link + y → u ≡ v + p * b →
    v ≤ m + longest * p → m ≤ v → n ≡ u → r * p ≡ link → r + d ≡ link →
    (v - m) * r ≤ x → y ≤ 63 * (longest * link) → w ≤ p * b + longest * p + 62 * longest
itself_ends m n v u x y w b p r d paid e near above same unit few had bound =
    by (v - m) (omega arith) (omega arith) had
  where
    by : (z : ℕ) → v ≡ m + z → z ≤ longest * p → z * r ≤ x → w ≤ p * b + longest * p + 62 * longest
    by z is small had' =
        let f1 = ap (λ (k : ℕ). z * k) few in
        let f2 = ap (λ (k : ℕ). p * k) few in
        let f3 = mul-le-mul_right d small in
        omega arith

-- ---- the place with the smallest virtual time

least_cases : (b : Bool) (v : ℕ) (o : Option ℕ) (m : ℕ) → sooner b v o ≡ Some m →
    ((b ≡ true) × (v ≡ m)) ⊎ (o ≡ Some m)
least_cases false v o m e = inr e
least_cases true v None m e = inl (refl, cc)
least_cases true v (Some w) m e = by (cases_lt w v)
  where
    same : min v w ≡ m
    same = cc

    by : (w < v) ⊎ (v ≤ w) → ((true ≡ true) × (v ≡ m)) ⊎ (Some w ≡ Some m)
    by (inl h) = inr (ap Some (omega (arith, same)))
    by (inr h) = inl (refl, omega (arith, same))

-- somebody active is at the smallest virtual time
pub least_reached : (t : Table) (m : ℕ) → least_time t ≡ Some m →
    (k : ℕ) × (k < length t) × ((at t k).active ≡ true) × ((at t k).virtual_time ≡ m)
unfolding least_time at
least_reached [] m e = let z : ◌≡◌ {A = ℕ} 0 1 = cc in absurd (omega arith)
least_reached (s ∷ t) m e =
    by (least_cases s.active s.virtual_time (least_time t) m e) (λ h. least_reached t m h)
  where
    by : ((s.active ≡ true) × (s.virtual_time ≡ m)) ⊎ (least_time t ≡ Some m) →
        (least_time t ≡ Some m → (k : ℕ) × (k < length t) × ((at t k).active ≡ true) × ((at t k).virtual_time ≡ m)) →
        (k : ℕ) × (k < length (s ∷ t)) × ((at (s ∷ t) k).active ≡ true) × ((at (s ∷ t) k).virtual_time ≡ m)
    by (inl h) ih = (0, omega arith, h.0, h.1)
    by (inr h) ih = let r = ih h in (suc r.0, omega (arith, r.1), r.2, r.3)

-- ---- one session, before and after a stretch

able_waits : (s : Session) → able s ≡ true → waiting s ≡ true
able_waits s e = (and_parts (waiting s) s.good e).0

-- an able session is active
pub able_active : (m : ℕ) (s : Session) → Row m s → able s ≡ true → s.active ≡ true
able_active m s r e = by (cases_Bool s.active)
  where
    by : (s.active ≡ true) ⊎ (s.active ≡ false) → s.active ≡ true
    by (inl h) = h
    by (inr h) = absurd (both_ways (waiting s) (r.quiet h).1 (able_waits s e))

pub active_booked : (m : ℕ) (s : Session) → Row m s → s.active ≡ true → s.booked ≡ true
active_booked m s r e = by (cases_Bool s.booked)
  where
    by : (s.booked ≡ true) ⊎ (s.booked ≡ false) → s.booked ≡ true
    by (inl h) = h
    by (inr h) = absurd (both_ways s.active (ap (λ (s : Session). s.active) (r.bare h)) e)

pub capped : (m : ℕ) (s : Session) → Row m s → s.rate * s.price ≤ link
capped m s r = by (cases_Bool s.booked)
  where
    by : (s.booked ≡ true) ⊎ (s.booked ≡ false) → s.rate * s.price ≤ link
    by (inl h) = omega (arith, r.priced h)
    by (inr h) = omega (arith, ap (λ (s : Session). s.rate * s.price) (r.bare h))

pub able_within : (t : Table) (i : ℕ) → able (at t i) ≡ true → i < length t
able_within t i e = by (cases_lt i (length t))
  where
    by : (i < length t) ⊎ (length t ≤ i) → i < length t
    by (inl h) = h
    by (inr h) = absurd (both_ways (able (at t i)) (ap able (at_past t i h)) e)

excess_cap : (m : ℕ) (s : Session) → Row m s → excess m s ≤ longest * link
excess_cap m s r =
    let h : s.virtual_time - m ≤ longest * s.price = omega (arith, r.near) in
    omega (arith, mul-le-mul_right s.rate h, capped m s r)

excess_none : (m : ℕ) (s : Session) → s.virtual_time ≡ m → excess m s ≡ 0
excess_none m s e = let h : s.virtual_time - m ≡ 0 = omega arith in ap (λ (k : ℕ). k * s.rate) h ∙ zero-mul s.rate

-- the session that has the smallest virtual time at the end is another, or it is this one
pub ends : {C : Type 0} (i : ℕ) (x y : Cell C) (w s b : ℕ) → Book x.mark x.table →
    Book y.mark y.table →
    able (at x.table i) ≡ true → able (at y.table i) ≡ true → Ran i x y w s b →
    w ≤ (at x.table i).price * b + longest * (at x.table i).price + 62 * longest
ends i x y w s b f g a a' h = by (least_reached y.table y.mark (g.lowest i act'))
  where
    act : (at x.table i).active ≡ true
    act = able_active x.mark (at x.table i) (f.draft.rows i) a

    act' : (at y.table i).active ≡ true
    act' = able_active y.mark (at y.table i) (g.draft.rows i) a'

    inside : i < length y.table
    inside = able_within y.table i a'

    each : (j : ℕ) → excess y.mark (at y.table j) ≤ longest * link
    each j = excess_cap y.mark (at y.table j) (g.draft.rows j)

    few : (at x.table i).rate ≤ link
    few = le_trans (at_le_total (λ s. s.rate) x.table i (able_within x.table i a)) f.draft.rates

    few' : (at y.table i).rate ≤ link
    few' = le_trans (at_le_total (λ s. s.rate) y.table i inside) g.draft.rates

    two : (k : ℕ) → k < length y.table → (at y.table k).virtual_time ≡ y.mark → Dec (i ≡ k) →
        w ≤ (at x.table i).price * b + longest * (at x.table i).price + 62 * longest
    two k l e (yes same) =
        let e' : (at y.table i).virtual_time ≡ y.mark = ap (λ (j : ℕ). (at y.table j).virtual_time) same ∙ e in
        itself_ends _ _ _ _ _ _ _ _ _ _ (link - (at x.table i).rate) h.paid h.time (f.draft.rows i).near ((f.draft.rows i).ahead act)
        (sym e') ((f.draft.rows i).priced (active_booked x.mark (at x.table i) (f.draft.rows i) act)) (omega (arith, few))
        (at_le_total (excess x.mark) x.table i (able_within x.table i a))
        (let z = excess_none y.mark (at y.table i) e' in
        omega (arith, total_but_one (excess y.mark) (longest * link) y.table i inside each, g.draft.size))
    two k l e (no n) =
        other_ends _ _ _ _ _ _ _ _ _ (at y.table i).rate h.paid h.time (f.draft.rows i).near ((g.draft.rows i).ahead act') few'
        (let z = excess_none y.mark (at y.table k) e in
        omega (arith, total_but_two (excess y.mark) (longest * link) y.table i k inside l n each, g.draft.size))

    by : (k : ℕ) × (k < length y.table) × ((at y.table k).active ≡ true) × ((at y.table k).virtual_time ≡ y.mark) →
        w ≤ (at x.table i).price * b + longest * (at x.table i).price + 62 * longest
    by r = two r.0 r.1 r.3 (ℕ_discrete i r.0)

-- ---- calls one after the other

kept_more : (lx ly : ℤ) (b c s r : ℕ) → (lx +ℤ pos b) ≤ℤ (ly +ℤ pos s) →
    (b ≤ s) ⊎ ((lt_z lx (pos 0) ≡ true) × (b ≤ s + longest)) →
    (c ≤ r) ⊎ ((ly +ℤ pos c) ≤ℤ pos (r + longest)) →
    (b + c ≤ s + r) ⊎ ((lx +ℤ pos (b + c)) ≤ℤ pos (s + r + longest))
kept_more lx ly b c s r l (inl g) (inl k) = inl (omega arith)
kept_more lx ly b c s r l (inl g) (inr k) = inr (omega (arith, ints))
kept_more lx ly b c s r l (inr g) (inl k) = let led = g.0 in inr (omega (arith, ints))
kept_more lx ly b c s r l (inr g) (inr k) = inr (omega (arith, ints))

ran_none : {C : Type 0} (i : ℕ) (x : Cell C) → Ran i x x 0 0 0
ran_none i x = record { paid = omega arith; price = refl; time = omega arith; kept = inl (omega arith) }

ran_more : {C : Type 0} (i : ℕ) (x y z : Cell C) (w s b w' s' b' : ℕ) → Move i x y w s b →
    Ran i y z w' s' b' →
    Ran i x z (w + w') (s + s') (b + b')
ran_more i x y z w s b w' s' b' m r = record {
  paid = omega (arith, m.paid, r.paid);
  price = r.price ∙ m.price;
  time = r.time ∙ omega (arith, m.time, ap (λ (p : ℕ). p * b') m.price);
  kept = kept_more (at x.table i).lag (at y.table i).lag b b' s s' m.lag m.given r.kept;
}

charged_within : (l : ℤ) (b s : ℕ) → (b ≤ s) ⊎ ((l +ℤ pos b) ≤ℤ pos (s + longest)) →
    b ≤ s + below_zero l + longest
charged_within l b s (inl h) = omega arith
charged_within (pos n) b s (inr h) = omega (arith, ints)
charged_within (negsuc n) b s (inr h) = omega (arith, ints)

-- `Fine` is whatever holds of a cell between calls: the accounts are in order, and each call keeps
-- it and moves the accounts as `Move` says
module _ {C : Type 0} (M : Meaning C) (Fine : Cell C → Type 0)
    (book : (x : Cell C) → Fine x → Book x.mark x.table)
    (stays : (x : Cell C) (k : Call) → Fine x → Fine (step M x k).cell)
    (moves : (i : ℕ) (x : Cell C) (k : Call) → Fine x → Able M i x → Able M i (step M x k).cell →
    (b : ℕ) × Move i x (step M x k).cell (bytes (taken (step M x k).answer)) (bytes (taken_from i (step M x k).answer)) b) where
  pub stays_fine : (x : Cell C) (ks : List Call) → Fine x → Fine (after M x ks)
  unfolding after
  stays_fine x [] f = f
  stays_fine x (k ∷ ks) f = stays_fine (step M x k).cell ks (stays x k f)

  first_able : (i : ℕ) (x : Cell C) (ks : List Call) → Always M (Able M i) x ks → Able M i x
  unfolding Always
  first_able i x [] a = a
  first_able i x (k ∷ ks) a = a.0

  last_of : (i : ℕ) (x : Cell C) (ks : List Call) → Always M (Able M i) x ks →
      Able M i (after M x ks)
  unfolding Always after
  last_of i x [] a = a
  last_of i x (k ∷ ks) a = last_of i (step M x k).cell ks a.1

  runs : (i : ℕ) (x : Cell C) (ks : List Call) → Fine x → Always M (Able M i) x ks →
      (b : ℕ) × Ran i x (after M x ks) (sent M x ks) (sent_by M i x ks) b
  unfolding Always after sent sent_by
  runs i x [] f a = (0, ran_none i x)
  runs i x (k ∷ ks) f a =
      let m = moves i x k f a.0 (first_able i (step M x k).cell ks a.1) in
      let r = runs i (step M x k).cell ks (stays x k f) a.1 in
      (m.0 + r.0, ran_more i x (step M x k).cell (after M (step M x k).cell ks) _ _ m.0 _ _ r.0 m.1 r.1)

  pub share_from : (i : ℕ) (x : Cell C) (ks : List Call) → Fine x → Always M (Able M i) x ks →
      sent M x ks ≤ (at x.table i).price * (sent_by M i x ks + lead (at x.table i)) + longest * (2 * (at x.table i).price + 62)
  share_from i x ks f a =
      let r = runs i x ks f a in
      let e =
      ends i x (after M x ks) (sent M x ks) (sent_by M i x ks) r.0 (book x f)
      (book (after M x ks) (stays_fine x ks f)) (first_able i x ks a) (last_of i x ks a) r.1 in
      let k = charged_within (at x.table i).lag r.0 (sent_by M i x ks) r.1.kept in
      omega (arith, mul-le-mul_left (at x.table i).price k)
