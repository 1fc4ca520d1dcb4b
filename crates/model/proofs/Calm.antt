-- A call that is no turn changes one place and moves no account.
use Rattle.std.proofs.Common.{◌≡◌, ℕ, ◌+◌, ◌-◌, ◌*◌, ◌<◌, ◌≤◌, max, Bool, true, false, cond, ◌||◌}
use Rattle.std.proofs.Common.{◌⊎◌, List, [], ◌∷◌, ◌++◌, length, sym, refl, ap, ◌∙◌, subst, inl, inr}
use Rattle.std.proofs.Common.{zero-mul, arith}
use native.Mathlib.Decide.{ℕ_discrete}
use Rattle.std.proofs.lemmas.List.{length-append}
use Rattle.std.proofs.ByRecursion.{All-append}
use Rattle.std.proofs.lemmas.Bool.{cases_Bool, both_ways, true≢false, false≢true, or_left}
use Rattle.std.proofs.lemmas.Bool.{cond-true, cond-false}
use Rattle.tariff.specs.Tariff.{link, in_tariff, price_of}
use Rattle.tariff.proofs.Wholes.{factored}
use Rattle.model.specs.Limits.{longest, most_waiting}
use Rattle.model.specs.Session.{Frame, Session, vacant, fresh, with_good, able, waiting, some_wait}
use Rattle.model.specs.Session.{leads}
use Rattle.model.specs.Table.{Table, at, change, total, booked_total}
use Rattle.model.specs.Cell.{mark_after}
use Rattle.model.specs.Calls.{arrived}
use Rattle.model.specs.Sound.{Fits}
use Rattle.model.proofs.Tables.{length_change, at_change, at_other, total_same, totalℤ_same}
use Rattle.model.proofs.Ledger.{Row, Draft, Book, excess}
use Rattle.model.proofs.Share.{able_active}
use Rattle.model.proofs.Settle.{Held, settle, mark_rises, mark_pays}

pub record Calm (m : ℕ) (s s' : Session) : Type 0 where
  pub row : Row m s'
  pub lag : s'.lag ≡ s.lag
  pub same : excess m s' ≡ excess m s
  pub held : s.active ≡ true → m ≤ s'.virtual_time
  pub busy : s'.active ≡ true → (waiting s' || leads s') ≡ true
  pub kept : able s ≡ true → (s'.price ≡ s.price) × (s'.virtual_time ≡ s.virtual_time)

module _ (m : ℕ) (t : Table) (p : ℕ) (f : Session → Session) (inside : p < length t) (b : Book m t)
    (k : Calm m (at t p) (f (at t p))) (few : booked_total (change t p f) ≤ link) where
  -- what holds of each place as it was, and of the one that is changed, holds after
  after_change : (P : ℕ → Session → Type 0) → P p (f (at t p)) → ((j : ℕ) → P j (at t j)) →
      (j : ℕ) →
      P j (at (change t p f) j)
  after_change P new old j = by (ℕ_discrete p j)
    where
      by : Dec (p ≡ j) → P j (at (change t p f) j)
      by (yes e) = subst (λ (j : ℕ). P j (at (change t p f) j)) e (subst (P p) (sym (at_change t p f inside)) new)
      by (no n) = subst (P j) (sym (at_other t p j f n)) (old j)

  calm_draft : Draft m (change t p f)
  calm_draft = record {
    size = length_change t p f ∙ b.draft.size;
    rows = after_change (λ _ s. Row m s) k.row b.draft.rows;
    rates = few;
    balance = totalℤ_same (λ s. s.lag) t p f k.lag ∙ b.draft.balance;
  }

  calm_held : Held m t (change t p f)
  calm_held = after_change (λ j s. (at t j).active ≡ true → m ≤ s.virtual_time) k.held (λ j a. (b.draft.rows j).ahead a)

  pub calm_book : Book (mark_after m t (change t p f)) (change t p f)
  calm_book =
      settle m t (change t p f) calm_draft calm_held
      (after_change (λ _ s. s.active ≡ true → (waiting s || leads s) ≡ true) k.busy b.busy)

  pub calm_rises : m ≤ mark_after m t (change t p f)
  calm_rises = mark_rises m t (change t p f) calm_draft calm_held

  pub calm_pays : total (excess m) t + m * link ≤ mark_after m t (change t p f) * link + total (excess (mark_after m t (change t p f))) (change t p f)
  calm_pays =
      let a = mark_pays m (mark_after m t (change t p f)) (change t p f) calm_rises few in
      let e = total_same (excess m) t p f k.same in
      omega arith

  pub calm_kept : (i : ℕ) → able (at t i) ≡ true →
      ((at (change t p f) i).price ≡ (at t i).price) × ((at (change t p f) i).virtual_time ≡ (at t i).virtual_time) ×
      ((at (change t p f) i).lag ≡ (at t i).lag)
  calm_kept =
      after_change
      (λ j s. able (at t j) ≡ true → (s.price ≡ (at t j).price) × (s.virtual_time ≡ (at t j).virtual_time) × (s.lag ≡ (at t j).lag))
      (λ a. ((k.kept a).0, (k.kept a).1, k.lag)) (λ j a. (refl, refl, refl))

-- ---- the calls that are no turn

pub open_calm : (m r : ℕ) (s : Session) → Row m s → s.booked ≡ false → in_tariff r ≡ true →
    Calm m s (fresh r (price_of r))
open_calm m r s row b e = record {
  row = record {
    priced = λ _. factored r e;
    bare = λ f. absurd (true≢false f);
    near = omega arith;
    ahead = λ f. absurd (false≢true f);
    quiet = λ _. (refl, refl);
    frames = tt;
    room = omega arith;
  };
  lag = sym (ap (λ (s : Session). s.lag) (row.bare b));
  same = none r ∙ sym (none 0) ∙ sym (ap (excess m) (row.bare b));
  held = λ a. absurd (both_ways s.active rests a);
  busy = λ a. absurd (false≢true a);
  kept = λ a. absurd (both_ways s.active rests (able_active m s row a));
}
  where
    rests : s.active ≡ false
    rests = ap (λ (s : Session). s.active) (row.bare b)

    none : (k : ℕ) → (0 - m) * k ≡ 0
    none k = let z : 0 - m ≡ 0 = omega arith in ap (λ (j : ℕ). j * k) z ∙ zero-mul k

pub vacant_row : (m : ℕ) → Row m vacant
vacant_row m = record {
  priced = λ e. absurd (false≢true e);
  bare = λ _. refl;
  near = omega arith;
  ahead = λ e. absurd (false≢true e);
  quiet = λ _. (refl, refl);
  frames = tt;
  room = omega arith;
}

pub close_calm : (m : ℕ) (s : Session) → Row m s → s.active ≡ false → s.virtual_time ≤ m →
    Calm m s vacant
close_calm m s row e v =
    let z : s.virtual_time - m ≡ 0 = omega arith in
    let z' = ap (λ (k : ℕ). k * s.rate) z in
    let y = ap (λ (k : ℕ). k * 0) z in
    record {
      row = vacant_row m;
      lag = sym (row.quiet e).0;
      same = omega arith;
      held = λ a. absurd (both_ways s.active e a);
      busy = λ a. absurd (false≢true a);
      kept = λ a. absurd (both_ways s.active e (able_active m s row a));
    }

more_wait : (q : List Frame) (f : Frame) → some_wait (q ++ f ∷ []) ≡ true
more_wait [] f = refl
more_wait (g ∷ q) f = refl

-- the virtual time at which a session goes on when a frame arrives
came : (m : ℕ) (s : Session) → Row m s →
    let v = cond s.active s.virtual_time (max s.virtual_time m) in
    (m ≤ v) × (v ≤ m + longest * s.price) × (v - m ≡ s.virtual_time - m) × (s.active ≡ true → v ≡ s.virtual_time)
came m s r = by (cases_Bool s.active)
  where
    by : (s.active ≡ true) ⊎ (s.active ≡ false) →
        let v = cond s.active s.virtual_time (max s.virtual_time m) in
        (m ≤ v) × (v ≤ m + longest * s.price) × (v - m ≡ s.virtual_time - m) × (s.active ≡ true → v ≡ s.virtual_time)
    by (inl a) =
        let e = cond-true s.active s.virtual_time (max s.virtual_time m) a in
        (omega (arith, r.ahead a), omega (arith, r.near), omega arith, λ _. e)
    by (inr a) =
        let e = cond-false s.active s.virtual_time (max s.virtual_time m) a in
        (omega arith, omega (arith, r.near), omega arith, λ b. absurd (both_ways s.active a b))

pub arrive_calm : (m : ℕ) (f : Frame) (s : Session) → Row m s → s.booked ≡ true → Fits f →
    length s.queue < most_waiting → Calm m s (arrived m f s)
arrive_calm m f s row b fits more =
    let v = came m s row in
    record {
      row = record {
        priced = row.priced;
        bare = λ e. absurd (both_ways s.booked e b);
        near = v.1;
        ahead = λ _. v.0;
        quiet = λ e. absurd (true≢false e);
        frames = All-append Fits s.queue (f ∷ []) row.frames (fits, tt);
        room = omega (arith, length-append s.queue (f ∷ []));
      };
      lag = refl;
      same = ap (λ (k : ℕ). k * s.rate) v.2;
      held = λ _. v.0;
      busy = λ _. or_left (some_wait (s.queue ++ f ∷ [])) (leads s) (more_wait s.queue f);
      kept = λ a. (refl, v.3 (able_active m s row a));
    }

pub report_calm : (m : ℕ) (b : Bool) (s : Session) → Row m s → s.booked ≡ true →
    (s.active ≡ true → (waiting s || leads s) ≡ true) → Calm m s (with_good b s)
report_calm m b s row opened busy = record {
  row = record {
    priced = row.priced;
    bare = λ e. absurd (both_ways s.booked e opened);
    near = row.near;
    ahead = row.ahead;
    quiet = row.quiet;
    frames = row.frames;
    room = row.room;
  };
  lag = refl;
  same = refl;
  held = row.ahead;
  busy = busy;
  kept = λ _. (refl, refl);
}
