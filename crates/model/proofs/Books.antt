-- The books of a cell: in order when it is new, kept in order by every call, and what they say of
-- each number.
use Rattle.std.proofs.Common.{◌≡◌, ℕ, zero, suc, ◌*◌, ◌≤◌, true, false, ◌||◌, ◌⊎◌, length, ℤ, pos}
use Rattle.std.proofs.Common.{nat_abs, Some, sym, refl, ap, ◌∙◌, subst, inl, inr, le_trans, arith}
use lib.Signed.{lt_z}
use borrow.Author.Differences.{ints}
use Rattle.std.proofs.lemmas.Bool.{cases_Bool, false≢true, or_parts, or_from}
use Rattle.model.specs.Limits.{places, longest, quarters}
use Rattle.model.specs.Session.{Session, vacant, waiting, leads, above_zero}
use Rattle.model.specs.Table.{at, vacancies, total, totalℤ, least_time}
use Rattle.chooser.specs.Meaning.{Meaning, Lawful}
use Rattle.model.specs.Cell.{Cell}
use Rattle.model.specs.Calls.{Call, step, new}
use Rattle.model.specs.Sound.{Orderly, Sound}
use Rattle.model.proofs.Ledger.{Row, Book, Ordered}
use Rattle.model.proofs.Share.{least_reached}
use Rattle.model.proofs.Settle.{least_some}
use Rattle.model.proofs.Senders.{lag_within}
use Rattle.model.proofs.Calm.{vacant_row}
use Rattle.model.proofs.Calls.{step_good}
use Rattle.model.proofs.Bounds.{Low, Within, step_within}

-- ---- a new cell

length_vacancies : (n : ℕ) → length (vacancies n) ≡ n
unfolding vacancies
length_vacancies zero = refl
length_vacancies (suc n) = ap suc (length_vacancies n)

pub at_vacancies : (n j : ℕ) → at (vacancies n) j ≡ vacant
unfolding vacancies at
at_vacancies zero j = refl
at_vacancies (suc n) zero = refl
at_vacancies (suc n) (suc j) = at_vacancies n j

none_total : (f : Session → ℕ) → f vacant ≡ 0 → (n : ℕ) → total f (vacancies n) ≡ 0
unfolding vacancies total
none_total f e zero = refl
none_total f e (suc n) = omega (arith, none_total f e n)

lags_vacancies : (n : ℕ) → totalℤ (λ s. s.lag) (vacancies n) ≡ pos 0
unfolding vacancies totalℤ
lags_vacancies zero = refl
lags_vacancies (suc n) = let h = lags_vacancies n in omega (arith, ints)

vacancies_book : Book 0 (vacancies places)
vacancies_book = record {
  draft = record {
    size = length_vacancies places;
    rows = λ j. subst (Row 0) (sym (at_vacancies places j)) (vacant_row 0);
    rates = omega (arith, none_total (λ s. s.rate) refl places);
    balance = lags_vacancies places;
  };
  busy = λ j a. absurd (idle j a);
  lowest = λ j a. absurd (idle j a);
}
  where
    idle : (j : ℕ) → (at (vacancies places) j).active ≡ true → ⊥
    idle j a = false≢true (sym (ap (λ (s : Session). s.active) (at_vacancies places j)) ∙ a)

pub new_ordered : {C : Type 0} (keep : ℕ) (c : C) → Ordered (new keep c)
new_ordered keep c = record { book = vacancies_book; owing = omega (arith, none_total (λ s. above_zero s.lag) refl places); few = omega arith }

pub new_within : {C : Type 0} (keep : ℕ) (c : C) → keep ≤ quarters → Within (new keep c)
new_within keep c k = record { keep = k; mark = omega arith; rows = λ j. subst (Low 0) (sym (at_vacancies places j)) (omega arith) }

-- ---- the layers of the proof and the books say the same

pub row_status : (m : ℕ) (s : Session) → Row m s →
    (s.active ≡ true → (waiting s || leads s) ≡ true) →
    s.active ≡ (waiting s || leads s)
row_status m s r b = by (cases_Bool s.active)
  where
    by : (s.active ≡ true) ⊎ (s.active ≡ false) → s.active ≡ (waiting s || leads s)
    by (inl a) = a ∙ sym (b a)
    by (inr a) = a ∙ sym (or_from (waiting s) (leads s) (r.quiet a).1 (ap (λ (z : ℤ). lt_z z (pos 0)) (r.quiet a).0))

module _ {C : Type 0} (x : Cell C) where
  orderly : Ordered x → Within x → (j : ℕ) → Orderly x.mark x.turns (at x.table j)
  orderly s w j =
      let r = s.book.draft.rows j in
      record {
        priced = r.priced;
        bare = r.bare;
        status = row_status x.mark (at x.table j) r (s.book.busy j);
        quiet = λ a. (r.quiet a).0;
        near = r.near;
        early = (w.rows j).0;
        modest = (w.rows j).1;
        frames = r.frames;
        room = r.room;
      }

  lowest : Ordered x → (v : ℕ) → least_time x.table ≡ Some v → v ≡ x.mark
  lowest s v e =
      let r = least_reached x.table v e in
      same v x.mark (sym e ∙ s.book.lowest r.0 r.2)
    where
      same : (a b : ℕ) → Some a ≡ Some b → a ≡ b
      same a b e = cc

  pub sound_from : Ordered x → Within x → Sound x
  sound_from s w = record {
    size = s.book.draft.size;
    rows = orderly s w;
    rates = s.book.draft.rates;
    balance = s.book.draft.balance;
    owing = s.owing;
    lowest = lowest s;
    early = w.mark;
    few = s.few;
    modest = w.keep;
  }

  least_mark : Sound x → (j : ℕ) → (at x.table j).active ≡ true →
      (least_time x.table ≡ Some x.mark) × (x.mark ≤ (at x.table j).virtual_time)
  least_mark b j a =
      let r = least_some x.table j a in
      let e = b.lowest r.0 r.1 in
      (r.1 ∙ ap Some e, omega (arith, r.2))

  row_of : Sound x → (j : ℕ) → Row x.mark (at x.table j)
  row_of b j =
      let o = b.rows j in
      record {
        priced = o.priced;
        bare = o.bare;
        near = o.near;
        ahead = λ a. (least_mark b j a).1;
        quiet = λ a. (o.quiet a, (or_parts (waiting (at x.table j)) (leads (at x.table j)) (sym o.status ∙ a)).0);
        frames = o.frames;
        room = o.room;
      }

  pub ordered_of : Sound x → Ordered x
  ordered_of b = record {
    book = record {
      draft = record { size = b.size; rows = row_of b; rates = b.rates; balance = b.balance };
      busy = λ j a. sym (b.rows j).status ∙ a;
      lowest = λ j a. (least_mark b j a).0;
    };
    owing = b.owing;
    few = b.few;
  }

  pub within_of : Sound x → Within x
  within_of b = record { keep = b.modest; mark = b.early; rows = λ j. ((b.rows j).early, (b.rows j).modest) }

pub new_sound : {C : Type 0} (keep : ℕ) (c : C) → keep ≤ quarters → Sound (new keep c)
new_sound keep c k = sound_from (new keep c) (new_ordered keep c) (new_within keep c k)

pub step_sound : {C : Type 0} (M : Meaning C) → Lawful M → (x : Cell C) (call : Call) → Sound x →
    Sound (step M x call).cell
step_sound M law x call b =
    sound_from (step M x call).cell (step_good M law x call (ordered_of x b)).ordered (step_within M law x call (ordered_of x b) (within_of x b))

-- ---- what they say of a lag

-- no lag is further from zero than what all lagging sessions together are owed
pub lag_low : {C : Type 0} (x : Cell C) (i : ℕ) → Ordered x →
    nat_abs (at x.table i).lag ≤ longest * x.turns
lag_low x i s = le_trans (lag_within x.table i s.book.draft.balance) s.owing
