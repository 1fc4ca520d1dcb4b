-- How far virtual times, the mark and allowances can get: one frame at the dearest price for each
-- accepted turn.
use Rattle.std.proofs.Common.{◌≡◌, ℕ, zero, suc, ◌+◌, ◌*◌, ◌≤◌, max, Bool, true, false, not, ◌&&◌}
use Rattle.std.proofs.Common.{List, [], ◌∷◌, ℤ, pos, negsuc, ◌+ℤ◌, ◌-ℤ◌, nat_abs, Some, None}
use Rattle.std.proofs.Common.{Option, sym, refl, subst, mul-le-mul, arith}
use lib.Signed.{lt_z}
use borrow.Author.Differences.{ints}
use Rattle.std.proofs.lemmas.Bool.{cond_both}
use Rattle.tariff.specs.Tariff.{link, price_of}
use Rattle.model.specs.Limits.{longest, quarters, dearest}
use Rattle.model.specs.Session.{Session, vacant, fresh, with_good, leads}
use Rattle.model.specs.Table.{Table, at, change, least_time, latest_time, none_active, active_count}
use Rattle.model.specs.Table.{chosen}
use Rattle.chooser.specs.Meaning.{Meaning, Lawful}
use Rattle.chooser.specs.Tellings.{Telling}
use Rattle.model.specs.Turn.{Way, by_right, by_allowance, by_credit, unclaimed, by_extra, idle}
use Rattle.model.specs.Turn.{sender, length_of}
use Rattle.model.specs.Turn.{charged, sends, hands_on, takes_up, turned}
use Rattle.model.specs.Departures.{departures}
use Rattle.model.specs.Cell.{Cell, mark_from, mark_after, settled}
use Rattle.model.specs.Calls.{Call, arrived, decide, turn_after, turn_of, accepted, step}
use Rattle.model.proofs.Tables.{each_change}
use Rattle.model.proofs.Ledger.{Row, Ordered}
use Rattle.model.proofs.Share.{least_reached, active_booked}
use Rattle.model.proofs.Departures.{depart_same}
use Rattle.model.proofs.Senders.{decides, chosen_is}
use Rattle.model.proofs.Turn.{way_fits}
use Rattle.model.proofs.Cases.{each_case}

-- a place, after turns that could bring b
abbrev pub Low : ℕ → Session → Type 0
Low b s = (s.virtual_time ≤ b) × (nat_abs s.allowance ≤ quarters * b)

-- ---- the mark

greatest_low : (b : ℕ) (t : Table) → ((j : ℕ) → Low b (at t j)) → latest_time t ≤ b
unfolding at latest_time
greatest_low b [] h = omega arith
greatest_low b (s ∷ t) h = omega (arith, (h 0).0, greatest_low b t (λ j. h (suc j)))

mark_from_low : (b m : ℕ) (u : Table) (o : Option ℕ) (e : Bool) → m ≤ b →
    ((j : ℕ) → Low b (at u j)) → least_time u ≡ o →
    mark_from o e (latest_time u) m ≤ b
mark_from_low b m u (Some v) e l h f = let r = least_reached u v f in omega (arith, (h r.0).0, r.3)
mark_from_low b m u None true l h f = l
mark_from_low b m u None false l h f = greatest_low b u h

mark_low : (b m : ℕ) (t u : Table) → m ≤ b → ((j : ℕ) → Low b (at u j)) → mark_after m t u ≤ b
unfolding mark_after
mark_low b m t u l h = mark_from_low b m u (least_time u) (none_active t) l h refl

-- ---- one turn

-- a number that moves by at most d, up and down
abs_moves : (z : ℤ) (x y d b : ℕ) → nat_abs z ≤ b → x ≤ d → y ≤ d →
    nat_abs (z +ℤ pos x -ℤ pos y) ≤ b + d
abs_moves z x y d b h k l = by z (z +ℤ pos x -ℤ pos y) refl h
  where
    by : (z w : ℤ) → w ≡ z +ℤ pos x -ℤ pos y → nat_abs z ≤ b → nat_abs w ≤ b + d
    by (pos n) (pos v) e f = omega (arith, ints)
    by (pos n) (negsuc v) e f = omega (arith, ints)
    by (negsuc n) (pos v) e f = omega (arith, ints)
    by (negsuc n) (negsuc v) e f = omega (arith, ints)

-- a charge is at most one frame at the dearest price
pub dear : (m n : ℕ) (s : Session) → Row m s → s.active ≡ true → n ≤ longest → n * s.price ≤ dearest
dear m n s r a l = by s.rate (r.priced (active_booked m s r a))
  where
    by : (k : ℕ) → k * s.price ≡ link → n * s.price ≤ dearest
    by zero e = absurd (omega arith)
    by (suc k) e =
        let p : s.price ≤ link = omega arith in
        omega (arith, mul-le-mul l p)

charged_low : (keep spent n b : ℕ) (s : Session) → keep ≤ quarters → spent ≤ quarters →
    n * s.price ≤ dearest →
    Low b s → Low (b + dearest) (charged keep spent n s)
charged_low keep spent n b s k p d h = (
  omega (arith, h.0, d),
  cond_both (leads s) (s.allowance +ℤ pos (keep * (n * s.price)) -ℤ pos (spent * (n * s.price))) s.allowance
      (λ z. nat_abs z ≤ quarters * (b + dearest))
      (λ _. let f =
      abs_moves s.allowance (keep * (n * s.price)) (spent * (n * s.price)) (quarters * dearest) (quarters * b)
      h.1 (mul-le-mul k d) (mul-le-mul p d) in omega arith)
      (λ _. omega (arith, h.1)),
)

takes_low : (n b : ℕ) (s : Session) → Low b s → Low b (takes_up n s)
takes_low n b s h = (
  h.0,
  cond_both (not (leads s) && lt_z (s.lag -ℤ pos n) (pos 0)) (pos 0) s.allowance
      (λ z. nat_abs z ≤ quarters * b) (λ _. omega arith) (λ _. h.1),
)

low_more : (b : ℕ) (s : Session) → Low b s → Low (b + dearest) s
low_more b s h = omega (arith, h.0, h.1)

module _ (keep n b : ℕ) (t : Table) (c : ℕ) (k : keep ≤ quarters) (d : n * (at t c).price ≤ dearest) (h : (j : ℕ) → Low b (at t j)) where
  -- the chosen session is charged
  one_low : (f : Session → Session) → Low (b + dearest) (f (at t c)) → (j : ℕ) →
      Low (b + dearest) (at (change t c f) j)
  one_low f g = each_change (Low (b + dearest)) t c f (λ j. low_more b (at t j) (h j)) g

  charge_low : (spent : ℕ) → spent ≤ quarters → Low (b + dearest) (charged keep spent n (at t c))
  charge_low spent p = charged_low keep spent n b (at t c) k p d (h c)

  -- a turn is handed on
  pair_low : (q j : ℕ) →
      Low (b + dearest) (at (change (change t c (hands_on keep n)) q (takes_up n)) j)
  pair_low q =
      let given = one_low (hands_on keep n) (charge_low 0 (omega arith)) in
      let u = change t c (hands_on keep n) in
      each_change (Low (b + dearest)) u q (takes_up n) given (takes_low n (b + dearest) (at u q) (given q))

  pub turned_low : (w : Way) (j : ℕ) → Low (b + dearest) (at (turned keep t c n w) j)
  turned_low by_right = one_low (sends keep 0 n) (charge_low 0 (omega arith))
  turned_low by_allowance = one_low (sends keep quarters n) (charge_low quarters (omega arith))
  turned_low unclaimed = one_low (sends keep 0 n) (charge_low 0 (omega arith))
  turned_low idle = one_low (charged keep 0 n) (charge_low 0 (omega arith))
  turned_low (by_credit q) = pair_low q
  turned_low (by_extra q) = pair_low q

departures_low : (b : ℕ) (t : Table) → ((j : ℕ) → Low b (at t j)) → (j : ℕ) →
    Low b (at (departures t) j)
unfolding departures
departures_low b t h j = (
  omega (arith, (h j).0, depart_same (λ s. s.virtual_time) (λ n s. refl) (λ s. refl) (active_count t) t j),
  subst (λ (z : ℤ). nat_abs z ≤ quarters * b) (sym (depart_same (λ s. s.allowance) (λ n s. refl) (λ s. refl) (active_count t) t j)) (h j).1,
)

-- ---- every call

pub record Within {C : Type 0} (x : Cell C) : Type 0 where
  pub keep : x.keep ≤ quarters
  pub mark : x.mark ≤ dearest * x.turns
  pub rows : (j : ℕ) → Low (dearest * x.turns) (at x.table j)

module _ {C : Type 0} (M : Meaning C) (law : Lawful M) where
  settled_within : (x : Cell C) (u : Table) (n : ℕ) (ts : List Telling) → x.keep ≤ quarters →
      x.mark ≤ dearest * n →
      ((j : ℕ) → Low (dearest * n) (at u j)) → Within (settled M x u n ts)
  unfolding settled
  settled_within x u n ts k m h = record { keep = k; mark = mark_low (dearest * n) x.mark x.table u m h; rows = h }

  -- a call that is no turn
  calm_within : (x : Cell C) (p : ℕ) (f : Session → Session) (ts : List Telling) → Within x →
      Low (dearest * x.turns) (f (at x.table p)) →
      Within (settled M x (change x.table p f) x.turns ts)
  calm_within x p f ts w h =
      settled_within x (change x.table p f) x.turns ts w.keep w.mark
      (each_change (Low (dearest * x.turns)) x.table p f w.rows h)

  turn_within : (x : Cell C) (c : ℕ) → Ordered x → Within x → chosen x.table ≡ Some c →
      Within (turn_of M x c).cell
  unfolding turn_after
  turn_within x c s w e =
      let k = chosen_is x.mark x.table c s.book e in
      let v = decide M x.chooser x.table c in
      let n = length_of x.table (sender c v) in
      let l = way_fits x.mark x.table c v s.book.draft (decides M law x c s) in
      let d = dear x.mark n (at x.table c) (s.book.draft.rows c) k.active l in
      let h = turned_low x.keep n (dearest * x.turns) x.table c w.keep d w.rows v in
      settled_within x _ (x.turns + 1) _ w.keep (omega (arith, w.mark))
      (λ j. let g =
      departures_low (dearest * x.turns + dearest) (turned x.keep x.table c n v) h j in omega (arith, g.0, g.1))

  pub step_within : (x : Cell C) (call : Call) → Ordered x → Within x → Within (step M x call).cell
  unfolding accepted
  step_within x call s w =
      each_case M x s.book.draft.size (λ _ o. Within o.cell)
      (λ _ why. w)
      (λ p r _ _ _ _. calm_within x p (λ _. fresh r (price_of r)) _ w (omega arith))
      (λ p _ _ _ _. calm_within x p (λ _. vacant) _ w (omega arith))
      (λ p g n _ _ _ _ _. calm_within x p (arrived x.mark (record { tag = g; length = n })) _ w (
        cond_both (at x.table p).active (at x.table p).virtual_time (max (at x.table p).virtual_time x.mark)
            (λ v. v ≤ dearest * x.turns)
            (λ _. (w.rows p).0) (λ _. omega (arith, (w.rows p).0, w.mark)),
        (w.rows p).1,
      ))
      (λ p b _ _. calm_within x p (with_good b) _ w (w.rows p))
      (λ c e _. turn_within x c s w e)
      call
