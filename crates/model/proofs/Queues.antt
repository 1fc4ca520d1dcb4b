-- What waited, then what a call brought, is what it took, then what waits.
use Rattle.std.proofs.Common.{◌≡◌, ℕ, zero, suc, ◌+◌, ◌<◌, ◌≤◌, true, false, cond, eqb, ◌⊎◌, List}
use Rattle.std.proofs.Common.{[], ◌∷◌, ◌++◌, length, Some, None, Option, sym, refl, ap, ◌∙◌, subst}
use Rattle.std.proofs.Common.{ap₂, inl, inr, arith}
use native.Mathlib.Decide.{ℕ_discrete}
use Rattle.std.proofs.lemmas.Bool.{cond-true, cond-false, eq-eqb, ne_eqb, false≢true, and_parts}
use Rattle.std.proofs.lemmas.Bool.{cases_lt}
use Rattle.std.proofs.lemmas.List.{append-nil}
use Rattle.tariff.specs.Tariff.{price_of}
use Rattle.model.specs.Session.{Frame, Session, vacant, fresh, with_good, able, waiting, some_wait}
use Rattle.model.specs.Table.{Table, at, change, active_count}
use Rattle.chooser.specs.Meaning.{Meaning, Lawful}
use Rattle.model.specs.Turn.{Way, sender, first_frame, rest, length_of, sent_of, charged, sends}
use Rattle.model.specs.Turn.{hands_on, takes_up, turned}
use Rattle.model.specs.Departures.{departures}
use Rattle.model.specs.Cell.{Cell, settled}
use Rattle.model.specs.Calls.{Call, arrived, Outcome, decide, turn_after, turn_of, accepted, step}
use Rattle.model.specs.Limits.{places}
use Rattle.model.specs.History.{sent_frame, sent_from, taken, taken_from, brought_to, bytes, sum_to}
use Rattle.model.proofs.Tables.{at_change, at_other, change_same}
use Rattle.model.proofs.Ledger.{Ordered}
use Rattle.model.proofs.Share.{able_within}
use Rattle.model.proofs.Departures.{depart_same}
use Rattle.model.proofs.Senders.{Rightly, decides}
use Rattle.model.proofs.Turn.{each_way}
use Rattle.model.proofs.Cases.{each_case}

front_and_rest : (q : List Frame) → some_wait q ≡ true → q ≡ first_frame q ∷ rest q
front_and_rest [] e = absurd (false≢true e)
front_and_rest (f ∷ q) e = refl

-- the frames that leave place i when o sends
abbrev out : ℕ → Table → Option ℕ → List Frame
out i t o = sent_from i (sent_of t o) (length_of t o)

-- one place is changed, and its first frame leaves
takes : (i : ℕ) (t : Table) (q : ℕ) (f : Session → Session) → able (at t q) ≡ true →
    ((s : Session) → (f s).queue ≡ rest s.queue) →
    (at t i).queue ≡ out i t (Some q) ++ (at (change t q f) i).queue
takes i t q f a h = by (ℕ_discrete q i)
  where
    waits : waiting (at t q) ≡ true
    waits = (and_parts (waiting (at t q)) (at t q).good a).0

    at_q : (at t q).queue ≡ out q t (Some q) ++ (at (change t q f) q).queue
    at_q =
        let b = cond-true (eqb q q) (first_frame (at t q).queue ∷ []) [] (eq-eqb q q refl) in
        let c : (at (change t q f) q).queue ≡ rest (at t q).queue =
        ap (λ (s : Session). s.queue) (at_change t q f (able_within t q a)) ∙ h (at t q) in
        front_and_rest (at t q).queue waits ∙ sym (ap₂ (λ (x y : List Frame). x ++ y) b c)

    by : Dec (q ≡ i) → (at t i).queue ≡ out i t (Some q) ++ (at (change t q f) i).queue
    by (yes e) =
        subst (λ (j : ℕ). (at t j).queue ≡ out j t (Some q) ++ (at (change t q f) j).queue) e at_q
    by (no n) =
        let b = cond-false (eqb q i) (first_frame (at t q).queue ∷ []) [] (ne_eqb q i n) in
        let c = ap (λ (s : Session). s.queue) (at_other t q i f n) in
        sym (ap₂ (λ (x y : List Frame). x ++ y) b c)

-- a turn that is handed on takes the sender's frame alone
hands : (i keep n : ℕ) (t : Table) (c q : ℕ) → able (at t q) ≡ true →
    (at t i).queue ≡ out i t (Some q) ++ (at (change (change t c (hands_on keep n)) q (takes_up n)) i).queue
hands i keep n t c q a =
    let u = change t c (hands_on keep n) in
    let b = change_same (λ s. s.queue) t c (hands_on keep n) (λ s. refl) in
    let g = takes i u q (takes_up n) (change_same able t c (hands_on keep n) (λ s. refl) q ∙ a) (λ s. refl) in
    sym (b i) ∙ g ∙ ap (λ (fs : List Frame). cond (eqb q i) (first_frame fs ∷ []) [] ++ (at (change u q (takes_up n)) i).queue) (b q)

way_takes : (i keep n : ℕ) (t : Table) (c : ℕ) (w : Way) → Rightly t (at t c) w →
    (at t i).queue ≡ out i t (sender c w) ++ (at (turned keep t c n w) i).queue
way_takes i keep n t c w r =
    each_way keep n t c (λ o v. (at t i).queue ≡ out i t o ++ (at v i).queue)
    (λ p _ a. takes i t c (sends keep p n) a (λ s. refl))
    (λ q h. hands i keep n t c q h.ready)
    (λ _. sym (change_same (λ s. s.queue) t c (charged keep 0 n) (λ s. refl) i)) w r

-- a frame is queued at one place
brings : (i : ℕ) (t : Table) (p : ℕ) (g : Frame) (f : Session → Session) → p < length t →
    ((s : Session) → (f s).queue ≡ s.queue ++ g ∷ []) →
    (at t i).queue ++ cond (eqb p i) (g ∷ []) [] ≡ (at (change t p f) i).queue
brings i t p g f l h = by (ℕ_discrete p i)
  where
    at_p : (at t p).queue ++ cond (eqb p p) (g ∷ []) [] ≡ (at (change t p f) p).queue
    at_p =
        ap (λ (fs : List Frame). (at t p).queue ++ fs) (cond-true (eqb p p) (g ∷ []) [] (eq-eqb p p refl)) ∙ sym
        (ap (λ (s : Session). s.queue) (at_change t p f l) ∙ h (at t p))

    by : Dec (p ≡ i) → (at t i).queue ++ cond (eqb p i) (g ∷ []) [] ≡ (at (change t p f) i).queue
    by (yes e) = subst (λ (j : ℕ). (at t j).queue ++ cond (eqb p j) (g ∷ []) [] ≡ (at (change t p f) j).queue) e at_p
    by (no n) =
        ap (λ (fs : List Frame). (at t i).queue ++ fs) (cond-false (eqb p i) (g ∷ []) [] (ne_eqb p i n)) ∙ append-nil
        (at t i).queue ∙ sym (ap (λ (s : Session). s.queue) (at_other t p i f n))

-- a change of one place that leaves its queue
leaves : (i : ℕ) (t : Table) (p : ℕ) (f : Session → Session) → p < length t →
    (f (at t p)).queue ≡ (at t p).queue →
    (at t i).queue ++ [] ≡ (at (change t p f) i).queue
leaves i t p f l h = append-nil (at t i).queue ∙ by (ℕ_discrete p i)
  where
    by : Dec (p ≡ i) → (at t i).queue ≡ (at (change t p f) i).queue
    by (yes e) =
        subst (λ (j : ℕ). (at t j).queue ≡ (at (change t p f) j).queue) e
        (sym (ap (λ (s : Session). s.queue) (at_change t p f l) ∙ h))
    by (no n) = sym (ap (λ (s : Session). s.queue) (at_other t p i f n))

none_waits : (q : List Frame) → some_wait q ≡ false → [] ≡ q
none_waits [] e = refl
none_waits (f ∷ q) e = absurd (false≢true (sym e))

-- ---- bytes

bytes_append : (a b : List Frame) → bytes (a ++ b) ≡ bytes a + bytes b
unfolding bytes
bytes_append [] b = omega arith
bytes_append (f ∷ a) b = omega (arith, bytes_append a b)

-- sums over places
pub sum_none : (n : ℕ) (f : ℕ → ℕ) → ((i : ℕ) → i < n → f i ≡ 0) → sum_to n f ≡ 0
unfolding sum_to
sum_none zero f h = refl
sum_none (suc n) f h = omega (arith, sum_none n f (λ i l. h i (omega arith)), h n (omega arith))

-- only one place has any
sum_one : (n q : ℕ) (f : ℕ → ℕ) → q < n → ((i : ℕ) → (q ≡ i → ⊥) → f i ≡ 0) → sum_to n f ≡ f q
unfolding sum_to
sum_one zero q f l h = absurd (omega arith)
sum_one (suc n) q f l h = by (ℕ_discrete q n) (λ m. sum_one n q f m h)
  where
    by : Dec (q ≡ n) → (q < n → sum_to n f ≡ f q) → sum_to n f + f n ≡ f q
    by (yes e) ih = omega (arith, sum_none n f (λ i m. h i (λ g. absurd (omega arith))), ap f e)
    by (no e) ih = omega (arith, ih (below (cases_lt q n)), h n e)
      where
        below : (q < n) ⊎ (n ≤ q) → q < n
        below (inl g) = g
        below (inr g) = absurd (e (omega arith))

pub sum_add : (n : ℕ) (f g : ℕ → ℕ) → sum_to n (λ i. f i + g i) ≡ sum_to n f + sum_to n g
unfolding sum_to
sum_add zero f g = refl
sum_add (suc n) f g = omega (arith, sum_add n f g)

-- what the sender sends, place by place
sent_adds : (n : ℕ) (t : Table) (o : Option ℕ) → ((q : ℕ) → o ≡ Some q → q < n) →
    bytes (sent_frame (sent_of t o) (length_of t o)) ≡ sum_to n (λ i. bytes (out i t o))
unfolding bytes
sent_adds n t None h = sym (sum_none n (λ i. 0) (λ _ _. refl))
sent_adds n t (Some q) h =
    let one = first_frame (at t q).queue ∷ [] in
    sym (sum_one n q (λ i. bytes (out i t (Some q))) (h q refl) (λ i e. ap bytes (cond-false (eqb q i) one [] (ne_eqb q i e)))
    ∙ ap bytes (cond-true (eqb q q) one [] (eq-eqb q q refl)))

-- whoever sends is a place of the table
pub sender_inside : (t : Table) (c : ℕ) (w : Way) → Rightly t (at t c) w → (q : ℕ) →
    sender c w ≡ Some q → q < length t
sender_inside t c w r =
    each_way 0 0 t c (λ o _. (q : ℕ) → o ≡ Some q → q < length t)
    (λ _ _ a q e. found c q a e)
    (λ j h q e. found j q h.ready e)
    (λ _ q e. let z : ◌≡◌ {A = ℕ} 0 1 = cc in absurd (omega arith)) w r
  where
    same_place : (a b : ℕ) → Some a ≡ Some b → a ≡ b
    same_place a b e = cc

    found : (j q : ℕ) → able (at t j) ≡ true → Some j ≡ Some q → q < length t
    found j q a e = able_within t q (subst (λ (k : ℕ). able (at t k) ≡ true) (same_place j q e) a)

module _ {C : Type 0} (M : Meaning C) (law : Lawful M) where
  abbrev pub Queued : Cell C → ℕ → Call → Outcome M → Type 0
  Queued x i call o =
      (at x.table i).queue ++ brought_to i call o.answer ≡ taken_from i o.answer ++ (at o.cell.table i).queue

  turn_queued : (x : Cell C) (i c : ℕ) → Ordered x →
      (at x.table i).queue ≡ taken_from i (turn_of M x c).answer ++ (at (turn_of M x c).cell.table i).queue
  unfolding turn_after settled departures
  turn_queued x i c s =
      let w = decide M x.chooser x.table c in
      let u = turned x.keep x.table c (length_of x.table (sender c w)) w in
      way_takes i x.keep (length_of x.table (sender c w)) x.table c w (decides M law x c s)
      ∙ sym (ap (λ (fs : List Frame). out i x.table (sender c w) ++ fs)
      (depart_same (λ s. s.queue) (λ n s. refl) (λ s. refl) (active_count u) u i))

  pub step_queued : (x : Cell C) (call : Call) (i : ℕ) → Ordered x → Queued x i call (step M x call)
  unfolding accepted settled
  step_queued x call i s =
      each_case M x s.book.draft.size (Queued x i)
      (λ _ why. append-nil (at x.table i).queue)
      (λ p r l b _ _. leaves i x.table p (λ _. fresh r (price_of r)) l (sym (ap (λ (s : Session). s.queue) ((s.book.draft.rows p).bare b))))
      (λ p l b a _. leaves i x.table p (λ _. vacant) l (none_waits (at x.table p).queue ((s.book.draft.rows p).quiet a).1))
      (λ p g n l _ _ _ _. brings i x.table p (record {
        tag =
            g;
        length = n;
      }) (arrived x.mark (record { tag = g; length = n })) l (λ s. refl))
      (λ p b l _. leaves i x.table p (with_good b) l refl)
      (λ c e _. append-nil (at x.table i).queue ∙ turn_queued x i c s)
      call

  -- what a call sends, place by place
  pub step_adds : (x : Cell C) (call : Call) → Ordered x →
      bytes (taken (step M x call).answer) ≡ sum_to places (λ i. bytes (taken_from i (step M x call).answer))
  unfolding accepted bytes
  step_adds x call s =
      each_case M x s.book.draft.size (λ _ o. bytes (taken o.answer) ≡ sum_to places (λ i. bytes (taken_from i o.answer)))
      (λ _ _. none)
      (λ _ _ _ _ _ _. none)
      (λ _ _ _ _ _. none)
      (λ _ _ _ _ _ _ _ _. none)
      (λ _ _ _ _. none)
      (λ c e _. sent_adds places x.table (sender c (decide M x.chooser x.table c))
      (λ q f. omega (arith, sender_inside x.table c (decide M x.chooser x.table c) (decides M law x c s) q f, s.book.draft.size)))
      call
    where
      none : 0 ≡ sum_to places (λ i. 0)
      none = sym (sum_none places (λ i. 0) (λ _ _. refl))

  -- the bytes of one queue, over a call
  pub step_counts : (x : Cell C) (call : Call) (i : ℕ) → Ordered x →
      let o = step M x call in
      bytes (at x.table i).queue + bytes (brought_to i call o.answer) ≡ bytes (taken_from i o.answer) + bytes (at o.cell.table i).queue
  step_counts x call i s =
      sym (bytes_append (at x.table i).queue _) ∙ ap bytes (step_queued x call i s)
      ∙ bytes_append (taken_from i (step M x call).answer) _
