-- What holds in every history of a new cell: what each call keeps, carried along a run.
use Rattle.std.proofs.Common.{◌≡◌, ℕ, zero, suc, ◌+◌, ◌≤◌, Bool, true, false, cond, eqb, ◌↔◌, List}
use Rattle.std.proofs.Common.{[], ◌∷◌, ◌++◌, Some, None, Ok, Err, Option, Result, sym, refl, ap}
use Rattle.std.proofs.Common.{◌∙◌, subst, le_trans, le_refl, arith}
use Rattle.std.proofs.lemmas.List.{append-nil}
use Rattle.std.proofs.lemmas.Bool.{both_ways, false≢true, cond_both, cond-true, cond-false, eq-eqb}
use Rattle.std.proofs.lemmas.Bool.{ne_eqb}
use Rattle.answer.specs.declared.refusal.Refusal.{Refusal}
use Rattle.answer.specs.declared.turn.Answer.{Answer}
use Rattle.answer.specs.declared.turn.Answer.TheVariants.{Done, Turn as Turned}
use Rattle.answer.specs.declared.turn.Kind.{Kind}
use Rattle.answer.specs.declared.turn.Kind.TheVariants.{Normal, Credit, Kept, Extra, Idle}
use Rattle.answer.specs.declared.turn.Sent.{Sent}
use Rattle.answer.specs.declared.turn.Turn.{Turn}
use Rattle.model.specs.Limits.{places, idle_length, quarters}
use Rattle.model.specs.Session.{Frame, able, lead}
use Rattle.model.specs.Table.{Table, at, chosen}
use Rattle.chooser.specs.Meaning.{Meaning, Lawful}
use Rattle.model.specs.Turn.{Way, by_right, by_allowance, by_credit, unclaimed, by_extra, idle}
use Rattle.model.specs.Turn.{sender, kind, sent_of}
use Rattle.model.specs.Turn.{length_of, answer_of}
use Rattle.model.specs.Cell.{Cell, settled}
use Rattle.model.specs.Calls.{Call, opening, closing, arrival, report, turn, refusal, Outcome}
use Rattle.model.specs.Calls.{decide, turn_after}
use Rattle.model.specs.Calls.{accepted, outcome, step, new}
use Rattle.model.specs.History.{sent_from, taken_from, brought_to, frame_of, bytes, sum_to, after}
use Rattle.model.specs.History.{sent, sent_by}
use Rattle.model.specs.History.{brought, Throughout}
use Rattle.model.specs.Promises.{GetsItsShare, IdlesOnlyIfNoneAble, ChoosesTheLeastAdvanced}
use Rattle.model.specs.Promises.{SaysWhoSent}
use Rattle.model.specs.Promises.{SaysWhenIdle, KeepsTheQueues, SendsWhatItSays, CountsEveryByte}
use Rattle.model.specs.Promises.{AlwaysBalanced, ActiveExactlyWhen, RefusesWithoutTrace}
use Rattle.model.specs.Promises.{RefusesInOrder}
use Rattle.model.specs.Promises.{MarkNeverFalls, ClosingShedsNothing, StaysWithin, KeepsItsBooks}
use Rattle.model.specs.Promises.{Promises, most_sent}
use Rattle.model.specs.Further.{WaitsNoLonger}
use Rattle.model.proofs.Ledger.{Ordered}
use Rattle.model.proofs.Share.{share_from}
use Rattle.model.proofs.Chosen.{chosen_next}
use Rattle.model.proofs.Senders.{Rightly, decides}
use Rattle.model.proofs.Turn.{each_way}
use Rattle.model.proofs.Cases.{each_case}
use Rattle.model.proofs.Calls.{step_good}
use Rattle.model.proofs.Bounds.{Within, step_within}
use Rattle.model.proofs.Queues.{sum_none, sum_add, step_queued, step_adds, step_counts}
use Rattle.model.proofs.Books.{row_status, new_ordered, new_within, sound_from, lag_low}

-- ---- answers

-- an answer is one thing
abbrev pub Reply : Type 0
Reply = Result Answer Refusal

pub not_turned : {X : Type 0} (a : Turn) → ◌≡◌ {A = Reply} (Ok Done) (Ok (Turned a)) → X
not_turned a e = let z : ◌≡◌ {A = ℕ} 0 1 = cc in absurd (omega arith)

pub not_refused : {X : Type 0} (a : Answer) (why : Refusal) → ◌≡◌ {A = Reply} (Err why) (Ok a) → X
not_refused a why e = let z : ◌≡◌ {A = ℕ} 0 1 = cc in absurd (omega arith)

pub same_turn : (a b : Turn) → ◌≡◌ {A = Reply} (Ok (Turned a)) (Ok (Turned b)) → a ≡ b
same_turn a b e = cc

no_sender : {X : Type 0} (s : Sent) → Some s ≡ None → X
no_sender s e = let z : ◌≡◌ {A = ℕ} 0 1 = cc in absurd (omega arith)

abbrev idles : Kind → Bool
idles Normal = false
idles Credit = false
idles Kept = false
idles Extra = false
idles Idle = true

not_idle : {X : Type 0} (k : Kind) → idles k ≡ false → k ≡ Idle → X
not_idle k h e = absurd (false≢true (sym h ∙ ap idles e))

-- what the way of a turn says of a sender
way_idles : (t : Table) (c : ℕ) (w : Way) → Rightly t (at t c) w →
    (sent_of t (sender c w) ≡ None) ↔ ((i : ℕ) → able (at t i) ≡ false)
way_idles t c w r =
    each_way 0 0 t c (λ o _. (sent_of t o ≡ None) ↔ ((i : ℕ) → able (at t i) ≡ false))
    (λ _ _ a. (λ e. no_sender _ e, λ h. absurd (both_ways (able (at t c)) (h c) a)))
    (λ q p. (λ e. no_sender _ e, λ h. absurd (both_ways (able (at t q)) (h q) p.ready)))
    (λ h. (λ e. h, λ _. refl)) w r

-- kind and length tell whether anybody sent
way_says : (t : Table) (c : ℕ) (w : Way) →
    ((kind w ≡ Idle) ↔ (sent_of t (sender c w) ≡ None)) × (sent_of t (sender c w) ≡ None → length_of t (sender c w) ≡ idle_length)
way_says t c by_right = ((λ e. not_idle Normal refl e, λ e. no_sender _ e), λ e. no_sender _ e)
way_says t c by_allowance = ((λ e. not_idle Normal refl e, λ e. no_sender _ e), λ e. no_sender _ e)
way_says t c unclaimed = ((λ e. not_idle Kept refl e, λ e. no_sender _ e), λ e. no_sender _ e)
way_says t c (by_credit q) = ((λ e. not_idle Credit refl e, λ e. no_sender _ e), λ e. no_sender _ e)
way_says t c (by_extra q) = ((λ e. not_idle Extra refl e, λ e. no_sender _ e), λ e. no_sender _ e)
way_says t c idle = ((λ e. refl, λ e. refl), λ e. refl)

module _ {C : Type 0} (M : Meaning C) (law : Lawful M) where
  -- ---- one call

  -- what holds of the turn of whoever is chosen holds of an accepted turn
  turn_case : (x : Cell C) (P : Turn → Type 0) → Ordered x →
      ((c : ℕ) → chosen x.table ≡ Some c → P (answer_of x.table c (decide M x.chooser x.table c))) →
      (a : Turn) → (step M x turn).answer ≡ Ok (Turned a) → P a
  unfolding accepted
  turn_case x P s h =
      each_case M x s.book.draft.size (λ _ o. (a : Turn) → o.answer ≡ Ok (Turned a) → P a)
      (λ _ why a e. not_refused (Turned a) why e)
      (λ _ _ _ _ _ _ a e. not_turned a e)
      (λ _ _ _ _ _ a e. not_turned a e)
      (λ _ _ _ _ _ _ _ _ a e. not_turned a e)
      (λ _ _ _ _ a e. not_turned a e)
      (λ c k _ a e. subst P (same_turn (answer_of x.table c (decide M x.chooser x.table c)) a e) (h c k))
      turn

  -- what a turn takes, by its answer
  turn_takes : (x : Cell C) (a : Turn) (i : ℕ) → Ordered x →
      (step M x turn).answer ≡ Ok (Turned a) →
      (at x.table i).queue ≡ sent_from i a.sent a.length ++ (at (step M x turn).cell.table i).queue
  turn_takes x a i s e =
      let q = step_queued M law x turn i s in
      let f =
      subst
      (λ (r : Reply). (at x.table i).queue ++ brought_to i turn r ≡ taken_from i r ++ (at (step M x turn).cell.table i).queue) e q in
      sym (append-nil (at x.table i).queue) ∙ f

  sent_takes : (x : Cell C) (a : Turn) (s : Sent) (i : ℕ) → Ordered x →
      (step M x turn).answer ≡ Ok (Turned a) →
      a.sent ≡ Some s →
      (at x.table i).queue ≡ cond (eqb s.sender i) (frame_of s a.length ∷ []) [] ++ (at (step M x turn).cell.table i).queue
  sent_takes x a s i o e f =
      turn_takes x a i o e ∙ ap
      (λ (r : Option Sent). sent_from i r a.length ++ (at (step M x turn).cell.table i).queue) f

  -- a place closes at the mark or below
  Closed : Cell C → Call → Outcome M → Type 0
  Closed x (opening p r) o = Unit {0}
  Closed x (closing p) o = o.answer ≡ Ok Done → (at x.table p).virtual_time ≤ x.mark
  Closed x (arrival p g n) o = Unit {0}
  Closed x (report p b) o = Unit {0}
  Closed x turn o = Unit {0}

  closed : (x : Cell C) (call : Call) → Ordered x → Closed x call (step M x call)
  unfolding Closed
  closed x call s =
      each_case M x s.book.draft.size (Closed x)
      (λ k why. refused k why)
      (λ _ _ _ _ _ _. tt)
      (λ p _ _ _ v e. v)
      (λ _ _ _ _ _ _ _ _. tt)
      (λ _ _ _ _. tt)
      (λ _ _ _. tt)
      call
    where
      refused : (k : Call) (why : Refusal) → Closed x k (record { cell = x; answer = Err why })
      refused (opening p r) why = tt
      refused (closing p) why = λ e. not_refused Done why e
      refused (arrival p g n) why = tt
      refused (report p b) why = tt
      refused turn why = tt

  keeps_keep : (x : Cell C) (call : Call) → Ordered x → (step M x call).cell.keep ≡ x.keep
  unfolding accepted settled turn_after
  keeps_keep x call s =
      each_case M x s.book.draft.size (λ _ o. o.cell.keep ≡ x.keep)
      (λ _ _. refl) (λ _ _ _ _ _ _. refl) (λ _ _ _ _ _. refl) (λ _ _ _ _ _ _ _ _. refl) (λ _ _ _ _. refl) (λ _ _ _. refl)
      call

  -- ---- runs

  ordered : (x : Cell C) (ks : List Call) → Ordered x → Ordered (after M x ks)
  unfolding after
  ordered x [] s = s
  ordered x (k ∷ ks) s = ordered (step M x k).cell ks (step_good M law x k s).ordered

  within : (x : Cell C) (ks : List Call) → Ordered x → Within x → Within (after M x ks)
  unfolding after
  within x [] s w = w
  within x (k ∷ ks) s w =
      within (step M x k).cell ks (step_good M law x k s).ordered (step_within M law x k s w)

  same_keep : (x : Cell C) (ks : List Call) → Ordered x → (after M x ks).keep ≡ x.keep
  unfolding after
  same_keep x [] s = refl
  same_keep x (k ∷ ks) s =
      same_keep (step M x k).cell ks (step_good M law x k s).ordered ∙ keeps_keep x k s

  rises : (x : Cell C) (ks : List Call) → Ordered x → x.mark ≤ (after M x ks).mark
  unfolding after
  rises x [] s = le_refl x.mark
  rises x (k ∷ ks) s = le_trans (step_good M law x k s).rises (rises (step M x k).cell ks (step_good M law x k s).ordered)

  -- a new cell, after some calls
  pub reached : (keep : ℕ) (c : C) → Throughout M (new keep c) Ordered
  reached keep c ks = ordered (new keep c) ks (new_ordered keep c)

  reached_within : (keep : ℕ) (c : C) →
      Throughout M (new keep c) (λ x. x.keep ≤ quarters → Within x)
  reached_within keep c ks k =
      within (new keep c) ks (new_ordered keep c)
      (new_within keep c (subst (λ (n : ℕ). n ≤ quarters) (same_keep (new keep c) ks (new_ordered keep c)) k))

  -- ---- the promises

  pub shares : (keep : ℕ) (c : C) → GetsItsShare M (new keep c)
  shares keep c before stretch i a =
      share_from M Ordered (λ x s. s.book) (λ x k s. (step_good M law x k s).ordered) (λ i x k s. (step_good M law x k s).move i)
      i (after M (new keep c) before) stretch (reached keep c before) a

  pub idle_turns : (keep : ℕ) (c : C) → IdlesOnlyIfNoneAble M (new keep c)
  idle_turns keep c ks =
      let x = after M (new keep c) ks in
      let s = reached keep c ks in
      turn_case x (λ a. (a.sent ≡ None) ↔ ((i : ℕ) → able (at x.table i) ≡ false)) s
      (λ c e. way_idles x.table c (decide M x.chooser x.table c) (decides M law x c s))

  pub chooses : (keep : ℕ) (c : C) → ChoosesTheLeastAdvanced M (new keep c)
  chooses keep c ks =
      let x = after M (new keep c) ks in
      turn_case x _ (reached keep c ks) (λ c e. let n = chosen_next x.table c e in (n.active, n.least, n.before))

  says_who : (keep : ℕ) (c : C) → SaysWhoSent M (new keep c)
  says_who keep c ks a e s f =
      let x = after M (new keep c) ks in
      let o = reached keep c ks in
      let one = frame_of s a.length ∷ [] in
      let y : ℕ → List Frame = λ i. (at (step M x turn).cell.table i).queue in
      let q = s.sender in (
        sent_takes x a s q o e f ∙ ap (λ (fs : List Frame). fs ++ y q) (cond-true (eqb q q) one [] (eq-eqb q q refl)),
        λ i n. sym (sent_takes x a s i o e f ∙ ap (λ (fs : List Frame). fs ++ y i) (cond-false (eqb q i) one [] (ne_eqb q i n))),
      )

  says_idle : (keep : ℕ) (c : C) → SaysWhenIdle M (new keep c)
  says_idle keep c ks =
      let x = after M (new keep c) ks in
      turn_case x (λ a. ((a.kind ≡ Idle) ↔ (a.sent ≡ None)) × (a.sent ≡ None → a.length ≡ idle_length)) (reached keep c ks)
      (λ c e. way_says x.table c (decide M x.chooser x.table c))

  queues : (keep : ℕ) (c : C) → KeepsTheQueues M (new keep c)
  queues keep c ks call i = step_queued M law (after M (new keep c) ks) call i (reached keep c ks)

  pub says : (keep : ℕ) (c : C) → SendsWhatItSays M (new keep c)
  says keep c = (says_who keep c, says_idle keep c, queues keep c)

  counts_at : (i : ℕ) (x : Cell C) (ks : List Call) → Ordered x →
      bytes (at x.table i).queue + brought M i x ks ≡ sent_by M i x ks + bytes (at (after M x ks).table i).queue
  unfolding after sent_by brought
  counts_at i x [] s = omega arith
  counts_at i x (k ∷ ks) s =
      omega (arith, step_counts M law x k i s, counts_at i (step M x k).cell ks (step_good M law x k s).ordered)

  adds_up : (x : Cell C) (ks : List Call) → Ordered x →
      sent M x ks ≡ sum_to places (λ i. sent_by M i x ks)
  unfolding sent sent_by
  adds_up x [] s = sym (sum_none places (λ i. 0) (λ _ _. refl))
  adds_up x (k ∷ ks) s =
      let a = step_adds M law x k s in
      let b = adds_up (step M x k).cell ks (step_good M law x k s).ordered in
      let d = sum_add places (λ i. bytes (taken_from i (step M x k).answer)) (λ i. sent_by M i (step M x k).cell ks) in
      omega arith

  pub counts : (keep : ℕ) (c : C) → CountsEveryByte M (new keep c)
  counts keep c ks stretch =
      (λ i. counts_at i (after M (new keep c) ks) stretch (reached keep c ks), adds_up (after M (new keep c) ks) stretch (reached keep c ks))

  -- a sum over places of no more at each of them
  sum_le : (n : ℕ) (f g : ℕ → ℕ) → ((j : ℕ) → f j ≤ g j) → sum_to n f ≤ sum_to n g
  unfolding sum_to
  sum_le zero f g h = omega arith
  sum_le (suc n) f g h = omega (arith, sum_le n f g h, h n)

  pub waits : (keep : ℕ) (c : C) → WaitsNoLonger M (new keep c)
  waits keep c ks stretch i able none =
      let x = after M (new keep c) ks in
      let f : ℕ → ℕ = λ j. sent_by M j x stretch in
      let most : ℕ → ℕ = λ n. most_sent (at x.table i).price n (lead (at x.table i)) in
      let fewer =
      sum_le places (λ j. cond (eqb j i) 0 (f j)) f
      (λ j. cond_both (eqb j i) 0 (f j) (λ n. n ≤ f j) (λ _. omega arith) (λ _. le_refl (f j))) in
      let all = adds_up x stretch (reached keep c ks) in
      le_trans fewer (subst (λ (n : ℕ). n ≤ most 0) all (subst (λ (n : ℕ). sent M x stretch ≤ most n) none (shares keep c ks stretch i able)))

  pub balanced : (keep : ℕ) (c : C) → AlwaysBalanced M (new keep c)
  balanced keep c ks = let d = (reached keep c ks).book.draft in (d.balance, λ i a. ((d.rows i).quiet a).0)

  pub status : (keep : ℕ) (c : C) → ActiveExactlyWhen M (new keep c)
  status keep c ks i =
      let x = after M (new keep c) ks in
      let b = (reached keep c ks).book in
      row_status x.mark (at x.table i) (b.draft.rows i) (b.busy i)

  pub refuses : (keep : ℕ) (c : C) → RefusesWithoutTrace M (new keep c)
  unfolding step accepted
  refuses keep c x call why e = by (refusal x call) e
    where
      by : (o : Option Refusal) → (outcome M x call o).answer ≡ Err why →
          (outcome M x call o).cell ≡ x
      by (Some w) f = refl
      by None f = accepts call f
        where
          accepts : (k : Call) → (accepted M x k).answer ≡ Err why → (accepted M x k).cell ≡ x
          accepts (opening p r) g = not_refused Done why (sym g)
          accepts (closing p) g = not_refused Done why (sym g)
          accepts (arrival p h n) g = not_refused Done why (sym g)
          accepts (report p b) g = not_refused Done why (sym g)
          accepts turn g = not_refused _ why (sym g)

  pub in_order : (keep : ℕ) (c : C) → RefusesInOrder M (new keep c)
  in_order keep c x (opening p r) = refl
  in_order keep c x (closing p) = refl
  in_order keep c x (arrival p g n) = refl
  in_order keep c x (report p b) = refl
  in_order keep c x turn = refl

  pub mark_rises : (keep : ℕ) (c : C) → MarkNeverFalls M (new keep c)
  mark_rises keep c ks more = rises (after M (new keep c) ks) more (reached keep c ks)

  pub sheds_nothing : (keep : ℕ) (c : C) → ClosingShedsNothing M (new keep c)
  unfolding Closed
  sheds_nothing keep c ks place more e a =
      let x = after M (new keep c) ks in
      let s = reached keep c ks in
      let g = step_good M law x (closing place) s in
      let y = (step M x (closing place)).cell in
      le_trans (closed x (closing place) s e) (le_trans g.rises (le_trans (rises y more g.ordered)
      (((ordered y more g.ordered).book.draft.rows place).ahead a)))

  pub stays_within : (keep : ℕ) (c : C) → StaysWithin M (new keep c)
  stays_within keep c ks k =
      let x = after M (new keep c) ks in
      let s = reached keep c ks in
      let w = reached_within keep c ks k in (
        omega (arith, w.mark, s.few),
        s.few,
        s.book.draft.rates,
        λ i. let r =
            w.rows i in
            (omega (arith, r.0, s.few), omega (arith, r.1, s.few), omega (arith, lag_low x i s, s.few), (s.book.draft.rows i).room),
      )

  pub keeps_books : (keep : ℕ) (c : C) → KeepsItsBooks M (new keep c)
  keeps_books keep c ks k =
      sound_from (after M (new keep c) ks) (reached keep c ks) (reached_within keep c ks k)

  pub promises : (keep : ℕ) (c : C) → Promises M (new keep c)
  promises keep c = record {
    share = shares keep c;
    idles = idle_turns keep c;
    chooses = chooses keep c;
    says = says keep c;
    counts = counts keep c;
    balance = balanced keep c;
    status = status keep c;
    refuses = refuses keep c;
    order = in_order keep c;
    mark = mark_rises keep c;
    sheds = sheds_nothing keep c;
    within = stays_within keep c;
    books = keeps_books keep c;
  }
