-- A record and then the records after it are the whole.
use Rattle.std.specs.Io.KnownBytes.{Appends, Keeps}
use Rattle.std.proofs.Common.{◌≡◌, ℕ, suc, ◌+◌, true, false, true≢false, List, [], ◌∷◌, ◌++◌, Option, Some, None, Result, Ok, Err, IfSome, IsErrAnd, refl, sym, ap, ◌∙◌, subst, append_assoc, append-nil}
use Rattle.std.proofs.KnownBytes.{Appends-nil, Appends-trans}
use Rattle.std.proofs.Common.{◌⊎◌, inl, inr, length, take, le_refl, arith, take_all, take_at}
use Rattle.std.proofs.lemmas.List.{take-append-le}
use Rattle.std.proofs.Math.Seq.{take-append-add, take-length}
use Rattle.std.proofs.lemmas.Bool.Decides.{leb_tells}
use Rattle.answer.specs.declared.fault.Fault.{Fault}
use Rattle.model.specs.Calls.{Call, step}
use Rattle.model.specs.Cell.{Cell}
use Rattle.model.specs.History.{after}
use Rattle.chooser.specs.Meaning.{Meaning}
use Rattle.record.specs.Layout.{Contents}
use Rattle.record.specs.Reading.{reading}
use Rattle.replay.specs.Events.{call_in, calls_in}
use Rattle.replay.specs.Playing.{cell_played, outcome_of}
use Rattle.recording.specs.Failures.{Puts}
use Rattle.player.specs.Lines.{event_lines, lines_from}
use Rattle.recording.specs.Recordings.{begun, recording, Recording}
use Rattle.player.specs.Steps.{Leaves, line_of, Ran}

module _ {C : Type 0} (M : Meaning C) (x : Cell C) (number : ℕ) (later : List ℕ → Recording) where
  -- where there is a next record, it is as in the definition
  begun_lines : (r : Result (Option (Contents × List ℕ)) Fault) (rest : List ℕ) → Leaves r true (Some rest)
      → lines_from M x number (begun r later) ≡ line_of number (outcome_of M x r) ++ lines_from M (cell_played M x r) (number + 1) (later rest)
  unfolding event_lines
  begun_lines (Ok None) rest h = absurd (true≢false h)
  begun_lines (Ok (Some r)) rest h =
      cc (h.1)
  begun_lines (Err f) rest h = absurd (true≢false h)

  begun_after : (r : Result (Option (Contents × List ℕ)) Fault) (rest : List ℕ) → Leaves r true (Some rest)
      → after M x (calls_in (begun r later).events) ≡ after M (cell_played M x r) (calls_in (later rest).events)
  unfolding after
  begun_after (Ok None) rest h = absurd (true≢false h)
  begun_after (Ok (Some r)) rest h = cc (h.1)
  begun_after (Err f) rest h = absurd (true≢false h)

  -- where there is none, it is all
  ended_lines : (r : Result (Option (Contents × List ℕ)) Fault) (left : Option (List ℕ)) → Leaves r false left
      → lines_from M x number (begun r later) ≡ line_of number (outcome_of M x r)
  unfolding event_lines
  ended_lines (Ok None) left h = refl
  ended_lines (Ok (Some r)) left h = absurd (true≢false (sym h.0))
  ended_lines (Err f) left h = refl

  ended_after : (r : Result (Option (Contents × List ℕ)) Fault) (left : Option (List ℕ)) → Leaves r false left
      → after M x (calls_in (begun r later).events) ≡ cell_played M x r
  unfolding after
  ended_after (Ok None) left h = refl
  ended_after (Ok (Some r)) left h = absurd (true≢false (sym h.0))
  ended_after (Err f) left h = refl

module _ {C : Type 0} (M : Meaning C) where
  after_last : (x : Cell C) (ks : List Call) (k : Call) → after M x (ks ++ k ∷ []) ≡ (step M (after M x ks) k).cell
  unfolding after
  after_last x [] k = refl
  after_last x (j ∷ ks) k = after_last (step M x j).cell ks k

  -- the call of an event is the first of those that are left
  begun_call : (x : Cell C) (later : List ℕ → Recording) (r : Result (Option (Contents × List ℕ)) Fault) (rest : List ℕ) → Leaves r true (Some rest)
      → (k : Call) × (calls_in (begun r later).events ≡ k ∷ calls_in (later rest).events) × (cell_played M x r ≡ (step M x k).cell)
  begun_call x later (Ok None) rest h = absurd (true≢false h)
  begun_call x later (Ok (Some r)) rest h = (call_in r.0, cc (h.1), refl)
  begun_call x later (Err f) rest h = absurd (true≢false h)

  -- a record whose line was not printed may have been played
  begun_step : (x : Cell C) (later : List ℕ → Recording) (r : Result (Option (Contents × List ℕ)) Fault)
      → (cell_played M x r ≡ x) ⊎ ((k : Call) × (more : List Call) × (calls_in (begun r later).events ≡ k ∷ more) × (cell_played M x r ≡ (step M x k).cell))
  begun_step x later (Ok None) = inl refl
  begun_step x later (Ok (Some r)) = inr (call_in r.0, calls_in (later r.1).events, refl, refl)
  begun_step x later (Err f) = inl refl

-- from a cell that was played so far, with what is left of the input, all of a recording is had
pub record Remains {C : Type 0} (M : Meaning C) (first : Cell C) (all : Recording) (before : Option (List ℕ))
    (x : Cell C) (number most : ℕ) (left now : Option (List ℕ)) : Type 0 where
  pub front : List ℕ
  pub rest : List ℕ
  pub printed : Appends before now front
  pub is : left ≡ Some rest
  pub lines : lines_from M first 1 all ≡ front ++ lines_from M x number (recording most number rest)
  pub cell : after M first (calls_in all.events) ≡ after M x (calls_in (recording most number rest).events)
  pub made : List Call
  pub here : x ≡ after M first made
  pub are : calls_in all.events ≡ made ++ calls_in (recording most number rest).events

-- a fact about a value that there is
pub whatever : {X : Type 0} {P : X → Type 0} (o : Option X) → ((x : X) → o ≡ Some x → P x) → IfSome o P
whatever None f = tt
whatever (Some x) f = f x refl

leaves_some : (r : Result (Option (Contents × List ℕ)) Fault) (left : Option (List ℕ)) → Leaves r true left
    → (rest : List ℕ) × (left ≡ Some rest) × Leaves r true (Some rest)
leaves_some (Ok None) left h = absurd (true≢false h)
leaves_some (Ok (Some r)) left h = (r.1, h.1, (refl, refl))
leaves_some (Err f) left h = absurd (true≢false h)

module _ {C : Type 0} (M : Meaning C) where
  pub remains_first : (x : Cell C) (most : ℕ) (input : List ℕ) (left out : Option (List ℕ)) → left ≡ Some input
      → Remains M x (recording most 1 input) out x 1 most left out
  unfolding after
  remains_first x most input left out is =
      record { front = []; rest = input; printed = Appends-nil out; is = is; lines = refl; cell = refl; made = []; here = refl; are = refl }

  module _ (first : Cell C) (all : Recording) (before : Option (List ℕ)) (x : Cell C) (number most : ℕ) (left now : Option (List ℕ)) where
    -- the limit is reached
    pub remains_none : most ≡ 0 → Remains M first all before x number most left now
        → Appends before now (lines_from M first 1 all) × (x ≡ after M first (calls_in all.events))
    unfolding recording event_lines after
    remains_none none h =
        let nothing_left : recording most number h.rest ≡ recording 0 number h.rest = ap (λ (k : ℕ). recording k number h.rest) none in (
          subst (Appends before now) (sym (h.lines ∙ ap (λ (r : Recording). h.front ++ lines_from M x number r) nothing_left ∙ append-nil h.front)) h.printed,
          sym (h.cell ∙ ap (λ (r : Recording). after M x (calls_in r.events)) nothing_left),
        )

    module _ (later : ℕ) (more : most ≡ suc later) (y : Cell C) (after_left after_now : Option (List ℕ))
        (line : IfSome left (λ input. Appends now after_now (line_of number (outcome_of M x (reading number input)))))
        (cell : IfSome left (λ input. y ≡ cell_played M x (reading number input)))
        (h : Remains M first all before x number most left now) where
      the_line : Appends now after_now (line_of number (outcome_of M x (reading number h.rest)))
      the_line = subst (λ (o : Option (List ℕ)). IfSome o (λ input. Appends now after_now (line_of number (outcome_of M x (reading number input))))) h.is line

      the_cell : y ≡ cell_played M x (reading number h.rest)
      the_cell = subst (λ (o : Option (List ℕ)). IfSome o (λ input. y ≡ cell_played M x (reading number input))) h.is cell

      opened : recording most number h.rest ≡ begun (reading number h.rest) (λ rest. recording later (number + 1) rest)
      unfolding recording
      opened = ap (λ (k : ℕ). recording k number h.rest) more

      -- the last record was played
      pub remains_ended : IfSome left (λ input. Leaves (reading number input) false after_left)
          → Appends before after_now (lines_from M first 1 all) × (y ≡ after M first (calls_in all.events))
      remains_ended leaves =
          let l : Leaves (reading number h.rest) false after_left =
          subst (λ (o : Option (List ℕ)). IfSome o (λ input. Leaves (reading number input) false after_left)) h.is leaves in
          let rest : List ℕ → Recording = λ rest. recording later (number + 1) rest in (
            subst (Appends before after_now)
                (sym (h.lines ∙ ap (λ (r : Recording). h.front ++ lines_from M x number r) opened
                ∙ ap (λ (t : List ℕ). h.front ++ t) (ended_lines M x number rest (reading number h.rest) after_left l)))
                (Appends-trans before now after_now _ _ h.printed the_line),
            the_cell ∙ sym (h.cell ∙ ap (λ (r : Recording). after M x (calls_in r.events)) opened ∙ ended_after M x number rest (reading number h.rest) after_left l),
          )

      -- one more was played
      pub remains_next : IfSome left (λ input. Leaves (reading number input) true after_left)
          → Remains M first all before y (number + 1) later after_left after_now
      remains_next leaves =
          let l : Leaves (reading number h.rest) true after_left =
          subst (λ (o : Option (List ℕ)). IfSome o (λ input. Leaves (reading number input) true after_left)) h.is leaves in
          let s = leaves_some (reading number h.rest) after_left l in
          let rest : List ℕ → Recording = λ rest. recording later (number + 1) rest in
          record {
            front = h.front ++ line_of number (outcome_of M x (reading number h.rest));
            rest = s.0;
            printed = Appends-trans before now after_now _ _ h.printed the_line;
            is = s.1;
            lines =
                h.lines ∙ ap (λ (r : Recording). h.front ++ lines_from M x number r) opened
                ∙ ap (λ (t : List ℕ). h.front ++ t) (begun_lines M x number rest (reading number h.rest) s.0 s.2)
                ∙ sym (append_assoc h.front _ _)
                ∙ ap (λ (z : Cell C). (h.front ++ line_of number (outcome_of M x (reading number h.rest))) ++ lines_from M z (number + 1) (rest s.0)) (sym the_cell);
            cell =
                h.cell ∙ ap (λ (r : Recording). after M x (calls_in r.events)) opened
                ∙ begun_after M x number rest (reading number h.rest) s.0 s.2
                ∙ ap (λ (z : Cell C). after M z (calls_in (rest s.0).events)) (sym the_cell);
            made = h.made ++ (begun_call M x rest (reading number h.rest) s.0 s.2).0 ∷ [];
            here =
                the_cell ∙ (begun_call M x rest (reading number h.rest) s.0 s.2).2
                ∙ ap (λ (z : Cell C). (step M z (begun_call M x rest (reading number h.rest) s.0 s.2).0).cell) h.here
                ∙ sym (after_last M first h.made (begun_call M x rest (reading number h.rest) s.0 s.2).0);
            are =
                h.are ∙ ap (λ (r : Recording). h.made ++ calls_in r.events) opened
                ∙ ap (λ (l : List Call). h.made ++ l) (begun_call M x rest (reading number h.rest) s.0 s.2).1
                ∙ sym (append_assoc h.made _ _);
          }

-- a front of what is printed next, after what was printed, is a front of all
pub front_more : (before now after : Option (List ℕ)) (front line more : List ℕ) (n : ℕ) → Appends before now front → Appends now after (take n line)
    → (k : ℕ) × Appends before after (take k (front ++ (line ++ more)))
front_more before now after front line more n p q =
    elim (leb_tells n (length line)) [
      | inl w ↦ (length front + n, subst (Appends before after) (sym (take-append-add front (line ++ more) n ∙ ap (λ (l : List ℕ). front ++ l) (take-append-le n line more w.1))) (Appends-trans before now after front (take n line) p q))
      | inr w ↦ (length front + length line, subst (Appends before after) (sym (take-append-add front (line ++ more) (length line) ∙ ap (λ (l : List ℕ). front ++ l) (take-append-le (length line) line more (le_refl _) ∙ take-length line ∙ sym (take_all n line (omega arith))))) (Appends-trans before now after front (take n line) p q))
    ]

module _ {C : Type 0} (M : Meaning C) where
  -- the next line is a front of what is left to print
  begun_front : (x : Cell C) (number : ℕ) (later : List ℕ → Recording) (r : Result (Option (Contents × List ℕ)) Fault)
      → (more : List ℕ) × (lines_from M x number (begun r later) ≡ line_of number (outcome_of M x r) ++ more)
  unfolding event_lines
  begun_front x number later (Ok None) = ([], refl)
  begun_front x number later (Ok (Some r)) =
      (lines_from M (cell_played M x (Ok (Some r))) (number + 1) (later r.1), begun_lines M x number later (Ok (Some r)) r.1 (refl, refl))
  begun_front x number later (Err f) = ([], sym (append-nil _))

  -- the next line was not written, or not all of it: what was printed is a front of all
  pub remains_failed : (first : Cell C) (all : Recording) (before : Option (List ℕ)) (x : Cell C) (number most later : ℕ) (left now after_now : Option (List ℕ))
      → most ≡ suc later → Remains M first all before x number most left now
      → IfSome left (λ input. (n : ℕ) × Appends now after_now (take n (line_of number (outcome_of M x (reading number input)))))
      → (k : ℕ) × Appends before after_now (take k (lines_from M first 1 all))
  unfolding recording
  remains_failed first all before x number most later left now after_now more h failed =
      let f = subst (λ (o : Option (List ℕ)). IfSome o (λ input. (n : ℕ) × Appends now after_now (take n (line_of number (outcome_of M x (reading number input)))))) h.is failed in
      let next : List ℕ → Recording = λ rest. recording later (number + 1) rest in
      let opened : recording most number h.rest ≡ begun (reading number h.rest) next = ap (λ (k : ℕ). recording k number h.rest) more in
      let b = begun_front x number next (reading number h.rest) in
      let t = front_more before now after_now h.front (line_of number (outcome_of M x (reading number h.rest))) b.0 f.0 h.printed f.1 in
      let e : lines_from M first 1 all ≡ h.front ++ (line_of number (outcome_of M x (reading number h.rest)) ++ b.0) =
      h.lines ∙ ap (λ (r : Recording). h.front ++ lines_from M x number r) opened ∙ ap (λ (l : List ℕ). h.front ++ l) b.1 in
      (t.0, subst (λ (l : List ℕ). Appends before after_now (take t.0 l)) (sym e) t.1)

pub puts_failed : {X E : Type 0} (Q : E → Type 0) (old new : Option (List ℕ)) (text : List ℕ) (r : Result X E) → IsErrAnd r Q
    → (n : ℕ) × Appends old new (take n text) → Puts old new text r
puts_failed Q old new text (Ok x) h p = absurd h
puts_failed Q old new text (Err e) h p = p

module _ {C : Type 0} (M : Meaning C) (first : Cell C) (all : Recording) where
  front_of : (y : Cell C) (made more : List Call) → y ≡ after M first made → calls_in all.events ≡ made ++ more → (k : ℕ) × (y ≡ after M first (take k (calls_in all.events)))
  front_of y made more e f =
      (length made, e ∙ ap (λ (l : List Call). after M first l) (sym (ap (λ (l : List Call). take (length made) l) f ∙ take_at made more (length made) refl)))

  pub ran_failed : (before : Option (List ℕ)) (x : Cell C) (number most later : ℕ) (left now : Option (List ℕ)) (y : Cell C)
      → most ≡ suc later → Remains M first all before x number most left now
      → IfSome left (λ input. (y ≡ x) ⊎ (y ≡ cell_played M x (reading number input)))
      → (k : ℕ) × (y ≡ after M first (take k (calls_in all.events)))
  unfolding recording
  ran_failed before x number most later left now y more h failed =
      let f = subst (λ (o : Option (List ℕ)). IfSome o (λ input. (y ≡ x) ⊎ (y ≡ cell_played M x (reading number input)))) h.is failed in
      let next : List ℕ → Recording = λ rest. recording later (number + 1) rest in
      let opened : recording most number h.rest ≡ begun (reading number h.rest) next = ap (λ (k : ℕ). recording k number h.rest) more in
      elim f [
        | inl e ↦ front_of y h.made (calls_in (recording most number h.rest).events) (e ∙ h.here) h.are
        | inr e ↦ elim (begun_step M x next (reading number h.rest)) [
          | inl s ↦ front_of y h.made (calls_in (recording most number h.rest).events) (e ∙ s ∙ h.here) h.are
          | inr s ↦ front_of y (h.made ++ s.0 ∷ []) s.1
              (e ∙ s.3 ∙ ap (λ (z : Cell C). (step M z s.0).cell) h.here ∙ sym (after_last M first h.made s.0))
              (h.are ∙ ap (λ (r : Recording). h.made ++ calls_in r.events) opened ∙ ap (λ (l : List Call). h.made ++ l) s.2 ∙ sym (append_assoc h.made _ _))
        ]
      ]

pub run_failed : {X E C : Type 0} (M : Meaning C) (Q : E → Type 0) (r : Result X E) (before : Cell C) (cs : List Call) (now : Cell C) → IsErrAnd r Q
    → (k : ℕ) × (now ≡ after M before (take k cs)) → Ran M r before cs now
run_failed M Q (Ok x) before cs now h p = absurd h
run_failed M Q (Err e) before cs now h p = p

-- ---- all was played, and what a buffer holds is written out, or that fails

kept_then : (a b c : Option (List ℕ)) (text : List ℕ) → Appends a b text → Keeps b c → Appends a c text
kept_then None b c text p q = tt
kept_then (Some x) None c text p q = absurd p
kept_then (Some x) (Some y) None text p q = absurd q
kept_then (Some x) (Some y) (Some z) text p q = q ∙ p

pub puts_all : {X E : Type 0} (a b c : Option (List ℕ)) (text : List ℕ) (r : Result X E) → Keeps b c → Appends a b text → Puts a c text r
puts_all a b c text (Ok x) q p = kept_then a b c text p q
puts_all a b c text (Err e) q p = (length text, subst (Appends a c) (sym (take-length text)) (kept_then a b c text p q))

pub ran_all : {X E C : Type 0} (M : Meaning C) (r : Result X E) (before now : Cell C) (cs : List Call) → now ≡ after M before cs → Ran M r before cs now
ran_all M (Ok x) before now cs e = e
ran_all M (Err y) before now cs e = (length cs, e ∙ ap (λ (l : List Call). after M before l) (sym (take-length cs)))
