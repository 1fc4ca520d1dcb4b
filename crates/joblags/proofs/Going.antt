-- The sheets so far and then the sheets after them are all; and so with the cell and the count.
use Rattle.std.proofs.Common.{◌≡◌, ℕ, ◌+◌, List, [], ◌++◌, Option, Some, None, Result, Ok, Err, IfSome, OnOk, length, refl, sym, ap, ◌∙◌, subst, append_assoc, append-nil, arith}
use Rattle.std.specs.Io.KnownBytes.{Appends}
use Rattle.std.specs.declared.num.NonZeroU64.{NonZeroU64}
use Rattle.std.proofs.KnownBytes.{Appends-nil, Appends-trans}
use Rattle.answer.specs.declared.fault.Fault.{Fault}
use Rattle.model.specs.Calls.{step}
use Rattle.model.specs.Cell.{Cell}
use Rattle.model.specs.History.{after}
use Rattle.chooser.specs.Meaning.{Meaning}
use Rattle.record.specs.Layout.{Contents, contents, event_call}
use Rattle.record.specs.declared.event.Event.{Event}
use Rattle.record.specs.declared.event.Event.TheVariants.{Open, Close, Arrive, Good, Bad, Turn}
use Rattle.recording.specs.Recordings.{nothing, recording, Recording, stopped}
use Rattle.recording.specs.declared.TheConstants.{RECORDS}
use Rattle.recording.proofs.Left.{left_of, OneRead}
use Rattle.replay.specs.Events.{call_as, call_in, calls_in}
use Rattle.joblags.specs.Jobs.{due_sheet, due_sheets, job_text, last_sheet, stopped_line}

-- the call of an event is that of its contents
pub same_call : (e : Event) → call_as (event_call e) ≡ call_in (contents e)
same_call (Open p r t) = refl
same_call (Close p t) = refl
same_call (Arrive p n v t) = refl
same_call (Good p t) = refl
same_call (Bad p t) = refl
same_call (Turn t) = refl

module _ {C : Type 0} (M : Meaning C) (every : Option NonZeroU64) (first : Cell C) (all : Recording) where
  pub record Going (before now : Option (List ℕ)) (x : Cell C) (played next : ℕ) (left : Option (List ℕ)) : Type 0 where
    pub front : List ℕ
    pub rest : List ℕ
    pub printed : Appends before now front
    pub is : left ≡ Some rest
    pub sheets : due_sheets M every first 0 all.events ≡ front ++ due_sheets M every x played (left_of next rest).events
    pub cell : after M first (calls_in all.events) ≡ after M x (calls_in (left_of next rest).events)
    pub count : length all.events ≡ played + length (left_of next rest).events
    pub fault : all.fault ≡ (left_of next rest).fault

  -- all was played, up to a fault or the end
  pub record Ended (before now : Option (List ℕ)) (x : Cell C) (played : ℕ) (fault : Option Fault) : Type 0 where
    pub printed : Appends before now (due_sheets M every first 0 all.events)
    pub cell : x ≡ after M first (calls_in all.events)
    pub count : played ≡ length all.events
    pub same : fault ≡ all.fault

  module _ (before now after_now : Option (List ℕ)) (x : Cell C) (played next : ℕ) (left : Option (List ℕ)) (h : Going before now x played next left) where
    -- no event comes next
    ended : (r : Recording) → left_of next h.rest ≡ r → r.events ≡ [] → Ended before now x played r.fault
    unfolding due_sheets after
    ended r is none =
        let events : (left_of next h.rest).events ≡ [] = ap (λ (r : Recording). r.events) is ∙ none in
        record {
          printed = subst (Appends before now) (sym (h.sheets ∙ ap (λ (l : List Contents). h.front ++ due_sheets M every x played l) events ∙ append-nil h.front)) h.printed;
          cell = sym (h.cell ∙ ap (λ (l : List Contents). after M x (calls_in l)) events);
          count = let e : length (left_of next h.rest).events ≡ 0 = ap length events in omega (arith, h.count);
          same = sym (h.fault ∙ ap (λ (r : Recording). r.fault) is);
        }

    pub going_ended : left_of next h.rest ≡ nothing → Ended before now x played None
    going_ended none = ended nothing none refl

    pub going_fault : (f : Fault) (number above : ℕ) (new : Option (List ℕ)) → OneRead number next above new h.rest (Err f) → Ended before now x played (Some f)
    going_fault f number above new o = ended (stopped f) o.left refl

    -- an event comes next
    pub going_on : (c : Contents) (y : Cell C) (number above : ℕ) (new : Option (List ℕ)) → next ≡ played + 1
        → OneRead number next above new h.rest (Ok c) → y ≡ (step M x (call_in c)).cell
        → Appends now after_now (due_sheet every number y) → Going before after_now y number above new
    unfolding due_sheets after
    going_on c y number above new follows o is line =
        let numbered : number ≡ played + 1 = o.numbered ∙ follows in
        let up : above ≡ next + 1 = o.up in
        let later : Recording = left_of (next + 1) o.rest in
        let sheet : List ℕ = due_sheet every number y in
        let same_sheet : due_sheet every (played + 1) (step M x (call_in c)).cell ≡ sheet =
        λ i. due_sheet every (sym numbered i) (sym is i) in
        let same_later : due_sheets M every (step M x (call_in c)).cell (played + 1) later.events ≡ due_sheets M every y number later.events =
        λ i. due_sheets M every (sym is i) (sym numbered i) later.events in
        let going : Going before after_now y number (next + 1) new =
        record {
          front = h.front ++ sheet;
          rest = o.rest;
          printed = Appends-trans before now after_now h.front sheet h.printed line;
          is = o.is;
          sheets =
              h.sheets ∙ ap (λ (r : Recording). h.front ++ due_sheets M every x played r.events) o.left
              ∙ (λ i. h.front ++ (same_sheet i ++ same_later i)) ∙ sym (append_assoc h.front sheet (due_sheets M every y number later.events));
          cell = h.cell ∙ ap (λ (r : Recording). after M x (calls_in r.events)) o.left ∙ ap (λ (z : Cell C). after M z (calls_in later.events)) (sym is);
          count = let e : length (left_of next h.rest).events ≡ length later.events + 1 = ap (λ (r : Recording). length r.events) o.left ∙ omega arith in omega (arith, h.count, numbered);
          fault = h.fault ∙ ap (λ (r : Recording). r.fault) o.left;
        } in
        subst (λ (n : ℕ). Going before after_now y number n new) (sym up) going

pub going_init : {C : Type 0} (M : Meaning C) (every : Option NonZeroU64) (x : Cell C) (known out : Option (List ℕ)) (next : ℕ) (left : Option (List ℕ))
    → next ≡ 1 → left ≡ known → IfSome known (λ input. Going M every x (recording RECORDS 1 input) out out x 0 next left)
going_init M every x None out next left b e = tt
going_init {C} M every x (Some input) out next left b e =
    let first : Going M every x (recording RECORDS 1 input) out out x 0 1 left =
    record { front = []; rest = input; printed = Appends-nil out; is = e; sheets = refl; cell = refl; count = omega arith; fault = refl } in
    subst (λ (n : ℕ). Going M every x (recording RECORDS 1 input) out out x 0 n left) (sym b) first

-- ---- all of it, with what stands at the end

pub on_ok : {X E : Type 0} (P Q : Type 0) (r : Result X E) → (P → Q) → OnOk r P → OnOk r Q
on_ok P Q (Ok x) f h = f h
on_ok P Q (Err e) f h = tt

pub job_all : {C : Type 0} (M : Meaning C) (every : Option NonZeroU64) (first : Cell C) (known a b c d : Option (List ℕ)) (x : Cell C) (played : ℕ) (fault : Option Fault)
    → IfSome known (λ bytes. Appends a b (due_sheets M every first 0 (recording RECORDS 1 bytes).events))
    → IfSome known (λ bytes. x ≡ after M first (calls_in (recording RECORDS 1 bytes).events))
    → IfSome known (λ bytes. (played ≡ length (recording RECORDS 1 bytes).events) × (fault ≡ (recording RECORDS 1 bytes).fault))
    → Appends b c (stopped_line fault) → Appends c d (last_sheet every played x)
    → IfSome known (λ bytes. Appends a d (job_text M every first (recording RECORDS 1 bytes)))
job_all M every first None a b c d x played fault sheets cell end stop last = tt
job_all {C} M every first (Some bytes) a b c d x played fault sheets cell end stop last =
    let all : Recording = recording RECORDS 1 bytes in
    let stop' : Appends b c (stopped_line all.fault) = subst (λ (f : Option Fault). Appends b c (stopped_line f)) end.1 stop in
    let same : last_sheet every played x ≡ last_sheet every (length all.events) (after M first (calls_in all.events)) =
    λ i. last_sheet every (end.0 i) (cell i) in
    let last' : Appends c d (last_sheet every (length all.events) (after M first (calls_in all.events))) = subst (λ (l : List ℕ). Appends c d l) same last in
    Appends-trans a b d _ _ sheets (Appends-trans b c d _ _ stop' last')
