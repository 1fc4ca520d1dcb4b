-- What is left of a recording, record by record.
use Rattle.std.proofs.Common.{◌≡◌, ◌⊎◌, inl, inr, IfOk, OnErr, ℕ, suc, ◌+◌, ◌-◌, ◌<◌, ◌≤◌, List, [], Option, Some, None, Result, Ok, Err, IfSome, length, take, refl, sym, ap, ◌∙◌, subst, arith}
use Rattle.answer.specs.declared.fault.Fault.{Fault}
use Rattle.record.specs.Layout.{Contents}
use Rattle.record.specs.Reading.{reading, with_rest}
use Rattle.recording.specs.Recordings.{begun, nothing, recording, Recording, stopped, with_first}
use Rattle.recording.specs.Failures.{Notes}
use Rattle.recording.specs.Taking.{Takes, TakesSome}
use Rattle.recording.specs.declared.records.Record.{Record}
use Rattle.recording.specs.declared.TheConstants.{RECORDS}
use Rattle.recording.proofs.Reading.{before, taken}

-- what is left where the next record has this number
abbrev pub left_of : ℕ → List ℕ → Recording
left_of next input = recording (RECORDS + 1 - next) next input

-- an event comes first, or the fault is all
abbrev pub first_of : Result Contents Fault → Recording → Recording
first_of (Ok c) later = with_first c later
first_of (Err f) later = stopped f

begun_first : (r : Result Contents Fault) (rest : List ℕ) (later : List ℕ → Recording)
    → begun (before rest (with_rest [] r)) later ≡ first_of r (later rest)
begun_first (Ok c) rest later = refl
begun_first (Err f) rest later = refl

opened : (most next : ℕ) (input : List ℕ) (later : ℕ) → most ≡ suc later
    → recording most next input ≡ begun (reading next input) (λ rest. recording later (next + 1) rest)
unfolding recording
opened most next input later e = ap (λ (k : ℕ). recording k next input) e

-- one record was taken of the input
pub one_taken : (next size : ℕ) (bytes : List ℕ) (old new : Option (List ℕ)) (input : List ℕ) (r : Result Contents Fault)
    → next ≤ RECORDS → size ≤ 16 → length bytes ≡ 16 → Takes old new bytes size → old ≡ Some input
    → with_rest [] r ≡ reading next (take size bytes)
    → (rest : List ℕ) × (new ≡ Some rest) × (left_of next input ≡ first_of r (left_of (next + 1) rest))
one_taken next size bytes old new input r few small long takes is e =
    let t = subst (λ (o : Option (List ℕ)). IfSome o (λ input. (rest : List ℕ) × (new ≡ Some rest) × (reading next input ≡ before rest (reading next (take size bytes))))) is (taken next old new bytes size small long takes) in
    let later : List ℕ → Recording = λ rest. recording (RECORDS + 1 - (next + 1)) (next + 1) rest in (
      t.0,
      t.1,
      opened (RECORDS + 1 - next) next input (RECORDS + 1 - (next + 1)) (omega arith)
          ∙ ap (λ (x : Result (Option (Contents × List ℕ)) Fault). begun x later) (t.2 ∙ ap (before t.0) (sym e))
          ∙ begun_first r t.0 later,
    )

empty_left : (old new : Option (List ℕ)) (input : List ℕ) → Takes old new [] 0 → old ≡ Some input → input ≡ []
empty_left None new input h e = absurd cc
empty_left (Some xs) None input h e = absurd h.0
empty_left (Some xs) (Some ys) input h e =
    let same : input ≡ xs = ap (λ (o : Option (List ℕ)). elim o as (λ _. List ℕ) [ None ↦ [] | Some l ↦ l ]) (sym e) in
    same ∙ h.0 ∙ h.1 (omega arith)

-- the input has ended
pub none_taken : (next : ℕ) (old new : Option (List ℕ)) (input : List ℕ) → next ≤ RECORDS → Takes old new [] 0 → old ≡ Some input
    → left_of next input ≡ nothing
none_taken next old new input few takes is =
    opened (RECORDS + 1 - next) next input (RECORDS + 1 - (next + 1)) (omega arith)
    ∙ ap (λ (l : List ℕ). begun (reading next l) (λ rest. recording (RECORDS + 1 - (next + 1)) (next + 1) rest)) (empty_left old new input takes is)

-- the limit is reached
pub past_limit : (next : ℕ) (input : List ℕ) → RECORDS < next → left_of next input ≡ nothing
unfolding recording
past_limit next input past =
    let none : RECORDS + 1 - next ≡ 0 = omega arith in ap (λ (k : ℕ). recording k next input) none

-- ---- the same of what the iterator over the records says

pub record OneRead (number next above : ℕ) (new : Option (List ℕ)) (input : List ℕ) (r : Result Contents Fault) : Type 0 where
  pub numbered : number ≡ next
  pub up : above ≡ next + 1
  pub rest : List ℕ
  pub is : new ≡ Some rest
  pub left : left_of next input ≡ first_of r (left_of (next + 1) rest)

ok_part : {X E : Type 0} (P : X → Type 0) (r : Result X E) (x : X) → r ≡ Ok x → IfOk r P → P x
ok_part {X} {E} P r x e h = let Q : Result X E → Type 0 = λ r. IfOk r P in subst Q e h

pub one_read : {E : Type 0} (next above : ℕ) (old new : Option (List ℕ)) (before_failure failure : Option E) (read : Result Record E) (rec : Record)
    (input : List ℕ) (r : Result Contents Fault) → read ≡ Ok rec
    → (next ≤ RECORDS) × (above ≡ next + 1) × Notes before_failure failure read
    × IfOk read (λ rec. (rec.number ≡ next) × Takes old new rec.bytes rec.size) × OnErr read (TakesSome old new)
    → old ≡ Some input → with_rest [] r ≡ reading rec.number (take rec.size rec.bytes)
    → OneRead rec.number next above new input r
one_read next above old new before_failure failure read rec input r ok gives is e =
    let p : (rec.number ≡ next) × Takes old new rec.bytes rec.size = ok_part (λ rec. (rec.number ≡ next) × Takes old new rec.bytes rec.size) read rec ok gives.3 in
    let t = one_taken next rec.size rec.bytes old new input r gives.0 rec.inside.1 rec.whole p.1 is (e ∙ ap (λ (n : ℕ). reading n (take rec.size rec.bytes)) p.0) in
    record { numbered = p.0; up = gives.1; rest = t.0; is = t.1; left = t.2 }

pub none_read : {A B C : Type 0} (next : ℕ) (old new : Option (List ℕ)) (input : List ℕ)
    → ((RECORDS < next) × A) ⊎ ((next ≤ RECORDS) × B × C × Takes old new [] 0)
    → old ≡ Some input → left_of next input ≡ nothing
none_read next old new input gives is =
    elim gives [
      | inl past ↦ past_limit next input past.0
      | inr ended ↦ none_taken next old new input ended.0 ended.3 is
    ]

pub read_number : {E : Type 0} (next above : ℕ) (old new : Option (List ℕ)) (before_failure failure : Option E) (read : Result Record E) (rec : Record)
    → read ≡ Ok rec
    → (next ≤ RECORDS) × (above ≡ next + 1) × Notes before_failure failure read
    × IfOk read (λ rec. (rec.number ≡ next) × Takes old new rec.bytes rec.size) × OnErr read (TakesSome old new)
    → above ≡ rec.number + 1
read_number next above old new before_failure failure read rec ok gives =
    let p : (rec.number ≡ next) × Takes old new rec.bytes rec.size =
    ok_part (λ rec. (rec.number ≡ next) × Takes old new rec.bytes rec.size) read rec ok gives.3 in
    gives.1 ∙ ap (λ (n : ℕ). n + 1) (sym p.0)
