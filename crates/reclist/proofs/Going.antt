-- A line and then the lines after it are the whole listing.
use Rattle.std.proofs.Common.{◌≡◌, ℕ, ◌+◌, List, [], ◌++◌, Option, Some, None, Ok, Err, IfSome, refl, sym, ap, ◌∙◌, subst, append_assoc, append-nil}
use Rattle.std.specs.Io.KnownBytes.{Appends}
use Rattle.std.proofs.KnownBytes.{Appends-nil, Appends-trans}
use Rattle.answer.specs.declared.fault.Fault.{Fault}
use Rattle.record.specs.Layout.{Contents}
use Rattle.recording.specs.Recordings.{nothing, recording, Recording, stopped, with_first}
use Rattle.recording.specs.declared.TheConstants.{RECORDS}
use Rattle.recording.proofs.Left.{left_of, OneRead}
use Rattle.reclist.specs.declared.form.Form.{Form}
use Rattle.reclist.specs.Listing.{event_line, event_lines, fault_line}
use Rattle.reclist.specs.Tallies.{Counts, counted, empty, tallied}

abbrev pub lines_from : Form → ℕ → Recording → List ℕ
lines_from form number r = event_lines form number r.events r.fault

-- what was listed so far, and then what is left, is all
pub record Going (form : Form) (all : Recording) (before now : Option (List ℕ)) (tally : Counts) (next : ℕ) (left : Option (List ℕ)) : Type 0 where
  pub front : List ℕ
  pub rest : List ℕ
  pub printed : Appends before now front
  pub is : left ≡ Some rest
  pub lines : lines_from form 1 all ≡ front ++ lines_from form next (left_of next rest)
  pub counts : tallied empty all.events ≡ tallied tally (left_of next rest).events
  pub fault : all.fault ≡ (left_of next rest).fault

pub going_first : (form : Form) (input : List ℕ) (out left : Option (List ℕ)) → left ≡ Some input → Going form (left_of 1 input) out out empty 1 left
going_first form input out left is =
    record { front = []; rest = input; printed = Appends-nil out; is = is; lines = refl; counts = refl; fault = refl }

module _ (form : Form) (all : Recording) (before now : Option (List ℕ)) (tally : Counts) (next : ℕ) (left : Option (List ℕ)) (h : Going form all before now tally next left) where
  -- nothing is left
  pub going_ended : left_of next h.rest ≡ nothing → Appends before now (lines_from form 1 all) × (tally ≡ tallied empty all.events) × (None ≡ all.fault)
  unfolding event_lines tallied
  going_ended none = (
    subst (Appends before now) (sym (h.lines ∙ ap (λ (r : Recording). h.front ++ lines_from form next r) none ∙ append-nil h.front)) h.printed,
    sym (h.counts ∙ ap (λ (r : Recording). tallied tally r.events) none),
    sym (h.fault ∙ ap (λ (r : Recording). r.fault) none),
  )

  module _ (after_now : Option (List ℕ)) where
    -- a fault comes next
    pub going_stopped : (f : Fault) → left_of next h.rest ≡ stopped f → Appends now after_now (fault_line form f)
        → Appends before after_now (lines_from form 1 all) × (tally ≡ tallied empty all.events) × (Some f ≡ all.fault)
    unfolding event_lines tallied
    going_stopped f stop line = (
      subst (Appends before after_now) (sym (h.lines ∙ ap (λ (r : Recording). h.front ++ lines_from form next r) stop))
          (Appends-trans before now after_now h.front (fault_line form f) h.printed line),
      sym (h.counts ∙ ap (λ (r : Recording). tallied tally r.events) stop),
      sym (h.fault ∙ ap (λ (r : Recording). r.fault) stop),
    )

    -- an event comes next
    pub going_next : (c : Contents) (new : Option (List ℕ)) (rest : List ℕ) → new ≡ Some rest
        → left_of next h.rest ≡ with_first c (left_of (next + 1) rest) → Appends now after_now (event_line form next c)
        → Going form all before after_now (counted tally c) (next + 1) new
    unfolding event_lines tallied
    going_next c new rest is one line =
        record {
          front = h.front ++ (event_line form next c);
          rest = rest;
          printed = Appends-trans before now after_now h.front (event_line form next c) h.printed line;
          is = is;
          lines =
              h.lines ∙ ap (λ (r : Recording). h.front ++ lines_from form next r) one
              ∙ sym (append_assoc h.front (event_line form next c) (lines_from form (next + 1) (left_of (next + 1) rest)));
          counts = h.counts ∙ ap (λ (r : Recording). tallied tally r.events) one;
          fault = h.fault ∙ ap (λ (r : Recording). r.fault) one;
        }

pub going_init : (form : Form) (known out : Option (List ℕ)) (tally : Counts) (next : ℕ) (left : Option (List ℕ)) → tally ≡ empty → next ≡ 1 → left ≡ known
    → IfSome known (λ input. Going form (recording RECORDS 1 input) out out tally next left)
going_init form None out tally next left a b e = tt
going_init form (Some input) out tally next left a b e =
    subst (λ (t : Counts). Going form (recording RECORDS 1 input) out out t next left) (sym a)
    (subst (λ (n : ℕ). Going form (recording RECORDS 1 input) out out empty n left) (sym b) (going_first form input out left e))

module _ (form : Form) (all : Recording) (before now after_now : Option (List ℕ)) (tally : Counts) (number next above : ℕ) (left new : Option (List ℕ)) (h : Going form all before now tally next left) where
  pub going_on : (c : Contents) (after_tally : Counts) → OneRead number next above new h.rest (Ok c) → Appends now after_now (event_line form number c)
      → after_tally ≡ counted tally c → Going form all before after_now after_tally above new
  going_on c after_tally o line e =
      subst (λ (t : Counts). Going form all before after_now t above new) (sym e)
      (subst (λ (n : ℕ). Going form all before after_now (counted tally c) n new) (sym o.up)
      (going_next form all before now tally next left h after_now c new o.rest o.is o.left
      (subst (λ (n : ℕ). Appends now after_now (event_line form n c)) o.numbered line)))

  pub going_fault : (f : Fault) → OneRead number next above new h.rest (Err f) → Appends now after_now (fault_line form f)
      → Appends before after_now (lines_from form 1 all) × (tally ≡ tallied empty all.events) × (Some f ≡ all.fault)
  going_fault f o line = going_stopped form all before now tally next left h after_now f o.left line
