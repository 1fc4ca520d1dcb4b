-- What is printed of a recording: of each event, and at its end.
use Rattle.std.specs.Prelude.{ℕ, ◌+◌, ◌%◌, ◌==◌, Bool, ◌&&◌, not, true, false, if◌then◌else◌, List, [], ◌∷◌, ◌++◌, codes, decimal}
use Rattle.std.specs.Prelude.{Some, None, Option, Result}
use Rattle.answer.specs.Numbers.{number_of}
use Rattle.answer.specs.declared.fault.Fault.{Fault}
use Rattle.answer.specs.declared.refusal.Refusal.{Refusal}
use Rattle.answer.specs.declared.turn.Answer.{Answer}
use Rattle.chooser.specs.declared.entry.ListKind.{ListKind}
use Rattle.model.specs.Cell.{Cell}
use Rattle.record.specs.Layout.{Contents}
use Rattle.record.specs.Lines.{fault_text, line_text}
use Rattle.states.specs.Texts.{state_text}
use Rattle.summary.specs.Table.{table_text}
use Rattle.summary.specs.declared.sums.Sums.{Sums}
use Rattle.hall.specs.Words.{event_words, fault_words}
use Rattle.hall.specs.declared.telling.Style.{Style}
use Rattle.hall.specs.declared.telling.Style.TheVariants.{Lines, Words, Summary}
use Rattle.hall.specs.declared.telling.Telling.{Telling}

-- ---- an event

abbrev pub record_text : Style → ℕ → Contents → Result Answer Refusal → List ℕ
record_text Lines number c r = line_text number c r
record_text Words number c r = event_words number c r
record_text Summary number c r = []

-- every so many records
abbrev pub is_due : Option ℕ → ℕ → Bool
is_due None number = false
is_due (Some every) number = not (every == 0) && number % every == 0

module _ {C : Type 0} (figure : C → ListKind → ℕ → ℕ) where
  abbrev pub due_text : Bool → ℕ → Cell C → List ℕ
  due_text due number x = if due then state_text figure x number else []

  abbrev pub event_text : Telling → ℕ → Contents → Result Answer Refusal → Cell C → List ℕ
  event_text t number c r x = record_text t.style number c r ++ due_text (is_due t.states number) number x

-- ---- the end

abbrev pub fault_line : Style → Fault → List ℕ
fault_line Lines f = fault_text f.«record» f.refusal
fault_line Words f = fault_words f
fault_line Summary f = []

-- beside states a fault has a line of its own
abbrev pub fault_fact : Option ℕ → Fault → List ℕ
fault_fact None f = []
fault_fact (Some every) f =
    codes "fault " ++ (decimal (number_of f.refusal) ++ (codes " layer record number " ++ (decimal f.«record»
    ++ (codes " byte " ++ (decimal f.byte ++ 10 ∷ [])))))

abbrev pub faults_text : Telling → Option Fault → List ℕ
faults_text t None = []
faults_text t (Some f) = fault_line t.style f ++ fault_fact t.states f

abbrev pub sums_text : Style → Sums → List ℕ
sums_text Lines s = []
sums_text Words s = []
sums_text Summary s = table_text s

module _ {C : Type 0} (figure : C → ListKind → ℕ → ℕ) where
  -- the last state, after all records that were read
  abbrev pub last_text : Option ℕ → ℕ → Cell C → List ℕ
  last_text None records x = []
  last_text (Some every) records x = state_text figure x records

  abbrev pub end_text : Telling → ℕ → Option Fault → Cell C → Sums → List ℕ
  end_text t records fault x s =
      faults_text t fault ++ (last_text t.states records x ++ sums_text t.style s)
