-- What is printed of a recording: its events in words, why nothing more is listed, and what it adds up to.
use Rattle.std.specs.Prelude.{ℕ, ◌+◌, List, [], ◌∷◌, ◌++◌, codes, decimal, Some, None, Option}
use Rattle.answer.specs.declared.fault.Fault.{Fault}
use Rattle.record.specs.Layout.{Contents}
use Rattle.record.specs.Lines.{newline}
use Rattle.notation.specs.Words.{event_words}
use Rattle.recording.specs.Recordings.{Recording}
use Rattle.reclist.specs.declared.form.Form.{Form}
use Rattle.reclist.specs.declared.form.Form.TheVariants.{Numbered, Plain}
use Rattle.reclist.specs.Tallies.{Counts, empty, records, tallied}
use Rattle.reclist.specs.Words.{stopped_words}

-- what stands before an event, where its number is printed
abbrev pub number_words : Form → ℕ → List ℕ
number_words Numbered number = decimal number ++ codes ": "
number_words Plain number = []

-- the line of an event
abbrev pub event_line : Form → ℕ → Contents → List ℕ
event_line form number c = number_words form number ++ (event_words c ++ newline)

-- why nothing more is listed, where that is printed
abbrev pub fault_line : Form → Fault → List ℕ
fault_line Numbered f = stopped_words f ++ newline
fault_line Plain f = []

abbrev pub last_line : Form → Option Fault → List ℕ
last_line form None = []
last_line form (Some f) = fault_line form f

-- a line for each event, the first of which has this number, and one for the fault that ends them
unfoldable pub event_lines : Form → ℕ → List Contents → Option Fault → List ℕ
event_lines form number [] fault = last_line form fault
event_lines form number (c ∷ cs) fault = event_line form number c ++ event_lines form (number + 1) cs fault

-- what the stations asked for, and the radio, by letter
abbrev pub station_words : ℕ → ℕ → ℕ → List ℕ
station_words opened closed arrived =
    decimal opened ++ (codes " O, " ++ (decimal closed ++ (codes " C, " ++ (decimal arrived ++ codes " A"))))

abbrev pub radio_words : ℕ → ℕ → ℕ → List ℕ
radio_words good bad turns =
    decimal good ++ (codes " G, " ++ (decimal bad ++ (codes " B, " ++ (decimal turns ++ codes " T"))))

-- records in all and by letter, and the bytes of all frames that were offered
abbrev pub total_words : Counts → List ℕ
total_words t =
    decimal (records t) ++ (codes " records: " ++ (station_words t.opened t.closed t.arrived
    ++ (codes ", " ++ (radio_words t.good t.bad t.turns ++ (codes "; " ++ (decimal t.bytes ++ codes " bytes offered"))))))

abbrev pub total_line : Form → Counts → List ℕ
total_line Numbered t = total_words t ++ newline
total_line Plain t = []

abbrev pub listing : Form → Recording → List ℕ
listing form r = event_lines form 1 r.events r.fault ++ total_line form (tallied empty r.events)
