-- What is printed of a recording that is played into a cell: sheets that are due, why nothing more is played, and a last sheet.
use Rattle.std.specs.Prelude.{ℕ, ◌+◌, if◌then◌else◌, List, [], ◌∷◌, ◌++◌, codes, decimal, length, Some, None, Option}
use Rattle.std.specs.declared.num.NonZeroU64.{NonZeroU64}
use Rattle.answer.specs.Numbers.{number_of}
use Rattle.answer.specs.declared.fault.Fault.{Fault}
use Rattle.model.specs.Calls.{step}
use Rattle.model.specs.Cell.{Cell}
use Rattle.model.specs.History.{after}
use Rattle.chooser.specs.Meaning.{Meaning}
use Rattle.record.specs.Layout.{Contents}
use Rattle.record.specs.Lines.{newline}
use Rattle.recording.specs.Recordings.{Recording}
use Rattle.replay.specs.Events.{call_in, calls_in}
use Rattle.joblags.specs.Sheets.{is_due, sheet_words}

abbrev pub stopped_words : Fault → List ℕ
stopped_words f =
    codes "stopped at record " ++ (decimal f.«record» ++ (codes " refusal " ++ (decimal (number_of f.refusal)
    ++ (codes " byte " ++ decimal f.byte))))

abbrev pub stopped_line : Option Fault → List ℕ
stopped_line None = []
stopped_line (Some f) = stopped_words f ++ newline

-- the sheet after a record, if one is due, and the sheet at the end, if it was not
abbrev pub due_sheet : {C : Type 0} → Option NonZeroU64 → ℕ → Cell C → List ℕ
due_sheet every number x = if is_due every number then sheet_words number x else []

abbrev pub last_sheet : {C : Type 0} → Option NonZeroU64 → ℕ → Cell C → List ℕ
last_sheet every number x = if is_due every number then [] else sheet_words number x

module _ {C : Type 0} (M : Meaning C) (every : Option NonZeroU64) where
  -- the sheets that are due while the events after so many records are played
  unfoldable pub due_sheets : Cell C → ℕ → List Contents → List ℕ
  due_sheets x played [] = []
  due_sheets x played (c ∷ cs) =
      due_sheet every (played + 1) (step M x (call_in c)).cell ++ due_sheets (step M x (call_in c)).cell (played + 1) cs

  abbrev pub job_text : Cell C → Recording → List ℕ
  job_text x r =
      due_sheets x 0 r.events
      ++ (stopped_line r.fault ++ last_sheet every (length r.events) (after M x (calls_in r.events)))
