-- The text of a whole cell: a line for the cell, and one for each place, ascending, that is open or
-- has a count. Of an open place each question's answer, and the frames that wait as TAG:LENGTH.
use Rattle.std.specs.Prelude.{ℕ, zero, suc, Bool, true, false, if◌then◌else◌, ◌&&◌, ◌==◌}
use Rattle.std.specs.Prelude.{List, [], ◌∷◌, ◌++◌, length, codes, Some, None, Ok, Err, Option, Result}
use Rattle.std.specs.Fmt.{decimal, signed_decimal}
use Rattle.answer.specs.declared.refusal.Refusal.{Refusal}
use Rattle.cell.specs.Asked.{frames, standings}
use Rattle.cell.specs.declared.questions.Standing.{Standing}
use Rattle.chooser.specs.declared.entry.ListKind.{ListKind}
use Rattle.chooser.specs.declared.entry.ListKind.TheVariants.{Credit, Extra}
use Rattle.model.specs.Calls.{asked}
use Rattle.model.specs.Cell.{Cell}
use Rattle.model.specs.Session.{Frame}
use Rattle.model.specs.Table.{booked_total}

abbrev pub newline : List ℕ
newline = 10 ∷ []

-- ---- the frames that wait, by what a question for each answers

abbrev pub frame_text : Result (Option Frame) Refusal → List ℕ
frame_text (Ok (Some f)) = codes " " ++ (decimal f.tag ++ (codes ":" ++ decimal f.length))
frame_text (Ok None) = []
frame_text (Err why) = []

-- the first n
unfoldable pub frames_text : (ℕ → Result (Option Frame) Refusal) → ℕ → List ℕ
frames_text ask zero = []
frames_text ask (suc n) = frames_text ask n ++ frame_text (ask n)

-- ---- a place

abbrev pub counts_text : ℕ → ℕ → List ℕ
counts_text credit extra = codes " credit " ++ (decimal credit ++ (codes " extra " ++ decimal extra))

abbrev pub channel_word : Bool → List ℕ
channel_word true = codes "good"
channel_word false = codes "bad"

abbrev pub yes_or_no : Bool → List ℕ
yes_or_no true = codes "yes"
yes_or_no false = codes "no"

abbrev pub price_text : Standing → List ℕ
price_text s = codes " rate " ++ (decimal s.rate ++ (codes " price " ++ decimal s.price))

abbrev pub times_text : Standing → List ℕ
times_text s =
    codes " time " ++ (decimal s.virtual_time ++ (codes " lag " ++ (signed_decimal s.lag
    ++ (codes " allowance " ++ signed_decimal s.allowance))))

abbrev pub channel_text : Standing → List ℕ
channel_text s = codes " channel " ++ (channel_word s.good ++ (codes " active " ++ yes_or_no s.active))

-- everything but the counts and the frames
abbrev pub standing_text : Standing → List ℕ
standing_text s = price_text s ++ (times_text s ++ channel_text s)

-- a place that is not open has a line only where one of its counts is not 0
abbrev pub closed_text : ℕ → ℕ → ℕ → List ℕ
closed_text place credit extra =
    if credit == 0 && extra == 0 then []
    else codes "closed " ++ (decimal place ++ (counts_text credit extra ++ newline))

abbrev pub waiting_text : ℕ → (ℕ → Result (Option Frame) Refusal) → List ℕ
waiting_text waiting ask = codes " waiting " ++ (decimal waiting ++ (frames_text ask waiting ++ newline))

abbrev pub open_text : ℕ → ℕ → ℕ → Standing → (ℕ → Result (Option Frame) Refusal) → List ℕ
open_text place credit extra s ask =
    codes "place " ++ (decimal place ++ (standing_text s ++ (counts_text credit extra ++ waiting_text s.waiting ask)))

abbrev pub place_text : ℕ → ℕ → ℕ → Result Standing Refusal → (ℕ → Result (Option Frame) Refusal) → List ℕ
place_text place credit extra (Ok s) ask = open_text place credit extra s ask
place_text place credit extra (Err why) ask = closed_text place credit extra

-- ---- the cell

abbrev pub mark_text : ℕ → ℕ → List ℕ
mark_text after mark = codes "state after " ++ (decimal after ++ (codes " mark " ++ decimal mark))

abbrev pub booked_text : ℕ → ℕ → ℕ → List ℕ
booked_text booked turns keep =
    codes " booked " ++ (decimal booked ++ (codes " turns " ++ (decimal turns
    ++ (codes " keep " ++ (decimal keep ++ newline)))))

-- a chooser's count of a place, by list and place
module _ {C : Type 0} (figure : C → ListKind → ℕ → ℕ) (x : Cell C) where
  abbrev pub line_of_place : ℕ → List ℕ
  line_of_place k =
      place_text k (figure x.chooser Credit k) (figure x.chooser Extra k) (standings (asked x k)) (λ i. frames (asked x k) i)

  -- the first n places
  unfoldable pub places_text : ℕ → List ℕ
  places_text zero = []
  places_text (suc n) = places_text n ++ line_of_place n

  -- after so many records
  abbrev pub state_text : ℕ → List ℕ
  state_text after =
      mark_text after x.mark ++ (booked_text (booked_total x.table) x.turns x.keep ++ places_text 64)
