-- Histories: calls one after the other.
use Rattle.std.specs.Prelude.{◌≡◌, ℕ, zero, suc, ◌+◌, true, if◌then◌else◌, List, [], ◌∷◌, Some}
use Rattle.std.specs.Prelude.{None, Ok, Err, Option, Result, ◌==◌}
use Rattle.answer.specs.declared.refusal.Refusal.{Refusal}
use Rattle.answer.specs.declared.turn.Answer.{Answer}
use Rattle.answer.specs.declared.turn.Answer.TheVariants.{Done, Turn as Turned}
use Rattle.answer.specs.declared.turn.Sent.{Sent}
use Rattle.answer.specs.declared.turn.Turn.{Turn}
use Rattle.model.specs.Limits.{places}
use Rattle.model.specs.Session.{Frame, able}
use Rattle.model.specs.Table.{at}
use Rattle.chooser.specs.Meaning.{Meaning}
use Rattle.model.specs.Cell.{Cell}
use Rattle.model.specs.Calls.{Call, opening, closing, arrival, report, turn, answer_to, cell_after}

-- ---- what a call took out of the queues, and what it brought, by its answer

abbrev pub frame_of : Sent → ℕ → Frame
frame_of s bytes = record { tag = s.tag; length = bytes }

abbrev pub sent_frame : Option Sent → ℕ → List Frame
sent_frame None bytes = []
sent_frame (Some s) bytes = frame_of s bytes ∷ []

abbrev pub sent_from : ℕ → Option Sent → ℕ → List Frame
sent_from i None bytes = []
sent_from i (Some s) bytes = if s.sender == i then frame_of s bytes ∷ [] else []

-- from any queue
abbrev pub taken : Result Answer Refusal → List Frame
taken (Err why) = []
taken (Ok Done) = []
taken (Ok (Turned t)) = sent_frame t.sent t.length

-- from the queue of place i
abbrev pub taken_from : ℕ → Result Answer Refusal → List Frame
taken_from i (Err why) = []
taken_from i (Ok Done) = []
taken_from i (Ok (Turned t)) = sent_from i t.sent t.length

-- to the queue of place i
abbrev pub brought_to : ℕ → Call → Result Answer Refusal → List Frame
brought_to i call (Err why) = []
brought_to i (opening place rate) (Ok a) = []
brought_to i (closing place) (Ok a) = []
brought_to i (arrival place tag bytes) (Ok a) =
    if place == i then record { tag = tag; length = bytes } ∷ [] else []
brought_to i (report place good) (Ok a) = []
brought_to i turn (Ok a) = []

unfoldable pub bytes : List Frame → ℕ
bytes [] = 0
bytes (f ∷ fs) = f.length + bytes fs

-- f added up over the first n places
unfoldable pub sum_to : ℕ → (ℕ → ℕ) → ℕ
sum_to zero f = 0
sum_to (suc n) f = sum_to n f + f n

-- ---- runs

module _ {C : Type 0} (M : Meaning C) where
  -- the cell after some calls
  unfoldable pub after : Cell C → List Call → Cell C
  after x [] = x
  after x (k ∷ ks) = after (cell_after M x k) ks

  -- the bytes of all frames that some calls took out of queues
  unfoldable pub sent : Cell C → List Call → ℕ
  sent x [] = 0
  sent x (k ∷ ks) = bytes (taken (answer_to M x k)) + sent (cell_after M x k) ks

  -- the same of one session's queue
  unfoldable pub sent_by : ℕ → Cell C → List Call → ℕ
  sent_by i x [] = 0
  sent_by i x (k ∷ ks) = bytes (taken_from i (answer_to M x k)) + sent_by i (cell_after M x k) ks

  -- the same of all other sessions' queues together
  abbrev pub sent_by_others : ℕ → Cell C → List Call → ℕ
  sent_by_others i x ks = sum_to places (λ j. if j == i then 0 else sent_by j x ks)

  -- the bytes of all frames that some calls brought to one session's queue
  unfoldable pub brought : ℕ → Cell C → List Call → ℕ
  brought i x [] = 0
  brought i x (k ∷ ks) = bytes (brought_to i k (answer_to M x k)) + brought i (cell_after M x k) ks

  -- something holds before some calls and after each of them, refused ones too
  unfoldable pub Always : (Cell C → Type 0) → Cell C → List Call → Type 0
  Always P x [] = P x
  Always P x (k ∷ ks) = P x × Always P (cell_after M x k) ks

  -- something holds in every history that begins with a cell: at first, and after any calls
  abbrev pub Throughout : Cell C → (Cell C → Type 0) → Type 0
  Throughout start P = (calls : List Call) → P (after start calls)

  -- something holds of every accepted turn of those histories: of the cell just before it and of
  -- its answer
  abbrev pub EachTurn : Cell C → (Cell C → Turn → Type 0) → Type 0
  EachTurn start P =
      Throughout start (λ x. (a : Turn) → answer_to M x turn ≡ Ok (Turned a) → P x a)

  -- session i has a frame waiting and a good channel
  abbrev pub Able : ℕ → Cell C → Type 0
  Able i x = able (at x.table i) ≡ true
