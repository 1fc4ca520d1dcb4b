-- The calls: what refuses each, what an accepted one answers, and the cell that it leaves.
use Rattle.std.specs.Prelude.{ℕ, ◌+◌, max, Bool, true, if◌then◌else◌, not, ◌||◌, List, [], ◌∷◌}
use Rattle.std.specs.Prelude.{◌++◌, length, Some, None, Ok, Err, Option, Result, unwrap_or, ◌==◌}
use Rattle.std.specs.Prelude.{nat_le, nat_lt}
use Rattle.answer.specs.declared.refusal.Refusal.{Refusal}
use Rattle.answer.specs.declared.refusal.Refusal.TheVariants.{PlaceTooHigh, PlaceOpen, PlaceNotOpen}
use Rattle.answer.specs.declared.refusal.Refusal.TheVariants.{RateNotInTariff, LinkOverbooked}
use Rattle.answer.specs.declared.refusal.Refusal.TheVariants.{SessionActive, AheadOfMark}
use Rattle.answer.specs.declared.refusal.Refusal.TheVariants.{LengthOutOfRange, QueueFull}
use Rattle.answer.specs.declared.refusal.Refusal.TheVariants.{NoneActive, TurnsUsedUp, KeepTooHigh}
use Rattle.answer.specs.declared.turn.Answer.{Answer}
use Rattle.answer.specs.declared.turn.Answer.TheVariants.{Done, Turn as Turned}
use Rattle.tariff.specs.Tariff.{link, in_tariff, price_of}
use Rattle.model.specs.Limits.{places, longest, most_waiting, most_turns, quarters}
use Rattle.model.specs.Session.{Frame, Session, vacant, fresh, with_virtual_time, with_good}
use Rattle.model.specs.Session.{with_active, with_queue}
use Rattle.model.specs.Table.{Table, at, change, vacancies, booked_total, none_active, chosen}
use Rattle.model.specs.Lists.{Credit, Extra, picked_from}
use Rattle.chooser.specs.Meaning.{Meaning}
use Rattle.chooser.specs.Tellings.{Telling, served, cleared}
use Rattle.model.specs.Turn.{Way, by_right, by_allowance, by_credit, unclaimed, by_extra, idle}
use Rattle.model.specs.Turn.{way_of, sender, length_of, answer_of, turned}
use Rattle.model.specs.Departures.{departures}
use Rattle.model.specs.Cell.{Cell, settled}

pub data Call : Type 0 where
  opening : ℕ → ℕ → Call  -- place, rate
  closing : ℕ → Call  -- place
  arrival : ℕ → ℕ → ℕ → Call  -- place, tag, length
  report : ℕ → Bool → Call  -- place, whether its channel is good
  turn : Call

-- ---- refusals

-- the first refusal whose condition holds
abbrev pub first_refusal : List (Bool × Refusal) → Option Refusal
first_refusal [] = None
first_refusal (c ∷ cs) = if c.0 then Some c.1 else first_refusal cs

-- what refuses every call on a place that is not open, before anything else is looked at
abbrev pub on_open_place : {C : Type 0} → Cell C → ℕ → List (Bool × Refusal) → List (Bool × Refusal)
on_open_place x place more =
    (nat_le places place, PlaceTooHigh) ∷
    (not (at x.table place).booked, PlaceNotOpen) ∷ more

-- what can refuse a call, in the order of the refusals' numbers
abbrev pub refusals : {C : Type 0} → Cell C → Call → List (Bool × Refusal)
refusals x (opening place rate) =
    (nat_le places place, PlaceTooHigh) ∷
    ((at x.table place).booked, PlaceOpen) ∷
    (not (in_tariff rate), RateNotInTariff) ∷
    (nat_lt link (booked_total x.table + rate), LinkOverbooked) ∷ []
refusals x (closing place) =
    on_open_place x place (
    ((at x.table place).active, SessionActive) ∷
    (nat_lt x.mark (at x.table place).virtual_time, AheadOfMark) ∷ [])
refusals x (arrival place tag bytes) =
    on_open_place x place (
    (bytes == 0 || nat_lt longest bytes, LengthOutOfRange) ∷
    (nat_le most_waiting (length (at x.table place).queue), QueueFull) ∷ [])
refusals x (report place good) = on_open_place x place []
refusals x turn =
    (none_active x.table, NoneActive) ∷
    (nat_le most_turns x.turns, TurnsUsedUp) ∷ []

abbrev pub refusal : {C : Type 0} → Cell C → Call → Option Refusal
refusal x call = first_refusal (refusals x call)

-- x, unless something is refused
abbrev pub unless : {X : Type 0} → Option Refusal → X → Result X Refusal
unless None x = Ok x
unless (Some why) x = Err why

-- a question about a place: how its session stands
abbrev pub asked : {C : Type 0} → Cell C → ℕ → Result Session Refusal
asked x place = unless (first_refusal (on_open_place x place [])) (at x.table place)

-- ---- what an accepted call leaves and answers

-- a frame queued; an inactive session becomes active, at the mark or above it
abbrev pub arrived : ℕ → Frame → Session → Session
arrived mark f s =
    with_virtual_time (if s.active then s.virtual_time else max s.virtual_time mark)
    (with_active true (with_queue (s.queue ++ f ∷ []) s))

-- what the chooser is told of who was served n bytes in another's turn, t being the table before it
abbrev pub served_in : Table → Way → ℕ → List Telling
served_in t by_right n = []
served_in t by_allowance n = []
served_in t (by_credit q) n = served Credit q n (at t q).price ∷ []
served_in t unclaimed n = []
served_in t (by_extra q) n = served Extra q n (at t q).price ∷ []
served_in t idle n = []

module _ {C : Type 0} (M : Meaning C) where
  pub record Outcome : Type 0 where
    pub cell : Cell C
    pub answer : Result Answer Refusal

  -- one place is changed, the chooser being told ts before it is told of joins
  abbrev pub changed : Cell C → ℕ → (Session → Session) → List Telling → Outcome
  changed x place f ts = record {
    cell = settled M x (change x.table place f) x.turns ts;
    answer = Ok Done;
  }

  -- how the turn of session s goes, and that of place k, in a table with a chooser
  abbrev pub way_in : C → Table → Session → Way
  way_in c t s = way_of s (picked_from M c Credit t) (picked_from M c Extra t)

  abbrev pub decide : C → Table → ℕ → Way
  decide c t k = way_in c t (at t k)

  -- a turn of n bytes
  unfoldable pub turn_after : Cell C → ℕ → Way → ℕ → Cell C
  turn_after x c w n =
      settled M x (departures (turned x.keep x.table c n w)) (x.turns + 1) (served_in x.table w n)

  abbrev pub turn_of : Cell C → ℕ → Outcome
  turn_of x c =
      let w = decide x.chooser x.table c in
      record {
        cell = turn_after x c w (length_of x.table (sender c w));
        answer = Ok (Turned (answer_of x.table c w));
      }

  unfoldable pub accepted : Cell C → Call → Outcome
  accepted x (opening place rate) =
      changed x place (λ s. fresh rate (price_of rate)) (cleared place ∷ [])
  accepted x (closing place) = changed x place (λ s. vacant) []
  accepted x (arrival place tag bytes) =
      changed x place (arrived x.mark (record { tag = tag; length = bytes })) []
  accepted x (report place good) = changed x place (with_good good) []
  -- somebody is chosen, since a turn is refused while nobody is active
  accepted x turn = turn_of x (unwrap_or (chosen x.table) 0)

  -- a refused call changes nothing
  abbrev pub outcome : Cell C → Call → Option Refusal → Outcome
  outcome x call (Some why) = record { cell = x; answer = Err why }
  outcome x call None = accepted x call

  -- one call
  unfoldable pub step : Cell C → Call → Outcome
  step x call = outcome x call (refusal x call)

  -- what it answers, and the cell that it leaves
  abbrev pub answer_to : Cell C → Call → Result Answer Refusal
  answer_to x call = (step x call).answer

  abbrev pub cell_after : Cell C → Call → Cell C
  cell_after x call = (step x call).cell

-- ---- a new cell

abbrev pub new : {C : Type 0} → ℕ → C → Cell C
new keep chooser =
    record { keep = keep; mark = 0; turns = 0; table = vacancies places; chooser = chooser }

abbrev pub make : {C : Type 0} → ℕ → C → Result (Cell C) Refusal
make keep chooser = if nat_le keep quarters then Ok (new keep chooser) else Err KeepTooHigh
