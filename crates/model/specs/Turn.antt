-- A turn up to the departures: who sends and why, what it costs, and who owes whom after it.
use Rattle.std.specs.Prelude.{ℕ, ◌+◌, ◌*◌, Bool, if◌then◌else◌, not, ◌&&◌, List, [], ◌∷◌, ℤ, pos}
use Rattle.std.specs.Prelude.{◌+ℤ◌, ◌-ℤ◌, Some, None, Option, option_map, int_le, int_lt}
use Rattle.answer.specs.declared.turn.Kind.{Kind}
use Rattle.answer.specs.declared.turn.Kind.TheVariants.{Normal, Credit as OnCredit, Kept}
use Rattle.answer.specs.declared.turn.Kind.TheVariants.{Extra as OnExtra, Idle}
use Rattle.answer.specs.declared.turn.Sent.{Sent}
use Rattle.answer.specs.declared.turn.Turn.{Turn}
use Rattle.queue.specs.Fifo.{no_frame}
use Rattle.model.specs.Limits.{idle_length, quarters}
use Rattle.model.specs.Session.{Frame, Session, able, leads, with_virtual_time, with_lag}
use Rattle.model.specs.Session.{with_allowance, with_queue}
use Rattle.model.specs.Table.{Table, at, change}
pub use Rattle.queue.specs.Fifo.{rest}

-- ---- who sends

-- how the chosen session's turn goes
pub data Way : Type 0 where
  by_right : Way  -- able and not leading, it sends
  by_allowance : Way  -- able and leading, it sends within its allowance
  by_credit : ℕ → Way  -- a lagging session is paid back: that place sends
  unclaimed : Way  -- able and leading beyond its allowance, it sends, since nobody is owed
  by_extra : ℕ → Way  -- it cannot send; that place, which is owed nothing, uses the turn
  idle : Way  -- nobody can send

-- the way over the place picked, or another if none is
abbrev pub picked : Option ℕ → (ℕ → Way) → Way → Way
picked None f w = w
picked (Some q) f w = f q

-- of the chosen session: whether it is able, whether it leads, whether its allowance is at least 0;
-- and the picks from the credit list and from the extra list
abbrev pub way : Bool → Bool → Bool → Option ℕ → Option ℕ → Way
way able leads allowed owed spare =
    if able && not leads then by_right
    else (if able && allowed then by_allowance
    else picked owed by_credit
    (if able then unclaimed
    else picked spare by_extra
    idle))

abbrev pub way_of : Session → Option ℕ → Option ℕ → Way
way_of s owed spare = way (able s) (leads s) (int_le (pos 0) s.allowance) owed spare

-- the place that sends, c being the chosen
abbrev pub sender : ℕ → Way → Option ℕ
sender c by_right = Some c
sender c by_allowance = Some c
sender c (by_credit q) = Some q
sender c unclaimed = Some c
sender c (by_extra q) = Some q
sender c idle = None

abbrev pub kind : Way → Kind
kind by_right = Normal
kind by_allowance = Normal
kind (by_credit q) = OnCredit
kind unclaimed = Kept
kind (by_extra q) = OnExtra
kind idle = Idle

-- ---- what it sends

abbrev pub first_frame : List Frame → Frame
first_frame [] = no_frame
first_frame (f ∷ fs) = f

abbrev pub length_of : Table → Option ℕ → ℕ
length_of t None = idle_length
length_of t (Some q) = (first_frame (at t q).queue).length

abbrev pub sent_of : Table → Option ℕ → Option Sent
sent_of t o =
    option_map (λ q. record { sender = q; tag = (first_frame (at t q).queue).tag }) o

abbrev pub answer_of : Table → ℕ → Way → Turn
answer_of t c w = record {
  chosen = c;
  sent = sent_of t (sender c w);
  length = length_of t (sender c w);
  kind = kind w;
}

-- ---- what a turn of n bytes makes of a session

-- its first frame leaves the queue
abbrev pub popped : Session → Session
popped s = with_queue (rest s.queue) s

-- what an allowance becomes by a charge, of which it spends so many quarters; it moves only while
-- the session leads
abbrev pub allowed : ℕ → ℕ → ℕ → Session → ℤ
allowed keep spent charge s =
    if leads s then s.allowance +ℤ pos (keep * charge) -ℤ pos (spent * charge) else s.allowance

abbrev pub charged : ℕ → ℕ → ℕ → Session → Session
charged keep spent n s =
    with_virtual_time (s.virtual_time + n * s.price)
    (with_allowance (allowed keep spent (n * s.price) s) s)

-- it is owed n bytes more
abbrev pub owed : ℕ → Session → Session
owed n s = with_lag (s.lag +ℤ pos n) s

-- it has had n bytes; whoever begins to lead begins with no allowance
abbrev pub repaid : ℕ → Session → Session
repaid n s =
    let lag = s.lag -ℤ pos n in
    with_lag lag
    (with_allowance (if not (leads s) && int_lt lag (pos 0) then pos 0 else s.allowance) s)

-- the chosen that sends in its own turn
abbrev pub sends : ℕ → ℕ → ℕ → Session → Session
sends keep spent n s = charged keep spent n (popped s)

-- the chosen that hands its turn on, and the other that uses it
abbrev pub hands_on : ℕ → ℕ → Session → Session
hands_on keep n s = owed n (charged keep 0 n s)

abbrev pub takes_up : ℕ → Session → Session
takes_up n s = repaid n (popped s)

-- ---- the table after a turn of the chosen c, before departures
abbrev pub turned : ℕ → Table → ℕ → ℕ → Way → Table
turned keep t c n by_right = change t c (sends keep 0 n)
turned keep t c n by_allowance = change t c (sends keep quarters n)
turned keep t c n (by_credit q) = change (change t c (hands_on keep n)) q (takes_up n)
turned keep t c n unclaimed = change t c (sends keep 0 n)
turned keep t c n (by_extra q) = change (change t c (hands_on keep n)) q (takes_up n)
turned keep t c n idle = change t c (charged keep 0 n)
