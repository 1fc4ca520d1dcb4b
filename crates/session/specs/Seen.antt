-- A row as the session that it stands for: its queue is the list of frames that wait.
use Rattle.std.specs.Prelude.{ℕ, max, Bool, if◌then◌else◌, ◌&&◌, Some, None, Option}
use Rattle.keys.specs.Kinds.{time}
use Rattle.keys.specs.declared.time.VirtualTime.{VirtualTime}
use Rattle.model.specs.Calls.{arrived}
use Rattle.model.specs.Lists.{Entry, ListKind, stands_in, entry}
use Rattle.model.specs.Session.{Frame, Session}
use Rattle.queue.specs.Fifo.{is_full}
use Rattle.queue.specs.Waiting.{waiting}
use Rattle.session.specs.declared.row.Row.{Row}

abbrev pub seen : Row → Session
seen r = record {
  booked = r.booked;
  rate = r.rate;
  price = r.price;
  virtual_time = r.virtual_time;
  lag = r.lag;
  allowance = r.allowance;
  good = r.good;
  active = r.active;
  queue = waiting r.queue;
}

-- what an offer of those who stayed in a list says of a session,
-- given whether it stood there before
abbrev pub stay : ListKind → Bool → Session → Entry
stay list before s = entry (before && stands_in list s) s

-- the key by which a session is due: an active one's virtual time
abbrev pub time_key : Session → Option VirtualTime
time_key s = if s.active then Some (time s.virtual_time) else None

-- the virtual time from which a frame that comes now is served:
-- an inactive session does not start before the mark
abbrev pub start : ℕ → Session → ℕ
start mark s = if s.active then s.virtual_time else max s.virtual_time mark

-- a session that is sent a frame, for which it may have no room
abbrev pub received : ℕ → Frame → Session → Session
received mark f s = if is_full s.queue then s else arrived mark f s
