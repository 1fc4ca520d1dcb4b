-- Departures. An active session that has no frame and does not lead departs, the lowest place
-- first. What it was still owed goes to the sessions that are left active, by their rates: those up
-- to a place have together the floor of their part, so that no byte is lost. Whose lead such a
-- share ends departs too, if it has no frame.
use Rattle.std.specs.Prelude.{ℕ, zero, suc, ◌+◌, ◌-◌, ◌*◌, ◌/◌, Bool, false, if◌then◌else◌, not}
use Rattle.std.specs.Prelude.{◌&&◌, [], ◌∷◌, pos, Some, None, Option}
use Rattle.model.specs.Session.{Session, waiting, leads, above_zero, with_lag, with_active}
use Rattle.model.specs.Table.{Table, at, change, total, first, active_count}
use Rattle.model.specs.Turn.{owed}

abbrev pub departing : Session → Bool
departing s = s.active && (not (waiting s) && not (leads s))

abbrev pub gone : Session → Session
gone s = with_active false (with_lag (pos 0) s)

-- the rate by which a session shares; one that is not active has no share
abbrev pub active_rate : Session → ℕ
active_rate s = if s.active then s.rate else 0

-- of a lag shared over rates that add up to r, what the places whose rates add up to c have
-- together
abbrev pub part : ℕ → ℕ → ℕ → ℕ
part lag r c = lag * c / r

-- a lag shared over the places of a table, those before it having rates that add up to c
unfoldable pub share : ℕ → ℕ → ℕ → Table → Table
share lag r c [] = []
share lag r c (s ∷ t) =
    owed (part lag r (c + active_rate s) - part lag r c) s ∷ share lag r (c + active_rate s) t

-- one departure, of the place found
unfoldable pub departed : Table → Option ℕ → Table
departed t None = t
departed t (Some k) =
    let left : Table = change t k gone in
    share (above_zero (at t k).lag) (total active_rate left) 0 left

-- at most n departures; each leaves one active session less
unfoldable pub depart : ℕ → Table → Table
depart zero t = t
depart (suc n) t = depart n (departed t (first departing t))

unfoldable pub departures : Table → Table
departures t = depart (active_count t) t
