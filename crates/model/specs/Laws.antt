-- What departures do, said of any table of places.
use Rattle.std.specs.Prelude.{◌≡◌, ℕ, ◌*◌, ◌/◌, ◌<◌, false, take, pos, ◌+ℤ◌, Some}
use Rattle.model.specs.Table.{Table, at, change, total, totalℤ, first}
use Rattle.model.specs.Departures.{departing, gone, active_rate, share, departed, departures}

-- A lag that is shared while somebody is active is handed out whole: no byte is lost, and none is
-- made.
abbrev pub HandsOutAll : Type 0
HandsOutAll =
    (lag : ℕ) (t : Table) → 0 < total active_rate t →
    totalℤ (λ s. s.lag) (share lag (total active_rate t) 0 t) ≡ totalℤ (λ s. s.lag) t +ℤ pos lag

-- Of a lag shared over rates that add up to r, the first n places have together the floor of lag
-- times their rates over r.
abbrev pub Floors : Type 0
Floors =
    (lag r n : ℕ) (t : Table) →
    totalℤ (λ s. s.lag) (take n (share lag r 0 t))
    ≡ totalℤ (λ s. s.lag) (take n t) +ℤ pos (lag * total active_rate (take n t) / r)

-- So a departure leaves the lags adding up to what they did, if somebody is left active.
abbrev pub KeepsTheSum : Type 0
KeepsTheSum =
    (t : Table) (k : ℕ) → first departing t ≡ Some k → 0 < total active_rate (change t k gone) →
    totalℤ (λ s. s.lag) (departed t (Some k)) ≡ totalℤ (λ s. s.lag) t

-- Who is not active receives nothing.
abbrev pub SparesTheInactive : Type 0
SparesTheInactive =
    (lag r j : ℕ) (t : Table) → (at t j).active ≡ false → at (share lag r 0 t) j ≡ at t j

-- After the departures nobody is left that would depart.
abbrev pub LeavesNoneDeparting : Type 0
LeavesNoneDeparting = (t : Table) (j : ℕ) → departing (at (departures t) j) ≡ false

pub record DepartsJustly : Type 0 where
  pub whole : HandsOutAll
  pub floors : Floors
  pub sum : KeepsTheSum
  pub spares : SparesTheInactive
  pub ends : LeavesNoneDeparting
