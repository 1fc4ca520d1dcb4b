-- The books of a cell are in order: what holds before the first call and after each. From it
-- follows how large every number can get.
use Rattle.std.specs.Prelude.{◌≡◌, ℕ, ◌+◌, ◌*◌, ◌<◌, ◌≤◌, true, false, ◌||◌, length, pos, Some}
use Rattle.std.specs.Prelude.{unsigned_abs}
use Rattle.std.specs.List.{AllByRecursion}
use Rattle.chooser.specs.Offers.{lag_bound}
use Rattle.tariff.specs.Tariff.{link}
use Rattle.model.specs.Limits.{places, longest, most_waiting, most_turns, quarters, dearest}
use Rattle.model.specs.Limits.{furthest}
use Rattle.model.specs.Session.{Frame, Session, vacant, waiting, leads}
use Rattle.model.specs.Table.{Table, at, totalℤ, total_owed, booked_total, least_time}
use Rattle.model.specs.Cell.{Cell}

abbrev pub Fits : Frame → Type 0
Fits f = (0 < f.length) × (f.length ≤ longest)

-- one place, at a mark and after so many turns
pub record Orderly (mark turns : ℕ) (s : Session) : Type 0 where
  pub priced : s.booked ≡ true → s.rate * s.price ≡ link
  pub bare : s.booked ≡ false → s ≡ vacant
  pub status : s.active ≡ (waiting s || leads s)
  pub quiet : s.active ≡ false → s.lag ≡ pos 0
  pub near : s.virtual_time ≤ mark + longest * s.price  -- one frame beyond the mark at most
  pub early : s.virtual_time ≤ dearest * turns
  pub modest : unsigned_abs s.allowance ≤ quarters * (dearest * turns)
  pub frames : AllByRecursion Fits s.queue
  pub room : length s.queue ≤ most_waiting

-- all places together; it is the sum of the lags above zero that is bounded, since a departing lag
-- can go whole to one session
pub record Books (keep mark turns : ℕ) (t : Table) : Type 0 where
  pub size : length t ≡ places
  pub rows : (j : ℕ) → Orderly mark turns (at t j)
  pub rates : booked_total t ≤ link
  pub balance : totalℤ (λ s. s.lag) t ≡ pos 0
  pub owing : total_owed t ≤ longest * turns
  pub lowest : (v : ℕ) → least_time t ≡ Some v → v ≡ mark
  pub early : mark ≤ dearest * turns
  pub few : turns ≤ most_turns
  pub modest : keep ≤ quarters

-- a table in the midst of a turn, all lagging sessions together being owed at most so much
pub record Midway (most : ℕ) (t : Table) : Type 0 where
  pub size : length t ≡ places
  pub rates : booked_total t ≤ link
  pub balance : totalℤ (λ s. s.lag) t ≡ pos 0
  pub owing : total_owed t ≤ most
  pub quiet : (j : ℕ) → (at t j).active ≡ false → (at t j).lag ≡ pos 0
  pub counted : (j : ℕ) → (at t j).active ≡ true → 0 < (at t j).rate

abbrev pub Sound : {C : Type 0} → Cell C → Type 0
Sound x = Books x.keep x.mark x.turns x.table

-- the same as one fact that a struct can carry
abbrev pub InOrder : ℕ → ℕ → ℕ → Table → Type 0
InOrder keep mark turns t = ∥ Books keep mark turns t ∥₁

-- the numbers of a session leave room for what one more turn adds
pub record HasRoom (s : Session) : Type 0 where
  pub time : s.virtual_time ≤ furthest
  pub allowance : unsigned_abs s.allowance ≤ quarters * furthest
  pub lag : unsigned_abs s.lag ≤ lag_bound
