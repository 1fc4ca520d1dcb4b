-- What the argument about a session's share reads off a cell, and what one call may do to it.
-- Nothing here says how a turn works.
use Rattle.std.proofs.Common.{◌≡◌, ℕ, ◌+◌, ◌-◌, ◌*◌, ◌≤◌, true, false, ◌||◌, ◌⊎◌, length, pos, ◌+ℤ◌}
use Rattle.std.proofs.Common.{◌≤ℤ◌, Some}
use Rattle.std.specs.List.{AllByRecursion}
use Rattle.tariff.specs.Tariff.{link}
use Rattle.model.specs.Limits.{places, longest, most_waiting, most_turns}
use Rattle.model.specs.Session.{Session, vacant, waiting, leads}
use Rattle.model.specs.Table.{Table, at, total, totalℤ, booked_total, least_time, total_owed}
use Rattle.model.specs.Cell.{Cell}
use Rattle.model.specs.Sound.{Fits}

-- how far a session's virtual time is above the mark, times its rate
abbrev pub excess : ℕ → Session → ℕ
excess m s = (s.virtual_time - m) * s.rate

-- a place, at a mark, during a call and after it
pub record Row (m : ℕ) (s : Session) : Type 0 where
  pub priced : s.booked ≡ true → s.rate * s.price ≡ link
  pub bare : s.booked ≡ false → s ≡ vacant
  pub near : s.virtual_time ≤ m + longest * s.price
  pub ahead : s.active ≡ true → m ≤ s.virtual_time
  pub quiet : s.active ≡ false → (s.lag ≡ pos 0) × (waiting s ≡ false)
  pub frames : AllByRecursion Fits s.queue
  pub room : length s.queue ≤ most_waiting

-- a table, at a mark, during a call
pub record Draft (m : ℕ) (t : Table) : Type 0 where
  pub size : length t ≡ places
  pub rows : (j : ℕ) → Row m (at t j)
  pub rates : booked_total t ≤ link
  pub balance : totalℤ (λ s. s.lag) t ≡ pos 0

-- after a call: the active sessions are those with a frame and those that lead, and the mark is
-- their smallest virtual time
pub record Book (m : ℕ) (t : Table) : Type 0 where
  pub draft : Draft m t
  pub busy : (j : ℕ) → (at t j).active ≡ true → (waiting (at t j) || leads (at t j)) ≡ true
  pub lowest : (j : ℕ) → (at t j).active ≡ true → least_time t ≡ Some m

-- a cell after a call; each turn adds at most one frame to what all lagging sessions are owed
pub record Ordered {C : Type 0} (x : Cell C) : Type 0 where
  pub book : Book x.mark x.table
  pub owing : total_owed x.table ≤ longest * x.turns
  pub few : x.turns ≤ most_turns

-- what one call may do to the accounts, w bytes being sent, s of them by session i, and b being
-- charged to it
pub record Move {C : Type 0} (i : ℕ) (x y : Cell C) (w s b : ℕ) : Type 0 where
  pub paid : w * link + total (excess x.mark) x.table + x.mark * link ≤ y.mark * link + total (excess y.mark) y.table
  pub price : (at y.table i).price ≡ (at x.table i).price
  pub time : (at y.table i).virtual_time ≡ (at x.table i).virtual_time + (at x.table i).price * b
  pub lag : ((at x.table i).lag +ℤ pos b) ≤ℤ ((at y.table i).lag +ℤ pos s)
  pub given : (b ≤ s) ⊎ ((leads (at x.table i) ≡ true) × (b ≤ s + longest))

-- what some calls in which session i is always able do to the accounts; a session that gave turns
-- away while it led has got them back but for one frame
pub record Ran {C : Type 0} (i : ℕ) (x y : Cell C) (w s b : ℕ) : Type 0 where
  pub paid : w * link + total (excess x.mark) x.table + x.mark * link ≤ y.mark * link + total (excess y.mark) y.table
  pub price : (at y.table i).price ≡ (at x.table i).price
  pub time : (at y.table i).virtual_time ≡ (at x.table i).virtual_time + (at x.table i).price * b
  pub kept : (b ≤ s) ⊎ (((at x.table i).lag +ℤ pos b) ≤ℤ pos (s + longest))
