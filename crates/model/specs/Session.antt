-- A session: what a cell knows of one of its places.
use Rattle.std.specs.Prelude.{ℕ, suc, Bool, true, false, ◌&&◌, List, [], ◌∷◌, ℤ, pos, negsuc}
use Rattle.std.specs.Prelude.{int_lt}
pub use Rattle.queue.specs.declared.frame.Frame.{Frame}

-- The lag is what the session is owed, in bytes, and below 0 what it has had too much. A place that
-- is not open is `vacant`.
pub record Session : Type 0 where
  pub booked : Bool  -- the place is open, and has booked a rate
  pub rate : ℕ
  pub price : ℕ  -- of a byte, in virtual time
  pub virtual_time : ℕ
  pub lag : ℤ
  pub allowance : ℤ
  pub good : Bool  -- its channel
  pub active : Bool  -- it takes part in turns
  pub queue : List Frame  -- first in, first out

abbrev pub vacant : Session
vacant = record {
  booked = false;
  rate = 0;
  price = 0;
  virtual_time = 0;
  lag = pos 0;
  allowance = pos 0;
  good = false;
  active = false;
  queue = [];
}

-- as a place is opened
abbrev pub fresh : ℕ → ℕ → Session
fresh rate price = record {
  booked = true;
  rate = rate;
  price = price;
  virtual_time = 0;
  lag = pos 0;
  allowance = pos 0;
  good = true;
  active = false;
  queue = [];
}

-- ---- what a session is

abbrev pub some_wait : List Frame → Bool
some_wait [] = false
some_wait (f ∷ fs) = true

-- a frame waits
abbrev pub waiting : Session → Bool
waiting s = some_wait s.queue

-- it could send now
abbrev pub able : Session → Bool
able s = waiting s && s.good

abbrev pub lags : Session → Bool
lags s = int_lt (pos 0) s.lag

abbrev pub leads : Session → Bool
leads s = int_lt s.lag (pos 0)

-- how far a number is above zero, and how far below it
abbrev pub above_zero : ℤ → ℕ
above_zero (pos n) = n
above_zero (negsuc n) = 0

abbrev pub below_zero : ℤ → ℕ
below_zero (pos n) = 0
below_zero (negsuc n) = suc n

-- how far a session leads, in bytes, and 0 if it does not
abbrev pub lead : Session → ℕ
lead s = below_zero s.lag

-- ---- one field changed, the others as they were

abbrev pub with_virtual_time : ℕ → Session → Session
with_virtual_time v s = record s { virtual_time = v }

abbrev pub with_lag : ℤ → Session → Session
with_lag z s = record s { lag = z }

abbrev pub with_allowance : ℤ → Session → Session
with_allowance z s = record s { allowance = z }

abbrev pub with_good : Bool → Session → Session
with_good b s = record s { good = b }

abbrev pub with_active : Bool → Session → Session
with_active b s = record s { active = b }

abbrev pub with_queue : List Frame → Session → Session
with_queue q s = record s { queue = q }
