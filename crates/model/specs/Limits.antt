-- The numbers that bound a cell, with those that its chooser and its queues know too.
use Rattle.std.specs.Prelude.{ℕ, ◌*◌}
use Rattle.tariff.specs.Tariff.{link}
use Rattle.queue.specs.Fifo.{room}
pub use Rattle.chooser.specs.Limits.{places, longest, most_turns}

-- frames that may wait at one place
abbrev pub most_waiting : ℕ
most_waiting = room

-- bytes for which a turn is charged in which nobody sends
abbrev pub idle_length : ℕ
idle_length = 256

-- An allowance counts quarters of a charge: the keep is how many of the four a leading session
-- earns, and a turn kept by allowance spends all four.
abbrev pub quarters : ℕ
quarters = 4

-- what the dearest turn adds to a virtual time: the longest frame, at the price of rate 1
abbrev pub dearest : ℕ
dearest = longest * link

-- how far all turns together can bring a virtual time: 2,214,051,840,000,000,000
abbrev pub furthest : ℕ
furthest = dearest * most_turns
