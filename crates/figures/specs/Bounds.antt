-- The limits, and the bounds that follow from them, as numbers.
use Rattle.std.specs.Prelude.{◌≡◌}
use Rattle.tariff.specs.Tariff.{link}
use Rattle.chooser.specs.Offers.{lag_bound}
use Rattle.model.specs.Limits.{places, longest, most_waiting, most_turns}
use Rattle.model.specs.Limits.{idle_length, quarters, furthest}

pub record TheLimits : Type 0 where
  pub place_count : places ≡ 64
  pub longest_frame : longest ≡ 1536
  pub frames_waiting : most_waiting ≡ 32
  pub turns : most_turns ≡ 2000000000
  pub idle_turn : idle_length ≡ 256
  pub whole_charge : quarters ≡ 4
  pub units : link ≡ 720720
  -- how far a virtual time can get, and how far from 0 a lag can be
  pub furthest_time : furthest ≡ 2214051840000000000
  pub furthest_lag : lag_bound ≡ 3072000000000
