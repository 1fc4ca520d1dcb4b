-- The worked figures, by computing them.
use Rattle.std.proofs.Common.{ℕ, refl}
use Rattle.model.specs.Table.{at, change, vacancies, total, first, least_time, latest_time, chosen}
use Rattle.model.specs.Lists.{stayed}
use Rattle.chooser.specs.Meaning.{Meaning}
use Rattle.model.specs.Departures.{share, departed, depart, departures}
use Rattle.model.specs.Cell.{mark_after, joins_from, joins, all_joins, settled}
use Rattle.model.specs.Calls.{turn_after, accepted, step}
use Rattle.model.specs.History.{after}
use Rattle.model.specs.Figures.{Worked}

-- all that tables and calls compute with
tables : ℕ
unfolding at change vacancies total first least_time latest_time chosen stayed share departed depart departures
tables = 0

calls : ℕ
unfolding mark_after joins_from joins all_joins settled turn_after accepted step after
calls = 0

pub worked : {C : Type 0} (M : Meaning C) (keep : ℕ) (c : C) → Worked M keep c
unfolding tables calls
worked M keep c = record {
  rate_7 = refl;
  rate_17 = refl;
  full_link = refl;
  last_place = refl;
  no_place = refl;
  long_frame = refl;
  too_long = refl;
  empty_frame = refl;
  last_frame = refl;
  frame_33 = refl;
  ten_bytes = refl;
  one_byte = refl;
  price_2 = refl;
  too_early = refl;
}
