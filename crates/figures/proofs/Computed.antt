-- The figures, by computing them.
use Rattle.std.proofs.Common.{ℕ, refl}
use Rattle.chooser.specs.Offers.{all_sound}
use Rattle.keys.specs.Places.{by_place}
use Rattle.model.specs.Table.{at, change, vacancies, total, first, least_time, latest_time, chosen}
use Rattle.model.specs.Lists.{stayed}
use Rattle.model.specs.Departures.{share, departed, depart, departures}
use Rattle.model.specs.Cell.{mark_after, joins_from, joins, all_joins, settled}
use Rattle.model.specs.Calls.{turn_after, accepted, step}
use Rattle.model.specs.History.{after}
use Rattle.model.proofs.Figures.{worked}
use Rattle.figures.specs.Bounds.{TheLimits}
use Rattle.figures.specs.Run.{answers}
use Rattle.figures.specs.Figures.{AllFigures}
use Rattle.figures.specs.Twelfth.{TwelfthFigures}

-- all that offers, tables and calls compute with
offers : ℕ
unfolding all_sound by_place stayed
offers = 0

tables : ℕ
unfolding at change vacancies total first least_time latest_time chosen
tables = 0

calls : ℕ
unfolding share departed depart departures mark_after joins_from joins all_joins settled
calls = 0

steps : ℕ
unfolding turn_after accepted step after
steps = 0

limits : TheLimits
limits = record {
  place_count = refl;
  longest_frame = refl;
  frames_waiting = refl;
  turns = refl;
  idle_turn = refl;
  whole_charge = refl;
  units = refl;
  furthest_time = refl;
  furthest_lag = refl;
}

pub all_figures : AllFigures
unfolding offers tables calls steps answers
all_figures = record {
  limits = limits;
  worked = worked _;
  tie = refl;
  lower = refl;
  lower_too = refl;
  printed = refl;
  mark = refl;
  lag_0 = refl;
  lag_1 = refl;
}

pub twelfth_figures : TwelfthFigures
unfolding offers tables calls steps
twelfth_figures = record { time_0 = refl; time_1 = refl; allowance_0 = refl; allowance_1 = refl }
