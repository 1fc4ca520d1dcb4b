-- Every worked figure, in one statement about the definitions that the contracts cite.
use Rattle.std.specs.Prelude.{◌≡◌, ◌-◌, List, ◌∷◌, replicate, pos, Some}
use Rattle.chooser.specs.declared.entry.Entry.{Entry}
use Rattle.chooser.specs.Limits.{places}
use Rattle.chooser.specs.Offers.{offered, unoffered}
use Rattle.largest_debt.specs.Largest.{debt_at, largest_debt}
use Rattle.least_served.specs.Meaning.{least_served_meaning}
use Rattle.tariff.specs.Tariff.{price_of}
use Rattle.model.specs.Table.{at}
use Rattle.model.specs.Figures.{FiguresStand}
use Rattle.figures.specs.Bounds.{TheLimits}
use Rattle.figures.specs.Run.{new_cell, run, run_answers, answers}
use Rattle.figures.specs.Twelfth.{twelfth}

-- two places are offered: 0 and 1
abbrev pub two : Entry → Entry → List Entry
two a b = a ∷ b ∷ replicate (places - 2) unoffered

abbrev pub owed_10 : Entry
owed_10 = offered (pos 10) 20 (price_of 20)

abbrev pub owed_9 : Entry
owed_9 = offered (pos 9) 18 (price_of 18)

pub record AllFigures : Type 0 where
  -- the limits, as numbers
  pub limits : TheLimits
  -- prices, refusals, shares of a departing lag, and the bound of a share
  pub worked : FiguresStand least_served_meaning
  -- debts of 10 at rate 20 and of 9 at rate 18 tie, so that the lower place is picked, whoever
  -- stands there
  pub tie : debt_at (two owed_10 owed_9) 0 ≡ debt_at (two owed_10 owed_9) 1
  pub lower : largest_debt (two owed_10 owed_9) ≡ Some 0
  pub lower_too : largest_debt (two owed_9 owed_10) ≡ Some 0
  -- the worked run, and where the twelfth call leaves it
  pub printed : answers least_served_meaning new_cell run ≡ run_answers
  pub mark : twelfth.mark ≡ 450
  pub lag_0 : (at twelfth.table 0).lag ≡ pos 0
  pub lag_1 : (at twelfth.table 1).lag ≡ pos 0
