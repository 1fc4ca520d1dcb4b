-- No count reaches the stop: what the chooser has heard has no more servings than the cell has turns.
use Rattle.std.proofs.Common.{◌≡◌, ℕ, ◌*◌, ◌≤◌, arith, ◌∙◌, sym, subst}
use Rattle.chooser.specs.Tellings.{told_all, servings}
use Rattle.least_served.specs.declared.counts.LeastServed.{LeastServed}
use Rattle.least_served.specs.Meaning.{least_served_meaning}
use Rattle.least_served.specs.Served.{unserved, count_at}
use Rattle.least_served.proofs.Low.{counts_stay_low, never_stops}
use Rattle.model.specs.Calls.{new}
use Rattle.model.specs.Cell.{Cell}
use Rattle.model.specs.Further.{AllPromises}
use Rattle.model.specs.History.{after}
use Rattle.model.specs.Limits.{most_turns}
use Rattle.served_cell.specs.Counts.{Low, NoCountStops}
use Rattle.served_cell.specs.Promised.{Promised}

low : (turns count served : ℕ) → count ≤ 1107025920 * served → served ≤ turns → turns ≤ 2000000000 →
    Low turns count
low turns count served h s t = record { bounded = omega arith; below = omega arith }

no_count_stops : (keep : ℕ) →
    AllPromises least_served_meaning (new keep unserved) → NoCountStops (new keep unserved)
no_count_stops keep all calls k =
    let heard = all.further.hears calls in
    let x : Cell LeastServed = after least_served_meaning (new keep unserved) calls in
    let turns : x.turns ≤ most_turns = (all.promises.within calls k).1 in
    let same : x.chooser ≡ told_all least_served_meaning unserved heard.0 = heard.1 in
    let few : servings heard.0 ≤ x.turns = heard.2 in (
      (λ list place.
          low x.turns (count_at x.chooser list place) (servings heard.0)
          (subst (λ (c : LeastServed). count_at c list place ≤ 1107025920 * servings heard.0) (sym same)
          (counts_stay_low.as_meant heard.0 list place)) few turns),
      (heard.0, few, same ∙ never_stops.as_meant heard.0 (omega arith)),
    )

pub promised : (keep : ℕ) → AllPromises least_served_meaning (new keep unserved) →
    Promised (new keep unserved)
promised keep all = record { promises = all; counts = no_count_stops keep all }
