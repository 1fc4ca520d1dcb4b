-- What least served means to a cell.
use Rattle.std.specs.Prelude.{ℕ}
use Rattle.chooser.specs.Meaning.{Meaning, meaning}
use Rattle.least_served.specs.declared.counts.LeastServed.{LeastServed}
use Rattle.least_served.specs.Served.{least_served, stopped}
use Rattle.least_served.specs.Served.{after_served, after_joined, after_cleared}

-- `stop` is what becomes of a count that grew
abbrev pub least_served_with : (ℕ → ℕ) → Meaning LeastServed
least_served_with stop =
    meaning
    (λ c list o. least_served c list o.entries)
    (λ c list place length price. after_served stop c list place length price)
    (λ c list place o. after_joined c list place o.entries)
    (λ c place. after_cleared c place)

abbrev pub least_served_meaning : Meaning LeastServed
least_served_meaning = least_served_with stopped
