-- The counts of a least served that a cell was made with: its accepted turns bound its servings, so
-- that in no history of the cell a count reaches the stop, and the stop makes no difference.
use Rattle.std.specs.Prelude.{◌≡◌, ℕ, ◌-◌, ◌*◌, ◌^◌, ◌<◌, ◌≤◌, List}
use Rattle.chooser.specs.declared.entry.ListKind.{ListKind}
use Rattle.chooser.specs.Tellings.{Telling, told_all, servings}
use Rattle.least_served.specs.declared.counts.LeastServed.{LeastServed}
use Rattle.least_served.specs.Meaning.{least_served_meaning, least_served_with}
use Rattle.least_served.specs.Served.{unserved, count_at}
use Rattle.model.specs.Cell.{Cell}
use Rattle.model.specs.History.{Throughout}
use Rattle.model.specs.Limits.{dearest, quarters}

-- a count is at most the longest frame times the link for each turn, and below the stop, 2^63 - 1
pub record Low (turns count : ℕ) : Type 0 where
  pub bounded : count ≤ dearest * turns
  pub below : count < 2 ^ 63 - 1

-- the chooser is what it would have become without a stop, of tellings with no more servings than
-- turns
abbrev pub Unstopped : Cell LeastServed → Type 0
Unstopped x =
    (ts : List Telling) × (servings ts ≤ x.turns) ×
    (x.chooser ≡ told_all (least_served_with (λ n. n)) unserved ts)

abbrev pub NoCountStops : Cell LeastServed → Type 0
NoCountStops start =
    Throughout least_served_meaning start (λ x. x.keep ≤ quarters →
    ((list : ListKind) (place : ℕ) → Low x.turns (count_at x.chooser list place)) × Unstopped x)
