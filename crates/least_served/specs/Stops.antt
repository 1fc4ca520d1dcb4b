-- Whatever a new one is told, in whatever order: a serving adds at most the longest frame times the
-- highest price to a count, so that the turns that a cell accepts bring none to the stop, and the
-- stop never makes a difference.
use Rattle.std.specs.Prelude.{◌≡◌, ℕ, ◌*◌, ◌≤◌, List}
use Rattle.tariff.specs.Tariff.{link}
use Rattle.chooser.specs.declared.entry.ListKind.{ListKind}
use Rattle.chooser.specs.Limits.{longest, most_turns}
use Rattle.chooser.specs.Meaning.{Meaning}
use Rattle.chooser.specs.Tellings.{Telling, told_all, servings}
use Rattle.least_served.specs.declared.counts.LeastServed.{LeastServed}
use Rattle.least_served.specs.Served.{unserved, count_at, least_served, stopped}
use Rattle.least_served.specs.Served.{after_served, after_joined, after_cleared}
use Rattle.least_served.specs.Meaning.{least_served_with}

-- what it means to a cell goes by sound lists alone; this by any list of entries, sound or not
abbrev pub any_list : (ℕ → ℕ) → Meaning LeastServed
any_list stop = record {
  pick = least_served;
  served = after_served stop;
  joined = after_joined;
  cleared = after_cleared;
}

-- ---- of a meaning, by what becomes of a count that grew
module _ (M : (ℕ → ℕ) → Meaning LeastServed) where
  -- a count is at most the longest frame times the link for each serving
  abbrev pub CountsLow : Type 0
  CountsLow = (ts : List Telling) (list : ListKind) (place : ℕ)
      → count_at (told_all (M stopped) unserved ts) list place ≤ longest * link * servings ts

  -- within a cell's turns the counts are what they would be without a stop
  abbrev pub NoStop : Type 0
  NoStop = (ts : List Telling) → servings ts ≤ most_turns
      → told_all (M stopped) unserved ts ≡ told_all (M (λ n. n)) unserved ts

-- ---- of what it means to a cell, and of any list of entries
pub record CountsStayLow : Type 0 where
  pub as_meant : CountsLow least_served_with
  pub of_any_list : CountsLow any_list

pub record NeverStops : Type 0 where
  pub as_meant : NoStop least_served_with
  pub of_any_list : NoStop any_list
