-- A new cell, and what is promised of it.
use Rattle.std.specs.Prelude.{◌≡◌, ℕ}
use Rattle.chooser.specs.Meaning.{Meaning}
use Rattle.model.specs.Calls.{new}
use Rattle.model.specs.Cell.{Cell}
use Rattle.model.specs.Further.{AllPromises}

-- a new cell of this keep and chooser; whatever is called on it from here on, it keeps its promises
pub record Promised {C : Type 0} (M : Meaning C) (keep : ℕ) (chooser : C) (x : Cell C) : Type 0 where
  pub made : x ≡ new keep chooser
  pub promises : AllPromises M x
