-- Making a cell in memory that C gives.
use Rattle.std.specs.Prelude.{ℕ}
use Rattle.std.specs.Result.{result_unwrap_or}
use Rattle.answer.specs.Numbers.{refusal_number}
use Rattle.least_served.specs.declared.counts.LeastServed.{LeastServed}
use Rattle.least_served.specs.Served.{unserved}
use Rattle.model.specs.Calls.{make}
use Rattle.model.specs.Cell.{Cell}

abbrev pub made_answer : ℕ → ℕ
made_answer keep = refusal_number (make keep unserved)

-- the cell that was made, or what was there
abbrev pub made_in : ℕ → Cell LeastServed → Cell LeastServed
made_in keep x = result_unwrap_or (make keep unserved) x
