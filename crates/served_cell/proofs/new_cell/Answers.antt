use Rattle.std.proofs.Common.{subst}
use Rattle.least_served.specs.declared.counts.LeastServed.{LeastServed}
use Rattle.least_served.specs.Meaning.{least_served_meaning}
use Rattle.model.specs.Calls.{new}
use Rattle.model.specs.Further.{AllPromises}
use Rattle.served_cell.proofs.Counts.{promised}
use Rattle.served_cell.proofs.new_cell.Goals as goal

pub returns-clause-promised : goal.returns-clause-promised
returns-clause-promised c =
    promised c.args.keep
    (subst (λ (s : LeastServed). AllPromises least_served_meaning (new c.args.keep s))
    c.new.ensures.value c.new-2.ensures.promises)
