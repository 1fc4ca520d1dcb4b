use Rattle.std.proofs.Common.{rules, tests}
use Rattle.std.proofs.lemmas.Iterator.{YieldsList-from_slice}
use Rattle.table.proofs.Chains.{sum_fits}
use Rattle.table.proofs.sums.booked_total.Goals as goal

pub sum-requires-clause-fits : goal.sum-requires-clause-fits
sum-requires-clause-fits c =
    sum_fits _ _ (YieldsList-from_slice c.args.rows.now cc) c.told-rows c.map.ensures.closure (λ x r q k. search (rules, tests))
