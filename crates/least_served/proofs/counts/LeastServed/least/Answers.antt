use Rattle.std.proofs.Common.{rules, sym, ap, ◌∙◌, subst}
use Rattle.keys.proofs.Orders.{count_first}
use Rattle.keys.specs.Kinds.{count_before}
use Rattle.keys.specs.Least.{least_of}
use Rattle.chooser.proofs.Picks.{row_pick}
use Rattle.least_served.specs.Served.{count_key, PicksLeastServed}
use Rattle.least_served.specs.Laws.{picks_least_served}
use Rattle.least_served.proofs.counts.LeastServed.least.Goals as goal

pub returns : goal.returns
returns c =
    let s = c.args.self.now in
    let list = c.args.list in
    let o = c.args.offer.now in
    let made = c.from_fn-counts.ensures.items in
    let found = c.least.ensures.found ∙ ap (λ before. least_of before c.from_fn-counts.result) count_first in
    let value = row_pick count_before o.entries (count_key s list) _ _ (λ k l x q call. search rules) _ made _ found in
    record { value = value; least = subst (PicksLeastServed s list o.entries) (sym value) (picks_least_served s list o.entries o.ok) }
