use Rattle.std.proofs.Common.{◌∙◌, rules}
use Rattle.chooser.proofs.Made.{made_at}
use Rattle.chooser.specs.Limits.{places}
use Rattle.model.specs.Lists.{stands_in}
use Rattle.model.specs.Table.{at}
use Rattle.table.proofs.Offering.{listed}
use Rattle.table.proofs.Tables.{length_table}
use Rattle.table.specs.Places.{table_of}
use Rattle.table.proofs.lists.members.Goals as goal

pub returns : goal.returns
returns c =
    let rows = c.args.rows.now in
    let t = table_of rows in
    let in_it = stands_in c.args.list in
    let made = c.from_fn.ensures.items in
    listed in_it t c.from_fn.result places made.long (length_table rows ∙ c.told-rows)
    (made_at _ _ c.from_fn.result (λ k. in_it (at t k)) places (λ k l y q call. search rules) made)
