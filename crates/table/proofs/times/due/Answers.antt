use Rattle.std.proofs.Common.{ℕ, ◌∙◌, sym, ap, subst, rules}
use Rattle.std.specs.Prelude.{is_none}
use Rattle.std.specs.Option.{option_map}
use Rattle.chooser.proofs.Made.{made_at}
use Rattle.chooser.specs.Limits.{places}
use Rattle.keys.proofs.Orders.{time_first}
use Rattle.keys.specs.Least.{Least}
use Rattle.keys.specs.Kinds.{time_before}
use Rattle.model.specs.Table.{at}
use Rattle.session.specs.Seen.{time_key}
use Rattle.table.proofs.Dues.{search_is, chosen_inside, least_is, idle_is}
use Rattle.table.proofs.Offering.{listed}
use Rattle.table.proofs.Numbers.{placed}
use Rattle.table.proofs.Tables.{length_table, times_read}
use Rattle.table.specs.Places.{table_of}
use Rattle.table.proofs.times.due.Goals as goal

pub returns : goal.returns
returns c =
    let rows = c.args.rows.now in
    let t = table_of rows in
    let r = c.least.result in
    let size = length_table rows ∙ c.told-rows in
    let made = c.from_fn-keys.ensures.items in
    let keys =
    listed time_key t c.from_fn-keys.result places made.long size
    (made_at _ _ c.from_fn-keys.result (λ k. time_key (at t k)) places (λ k l y q call. search rules) made)
    in
    let least = subst (λ before. Least before c.from_fn-keys.result r) time_first c.least.ensures.least in
    let found = search_is t r (subst (λ ks. Least time_before ks r) keys least) in
    let is = placed r c.and_then.result (chosen_inside t r size found) c.and_then.ensures ∙ found in
    record {
      is = is;
      idle = ap is_none is ∙ sym (idle_is t);
      soonest = λ d. times_read rows d c.and_then.result c.told-rows ∙ ap (option_map (λ (i : ℕ). (at t i).virtual_time)) is ∙ sym (least_is t);
    }
