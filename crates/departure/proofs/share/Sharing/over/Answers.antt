use Rattle.std.proofs.Common.{ap, ◌∙◌, arith}
use Rattle.std.proofs.lemmas.List.{length-set}
use Rattle.model.specs.Departures.{active_rate}
use Rattle.model.specs.Table.{total, total_owed}
use Rattle.table.specs.Places.{table_of}
use Rattle.table.proofs.Tables.{length_table, left_more}
use Rattle.departure.proofs.Shares.{share_more, share_all, rest_set}
use Rattle.departure.proofs.share.Sharing.over.Goals as goal

pub give-upto-requires : goal.give-upto-requires
unfolding total
give-upto-requires c =
    let rows = c.loop-row.row-items in
    let rates = left_more (total active_rate) rows c.loop-row.row-index c.row-item.result (omega arith) in
    let lags = left_more total_owed rows c.loop-row.row-index c.row-item.result (omega arith) in
    record { room = omega (arith, rates); lags = omega (arith, lags) }

pub loop-row-preserved : goal.loop-row-preserved
unfolding total
loop-row-preserved c =
    let rows = c.loop-row.row-items in
    let i = c.loop-row.row-index in
    let y = c.give-upto.new.row in
    let d = c.row-item.result in
    let self = c.args.self in
    let rates = left_more (total active_rate) rows i d (omega arith) in
    let lags = left_more total_owed rows i d (omega arith) in
    let same = rest_set rows i y in
    record {
      size = length-set rows i y ∙ c.loop-row.invariant.size;
      rates = omega (arith, rates, ap (total active_rate) same, c.give-upto.ensures.upto);
      lags = omega (arith, lags, ap total_owed same);
      shared =
          share_more self.lag self.rates c.loop-row.upto c.give-upto.result rows _ i d y (omega arith) c.give-upto.ensures.upto c.give-upto.ensures.after c.loop-row.invariant.shared;
    }

pub returns : goal.returns
returns c =
    let rows = c.loop-row.row-items in
    share_all c.args.self.lag c.args.self.rates c.loop-row.upto (table_of rows) _ c.loop-row.row-index (omega (arith, length_table rows)) c.loop-row.invariant.shared
