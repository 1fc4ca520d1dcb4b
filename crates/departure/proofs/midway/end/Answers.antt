use Rattle.std.proofs.Common.{sym, ap, ◌∙◌, arith}
use Rattle.model.specs.Departures.{gone}
use Rattle.model.specs.Session.{Session, above_zero}
use Rattle.model.specs.Table.{at, change}
use Rattle.table.proofs.Tables.{at_table, written}
use Rattle.table.specs.Places.{table_of}
use Rattle.departure.proofs.midway.end.Goals as goal

pub returns : goal.returns
returns c =
    let rows = c.args.rows.now in
    let i = c.index.result in
    let row = c.index-rows-index.result in
    let t = table_of rows in
    let here = ap (at t) (sym c.index.ensures.is) ∙ at_table rows i row (omega arith) in
    record {
      lag = c.depart.ensures.owed ∙ sym (ap (λ (s : Session). above_zero s.lag) here);
      after = written rows i row c.depart.new.self gone (omega arith) c.depart.ensures.after ∙ ap (λ k. change t k gone) c.index.ensures.is;
    }
