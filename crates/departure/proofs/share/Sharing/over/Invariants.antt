use Rattle.std.proofs.Common.{◌≡◌, ◌+◌, ◌≤◌, ◌++◌, length, take, drop}
use Rattle.chooser.specs.Limits.{places}
use Rattle.chooser.specs.Offers.{lag_bound}
use Rattle.model.specs.Departures.{active_rate, share}
use Rattle.model.specs.Table.{total, total_owed}
use Rattle.table.specs.Places.{table_of}
use Rattle.departure.proofs.share.Sharing.over.Given as goal

abbrev pub invariant-loop-row : goal.invariant-loop-row
invariant-loop-row l = record {
  size : length l.row-items ≡ places;
  rates : l.upto + total active_rate (drop l.row-index (table_of l.row-items)) ≡ l.self.rates;
  lags : total_owed (drop l.row-index (table_of l.row-items)) + l.self.lag ≤ lag_bound;
  shared :
      take l.row-index (table_of l.row-items) ++ share l.self.lag l.self.rates l.upto (drop l.row-index (table_of l.row-items)) ≡ share l.self.lag l.self.rates 0 (table_of l.initial.row-items);
}
