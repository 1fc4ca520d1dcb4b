use Rattle.std.proofs.Common.{◌≡◌, ℕ, ◌<◌, ◌≤◌, ⊎_elim, sym, ap, ◌∙◌, arith}
use Rattle.model.specs.Departures.{active_rate, share}
use Rattle.model.specs.Table.{total}
use Rattle.model.proofs.Uses.{share_nothing, share_nobody}
use Rattle.table.specs.Places.{table_of}
use Rattle.departure.proofs.Releases.{rates_gone, owed_gone, departed_is}
use Rattle.departure.proofs.midway.release.Goals as goal

pub invariant_of-over : goal.invariant_of-over
invariant_of-over c =
    let t = table_of c.args.rows.now in
    let k = c.args.place.number in
    let rates = c.active_rates-rates.ensures ∙ ap (total active_rate) c.end-lag.ensures.after in
    record {
      some = c.if-rates-gt0.true;
      few = omega (arith, rates, rates_gone t k, c.requires.rates);
      lags = omega (arith, c.end-lag.ensures.lag, owed_gone t k c.requires.departs, c.requires.lags);
    }

pub returns-else-lag-gt0 : goal.returns-else-lag-gt0
returns-else-lag-gt0 c =
    let lag = c.end-lag.result in
    let rates = c.active_rates-rates.result in
    let left = table_of c.end-lag.new.rows in
    let is = departed_is (table_of c.args.rows.now) c.args.place.number _ _ _ c.end-lag.ensures.after c.end-lag.ensures.lag c.active_rates-rates.ensures in
    ⊎_elim
    (λ (nobody : (0 < lag) × (rates ≤ 0)).
    let none : rates ≡ 0 = omega (arith, nobody.1) in
    sym (ap (λ (n : ℕ). share lag n 0 left) none ∙ share_nobody lag 0 left) ∙ is)
    (λ (nothing : lag ≤ 0).
    let none : lag ≡ 0 = omega arith in
    sym (ap (λ (n : ℕ). share n rates 0 left) none ∙ share_nothing rates 0 left) ∙ is)
    c.else-lag-gt0.either
