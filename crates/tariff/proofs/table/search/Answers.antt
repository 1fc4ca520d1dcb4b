use Rattle.tariff.proofs.Wholes.{found_is}
use Rattle.tariff.proofs.table.search.Goals as goal

pub returns : goal.returns
returns c = found_is _ c.rates.ensures c.args.units _ c.binary_search.ensures.position
