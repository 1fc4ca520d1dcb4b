use Rattle.std.proofs.Common.{refl}
use Rattle.tariff.proofs.Wholes.{whole}
use Rattle.tariff.proofs.table.rates.Goals as goal

pub returns : goal.returns
returns c = whole _ refl
