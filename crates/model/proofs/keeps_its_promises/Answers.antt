-- Cites the theorem, with the law of the chooser at hand.
use Rattle.model.proofs.Further.{all_promises}
use Rattle.model.proofs.Meant.{lawful}
use Rattle.model.proofs.keeps_its_promises.Goals as goal

pub returns : goal.returns
returns g c = all_promises _ (lawful g.C.Chooser g.met.C.Chooser.picks)
