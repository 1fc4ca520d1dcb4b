-- The promises, with the law of the chooser at hand.
use Rattle.model.proofs.Further.{all_promises}
use Rattle.model.proofs.Meant.{lawful}
use Rattle.cell.proofs.cell.Cell.new.Goals as goal

pub returns-clause-promises : goal.returns-clause-promises
returns-clause-promises g c =
    all_promises _ (lawful g.C.Chooser g.met.C.Chooser.picks) c.args.keep c.args.chooser
