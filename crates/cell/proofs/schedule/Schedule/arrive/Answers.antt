use Rattle.std.proofs.Common.{refl}
use Rattle.chooser.specs.Meaning.{meant}
use Rattle.cell.specs.Answers.{done_as}
use Rattle.cell.specs.View.{cell_of}
use Rattle.cell.proofs.Steps.{arrives, in_order, refused}
use Rattle.cell.proofs.schedule.Schedule.arrive.Goals as goal

pub put-requires : goal.put-requires
put-requires g c =
    in_order g.C.Chooser g.met.C.Chooser.picks c.args.self.now c.args.chooser.now _ _ _ (arrives (meant g.C.Chooser) _ _ _ _ _ c.args.place c.args.frame _ _ c.in_ok-arrived.ensures)

pub returns-in_err-arrived : goal.returns-in_err-arrived
returns-in_err-arrived g c =
    refused (meant g.C.Chooser) (cell_of c.args.self.now c.args.chooser.now) done_as (λ _. refl) _ _ _ c.in_err-arrived.ensures _ c.from_residual.ensures.1
