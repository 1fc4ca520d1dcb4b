use Rattle.std.proofs.Common.{refl}
use Rattle.chooser.specs.Meaning.{meant}
use Rattle.cell.specs.Answers.{done_as}
use Rattle.cell.specs.View.{cell_of}
use Rattle.cell.proofs.Steps.{closes, in_order, refused}
use Rattle.cell.proofs.schedule.Schedule.close.Goals as goal

pub put-requires : goal.put-requires
put-requires g c =
    in_order g.C.Chooser g.met.C.Chooser.picks c.args.self.now c.args.chooser.now _ _ _ (closes (meant g.C.Chooser) _ _ _ _ _ c.args.place _ _ c.in_ok-closed.ensures)

pub returns-in_err-closed : goal.returns-in_err-closed
returns-in_err-closed g c =
    refused (meant g.C.Chooser) (cell_of c.args.self.now c.args.chooser.now) done_as (λ _. refl) _ _ _ c.in_err-closed.ensures _ c.from_residual.ensures.1
