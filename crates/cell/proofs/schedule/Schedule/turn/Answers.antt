use Rattle.std.proofs.Common.{refl}
use Rattle.chooser.specs.Meaning.{meant}
use Rattle.cell.specs.Answers.{turned_as}
use Rattle.cell.specs.View.{cell_of}
use Rattle.cell.proofs.Steps.{refused}
use Rattle.cell.proofs.schedule.Schedule.turn.Goals as goal

pub returns-in_err-chosen : goal.returns-in_err-chosen
returns-in_err-chosen g c =
    refused (meant g.C.Chooser) (cell_of c.args.self.now c.args.chooser.now) turned_as (λ _. refl) _ _ _ c.in_err-chosen.ensures _ c.from_residual.ensures.1
