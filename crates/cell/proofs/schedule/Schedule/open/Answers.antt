use Rattle.std.proofs.Common.{refl, ap, ◌∙◌}
use Rattle.chooser.specs.Meaning.{meant}
use Rattle.cell.specs.Answers.{done_as}
use Rattle.cell.specs.View.{cell_of}
use Rattle.cell.proofs.Steps.{opens, in_order, refused}
use Rattle.cell.proofs.schedule.Schedule.open.Goals as goal

pub put-requires : goal.put-requires
put-requires g c =
    let now = c.args.chooser.now in
    let cleared = c.cleared.ensures ∙ ap (g.C.Chooser.after_cleared now) c.index.ensures.is in
    let makes = opens (meant g.C.Chooser) _ _ _ _ _ c.args.place c.args.rate _ _ _ c.in_ok-opened.ensures cleared in
    in_order g.C.Chooser g.met.C.Chooser.picks c.args.self.now now _ _ _ makes

pub returns-in_err-opened : goal.returns-in_err-opened
returns-in_err-opened g c =
    refused (meant g.C.Chooser) (cell_of c.args.self.now c.args.chooser.now) done_as (λ _. refl) _ _ _ c.in_err-opened.ensures _ c.from_residual.ensures.1
