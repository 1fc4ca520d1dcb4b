use Rattle.std.proofs.Common.{◌∙◌}
use Rattle.table.proofs.Numbers.{placed}
use Rattle.cell.proofs.Asking.{pick_inside}
use Rattle.cell.proofs.Telling.{asked_is}
use Rattle.cell.proofs.settle.Roll.pick.Goals as goal

pub returns : goal.returns
returns g c =
    let o = c.all.result in
    let now = c.args.chooser.now in
    let inside = pick_inside o.entries o.ok _ c.ask.result (g.met.C.Chooser.picks now c.args.list o) c.ask.ensures in
    placed c.ask.result c.and_then.result inside c.and_then.ensures ∙ c.ask.ensures
    ∙ asked_is g.C.Chooser now c.args.list o _ c.all.ensures
