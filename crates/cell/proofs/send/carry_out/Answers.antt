use Rattle.std.proofs.Common.{◌∙◌}
use Rattle.table.specs.Places.{table_of}
use Rattle.cell.proofs.Turning.{handed_left}
use Rattle.cell.proofs.send.carry_out.Goals as goal

pub returns-after-list-clause-after : goal.returns-after-list-clause-after
returns-after-list-clause-after c =
    let own = c.account_at-chosen.ensures in
    let other = c.account_at.ensures in
    c.hand_to.ensures.after
    ∙ handed_left c.args.keep c.hand_to.result.length (table_of c.args.rows.now) c.args.chosen c.in-HandedOn.place _ _ c.in-HandedOn.list _ _ _
    c.in-HandedOn.is own.place other.place own.account other.account c.requires.other
