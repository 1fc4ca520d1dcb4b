use Rattle.std.proofs.Common.{◌∙◌}
use Rattle.table.proofs.Offering.{stayed_of_all}
use Rattle.cell.proofs.settle.Roll.all.Goals as goal

pub returns : goal.returns
returns c = let roll = c.args.self.now in c.stayed.ensures ∙ stayed_of_all c.args.list 64 roll.rows.now roll.sized
