-- A summary has no line.
use Rattle.std.proofs.Common.{◌≡◌}
use Rattle.std.proofs.KnownBytes.{Appends-nil}
use Rattle.hall.proofs.lines.print_record.Goals as goal

pub returns-in-Summary : goal.returns-in-Summary
returns-in-Summary g c = rw c.in-Summary.is (Appends-nil (g.W.Write.contents c.args.out.now))
