-- One more row was printed.
use Rattle.std.proofs.Common.{◌≡◌, rules, get_or}
use Rattle.std.proofs.KnownBytes.{Appends-nil}
use Rattle.summary.proofs.More.{rows_more}
use Rattle.summary.specs.Getting.{nothing}
use Rattle.summary.specs.Table.{rows_text}
use Rattle.summary.proofs.printing.print_rows.Goals as goal

pub loop-place-init : goal.loop-place-init
unfolding rows_text
loop-place-init g c = Appends-nil (g.W.Write.contents c.args.out.now)

pub loop-place-preserved : goal.loop-place-preserved
loop-place-preserved g c =
    rows_more c.args.sums.now c.loop-place.place (get_or c.args.sums.now.places c.from.result nothing) _ _ _ (search rules)
    c.loop-place.invariant c.in_ok-print_row.ensures
