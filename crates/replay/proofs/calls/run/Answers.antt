use Rattle.std.proofs.Common.{◌∙◌, sym, arith}
use Rattle.cell.specs.View.{view}
use Rattle.chooser.specs.Meaning.{meant}
use Rattle.replay.proofs.Runs.{all_made, one_made}
use Rattle.replay.proofs.calls.run.Goals as goal

pub loop-next-preserved : goal.loop-next-preserved
loop-next-preserved g c =
    c.loop-next.invariant
    ∙ one_made (meant g.C.Chooser) (view c.loop-next.cell) c.args.calls.now (view c.call.new.cell) c.loop-next.next-index _ (omega arith) c.call.ensures.after

pub returns : goal.returns
returns g c =
    sym (c.loop-next.invariant ∙ all_made (meant g.C.Chooser) (view c.loop-next.cell) c.args.calls.now c.loop-next.next-index (omega arith))
