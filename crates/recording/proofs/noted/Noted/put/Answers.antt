-- One more piece is written.
use Rattle.std.proofs.Common.{◌∙◌}
use Rattle.recording.proofs.Taken.{put_more}
use Rattle.recording.proofs.noted.Noted.put.Goals as goal

pub loop-at-preserved : goal.loop-at-preserved
loop-at-preserved g c =
    let more = put_more _ _ _ c.loop-at.at c.in_ok-n.n c.args.text.now c.loop-at.invariant.0 c.in_ok-n.ensures.bound c.loop-at.invariant.1 c.in_ok-n.ensures.bytes in
    (more.0, more.1, c.in_ok-n.ensures.failure ∙ c.loop-at.invariant.2)
