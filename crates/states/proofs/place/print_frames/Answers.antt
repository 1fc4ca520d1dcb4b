-- One more frame was printed.
use Rattle.std.proofs.Common.{◌≡◌}
use Rattle.std.proofs.KnownBytes.{Appends-nil}
use Rattle.cell.specs.Asked.{frames}
use Rattle.cell.specs.View.{view}
use Rattle.model.specs.Calls.{asked}
use Rattle.states.proofs.More.{frames_more}
use Rattle.states.specs.Texts.{frames_text}
use Rattle.states.proofs.place.print_frames.Goals as goal

pub loop-i-init : goal.loop-i-init
unfolding frames_text
loop-i-init g c = Appends-nil (g.W.Write.contents c.args.out.now)

pub loop-i-preserved : goal.loop-i-preserved
loop-i-preserved g c =
    frames_more (λ i. frames (asked (view c.args.cell.now) c.args.place) i) c.loop-i.i c.frame.result _ _ _
    c.frame.ensures c.loop-i.invariant c.in_ok-print_frame.ensures
