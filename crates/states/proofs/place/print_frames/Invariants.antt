-- The frames so far were printed.
use Rattle.std.proofs.Common.{◌≡◌}
use Rattle.std.specs.Io.KnownBytes.{Appends}
use Rattle.cell.specs.Asked.{frames}
use Rattle.cell.specs.View.{view}
use Rattle.model.specs.Calls.{asked}
use Rattle.states.specs.Texts.{frames_text}
use Rattle.states.proofs.place.print_frames.Given as goal

abbrev pub invariant-loop-i : goal.invariant-loop-i
invariant-loop-i g l =
    Appends (g.W.Write.contents l.fn.out) (g.W.Write.contents l.out)
    (frames_text (λ i. frames (asked (view l.cell) l.place) i) l.i)
