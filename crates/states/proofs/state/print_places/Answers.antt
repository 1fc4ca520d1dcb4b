-- One more place was printed.
use Rattle.std.proofs.Common.{◌≡◌}
use Rattle.std.proofs.KnownBytes.{Appends-nil}
use Rattle.cell.specs.View.{view}
use Rattle.states.proofs.More.{places_more}
use Rattle.states.specs.Texts.{places_text}
use Rattle.states.proofs.state.print_places.Goals as goal

pub loop-place-init : goal.loop-place-init
unfolding places_text
loop-place-init g c = Appends-nil (g.W.Write.contents c.args.out.now)

pub loop-place-preserved : goal.loop-place-preserved
loop-place-preserved g c =
    places_more g.C.Figures.figure (view c.args.cell.now) c.loop-place.place _ _ _
    c.loop-place.invariant c.in_ok-print_place.ensures
