-- The places so far were printed.
use Rattle.std.proofs.Common.{◌≡◌}
use Rattle.std.specs.Io.KnownBytes.{Appends}
use Rattle.cell.specs.View.{view}
use Rattle.states.specs.Texts.{places_text}
use Rattle.states.proofs.state.print_places.Given as goal

abbrev pub invariant-loop-place : goal.invariant-loop-place
invariant-loop-place g l =
    Appends (g.W.Write.contents l.fn.out) (g.W.Write.contents l.out)
    (places_text g.C.Figures.figure (view l.cell) l.place)
