-- The line of the cell is that of its mark.
use Rattle.std.proofs.Common.{◌≡◌, List, ℕ, Option, subst}
use Rattle.std.specs.Io.KnownBytes.{Appends}
use Rattle.cell.specs.View.{view}
use Rattle.states.proofs.More.{then_two}
use Rattle.states.specs.Texts.{mark_text}
use Rattle.states.proofs.state.print.Goals as goal

pub returns : goal.returns
returns g c =
    then_two c.print_places.result (g.W.Write.contents c.args.out.now) (g.W.Write.contents c.print_mark.new.out)
    (g.W.Write.contents c.print_booked.new.out) (g.W.Write.contents c.print_places.new.out)
    (mark_text c.args.after (view c.args.cell.now).mark) _ _
    (subst (λ (m : ℕ). Appends (g.W.Write.contents c.args.out.now) (g.W.Write.contents c.print_mark.new.out) (mark_text c.args.after m)) c.mark.ensures c.in_ok-print_mark.ensures)
    c.in_ok-print_booked.ensures c.print_places.ensures
