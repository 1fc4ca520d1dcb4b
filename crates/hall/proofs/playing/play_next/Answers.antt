-- What was taken of the input tells what the input does.
use Rattle.std.proofs.Common.{◌≡◌, ◌∙◌, subst, is_none, sym}
use Rattle.std.proofs.lemmas.Result.{IfOk-weaker}
use Rattle.cell.specs.View.{view}
use Rattle.chooser.specs.Meaning.{meant}
use Rattle.player.proofs.Reading.{leaves_taken, stepped_taken}
use Rattle.hall.proofs.playing.play_next.Goals as goal

pub returns-clause-after : goal.returns-clause-after
returns-clause-after g c =
    stepped_taken (meant g.C.Chooser) (view c.args.hall.now.cell) c.args.number _ _ c.fill.new.bytes c.in_ok-size.size c.in_ok-size.ensures.size
    c.fill.array_long c.in_ok-size.ensures.bytes c.tell.result _ (c.tell.ensures.cell ∙ c.play_record-played.ensures.after)

pub returns-clause-rest : goal.returns-clause-rest
returns-clause-rest g c =
    IfOk-weaker c.tell.result _ _
    (λ end. leaves_taken (meant g.C.Chooser) (view c.args.hall.now.cell) c.args.number _ _ c.fill.new.bytes c.in_ok-size.size c.in_ok-size.ensures.size
    c.fill.array_long c.in_ok-size.ensures.bytes (is_none end) _ c.play_record-played.ensures.answer)
    c.tell.ensures.goes
