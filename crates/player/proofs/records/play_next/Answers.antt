-- What was taken of the input tells what the input does.
use Rattle.std.proofs.lemmas.Result.{IfOk-weaker}
use Rattle.cell.specs.View.{view}
use Rattle.chooser.specs.Meaning.{meant}
use Rattle.recording.specs.Failures.{Puts}
use Rattle.player.proofs.Reading.{leaves_taken, line_taken, stepped_taken}
use Rattle.player.proofs.Taking.{up_to_sixteen}
use Rattle.player.proofs.records.play_next.Goals as goal

pub returns-clause-line : goal.returns-clause-line
returns-clause-line g c =
    line_taken (meant g.C.Chooser) (view c.args.cell.now) c.args.number _ _ c.fill.new.bytes c.in_ok-size.size c.in_ok-size.ensures.size
    c.fill.array_long c.in_ok-size.ensures.bytes
    (λ t. Puts (g.W.Write.contents c.args.out.now.inner) (g.W.Write.contents c.tell.new.out.inner) t c.tell.result) _ c.play_record.ensures.answer
    c.tell.ensures.line

pub returns-clause-after : goal.returns-clause-after
returns-clause-after g c =
    stepped_taken (meant g.C.Chooser) (view c.args.cell.now) c.args.number _ _ c.fill.new.bytes c.in_ok-size.size c.in_ok-size.ensures.size
    c.fill.array_long c.in_ok-size.ensures.bytes c.tell.result _ c.play_record.ensures.after

pub returns-clause-rest : goal.returns-clause-rest
returns-clause-rest g c =
    IfOk-weaker c.tell.result _ _
    (λ goes. leaves_taken (meant g.C.Chooser) (view c.args.cell.now) c.args.number _ _ c.fill.new.bytes c.in_ok-size.size c.in_ok-size.ensures.size
    c.fill.array_long c.in_ok-size.ensures.bytes goes _ c.play_record.ensures.answer)
    c.tell.ensures.goes

pub returns-clause-reads : goal.returns-clause-reads
returns-clause-reads g c =
    up_to_sixteen (g.R.Read.remaining c.args.reader.now.inner) (g.R.Read.remaining c.fill.new.reader.inner) c.fill.new.bytes c.in_ok-size.size c.in_ok-size.ensures.size c.in_ok-size.ensures.bytes
