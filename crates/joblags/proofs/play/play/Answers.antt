use Rattle.cell.specs.View.{view}
use Rattle.chooser.specs.Meaning.{meant}
use Rattle.joblags.proofs.Going.{job_all}
use Rattle.joblags.proofs.play.play.Goals as goal

pub returns-clause-text : goal.returns-clause-text
returns-clause-text g c =
    job_all (meant g.C.Chooser) c.args.every (view c.args.cell.now) (g.R.Read.remaining c.args.reader)
    (g.W.Write.contents c.args.out.now) (g.W.Write.contents c.play_all.new.out) (g.W.Write.contents c.print_fault.new.out) (g.W.Write.contents c.print_last.new.out)
    (view c.play_all.new.cell) c.in_ok-end.end.played c.in_ok-end.end.fault
    c.in_ok-end.ensures.sheets c.in_ok-end.ensures.after c.in_ok-end.ensures.end c.in_ok-print_fault.ensures c.in_ok-print_last.ensures
