-- What was told so far, and then what is left to be said, is all.
use Rattle.std.proofs.Common.{◌-◌, IfSome}
use Rattle.cell.specs.View.{view}
use Rattle.chooser.specs.Meaning.{meant}
use Rattle.console.specs.Talks.{said}
use Rattle.console.specs.declared.lines.TheConstants.{LINES}
use Rattle.console.proofs.Talking.{Remains}
use Rattle.console.proofs.lines.talk.Given as goal

abbrev pub invariant-loop : goal.invariant-loop
invariant-loop g l = IfSome (g.R.Read.remaining l.fn.input) (λ text.
    Remains (meant g.C.Chooser) g.C.Counted.counts (view l.fn.cell) (said LINES text) (g.W.Write.contents l.fn.out)
    (view l.cell) (LINES - l.counter) (g.R.Read.remaining l.input) (g.W.Write.contents l.out))
