-- What was played so far, and then what is left, is all. (What is printed is no part of this: no output is known.)
use Rattle.std.proofs.Common.{◌≡◌, ◌+◌, ◌-◌, IfSome, None}
use Rattle.cell.specs.View.{view}
use Rattle.chooser.specs.Meaning.{meant}
use Rattle.recording.specs.Recordings.{recording}
use Rattle.recording.specs.declared.TheConstants.{RECORDS}
use Rattle.player.proofs.Going.{Remains}
use Rattle.hall.proofs.playing.play_records.Given as goal

abbrev pub invariant-loop-number : goal.invariant-loop-number
invariant-loop-number g l =
    IfSome (g.R.Read.remaining l.fn.reader.inner) (λ input.
    Remains (meant g.C.Chooser) (view l.fn.hall.cell) (recording RECORDS 1 input) None
    (view l.hall.cell) l.number (RECORDS + 1 - l.number) (g.R.Read.remaining l.reader.inner) None)
