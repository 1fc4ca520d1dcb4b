-- What was played so far, and then what is left, is all.
use Rattle.std.proofs.Common.{◌≡◌, ◌+◌, IfSome}
use Rattle.cell.specs.View.{view}
use Rattle.chooser.specs.Meaning.{meant}
use Rattle.recording.specs.Recordings.{recording}
use Rattle.recording.specs.declared.TheConstants.{RECORDS}
use Rattle.joblags.proofs.Going.{Going}
use Rattle.joblags.proofs.play.play_all.Given as goal

abbrev pub invariant-loop-record : goal.invariant-loop-record
invariant-loop-record g l =
    record {
      number : l.record-iterator.next ≡ l.played + 1;
      going : IfSome (g.R.Read.remaining l.fn.reader) (λ input.
          Going (meant g.C.Chooser) l.fn.every (view l.fn.cell) (recording RECORDS 1 input) (g.W.Write.contents l.fn.out) (g.W.Write.contents l.out)
          (view l.cell) l.played l.record-iterator.next (g.R.Read.remaining l.record-iterator.reader.inner));
    }
