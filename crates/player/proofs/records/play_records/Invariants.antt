-- What was printed so far, and then what is left, is all.
use Rattle.std.proofs.Common.{◌≡◌, ◌+◌, ◌*◌, ◌-◌, IfSome}
use Rattle.cell.specs.View.{view}
use Rattle.chooser.specs.Meaning.{meant}
use Rattle.recording.specs.Recordings.{recording}
use Rattle.recording.specs.Taking.{TakesUpTo}
use Rattle.recording.specs.declared.TheConstants.{RECORDS}
use Rattle.player.proofs.Going.{Remains}
use Rattle.player.proofs.records.play_records.Given as goal

abbrev pub invariant-loop-number : goal.invariant-loop-number
invariant-loop-number g l =
    record {
      played : IfSome (g.R.Read.remaining l.fn.reader.inner) (λ input.
          Remains (meant g.C.Chooser) (view l.fn.cell) (recording RECORDS 1 input) (g.W.Write.contents l.fn.out.inner)
          (view l.cell) l.number (RECORDS + 1 - l.number) (g.R.Read.remaining l.reader.inner) (g.W.Write.contents l.out.inner));
      taken : TakesUpTo (16 * (l.number - 1)) (g.R.Read.remaining l.fn.reader.inner) (g.R.Read.remaining l.reader.inner);
      reader : l.reader.failure ≡ l.fn.reader.failure;
      out : l.out.failure ≡ l.fn.out.failure;
    }
