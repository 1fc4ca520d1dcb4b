-- What was listed so far, and then what is left, is all; and the next record to be read is the next to be counted.
use Rattle.std.proofs.Common.{◌≡◌, ◌+◌, IfSome}
use Rattle.recording.specs.Recordings.{recording}
use Rattle.recording.specs.declared.TheConstants.{RECORDS}
use Rattle.reclist.specs.Tallies.{records}
use Rattle.reclist.proofs.Going.{Going}
use Rattle.reclist.proofs.list.list_events.Given as goal

abbrev pub invariant-loop-record : goal.invariant-loop-record
invariant-loop-record g l =
    record {
      number : l.record-iterator.next ≡ records l.tally + 1;
      going : IfSome (g.R.Read.remaining l.fn.reader) (λ input.
          Going l.fn.form (recording RECORDS 1 input) (g.W.Write.contents l.fn.out) (g.W.Write.contents l.out) l.tally l.record-iterator.next
          (g.R.Read.remaining l.record-iterator.reader.inner));
    }
