-- One more event, or the end.
use Rattle.std.proofs.Common.{◌≡◌, Ok, Err, ap, ◌∙◌, rules}
use Rattle.std.proofs.lemmas.Option.{IfSome_then}
use Rattle.cell.specs.View.{view}
use Rattle.model.specs.Calls.{Call, step}
use Rattle.chooser.specs.Meaning.{meant}
use Rattle.record.specs.Layout.{contents}
use Rattle.record.specs.declared.call.Call.{Call as CallOfTheCode}
use Rattle.recording.specs.Recordings.{recording}
use Rattle.recording.specs.declared.TheConstants.{RECORDS}
use Rattle.recording.proofs.Left.{none_read, one_read, read_number}
use Rattle.replay.specs.Events.{call_as}
use Rattle.joblags.proofs.Going.{going_ended, going_fault, going_init, going_on, same_call}
use Rattle.joblags.proofs.play.play_all.Goals as goal

pub loop-record-init : goal.loop-record-init
loop-record-init g c =
    let first : c.into_iter-record-iterator.result.next ≡ 1 =
    ap (λ r. r.next) c.into_iter-record-iterator.ensures.into_iter_gives ∙ c.new-record-items.ensures.first in
    record {
      number = first;
      going = going_init (meant g.C.Chooser) c.args.every (view c.args.cell.now) (g.R.Read.remaining c.args.reader) (g.W.Write.contents c.args.out.now)
          c.into_iter-record-iterator.result.next (g.R.Read.remaining c.into_iter-record-iterator.result.reader.inner) first
          (ap (λ r. g.R.Read.remaining r.reader.inner) c.into_iter-record-iterator.ensures.into_iter_gives
          ∙ ap (λ r. g.R.Read.remaining r.inner) c.new-record-items.ensures.reader);
    }

pub loop-record-preserved : goal.loop-record-preserved
loop-record-preserved g c =
    let was : c.in-Some.record ≡ Ok c.in_ok-record.record = search rules in
    record {
      number = read_number c.loop-record.record-iterator.next c.next.new.self.next (g.R.Read.remaining c.loop-record.record-iterator.reader.inner) (g.R.Read.remaining c.next.new.self.reader.inner)
          c.loop-record.record-iterator.reader.failure c.next.new.self.reader.failure c.in-Some.record c.in_ok-record.record was c.in-Some.ensures.steps;
      going = IfSome_then (g.R.Read.remaining c.args.reader) c.loop-record.invariant.going (λ input h.
          going_on (meant g.C.Chooser) c.args.every (view c.args.cell.now) (recording RECORDS 1 input) (g.W.Write.contents c.args.out.now) (g.W.Write.contents c.loop-record.out)
          (g.W.Write.contents c.print_due.new.out) (view c.loop-record.cell) c.loop-record.played c.loop-record.record-iterator.next (g.R.Read.remaining c.loop-record.record-iterator.reader.inner) h
          (contents c.in-Ok.event) (view c.call.new.cell) c.in_ok-record.record.number c.next.new.self.next (g.R.Read.remaining c.next.new.self.reader.inner) c.loop-record.invariant.number
          (one_read c.loop-record.record-iterator.next c.next.new.self.next (g.R.Read.remaining c.loop-record.record-iterator.reader.inner) (g.R.Read.remaining c.next.new.self.reader.inner) c.loop-record.record-iterator.reader.failure c.next.new.self.reader.failure
          c.in-Some.record c.in_ok-record.record h.rest (Ok (contents c.in-Ok.event)) was c.in-Some.ensures.steps h.is c.in-Ok.ensures)
          (c.call.ensures.after ∙ ap (λ (k : CallOfTheCode). (step (meant g.C.Chooser) (view c.loop-record.cell) (call_as k)).cell) c.from.ensures
          ∙ ap (λ (k : Call). (step (meant g.C.Chooser) (view c.loop-record.cell) k).cell) (same_call c.in-Ok.event))
          c.in_ok-print_due-in-Ok.ensures);
    }

pub returns-in-Err-clause-sheets : goal.returns-in-Err-clause-sheets
returns-in-Err-clause-sheets g c =
    let was : c.in-Some.record ≡ Ok c.in_ok-record.record = search rules in
    IfSome_then (g.R.Read.remaining c.args.reader) c.loop-record.invariant.going (λ input h.
    (going_fault (meant g.C.Chooser) c.args.every (view c.args.cell.now) (recording RECORDS 1 input) (g.W.Write.contents c.args.out.now) (g.W.Write.contents c.loop-record.out)
    (g.W.Write.contents c.loop-record.out) (view c.loop-record.cell) c.loop-record.played c.loop-record.record-iterator.next (g.R.Read.remaining c.loop-record.record-iterator.reader.inner) h
    c.in-Err.fault c.in_ok-record.record.number c.next.new.self.next (g.R.Read.remaining c.next.new.self.reader.inner)
    (one_read c.loop-record.record-iterator.next c.next.new.self.next (g.R.Read.remaining c.loop-record.record-iterator.reader.inner) (g.R.Read.remaining c.next.new.self.reader.inner) c.loop-record.record-iterator.reader.failure c.next.new.self.reader.failure
    c.in-Some.record c.in_ok-record.record h.rest (Err c.in-Err.fault) was c.in-Some.ensures.steps h.is c.in-Err.ensures)).printed)

pub returns-in-Err-clause-after : goal.returns-in-Err-clause-after
returns-in-Err-clause-after g c =
    let was : c.in-Some.record ≡ Ok c.in_ok-record.record = search rules in
    IfSome_then (g.R.Read.remaining c.args.reader) c.loop-record.invariant.going (λ input h.
    (going_fault (meant g.C.Chooser) c.args.every (view c.args.cell.now) (recording RECORDS 1 input) (g.W.Write.contents c.args.out.now) (g.W.Write.contents c.loop-record.out)
    (g.W.Write.contents c.loop-record.out) (view c.loop-record.cell) c.loop-record.played c.loop-record.record-iterator.next (g.R.Read.remaining c.loop-record.record-iterator.reader.inner) h
    c.in-Err.fault c.in_ok-record.record.number c.next.new.self.next (g.R.Read.remaining c.next.new.self.reader.inner)
    (one_read c.loop-record.record-iterator.next c.next.new.self.next (g.R.Read.remaining c.loop-record.record-iterator.reader.inner) (g.R.Read.remaining c.next.new.self.reader.inner) c.loop-record.record-iterator.reader.failure c.next.new.self.reader.failure
    c.in-Some.record c.in_ok-record.record h.rest (Err c.in-Err.fault) was c.in-Some.ensures.steps h.is c.in-Err.ensures)).cell)

pub returns-in-Err-clause-end : goal.returns-in-Err-clause-end
returns-in-Err-clause-end g c =
    let was : c.in-Some.record ≡ Ok c.in_ok-record.record = search rules in
    IfSome_then (g.R.Read.remaining c.args.reader) c.loop-record.invariant.going (λ input h.
    let e = going_fault (meant g.C.Chooser) c.args.every (view c.args.cell.now) (recording RECORDS 1 input) (g.W.Write.contents c.args.out.now) (g.W.Write.contents c.loop-record.out)
    (g.W.Write.contents c.loop-record.out) (view c.loop-record.cell) c.loop-record.played c.loop-record.record-iterator.next (g.R.Read.remaining c.loop-record.record-iterator.reader.inner) h
    c.in-Err.fault c.in_ok-record.record.number c.next.new.self.next (g.R.Read.remaining c.next.new.self.reader.inner)
    (one_read c.loop-record.record-iterator.next c.next.new.self.next (g.R.Read.remaining c.loop-record.record-iterator.reader.inner) (g.R.Read.remaining c.next.new.self.reader.inner) c.loop-record.record-iterator.reader.failure c.next.new.self.reader.failure
    c.in-Some.record c.in_ok-record.record h.rest (Err c.in-Err.fault) was c.in-Some.ensures.steps h.is c.in-Err.ensures) in
    (e.count, e.same))

pub returns-clause-sheets : goal.returns-clause-sheets
returns-clause-sheets g c =
    IfSome_then (g.R.Read.remaining c.args.reader) c.loop-record.invariant.going (λ input h.
    (going_ended (meant g.C.Chooser) c.args.every (view c.args.cell.now) (recording RECORDS 1 input) (g.W.Write.contents c.args.out.now) (g.W.Write.contents c.loop-record.out)
    (g.W.Write.contents c.loop-record.out) (view c.loop-record.cell) c.loop-record.played c.loop-record.record-iterator.next (g.R.Read.remaining c.loop-record.record-iterator.reader.inner) h
    (none_read c.loop-record.record-iterator.next (g.R.Read.remaining c.loop-record.record-iterator.reader.inner) (g.R.Read.remaining c.next.new.self.reader.inner) h.rest c.in-None.ensures.steps h.is)).printed)

pub returns-clause-after : goal.returns-clause-after
returns-clause-after g c =
    IfSome_then (g.R.Read.remaining c.args.reader) c.loop-record.invariant.going (λ input h.
    (going_ended (meant g.C.Chooser) c.args.every (view c.args.cell.now) (recording RECORDS 1 input) (g.W.Write.contents c.args.out.now) (g.W.Write.contents c.loop-record.out)
    (g.W.Write.contents c.loop-record.out) (view c.loop-record.cell) c.loop-record.played c.loop-record.record-iterator.next (g.R.Read.remaining c.loop-record.record-iterator.reader.inner) h
    (none_read c.loop-record.record-iterator.next (g.R.Read.remaining c.loop-record.record-iterator.reader.inner) (g.R.Read.remaining c.next.new.self.reader.inner) h.rest c.in-None.ensures.steps h.is)).cell)

pub returns-clause-end : goal.returns-clause-end
returns-clause-end g c =
    IfSome_then (g.R.Read.remaining c.args.reader) c.loop-record.invariant.going (λ input h.
    let e = going_ended (meant g.C.Chooser) c.args.every (view c.args.cell.now) (recording RECORDS 1 input) (g.W.Write.contents c.args.out.now) (g.W.Write.contents c.loop-record.out)
    (g.W.Write.contents c.loop-record.out) (view c.loop-record.cell) c.loop-record.played c.loop-record.record-iterator.next (g.R.Read.remaining c.loop-record.record-iterator.reader.inner) h
    (none_read c.loop-record.record-iterator.next (g.R.Read.remaining c.loop-record.record-iterator.reader.inner) (g.R.Read.remaining c.next.new.self.reader.inner) h.rest c.in-None.ensures.steps h.is) in
    (e.count, e.same))
