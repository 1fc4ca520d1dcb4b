-- One more event, or the end.
use Rattle.std.proofs.Common.{◌≡◌, ◌+◌, ℕ, Ok, Err, ap, sym, ◌∙◌, rules}
use Rattle.std.proofs.lemmas.Option.{IfSome_then}
use Rattle.record.specs.Layout.{contents}
use Rattle.recording.specs.Recordings.{recording}
use Rattle.recording.specs.declared.TheConstants.{RECORDS}
use Rattle.recording.proofs.Left.{none_read, one_read}
use Rattle.reclist.proofs.Going.{going_ended, going_fault, going_init, going_on}
use Rattle.reclist.proofs.list.list_events.Goals as goal

pub loop-record-init : goal.loop-record-init
loop-record-init g c =
    record {
      number = search rules;
      going = going_init c.args.form (g.R.Read.remaining c.args.reader) (g.W.Write.contents c.args.out.now) c.new-tally.result
          c.into_iter-record-iterator.result.next (g.R.Read.remaining c.into_iter-record-iterator.result.reader.inner)
          c.new-tally.ensures
          (ap (λ r. r.next) c.into_iter-record-iterator.ensures.into_iter_gives ∙ c.new-record-items.ensures.first)
          (ap (λ r. g.R.Read.remaining r.reader.inner) c.into_iter-record-iterator.ensures.into_iter_gives
          ∙ ap (λ r. g.R.Read.remaining r.inner) c.new-record-items.ensures.reader);
    }

pub loop-record-preserved : goal.loop-record-preserved
loop-record-preserved g c =
    let was : c.in-Some.record ≡ Ok c.in_ok-record.record = search rules in
    let up : c.next.new.self.next ≡ c.loop-record.record-iterator.next + 1 = c.in-Some.ensures.steps.1 in
    record {
      number = up ∙ ap (λ (n : ℕ). n + 1) c.loop-record.invariant.number ∙ ap (λ (n : ℕ). n + 1) (sym c.count.ensures.one_more);
      going = IfSome_then (g.R.Read.remaining c.args.reader) c.loop-record.invariant.going (λ input h.
          going_on c.args.form (recording RECORDS 1 input) (g.W.Write.contents c.args.out.now) (g.W.Write.contents c.loop-record.out) (g.W.Write.contents c.list_event.new.out)
          c.loop-record.tally c.in_ok-record.record.number c.loop-record.record-iterator.next c.next.new.self.next
          (g.R.Read.remaining c.loop-record.record-iterator.reader.inner) (g.R.Read.remaining c.next.new.self.reader.inner) h
          (contents c.in-Ok.event) c.count.new.self
          (one_read c.loop-record.record-iterator.next c.next.new.self.next (g.R.Read.remaining c.loop-record.record-iterator.reader.inner)
          (g.R.Read.remaining c.next.new.self.reader.inner) c.loop-record.record-iterator.reader.failure c.next.new.self.reader.failure
          c.in-Some.record c.in_ok-record.record h.rest (Ok (contents c.in-Ok.event)) was c.in-Some.ensures.steps h.is c.in-Ok.ensures)
          c.in_ok-list_event-in-Ok.ensures c.count.ensures.after);
    }

pub returns-in-Err-clause-lines : goal.returns-in-Err-clause-lines
returns-in-Err-clause-lines g c =
    let was : c.in-Some.record ≡ Ok c.in_ok-record.record = search rules in
    IfSome_then (g.R.Read.remaining c.args.reader) c.loop-record.invariant.going (λ input h.
    (going_fault c.args.form (recording RECORDS 1 input) (g.W.Write.contents c.args.out.now) (g.W.Write.contents c.loop-record.out) (g.W.Write.contents c.list_fault.new.out)
    c.loop-record.tally c.in_ok-record.record.number c.loop-record.record-iterator.next c.next.new.self.next
    (g.R.Read.remaining c.loop-record.record-iterator.reader.inner) (g.R.Read.remaining c.next.new.self.reader.inner) h c.in-Err.fault
    (one_read c.loop-record.record-iterator.next c.next.new.self.next (g.R.Read.remaining c.loop-record.record-iterator.reader.inner)
    (g.R.Read.remaining c.next.new.self.reader.inner) c.loop-record.record-iterator.reader.failure c.next.new.self.reader.failure
    c.in-Some.record c.in_ok-record.record h.rest (Err c.in-Err.fault) was c.in-Some.ensures.steps h.is c.in-Err.ensures)
    c.in_ok-list_fault-in-Err.ensures).0)

pub returns-in-Err-clause-tally : goal.returns-in-Err-clause-tally
returns-in-Err-clause-tally g c =
    let was : c.in-Some.record ≡ Ok c.in_ok-record.record = search rules in
    IfSome_then (g.R.Read.remaining c.args.reader) c.loop-record.invariant.going (λ input h.
    (going_fault c.args.form (recording RECORDS 1 input) (g.W.Write.contents c.args.out.now) (g.W.Write.contents c.loop-record.out) (g.W.Write.contents c.list_fault.new.out)
    c.loop-record.tally c.in_ok-record.record.number c.loop-record.record-iterator.next c.next.new.self.next
    (g.R.Read.remaining c.loop-record.record-iterator.reader.inner) (g.R.Read.remaining c.next.new.self.reader.inner) h c.in-Err.fault
    (one_read c.loop-record.record-iterator.next c.next.new.self.next (g.R.Read.remaining c.loop-record.record-iterator.reader.inner)
    (g.R.Read.remaining c.next.new.self.reader.inner) c.loop-record.record-iterator.reader.failure c.next.new.self.reader.failure
    c.in-Some.record c.in_ok-record.record h.rest (Err c.in-Err.fault) was c.in-Some.ensures.steps h.is c.in-Err.ensures)
    c.in_ok-list_fault-in-Err.ensures).1)

pub returns-in-Err-clause-fault : goal.returns-in-Err-clause-fault
returns-in-Err-clause-fault g c =
    let was : c.in-Some.record ≡ Ok c.in_ok-record.record = search rules in
    IfSome_then (g.R.Read.remaining c.args.reader) c.loop-record.invariant.going (λ input h.
    (going_fault c.args.form (recording RECORDS 1 input) (g.W.Write.contents c.args.out.now) (g.W.Write.contents c.loop-record.out) (g.W.Write.contents c.list_fault.new.out)
    c.loop-record.tally c.in_ok-record.record.number c.loop-record.record-iterator.next c.next.new.self.next
    (g.R.Read.remaining c.loop-record.record-iterator.reader.inner) (g.R.Read.remaining c.next.new.self.reader.inner) h c.in-Err.fault
    (one_read c.loop-record.record-iterator.next c.next.new.self.next (g.R.Read.remaining c.loop-record.record-iterator.reader.inner)
    (g.R.Read.remaining c.next.new.self.reader.inner) c.loop-record.record-iterator.reader.failure c.next.new.self.reader.failure
    c.in-Some.record c.in_ok-record.record h.rest (Err c.in-Err.fault) was c.in-Some.ensures.steps h.is c.in-Err.ensures)
    c.in_ok-list_fault-in-Err.ensures).2)

pub returns-clause-lines : goal.returns-clause-lines
returns-clause-lines g c =
    IfSome_then (g.R.Read.remaining c.args.reader) c.loop-record.invariant.going (λ input h.
    (going_ended c.args.form (recording RECORDS 1 input) (g.W.Write.contents c.args.out.now) (g.W.Write.contents c.loop-record.out) c.loop-record.tally
    c.loop-record.record-iterator.next (g.R.Read.remaining c.loop-record.record-iterator.reader.inner) h
    (none_read c.loop-record.record-iterator.next (g.R.Read.remaining c.loop-record.record-iterator.reader.inner)
    (g.R.Read.remaining c.next.new.self.reader.inner) h.rest c.in-None.ensures.steps h.is)).0)

pub returns-clause-tally : goal.returns-clause-tally
returns-clause-tally g c =
    IfSome_then (g.R.Read.remaining c.args.reader) c.loop-record.invariant.going (λ input h.
    (going_ended c.args.form (recording RECORDS 1 input) (g.W.Write.contents c.args.out.now) (g.W.Write.contents c.loop-record.out) c.loop-record.tally
    c.loop-record.record-iterator.next (g.R.Read.remaining c.loop-record.record-iterator.reader.inner) h
    (none_read c.loop-record.record-iterator.next (g.R.Read.remaining c.loop-record.record-iterator.reader.inner)
    (g.R.Read.remaining c.next.new.self.reader.inner) h.rest c.in-None.ensures.steps h.is)).1)

pub returns-clause-fault : goal.returns-clause-fault
returns-clause-fault g c =
    IfSome_then (g.R.Read.remaining c.args.reader) c.loop-record.invariant.going (λ input h.
    (going_ended c.args.form (recording RECORDS 1 input) (g.W.Write.contents c.args.out.now) (g.W.Write.contents c.loop-record.out) c.loop-record.tally
    c.loop-record.record-iterator.next (g.R.Read.remaining c.loop-record.record-iterator.reader.inner) h
    (none_read c.loop-record.record-iterator.next (g.R.Read.remaining c.loop-record.record-iterator.reader.inner)
    (g.R.Read.remaining c.next.new.self.reader.inner) h.rest c.in-None.ensures.steps h.is)).2)
