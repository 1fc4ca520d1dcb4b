-- One record more is played, and what is left is one less.
use Rattle.std.proofs.Common.{◌≡◌, ℕ, ◌+◌, ◌-◌, Bool, true, false, List, Option, None, Some, IfSome, is_none, subst, arith, rules}
use Rattle.std.proofs.lemmas.Option.{IfSome_then}
use Rattle.std.specs.Io.KnownBytes.{Appends}
use Rattle.cell.specs.View.{view}
use Rattle.chooser.specs.Meaning.{meant}
use Rattle.record.specs.Reading.{reading}
use Rattle.recording.specs.declared.TheConstants.{RECORDS}
use Rattle.recording.specs.Recordings.{recording}
use Rattle.replay.specs.Events.{calls_in}
use Rattle.replay.specs.Playing.{outcome_of}
use Rattle.player.specs.Steps.{Leaves, line_of}
use Rattle.player.proofs.Going.{ran_failed, remains_ended, remains_first, remains_next, remains_none, run_failed, whatever}
use Rattle.hall.proofs.playing.play_records.Goals as goal

pub loop-number-init : goal.loop-number-init
loop-number-init g c =
    whatever (g.R.Read.remaining c.args.reader.now.inner) (λ input is.
    remains_first (meant g.C.Chooser) (view c.args.hall.now.cell) RECORDS input _ None is)

pub loop-number-preserved : goal.loop-number-preserved
loop-number-preserved g c =
    let goes : is_none c.in_ok-end.field-0 ≡ true = search rules in
    IfSome_then (g.R.Read.remaining c.args.reader.now.inner) c.loop-number.invariant (λ input h.
    remains_next (meant g.C.Chooser) (view c.args.hall.now.cell) (recording RECORDS 1 input) None (view c.loop-number.hall.cell) c.loop-number.number
    (RECORDS + 1 - c.loop-number.number) (g.R.Read.remaining c.loop-number.reader.inner) None
    (RECORDS + 1 - (c.loop-number.number + 1)) (omega arith) (view c.play_next.new.hall.cell) (g.R.Read.remaining c.play_next.new.reader.inner) None
    (whatever (g.R.Read.remaining c.loop-number.reader.inner) (λ input is. tt))
    c.in_ok-end.ensures.after h
    (subst (λ (b : Bool). IfSome (g.R.Read.remaining c.loop-number.reader.inner) (λ input. Leaves (reading c.loop-number.number input) b (g.R.Read.remaining c.play_next.new.reader.inner)))
    goes c.in_ok-end.ensures.rest))

pub returns-in_err-end : goal.returns-in_err-end
returns-in_err-end g c = record {
  after = IfSome_then (g.R.Read.remaining c.args.reader.now.inner) c.loop-number.invariant (λ input h.
      run_failed (meant g.C.Chooser) _ c.from_residual.result (view c.args.hall.now.cell) (calls_in (recording RECORDS 1 input).events) _ c.from_residual.ensures.1
      (ran_failed (meant g.C.Chooser) (view c.args.hall.now.cell) (recording RECORDS 1 input) None (view c.loop-number.hall.cell) c.loop-number.number
      (RECORDS + 1 - c.loop-number.number) (RECORDS + 1 - (c.loop-number.number + 1)) _ None (view c.play_next.new.hall.cell) (omega arith) h c.in_err-end.ensures.after));
}

pub returns-in-Some : goal.returns-in-Some
returns-in-Some g c =
    let goes : is_none c.in_ok-end.field-0 ≡ false = search rules in record {
      after = IfSome_then (g.R.Read.remaining c.args.reader.now.inner) c.loop-number.invariant (λ input h.
          (remains_ended (meant g.C.Chooser) (view c.args.hall.now.cell) (recording RECORDS 1 input) None (view c.loop-number.hall.cell) c.loop-number.number
          (RECORDS + 1 - c.loop-number.number) (g.R.Read.remaining c.loop-number.reader.inner) None
          (RECORDS + 1 - (c.loop-number.number + 1)) (omega arith) (view c.play_next.new.hall.cell) (g.R.Read.remaining c.play_next.new.reader.inner) None
          (whatever (g.R.Read.remaining c.loop-number.reader.inner) (λ input is. tt))
          c.in_ok-end.ensures.after h
          (subst (λ (b : Bool). IfSome (g.R.Read.remaining c.loop-number.reader.inner) (λ input. Leaves (reading c.loop-number.number input) b (g.R.Read.remaining c.play_next.new.reader.inner)))
          goes c.in_ok-end.ensures.rest)).1);
    }

pub returns : goal.returns
returns g c = record {
  after = IfSome_then (g.R.Read.remaining c.args.reader.now.inner) c.loop-number.invariant (λ input h.
      (remains_none (meant g.C.Chooser) (view c.args.hall.now.cell) (recording RECORDS 1 input) None (view c.loop-number.hall.cell) c.loop-number.number
      (RECORDS + 1 - c.loop-number.number) _ None (omega arith) h).1);
}
