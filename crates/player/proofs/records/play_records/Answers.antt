-- One record more is played, and what is left is one less.
use Rattle.std.proofs.Common.{◌≡◌, ◌+◌, ◌*◌, ◌-◌, Bool, true, false, IfSome, subst, refl, ◌∙◌, arith, rules}
use Rattle.std.proofs.lemmas.Option.{IfSome_then}
use Rattle.cell.specs.View.{view}
use Rattle.chooser.specs.Meaning.{meant}
use Rattle.record.specs.Reading.{reading}
use Rattle.recording.specs.declared.TheConstants.{BYTES, RECORDS}
use Rattle.player.specs.Lines.{lines_of}
use Rattle.recording.specs.Recordings.{recording}
use Rattle.replay.specs.Events.{calls_in}
use Rattle.player.specs.Steps.{Leaves}
use Rattle.player.proofs.Going.{remains_ended, remains_first, remains_failed, remains_next, remains_none, puts_failed, ran_failed, run_failed, whatever}
use Rattle.player.proofs.Taking.{up_to_fewer, up_to_more, up_to_none}
use Rattle.player.proofs.records.play_records.Goals as goal

pub loop-number-init : goal.loop-number-init
loop-number-init g c = record { taken = up_to_none _ _; reader = refl; out = refl; played = whatever (g.R.Read.remaining c.args.reader.now.inner) (λ input is. remains_first (meant g.C.Chooser) (view c.args.cell.now) RECORDS input _ (g.W.Write.contents c.args.out.now.inner) is) }

pub loop-number-preserved : goal.loop-number-preserved
loop-number-preserved g c =
    let goes : c.in_ok-play_next.field-0 ≡ true = search rules in
    record {
      taken = up_to_more _ _ _ (16 * (c.loop-number.number - 1)) 16 (16 * (c.loop-number.number + 1 - 1)) (omega (arith, c.loop-number.auto.number)) c.loop-number.invariant.taken c.in_ok-play_next.ensures.reads;
      reader = c.in_ok-play_next.ensures.failure.0 ∙ c.loop-number.invariant.reader;
      out = c.in_ok-play_next.ensures.failure.1 ∙ c.loop-number.invariant.out;
      played = IfSome_then (g.R.Read.remaining c.args.reader.now.inner) c.loop-number.invariant.played (λ input h.
          remains_next (meant g.C.Chooser) (view c.args.cell.now) (recording RECORDS 1 input) _ (view c.loop-number.cell) c.loop-number.number (RECORDS + 1 - c.loop-number.number) _ _
          (RECORDS + 1 - (c.loop-number.number + 1)) (omega arith) (view c.play_next.new.cell) _ _
          c.in_ok-play_next.ensures.line c.in_ok-play_next.ensures.after h
          (subst (λ (b : Bool). IfSome (g.R.Read.remaining c.loop-number.reader.inner) (λ input. Leaves (reading c.loop-number.number input) b (g.R.Read.remaining c.play_next.new.reader.inner)))
          goes c.in_ok-play_next.ensures.rest));
    }

pub returns-in_err-play_next-clause-lines : goal.returns-in_err-play_next-clause-lines
returns-in_err-play_next-clause-lines g c =
    IfSome_then (g.R.Read.remaining c.args.reader.now.inner) c.loop-number.invariant.played (λ input h.
    puts_failed _ _ _ (lines_of (meant g.C.Chooser) (view c.args.cell.now) (recording RECORDS 1 input)) c.from_residual.result c.from_residual.ensures.1
    (remains_failed (meant g.C.Chooser) (view c.args.cell.now) (recording RECORDS 1 input) _ (view c.loop-number.cell) c.loop-number.number
    (RECORDS + 1 - c.loop-number.number) (RECORDS + 1 - (c.loop-number.number + 1)) _ _ _ (omega arith) h c.in_err-play_next.ensures.line))

pub returns-in_err-play_next-clause-after : goal.returns-in_err-play_next-clause-after
returns-in_err-play_next-clause-after g c =
    IfSome_then (g.R.Read.remaining c.args.reader.now.inner) c.loop-number.invariant.played (λ input h.
    run_failed (meant g.C.Chooser) _ c.from_residual.result (view c.args.cell.now) (calls_in (recording RECORDS 1 input).events) _ c.from_residual.ensures.1
    (ran_failed (meant g.C.Chooser) (view c.args.cell.now) (recording RECORDS 1 input) _ (view c.loop-number.cell) c.loop-number.number
    (RECORDS + 1 - c.loop-number.number) (RECORDS + 1 - (c.loop-number.number + 1)) _ _ (view c.play_next.new.cell) (omega arith) h c.in_err-play_next.ensures.after))

pub returns-in_err-play_next-clause-reads : goal.returns-in_err-play_next-clause-reads
returns-in_err-play_next-clause-reads g c =
    up_to_more _ _ _ (16 * (c.loop-number.number - 1)) 16 BYTES (omega (arith, c.loop-number.auto.number)) c.loop-number.invariant.taken c.in_err-play_next.ensures.reads

pub returns-after-loop-number-clause-reads : goal.returns-after-loop-number-clause-reads
returns-after-loop-number-clause-reads g c =
    up_to_fewer _ _ (16 * (c.loop-number.number - 1)) BYTES (omega arith) c.loop-number.invariant.taken

pub returns-then-not-branch-clause-reads : goal.returns-then-not-branch-clause-reads
returns-then-not-branch-clause-reads g c =
    up_to_more _ _ _ (16 * (c.loop-number.number - 1)) 16 BYTES (omega (arith, c.loop-number.auto.number)) c.loop-number.invariant.taken c.in_ok-play_next.ensures.reads

pub returns-after-loop-number-clause-lines : goal.returns-after-loop-number-clause-lines
returns-after-loop-number-clause-lines g c =
    IfSome_then (g.R.Read.remaining c.args.reader.now.inner) c.loop-number.invariant.played (λ input h. (remains_none (meant g.C.Chooser) (view c.args.cell.now) (recording RECORDS 1 input) _ (view c.loop-number.cell) c.loop-number.number (RECORDS + 1 - c.loop-number.number) _ _ (omega arith) h).0)

pub returns-after-loop-number-clause-after : goal.returns-after-loop-number-clause-after
returns-after-loop-number-clause-after g c =
    IfSome_then (g.R.Read.remaining c.args.reader.now.inner) c.loop-number.invariant.played (λ input h. (remains_none (meant g.C.Chooser) (view c.args.cell.now) (recording RECORDS 1 input) _ (view c.loop-number.cell) c.loop-number.number (RECORDS + 1 - c.loop-number.number) _ _ (omega arith) h).1)

pub returns-then-not-branch-clause-lines : goal.returns-then-not-branch-clause-lines
returns-then-not-branch-clause-lines g c =
    let goes : c.in_ok-play_next.field-0 ≡ false = search rules in
    IfSome_then (g.R.Read.remaining c.args.reader.now.inner) c.loop-number.invariant.played (λ input h.
    (remains_ended (meant g.C.Chooser) (view c.args.cell.now) (recording RECORDS 1 input) _ (view c.loop-number.cell) c.loop-number.number (RECORDS + 1 - c.loop-number.number) _ _
    (RECORDS + 1 - (c.loop-number.number + 1)) (omega arith) (view c.play_next.new.cell) _ _
    c.in_ok-play_next.ensures.line c.in_ok-play_next.ensures.after h
    (subst (λ (b : Bool). IfSome (g.R.Read.remaining c.loop-number.reader.inner) (λ input. Leaves (reading c.loop-number.number input) b (g.R.Read.remaining c.play_next.new.reader.inner)))
    goes c.in_ok-play_next.ensures.rest)).0)

pub returns-then-not-branch-clause-after : goal.returns-then-not-branch-clause-after
returns-then-not-branch-clause-after g c =
    let goes : c.in_ok-play_next.field-0 ≡ false = search rules in
    IfSome_then (g.R.Read.remaining c.args.reader.now.inner) c.loop-number.invariant.played (λ input h.
    (remains_ended (meant g.C.Chooser) (view c.args.cell.now) (recording RECORDS 1 input) _ (view c.loop-number.cell) c.loop-number.number (RECORDS + 1 - c.loop-number.number) _ _
    (RECORDS + 1 - (c.loop-number.number + 1)) (omega arith) (view c.play_next.new.cell) _ _
    c.in_ok-play_next.ensures.line c.in_ok-play_next.ensures.after h
    (subst (λ (b : Bool). IfSome (g.R.Read.remaining c.loop-number.reader.inner) (λ input. Leaves (reading c.loop-number.number input) b (g.R.Read.remaining c.play_next.new.reader.inner)))
    goes c.in_ok-play_next.ensures.rest)).1)
