-- One line more is answered, and what is left to be said is one line less.
use Rattle.std.proofs.Common.{◌≡◌, ◌+◌, ◌-◌, ◌<◌, suc, length, true, false, IfSome, arith, rules}
use Rattle.std.proofs.lemmas.Option.{IfSome_then}
use Rattle.cell.specs.View.{view}
use Rattle.chooser.specs.Meaning.{meant}
use Rattle.console.specs.Commands.{reading}
use Rattle.console.specs.Talks.{goes_on, said}
use Rattle.console.specs.declared.lines.TheConstants.{LINES}
use Rattle.console.proofs.Talking.{finished_at_end, finished_at_limit, finished_by_quit, remains_next}
use Rattle.console.proofs.lines.talk.Goals as goal

pub returns-then-branch-eq0-clause-told : goal.returns-then-branch-eq0-clause-told
returns-then-branch-eq0-clause-told g c =
    let none : c.in_ok-read_until.field-0 ≡ 0 = search rules in
    IfSome_then (g.R.Read.remaining c.args.input.now) c.loop.invariant (λ text h.
    (finished_at_end (meant g.C.Chooser) g.C.Counted.counts (view c.args.cell.now) (said LINES text) _ (view c.loop.cell) (LINES - c.loop.counter) _ _ h
    (c.in_ok-read_until.ensures.end none)).0)

pub returns-then-branch-eq0-clause-after : goal.returns-then-branch-eq0-clause-after
returns-then-branch-eq0-clause-after g c =
    let none : c.in_ok-read_until.field-0 ≡ 0 = search rules in
    IfSome_then (g.R.Read.remaining c.args.input.now) c.loop.invariant (λ text h.
    (finished_at_end (meant g.C.Chooser) g.C.Counted.counts (view c.args.cell.now) (said LINES text) _ (view c.loop.cell) (LINES - c.loop.counter) _ _ h
    (c.in_ok-read_until.ensures.end none)).1)

pub returns-then-not-branch-clause-told : goal.returns-then-not-branch-clause-told
returns-then-not-branch-clause-told g c =
    let some : 0 < length c.deref.result.now = search rules in
    let quits : goes_on (reading c.deref.result.now) ≡ false = search rules in
    IfSome_then (g.R.Read.remaining c.args.input.now) c.loop.invariant (λ text h.
    (finished_by_quit (meant g.C.Chooser) g.C.Counted.counts (view c.args.cell.now) (said LINES text) _ (view c.loop.cell) (LINES - c.loop.counter) _ _ h
    (LINES - (c.loop.counter + 1)) (omega (arith, c.loop-test.true)) c.deref.result.now c.clear.new.self.items c.read_until.new.buf.items some (view c.tell.new.cell) (g.R.Read.remaining c.read_until.new.self) _
    c.deref.ensures.value c.clear.ensures.items c.in_ok-read_until.ensures.bytes c.in_ok-read_until.ensures.rest c.tell.ensures.after c.in_ok-tell.ensures.told quits).0)

pub returns-then-not-branch-clause-after : goal.returns-then-not-branch-clause-after
returns-then-not-branch-clause-after g c =
    let some : 0 < length c.deref.result.now = search rules in
    let quits : goes_on (reading c.deref.result.now) ≡ false = search rules in
    IfSome_then (g.R.Read.remaining c.args.input.now) c.loop.invariant (λ text h.
    (finished_by_quit (meant g.C.Chooser) g.C.Counted.counts (view c.args.cell.now) (said LINES text) _ (view c.loop.cell) (LINES - c.loop.counter) _ _ h
    (LINES - (c.loop.counter + 1)) (omega (arith, c.loop-test.true)) c.deref.result.now c.clear.new.self.items c.read_until.new.buf.items some (view c.tell.new.cell) (g.R.Read.remaining c.read_until.new.self) _
    c.deref.ensures.value c.clear.ensures.items c.in_ok-read_until.ensures.bytes c.in_ok-read_until.ensures.rest c.tell.ensures.after c.in_ok-tell.ensures.told quits).1)

pub loop-preserved : goal.loop-preserved
loop-preserved g c =
    let some : 0 < length c.deref.result.now = search rules in
    let goes : goes_on (reading c.deref.result.now) ≡ true = search rules in
    IfSome_then (g.R.Read.remaining c.args.input.now) c.loop.invariant (λ text h.
    remains_next (meant g.C.Chooser) g.C.Counted.counts (view c.args.cell.now) (said LINES text) _ (view c.loop.cell) (LINES - c.loop.counter) _ _ h
    (LINES - (c.loop.counter + 1)) (omega (arith, c.loop-test.true)) c.deref.result.now c.clear.new.self.items c.read_until.new.buf.items some (view c.tell.new.cell) (g.R.Read.remaining c.read_until.new.self) _
    c.deref.ensures.value c.clear.ensures.items c.in_ok-read_until.ensures.bytes c.in_ok-read_until.ensures.rest c.tell.ensures.after c.in_ok-tell.ensures.told goes)

pub returns-clause-told : goal.returns-clause-told
returns-clause-told g c =
    IfSome_then (g.R.Read.remaining c.args.input.now) c.loop.invariant (λ text h.
    (finished_at_limit (meant g.C.Chooser) g.C.Counted.counts (view c.args.cell.now) (said LINES text) _ (view c.loop.cell) (LINES - c.loop.counter) _ _ h
    (omega (arith, c.loop-test.false))).0)

pub returns-clause-after : goal.returns-clause-after
returns-clause-after g c =
    IfSome_then (g.R.Read.remaining c.args.input.now) c.loop.invariant (λ text h.
    (finished_at_limit (meant g.C.Chooser) g.C.Counted.counts (view c.args.cell.now) (said LINES text) _ (view c.loop.cell) (LINES - c.loop.counter) _ _ h
    (omega (arith, c.loop-test.false))).1)
