use Rattle.std.proofs.Common.{ℕ, eqb, List, ◌+◌, rules, tests, subst, sym, ap}
use Rattle.std.proofs.lemmas.Iterator.Consumers.{YieldsList-at, YieldsList-end, YieldsList-from_enumerate, YieldsList-so_far, YieldsList-turn}
use Rattle.std.proofs.lemmas.Iterator.Splits.{YieldsList-from_slice_split}
use Rattle.std.proofs.lemmas.Result.{err_from_is_err_and}
use Rattle.recmake.specs.Making.{Makes, lines_of}
use Rattle.recmake.proofs.Lines.{all_lines, lines_in, makes_more, makes_none, next_line, one_more, stops}
use Rattle.recmake.proofs.making.records_of.Goals as goal

pub loop-before-init : goal.loop-before-init
loop-before-init c = makes_none c.new-records.result.items c.new-records.ensures.items

pub loop-before-preserved : goal.loop-before-preserved
loop-before-preserved c =
    subst (λ (lines : List (List ℕ)). Makes lines c.add_line.new.records.items) (sym (one_more c.loop-before.yielded (c.in-Some.before, c.in-Some.line)))
    (makes_more (lines_in c.loop-before.yielded) c.in-Some.line.now c.loop-before.records.items c.add_line.new.records.items c.loop-before.invariant c.in_ok-add_line.ensures.read c.in_ok-add_line.ensures.added c.in_ok-add_line.ensures.few)

pub returns-in_err-add_line-clause-stops : goal.returns-in_err-add_line-clause-stops
returns-in_err-add_line-clause-stops c =
    let p = err_from_is_err_and c.from_residual.result c.from_residual.ensures.1 in
    let next = next_line c.loop-before.yielded (lines_of c.args.text.now) (c.in-Some.before, c.in-Some.line)
    (YieldsList-so_far (YieldsList-at c.into_iter-before-iterator.ensures.into_iter_gives (YieldsList-from_enumerate (YieldsList-at c.enumerate-before-items.ensures.source (YieldsList-from_slice_split _ (λ b. eqb b 10) c.args.text.now c.split.ensures.rest c.split.ensures.done c.split.ensures.closure (λ x b q k. search (rules, tests)))) c.enumerate-before-items.ensures.count)) c.loop-before.yielded _ c.loop-before.yielded_by)
    (YieldsList-turn (YieldsList-at c.into_iter-before-iterator.ensures.into_iter_gives (YieldsList-from_enumerate (YieldsList-at c.enumerate-before-items.ensures.source (YieldsList-from_slice_split _ (λ b. eqb b 10) c.args.text.now c.split.ensures.rest c.split.ensures.done c.split.ensures.closure (λ x b q k. search (rules, tests)))) c.enumerate-before-items.ensures.count)) c.loop-before.yielded _ c.loop-before.yielded_by _ _ (c.in-Some.before, c.in-Some.line) c.in-Some.is c.next.ensures.steps) in
    rw (p.1, p.2)
    (stops (lines_of c.args.text.now) (lines_in c.loop-before.yielded) c.in-Some.line.now _ (c.in-Some.before + 1) c.loop-before.records.items c.in_err-add_line.field-0.0 next.1 (ap (λ (k : ℕ). k + 1) next.0) c.loop-before.invariant c.in_err-add_line.ensures.stops)

pub returns-clause-made : goal.returns-clause-made
returns-clause-made c =
    subst (λ (lines : List (List ℕ)). Makes lines c.loop-before.records.items) (all_lines c.loop-before.yielded (lines_of c.args.text.now) (YieldsList-end (YieldsList-at c.into_iter-before-iterator.ensures.into_iter_gives (YieldsList-from_enumerate (YieldsList-at c.enumerate-before-items.ensures.source (YieldsList-from_slice_split _ (λ b. eqb b 10) c.args.text.now c.split.ensures.rest c.split.ensures.done c.split.ensures.closure (λ x b q k. search (rules, tests)))) c.enumerate-before-items.ensures.count)) c.loop-before.yielded _ c.loop-before.yielded_by _ _ c.in-None.is c.next.ensures.steps).0) c.loop-before.invariant
