use Rattle.notation.specs.Calls.{shortened}
use Rattle.notation.proofs.Fronts.{or_as}
use Rattle.notation.proofs.calls.short_call.Goals as goal

pub returns : goal.returns
unfolding shortened
returns c =
    or_as _ _ _ _ _ c.or-5.ensures
    (or_as _ _ _ _ _ c.or-4.ensures
    (or_as _ _ _ _ _ c.or-3.ensures
    (or_as _ _ _ _ _ c.or-2.ensures
    (or_as _ _ _ _ _ c.or.ensures c.turn.ensures c.short_opening.ensures)
    c.closing.ensures) c.arrival.ensures) c.good.ensures) c.bad.ensures
