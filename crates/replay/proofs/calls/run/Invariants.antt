-- Where the calls that are left lead, all of them lead.
use Rattle.std.proofs.Common.{◌≡◌, drop}
use Rattle.cell.specs.View.{view}
use Rattle.model.specs.History.{after}
use Rattle.chooser.specs.Meaning.{meant}
use Rattle.replay.specs.Events.{calls_as}
use Rattle.replay.proofs.calls.run.Given as goal

abbrev pub invariant-loop-next : goal.invariant-loop-next
invariant-loop-next g l =
    after (meant g.C.Chooser) (view l.fn.cell) (calls_as l.calls)
    ≡ after (meant g.C.Chooser) (view l.cell) (calls_as (drop l.next-index l.calls))
