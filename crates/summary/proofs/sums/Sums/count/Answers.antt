-- Every place was counted.
use Rattle.std.proofs.Common.{◌≡◌, rules}
use Rattle.std.proofs.lemmas.List.FromFn.{fill_by_all}
use Rattle.cell.specs.View.{view}
use Rattle.record.specs.Layout.{contents}
use Rattle.summary.specs.Getting.{nothing}
use Rattle.summary.specs.Places.{got_at, places_after}
use Rattle.summary.proofs.sums.Sums.count.Goals as goal

pub returns-clause-places : goal.returns-clause-places
unfolding places_after
returns-clause-places g c =
    fill_by_all (got_at (contents c.args.played.event) c.args.played.result (view c.args.cell.now) c.args.self.now.places)
    c.loop-place.self.places 64 nothing c.loop-place.invariant.0 (search rules)
