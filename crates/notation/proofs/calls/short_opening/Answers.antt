use Rattle.std.proofs.Common.{rules}
use Rattle.notation.specs.Front.{after}
use Rattle.notation.specs.Calls.{opening}
use Rattle.notation.proofs.calls.short_opening.Goals as goal

pub returns : goal.returns
unfolding opening after
returns c = search rules
