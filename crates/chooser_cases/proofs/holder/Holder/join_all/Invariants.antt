use Rattle.std.proofs.Common.{◌≡◌}
use Rattle.chooser_cases.specs.Told.{told_below}
use Rattle.chooser_cases.proofs.holder.Holder.join_all.Given as goal

abbrev pub invariant-loop-place : goal.invariant-loop-place
invariant-loop-place g l =
    l.self.chooser
    ≡ told_below (λ c place. g.C.Chooser.after_joined c l.list place l.offer) l.initial.self.chooser l.place
