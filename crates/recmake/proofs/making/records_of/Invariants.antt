use Rattle.std.proofs.Common.{map}
use Rattle.recmake.specs.Making.{Makes}
use Rattle.recmake.proofs.making.records_of.Given as goal

-- the lines so far are made
abbrev pub invariant-loop-before : goal.invariant-loop-before
invariant-loop-before l = Makes (map (λ x. x.1.now) l.yielded) l.records.items
