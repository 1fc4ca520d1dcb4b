use Rattle.std.proofs.Common.{arith, rules}
use Rattle.record.proofs.Trips.{reads_back}
use Rattle.record.proofs.writer.write.Goals as goal

pub returns-clause-answer : goal.returns-clause-answer
returns-clause-answer c = search rules

pub returns-clause-after : goal.returns-clause-after
returns-clause-after c = search rules

pub returns-clause-reads_back : goal.returns-clause-reads_back
returns-clause-reads_back c =
    reads_back c.args.event.now c.args.out.now _ _ (omega (arith, c.numbers-place.ensures.length)) (omega (arith, c.numbers-place.ensures.value)) (returns-clause-answer c) (returns-clause-after c)
