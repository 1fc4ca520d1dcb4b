-- The words of a turn, by whether somebody sent.
use Rattle.std.proofs.Common.{rules}
use Rattle.console.proofs.reply.write_turn.Goals as goal

pub returns-in-Some : goal.returns-in-Some
returns-in-Some g c = rw (c.in-Some.is, ← c.kind_name-kind.ensures) (search rules)

pub returns-in-None : goal.returns-in-None
returns-in-None g c = rw (c.in-None.is, ← c.kind_name-kind.ensures) (search rules)
