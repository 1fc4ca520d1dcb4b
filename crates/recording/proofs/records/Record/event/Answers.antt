use Rattle.std.proofs.Common.{take, arith, length-take, rules}
use Rattle.record.specs.Layout.{contents}
use Rattle.recording.proofs.One.{nothing_after, one_at_least}
use Rattle.recording.proofs.records.Record.event.Goals as goal

pub unreachable-requires : goal.unreachable-requires
unreachable-requires c =
    one_at_least c.args.self.now.number (take c.args.self.now.size c.args.self.now.bytes)
    (omega (arith, length-take c.args.self.now.size c.args.self.now.bytes)) (omega (arith, length-take c.args.self.now.size c.args.self.now.bytes)) (search rules)

pub returns : goal.returns
returns c =
    nothing_after c.args.self.now.number (take c.args.self.now.size c.args.self.now.bytes) (contents c.in-Some.event) c.in-Some.field-0-1.now
    (omega (arith, length-take c.args.self.now.size c.args.self.now.bytes)) (omega (arith, length-take c.args.self.now.size c.args.self.now.bytes)) (search rules)
