use Rattle.std.proofs.Common.{◌<◌, length, arith}
use Rattle.record.specs.Lines.{fault_text, newline}
use Rattle.record.proofs.Putting.{and_then, both_short, whole}
use Rattle.record.proofs.text.LineText.of_fault.Goals as goal

pub returns : goal.returns
returns c =
    let short : length (fault_text c.args.number c.args.why) < 64 = both_short _ newline c.push_head.ensures.short (omega arith) in
    record {
      text = whole c.new-text.ensures (and_then c.push_head.ensures.text c.push.ensures) short;
      short = short;
    }
