use Rattle.record.proofs.Putting.{and_then}
use Rattle.record.proofs.text.LineText.push_frame.Goals as goal

pub returns-clause-text : goal.returns-clause-text
returns-clause-text c = and_then c.push_number.ensures.text (and_then c.push.ensures c.push_number-2.ensures.text)
