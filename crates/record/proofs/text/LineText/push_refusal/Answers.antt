use Rattle.std.proofs.Common.{ℕ, ◌++◌, codes, decimal, ap}
use Rattle.record.proofs.Putting.{and_then, retext}
use Rattle.record.proofs.text.LineText.push_refusal.Goals as goal

pub returns-clause-text : goal.returns-clause-text
returns-clause-text c = retext (ap (λ (n : ℕ). codes "E" ++ decimal n) c.number.ensures) (and_then c.push.ensures c.push_number.ensures.text)
