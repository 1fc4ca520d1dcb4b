use Rattle.std.proofs.Common.{ℕ, ◌++◌, [], ◌∷◌, codes, ap}
use Rattle.record.proofs.Putting.{and_then, retext}
use Rattle.record.proofs.text.LineText.push_turn.Goals as goal

pub returns-clause-text : goal.returns-clause-text
returns-clause-text c =
    and_then c.push_number.ensures.text
    (and_then c.push.ensures
    (and_then c.push_sent.ensures.text
    (and_then c.push-2.ensures
    (and_then c.push_number-2.ensures.text
    (retext (ap (λ (k : ℕ). codes "/" ++ (k ∷ [])) c.from.ensures) c.push-3.ensures)))))
