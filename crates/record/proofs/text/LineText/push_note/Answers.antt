use Rattle.std.proofs.Common.{◌≡◌, ℕ, List, length, take, min, ap, ◌∙◌, arith}
use Rattle.std.proofs.lemmas.List.{take_min}
use Rattle.record.proofs.Putting.{and_then, retext}
use Rattle.record.proofs.text.LineText.push_note.Goals as goal

pub returns-clause-text : goal.returns-clause-text
returns-clause-text c =
    let note : List ℕ = c.args.note.now in
    let n : c.min.result ≡ min 8 (length note) = omega arith in
    let shown : take c.min.result note ≡ take 8 note = ap (λ (k : ℕ). take k note) n ∙ take_min 8 note in
    and_then c.push.ensures (and_then (retext shown c.push-2.ensures) c.push-3.ensures)
