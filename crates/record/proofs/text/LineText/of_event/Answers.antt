use Rattle.std.proofs.Common.{◌≡◌, ◌<◌, ℕ, List, ◌++◌, codes, length, take, ap, subst, ◌∙◌}
use Rattle.record.specs.Layout.{contents}
use Rattle.record.specs.Letters.{byte_of}
use Rattle.record.specs.Lines.{head_text, line_text, newline}
use Rattle.record.proofs.Putting.{and_then, both_short, whole}
use Rattle.record.proofs.text.LineText.of_event.Goals as goal

pub returns : goal.returns
returns c =
    let text : ℕ → List ℕ → List ℕ = λ l note. head_text c.args.number l c.args.res ++ (codes " " ++ (take 8 note ++ newline)) in
    let same : text c.from.result c.note.result.now ≡ line_text c.args.number (contents c.args.event) c.args.res =
    λ i. text ((c.from.ensures ∙ ap byte_of c.letter.ensures) i) (c.note.ensures i) in
    let short : length (text c.from.result c.note.result.now) < 64 = both_short _ _ c.push_head.ensures.short c.push_note.ensures.short in
    record {
      text = whole c.new-text.ensures (and_then c.push_head.ensures.text c.push_note.ensures.text) short ∙ same;
      short = subst (λ (l : List ℕ). length l < 64) same short;
    }
