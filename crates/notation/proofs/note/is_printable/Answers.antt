use Rattle.std.proofs.Common.{ℕ, Bool, ◌||◌, nat_lt, not, ◌∙◌, rules, tests}
use Rattle.std.proofs.lemmas.Iterator.{YieldsList-from_slice}
use Rattle.std.proofs.lemmas.Iterator.Search.{all_from_yields_List}
use Rattle.notation.proofs.Notes.{all_pass}
use Rattle.notation.proofs.note.is_printable.Goals as goal

pub returns : goal.returns
returns c =
    let outside : ℕ → Bool = λ b. nat_lt b 32 || nat_lt 126 b in
    all_from_yields_List (λ b. not (outside b)) _ _ c.all.result c.all.ensures.ran (YieldsList-from_slice _ c.iter.ensures.rest) (λ x b f k. search (rules, tests))
    ∙ all_pass outside 8 c.args.bytes.now
