use Rattle.std.proofs.Common.{◌≡◌, rules, sym, ◌∙◌}
use Rattle.notation.specs.Reading.{reading}
use Rattle.notation.proofs.Trips.{comment_says, reading_again, says_if}
use Rattle.notation.proofs.reader.read.Goals as goal

pub returns-then-is_comment-clause-reads_back : goal.returns-then-is_comment-clause-reads_back
returns-then-is_comment-clause-reads_back c =
    λ event fits says. sym (comment_says c.args.line.now c.if-is_comment.ensures) ∙ reading_again c.args.line.now event fits says

pub returns-clause-reads_back : goal.returns-clause-reads_back
unfolding reading
returns-clause-reads_back c =
    let answer : c.map.result ≡ reading c.args.line.now = search rules in
    λ event fits says. answer ∙ reading_again c.args.line.now event fits says

pub returns-clause-says : goal.returns-clause-says
unfolding reading
returns-clause-says c =
    let answer : c.map.result ≡ reading c.args.line.now = search rules in
    says_if c.args.line.now c.map.result answer
