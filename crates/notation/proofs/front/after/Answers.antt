use Rattle.std.proofs.lemmas.Bool.Decides.{Decides-eqb}
use Rattle.std.proofs.lemmas.Slice.Eq.{strip_prefix_is}
use Rattle.notation.proofs.Fronts.{after_is}
use Rattle.notation.proofs.front.after.Goals as goal

pub returns : goal.returns
returns c = after_is c.args.word.now c.args.text.now c.strip_prefix.result (strip_prefix_is Decides-eqb _ _ _ c.strip_prefix.ensures.cases)
