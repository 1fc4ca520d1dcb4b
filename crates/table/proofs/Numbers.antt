-- The number of a place as the place.
use Rattle.std.proofs.Common.{◌≡◌, ℕ, ◌<◌, IfSome, MatchOption, Some, None, Option, ap, ◌∙◌}
use Rattle.std.proofs.lemmas.Bool.{cond-true, lt-ltb}
use Rattle.chooser.specs.Limits.{places}
use Rattle.chooser.specs.Places.{numbers, place_numbered}
use Rattle.chooser.specs.declared.place.Place.{Place}

pub placed : (r : Option ℕ) (o : Option Place) → IfSome r (λ n. n < places) → MatchOption r (o ≡ None) (λ n. numbers o ≡ place_numbered n) → numbers o ≡ r
placed None o inside e = ap numbers e
placed (Some n) o inside e = e ∙ cond-true _ _ _ (lt-ltb n places inside)
