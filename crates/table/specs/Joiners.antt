-- Whether anybody joined a list.
use Rattle.std.specs.Prelude.{Bool, false, not, ◌&&◌, ◌||◌, List, [], ◌∷◌}
use Rattle.model.specs.Lists.{ListKind, stands_in}
use Rattle.model.specs.Table.{Table}

-- some place stands in it now, and did not before
unfoldable pub any_joins : ListKind → List Bool → Table → Bool
any_joins list [] t = false
any_joins list (b ∷ bs) [] = false
any_joins list (b ∷ bs) (s ∷ t) = (not b && stands_in list s) || any_joins list bs t
