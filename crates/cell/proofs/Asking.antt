-- Whom a chooser is asked about: those who stood in the list before, while nothing has changed, are
-- all who stand in it.
use Rattle.std.proofs.Common.{◌≡◌, ℕ, ◌<◌, Bool, true, false, ◌&&◌, List, [], ◌∷◌, IfSome, None}
use Rattle.std.proofs.Common.{Some, Option, refl, ap, ◌∙◌}
use Rattle.chooser.proofs.Picks.{picked_inside}
use Rattle.chooser.specs.Offers.{sound, PicksOffered}
use Rattle.model.specs.Limits.{places}
use Rattle.model.specs.Lists.{Entry, ListKind, stands_in, members, entry, offer, stayed}
use Rattle.model.specs.Table.{Table}

twice : (b : Bool) → (b && b) ≡ b
twice true = refl
twice false = refl

pub stayed_members : (l : ListKind) (t : Table) → stayed l (members l t) t ≡ offer l t
unfolding stayed
stayed_members l [] = refl
stayed_members l (s ∷ t) =
    ap (λ (b : Bool). entry b s ∷ stayed l (members l t) t) (twice (stands_in l s))
    ∙ ap (λ (es : List Entry). entry (stands_in l s) s ∷ es) (stayed_members l t)

-- whoever is picked has a place
pub pick_inside : (es : List Entry) → sound es ≡ true → (o r : Option ℕ) → PicksOffered es o →
    r ≡ o → IfSome r (λ k. k < places)
pick_inside es s o None h e = tt
pick_inside es s o (Some k) h e = picked_inside es s o h k e
