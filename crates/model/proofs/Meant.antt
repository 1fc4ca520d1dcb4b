-- The law of the code's choosers, as the model has it.
use Rattle.std.proofs.Common.{◌≡◌, Bool, true, false, None, refl}
use Rattle.std.proofs.lemmas.Bool.{both_ways}
use Rattle.chooser.specs.Offers.{sound, PicksOffered}
use Rattle.chooser.specs.declared.offer.Offer.{Offer}
use Rattle.chooser.specs.declared.Chooser.{Ghosts}
use Rattle.model.specs.Lists.{ListKind}
use Rattle.chooser.specs.Meaning.{Lawful, if_sound, meant}

pub lawful : {C : Type 0} (g : Ghosts C) →
    ((c : C) (l : ListKind) (o : Offer) → PicksOffered o.entries (g.pick c l o)) → Lawful (meant g)
lawful g law c l es h = by (sound es) refl
  where
    by : (b : Bool) (e : sound es ≡ b) → PicksOffered es (if_sound None (g.pick c l) es b e)
    by true e = law c l (record { entries = es; ok = e })
    by false e = absurd (both_ways (sound es) e h)
