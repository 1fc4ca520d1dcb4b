-- What the code's choosers mean: they see sound offers only, and keep their law of every one.
use Rattle.std.proofs.Common.{◌≡◌, Bool, true, false, List, None, refl}
use Rattle.std.proofs.lemmas.Bool.{both_ways}
use Rattle.chooser.specs.Offers.{sound, PicksOffered}
use Rattle.chooser.specs.declared.entry.Entry.{Entry}
use Rattle.chooser.specs.declared.entry.ListKind.{ListKind}
use Rattle.chooser.specs.declared.offer.Offer.{Offer}
use Rattle.chooser.specs.declared.Chooser.{Ghosts}
use Rattle.chooser.specs.Meaning.{Lawful, if_sound, meant}

-- what holds of the one and of the other, whatever the offer, holds of either
pub if_sound_both : {X : Type 0} (P : X → Type 0) (x : X) (f : Offer → X) → P x → ((o : Offer) → P (f o))
    → (es : List Entry) (b : Bool) (e : sound es ≡ b) → P (if_sound x f es b e)
if_sound_both P x f h k es true e = k (record { entries = es; ok = e })
if_sound_both P x f h k es false e = h

pub lawful : {C : Type 0} (g : Ghosts C)
    → ((c : C) (list : ListKind) (o : Offer) → PicksOffered o.entries (g.pick c list o)) → Lawful (meant g)
lawful g law c list es h = by (sound es) refl
  where
    by : (b : Bool) (e : sound es ≡ b) → PicksOffered es (if_sound None (g.pick c list) es b e)
    by true e = law c list (record { entries = es; ok = e })
    by false e = absurd (both_ways (sound es) e h)
