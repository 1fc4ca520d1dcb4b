-- What a chooser means to a cell, whatever it is made of: whom it would pick now, and what it
-- becomes when told.
use Rattle.std.specs.Prelude.{◌≡◌, ℕ, Bool, true, false, List, None, Option, refl}
use Rattle.chooser.specs.declared.Chooser.{Ghosts}
use Rattle.chooser.specs.declared.entry.Entry.{Entry}
use Rattle.chooser.specs.declared.entry.ListKind.{ListKind}
use Rattle.chooser.specs.declared.offer.Offer.{Offer}
use Rattle.chooser.specs.Offers.{sound, PicksOffered}

pub record Meaning (C : Type 0) : Type 0 where
  pub pick : C → ListKind → List Entry → Option ℕ
  pub served : C → ListKind → ℕ → ℕ → ℕ → C  -- place, length, price
  pub joined : C → ListKind → ℕ → List Entry → C  -- place, who stayed
  pub cleared : C → ℕ → C  -- place

-- of every sound offer the pick is an offered place if there is one, and none otherwise
abbrev pub Lawful : {C : Type 0} → Meaning C → Type 0
Lawful {C} M = (c : C) (list : ListKind) (es : List Entry)
    → sound es ≡ true → PicksOffered es (M.pick c list es)

-- ---- a chooser of the code: it sees sound offers only, and a cell makes no other

abbrev pub if_sound : {X : Type 0}
    → X → (Offer → X) → (es : List Entry) (b : Bool) → sound es ≡ b → X
if_sound x f es true e = f (record { entries = es; ok = e })
if_sound x f es false e = x

abbrev pub meaning : {C : Type 0} → (C → ListKind → Offer → Option ℕ)
    → (C → ListKind → ℕ → ℕ → ℕ → C) → (C → ListKind → ℕ → Offer → C) → (C → ℕ → C) → Meaning C
meaning pick served joined cleared = record {
  pick = λ c list es. if_sound None (pick c list) es (sound es) refl;
  served = served;
  joined = λ c list k es. if_sound c (joined c list k) es (sound es) refl;
  cleared = cleared;
}

-- what a chooser of the code means, by all that its trait says of it
abbrev pub meant : {C : Type 0} → Ghosts C → Meaning C
meant g = meaning g.pick g.after_served g.after_joined g.after_cleared
