-- What a chooser is told, one after the other, and what it becomes of it.
use Rattle.std.specs.Prelude.{ℕ, ◌+◌, List, [], ◌∷◌}
use Rattle.chooser.specs.declared.entry.Entry.{Entry}
use Rattle.chooser.specs.declared.entry.ListKind.{ListKind}
use Rattle.chooser.specs.Meaning.{Meaning}

-- served: list, place, length and price; joined: list, place and offer; cleared: place
pub data Telling : Type 0 where
  served : ListKind → ℕ → ℕ → ℕ → Telling
  joined : ListKind → ℕ → List Entry → Telling
  cleared : ℕ → Telling

abbrev pub told : {C : Type 0} → Meaning C → C → Telling → C
told M c (served list place length price) = M.served c list place length price
told M c (joined list place es) = M.joined c list place es
told M c (cleared place) = M.cleared c place

-- the first telling of the list is the first that was made
abbrev pub told_all : {C : Type 0} → Meaning C → C → List Telling → C
told_all M c [] = c
told_all M c (t ∷ ts) = told_all M (told M c t) ts

abbrev pub serving : Telling → ℕ
serving (served list place length price) = 1
serving (joined list place es) = 0
serving (cleared place) = 0

abbrev pub servings : List Telling → ℕ
servings [] = 0
servings (t ∷ ts) = serving t + servings ts
