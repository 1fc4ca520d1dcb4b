-- What a holder tells its chooser, whatever the chooser makes of it.
use Rattle.std.specs.Prelude.{ℕ, zero, suc, List, Some, None, Option, slice_index_or}
use Rattle.chooser.specs.declared.entry.Entry.{Entry}
use Rattle.chooser.specs.declared.entry.ListKind.{ListKind}
use Rattle.chooser.specs.Offers.{unoffered}

-- a chooser whose pick is served, at the price of that place
abbrev pub served_pick : {C : Type 0}
    → (C → ListKind → ℕ → ℕ → ℕ → C) → C → ListKind → List Entry → ℕ → Option ℕ → C
served_pick served c list es length None = c
served_pick served c list es length (Some place) =
    served c list place length (slice_index_or es place unoffered).price

-- a chooser that is told of each place below n, in ascending order
abbrev pub told_below : {C : Type 0} → (C → ℕ → C) → C → ℕ → C
told_below tell c zero = c
told_below tell c (suc n) = tell (told_below tell c n) n
