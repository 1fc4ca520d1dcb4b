-- What may be offered of a table.
use Rattle.std.specs.Prelude.{◌≡◌, Bool, true, List, length}
use Rattle.chooser.specs.Offers.{sound}
use Rattle.model.specs.Limits.{places}
use Rattle.model.specs.Lists.{ListKind, stayed}
use Rattle.model.specs.Table.{Table}

-- whoever stayed in a list can be offered
abbrev pub Offerable : Table → Type 0
Offerable t =
    (list : ListKind) (before : List Bool) →
    length before ≡ places → sound (stayed list before t) ≡ true
