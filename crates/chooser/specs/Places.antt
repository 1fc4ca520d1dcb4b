-- A place is one of those that the cell has, and goes by its number.
use Rattle.std.specs.Prelude.{ℕ, if◌then◌else◌, Some, None, Option, nat_lt}
use Rattle.std.specs.Option.{option_map}
use Rattle.chooser.specs.Limits.{places}
use Rattle.chooser.specs.declared.place.Place.{Place}

-- the number of a place, if there is one
abbrev pub numbers : Option Place → Option ℕ
numbers p = option_map (λ q. q.number) p

-- a number as that of a place, if there is such a place
abbrev pub place_numbered : ℕ → Option ℕ
place_numbered n = if nat_lt n places then Some n else None
