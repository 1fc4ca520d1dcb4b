-- What a call remembers of the table that it found, and what it leaves.
use Rattle.std.specs.Prelude.{ℕ, List, [], ◌++◌}
use Rattle.chooser.specs.Meaning.{Meaning}
use Rattle.chooser.specs.Tellings.{Telling}
use Rattle.model.specs.Cell.{Cell, mark_from, joins, settled}
use Rattle.model.specs.Lists.{ListKind, Credit, Extra, members}
use Rattle.model.specs.Session.{Session}
use Rattle.model.specs.Sound.{InOrder}
use Rattle.model.specs.Table.{Table, change, least_time, latest_time, none_active}
use Rattle.cell.specs.declared.settle.Before.{Before}

abbrev pub before_of : Table → Before
before_of t =
    record { credit = members Credit t; extra = members Extra t; idle = none_active t }

-- where the mark is then, and what the chooser is told of who joined, for table u that is left
abbrev pub mark_left : Before → Table → ℕ → ℕ
mark_left before u mark = mark_from (least_time u) before.idle (latest_time u) mark

abbrev pub joins_left : Before → Table → List Telling
joins_left before u = joins Credit before.credit u ++ joins Extra before.extra u

-- of one list, where a call leaves session s at a place of table t and changes no other
abbrev pub joins_by : ListKind → Table → ℕ → Session → List Telling
joins_by list t place s = joins list (members list t) (change t place (λ _. s))

-- a cell in which a call leaves session s at a place, and has settled
abbrev pub with_session : {C : Type 0} → Meaning C → Cell C → ℕ → Session → Cell C
with_session M x place s = settled M x (change x.table place (λ _. s)) x.turns []

-- a cell whose books are in order
abbrev pub BooksInOrder : {C : Type 0} → Cell C → Type 0
BooksInOrder x = InOrder x.keep x.mark x.turns x.table
