-- The two lists from which a chooser picks, and what it is offered. A session that is able and lags
-- stands in the credit list; one that is able and is owed nothing stands in the extra list.
use Rattle.std.specs.Prelude.{ℕ, Bool, if◌then◌else◌, not, ◌&&◌, List, [], ◌∷◌, map, Option}
use Rattle.chooser.specs.Meaning.{Meaning}
use Rattle.chooser.specs.Offers.{offered, unoffered}
use Rattle.model.specs.Session.{Session, able, lags}
use Rattle.model.specs.Table.{Table}
pub use Rattle.chooser.specs.declared.entry.Entry.{Entry}
pub use Rattle.chooser.specs.declared.entry.ListKind.{ListKind}
pub use Rattle.chooser.specs.declared.entry.ListKind.TheVariants.{Credit, Extra}

abbrev pub stands_in : ListKind → Session → Bool
stands_in Credit s = able s && lags s
stands_in Extra s = able s && not (lags s)

-- who stands in a list, place by place
abbrev pub members : ListKind → Table → List Bool
members list t = map (stands_in list) t

-- what an offer says of a session
abbrev pub entry : Bool → Session → Entry
entry b s = if b then offered s.lag s.rate s.price else unoffered

abbrev pub entry_of : ListKind → Session → Entry
entry_of list s = entry (stands_in list s) s

-- all who stand in a list
abbrev pub offer : ListKind → Table → List Entry
offer list t = map (entry_of list) t

-- those who stood in it before and still do, with their lags now
unfoldable pub stayed : ListKind → List Bool → Table → List Entry
stayed list [] t = []
stayed list (b ∷ bs) [] = []
stayed list (b ∷ bs) (s ∷ t) = entry (b && stands_in list s) s ∷ stayed list bs t

-- whom chooser c picks from a list
abbrev pub picked_from : {C : Type 0} → Meaning C → C → ListKind → Table → Option ℕ
picked_from M c list t = M.pick c list (offer list t)
