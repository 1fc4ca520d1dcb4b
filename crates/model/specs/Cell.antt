-- The cell as a value, and what every accepted call does last: the mark follows the table, and the
-- chooser is told who joined a list.
use Rattle.std.specs.Prelude.{ℕ, suc, Bool, true, false, if◌then◌else◌, not, ◌&&◌, List, [], ◌∷◌}
use Rattle.std.specs.Prelude.{◌++◌, Some, None, Option}
use Rattle.model.specs.Table.{Table, least_time, latest_time, none_active}
use Rattle.model.specs.Lists.{ListKind, Credit, Extra, Entry, stands_in, members, stayed}
use Rattle.chooser.specs.Meaning.{Meaning}
use Rattle.chooser.specs.Tellings.{Telling, joined, told_all}

pub record Cell (C : Type 0) : Type 0 where
  pub keep : ℕ
  pub mark : ℕ
  pub turns : ℕ  -- accepted so far
  pub table : Table
  pub chooser : C

-- ---- the mark

abbrev pub mark_from : Option ℕ → Bool → ℕ → ℕ → ℕ
mark_from (Some v) had_none latest mark = v
mark_from None true latest mark = mark
mark_from None false latest mark = latest

-- After a call that found table t and leaves table u: the smallest virtual time of the active
-- sessions. When the call leaves none active, having had some, the largest virtual time of any open
-- session; otherwise the mark stays.
unfoldable pub mark_after : ℕ → Table → Table → ℕ
mark_after mark t u = mark_from (least_time u) (none_active t) (latest_time u) mark

-- ---- what the chooser is told

-- from place k up, each place newly in a list, as joined with the offer of those that stayed
unfoldable pub joins_from : ℕ → ListKind → List Entry → List Bool → Table → List Telling
joins_from k list stay [] t = []
joins_from k list stay (b ∷ bs) [] = []
joins_from k list stay (b ∷ bs) (s ∷ t) =
    if not b && stands_in list s then joined list k stay ∷ joins_from (suc k) list stay bs t
    else joins_from (suc k) list stay bs t

-- who joined one list, `before` saying who stood in it
unfoldable pub joins : ListKind → List Bool → Table → List Telling
joins list before u = joins_from 0 list (stayed list before u) before u

-- by a call that found table t and leaves table u: all who joined the credit list, then all who
-- joined the extra list
unfoldable pub all_joins : Table → Table → List Telling
all_joins t u = joins Credit (members Credit t) u ++ joins Extra (members Extra t) u

module _ {C : Type 0} (M : Meaning C) where
  -- a cell that is left with table u and n accepted turns, its chooser being told ts, and then who
  -- joined a list
  unfoldable pub settled : Cell C → Table → ℕ → List Telling → Cell C
  settled x u n ts = record {
    keep = x.keep;
    mark = mark_after x.mark x.table u;
    turns = n;
    table = u;
    chooser = told_all M x.chooser (ts ++ all_joins x.table u);
  }
