-- Rows and the table that they stand for, place by place.
use Rattle.std.proofs.Common.{◌≡◌, ℕ, ◌+◌, ◌<◌, List, ◌∷◌, map, length, get_or, drop, set, Some, None, Option, sym, refl, ap, ◌∙◌, arith}
use Rattle.std.proofs.lemmas.List.{length-map, get_or-map, map-set, at_drop_more}
use Rattle.std.specs.Option.{option_map}
use Rattle.chooser.specs.Limits.{places}
use Rattle.chooser.specs.Places.{numbers}
use Rattle.chooser.specs.declared.place.Place.{Place}
use Rattle.model.proofs.Tables.{at_is, change_is}
use Rattle.model.specs.Session.{Session, vacant}
use Rattle.model.specs.Table.{Table, at, change}
use Rattle.session.specs.Seen.{seen}
use Rattle.session.specs.declared.row.Row.{Row}
use Rattle.table.specs.Places.{table_of}

pub length_table : (rows : List Row) → length (table_of rows) ≡ length rows
unfolding table_of
length_table rows = length-map rows seen

pub getD_table : (rows : List Row) (i : ℕ) (d : Row) (e : Session) → i < length rows → get_or (table_of rows) i e ≡ seen (get_or rows i d)
unfolding table_of
getD_table rows i d e l = get_or-map seen rows i d e l

-- the session at a place is the row there
pub at_table : (rows : List Row) (i : ℕ) (d : Row) → i < length rows → at (table_of rows) i ≡ seen (get_or rows i d)
at_table rows i d l = at_is (table_of rows) i ∙ getD_table rows i d vacant l

-- a row that is written as f changes its session
pub written : (rows : List Row) (i : ℕ) (d r : Row) (f : Session → Session) → i < length rows → seen r ≡ f (seen (get_or rows i d)) →
    table_of (set rows i r) ≡ change (table_of rows) i f
unfolding table_of
written rows i d r f l made =
    map-set seen rows i r ∙ ap (set (map seen rows) i) (made ∙ ap f (sym (getD_table rows i d vacant l))) ∙ sym (change_is (table_of rows) i f)

-- a function of what is left of a table, one row on and at the end
pub left_more : {Y : Type 0} (F : Table → Y) (rows : List Row) (i : ℕ) (d : Row) → i < length rows →
    F (drop i (table_of rows)) ≡ F (seen (get_or rows i d) ∷ drop (i + 1) (table_of rows))
left_more F rows i d l =
    let m : i < length (table_of rows) = omega (arith, length_table rows) in
    at_drop_more F (table_of rows) i vacant m ∙ ap (λ s. F (s ∷ drop (i + 1) (table_of rows))) (getD_table rows i d vacant l)

-- the virtual time of a place, read from its row
pub times_read : (rows : List Row) (d : Row) (o : Option Place) → length rows ≡ places →
    option_map (λ (p : Place). (get_or rows p.number d).virtual_time) o ≡ option_map (λ i. (at (table_of rows) i).virtual_time) (numbers o)
times_read rows d None n = refl
times_read rows d (Some p) n = ap (λ (s : Session). Some s.virtual_time) (sym (at_table rows p.number d (omega (arith, p.inside))))
