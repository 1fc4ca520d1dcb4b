-- A lag shared place by place, as the code walks over the rows.
use Rattle.std.proofs.Common.{◌≡◌, ℕ, ◌+◌, ◌-◌, ◌<◌, ◌≤◌, List, [], ◌∷◌, ◌++◌, length, get_or, take, drop, set, sym, ap, ◌∙◌, append_assoc, arith}
use Rattle.std.proofs.lemmas.List.{append-nil, take_more_set, take_all, drop_all, drop-set-lt, map-set}
use Rattle.model.specs.Departures.{active_rate, part, share}
use Rattle.model.specs.Table.{Table}
use Rattle.model.specs.Turn.{owed}
use Rattle.session.specs.Seen.{seen}
use Rattle.session.specs.declared.row.Row.{Row}
use Rattle.table.specs.Places.{table_of}
use Rattle.table.proofs.Tables.{length_table, left_more}

-- a row written
pub table_set : (rows : List Row) (i : ℕ) (r : Row) → table_of (set rows i r) ≡ set (table_of rows) i (seen r)
unfolding table_of
table_set rows i r = map-set seen rows i r

-- the rows behind it stay
pub rest_set : (rows : List Row) (i : ℕ) (r : Row) → drop (i + 1) (table_of (set rows i r)) ≡ drop (i + 1) (table_of rows)
rest_set rows i r = ap (drop (i + 1)) (table_set rows i r) ∙ drop-set-lt (i + 1) (table_of rows) i (seen r) (omega arith)

-- one place more has its share
module _ (lag r c d : ℕ) (rows : List Row) (all : Table) (i : ℕ) (e y : Row) (inside : i < length rows) where
  pub share_more : d ≡ c + active_rate (seen (get_or rows i e)) → seen y ≡ owed (part lag r d - part lag r c) (seen (get_or rows i e))
      → take i (table_of rows) ++ share lag r c (drop i (table_of rows)) ≡ all
      → take (i + 1) (table_of (set rows i y)) ++ share lag r d (drop (i + 1) (table_of (set rows i y))) ≡ all
  unfolding share
  share_more more made so =
      let t = table_of rows in
      let s = seen (get_or rows i e) in
      ap (λ u. take (i + 1) (table_of (set rows i y)) ++ share lag r d u) (rest_set rows i y)
      ∙ ap (λ u. take (i + 1) u ++ share lag r d (drop (i + 1) t)) (table_set rows i y)
      ∙ ap (λ u. u ++ share lag r d (drop (i + 1) t)) (take_more_set t i (seen y) (omega (arith, length_table rows)))
      ∙ append_assoc (take i t) (seen y ∷ []) (share lag r d (drop (i + 1) t))
      ∙ ap (λ x. take i t ++ x ∷ share lag r d (drop (i + 1) t)) made
      ∙ ap (λ k. take i t ++ owed (part lag r k - part lag r c) s ∷ share lag r k (drop (i + 1) t)) more
      ∙ sym (left_more (λ u. take i t ++ share lag r c u) rows i e inside)
      ∙ so

-- all places have theirs
pub share_all : (lag r c : ℕ) (t all : Table) (i : ℕ) → length t ≤ i → take i t ++ share lag r c (drop i t) ≡ all → t ≡ all
unfolding share
share_all lag r c t all i l so =
    sym (append-nil t)
    ∙ sym (ap (λ u. u ++ []) (take_all i t l))
    ∙ sym (ap (λ u. take i t ++ share lag r c u) (drop_all i t l))
    ∙ so
