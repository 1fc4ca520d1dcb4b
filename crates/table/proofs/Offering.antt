-- Lists made from a table place by place.
use Rattle.std.proofs.Common.{◌≡◌, ℕ, zero, suc, ◌<◌, Bool, true, ◌&&◌, List, [], ◌∷◌, map, length, get_or, replicate, refl, sym, ap, ◌∙◌, arith}
use Rattle.std.proofs.lemmas.List.{same_lists, length-map, get_or-map}
use Rattle.chooser.specs.declared.entry.Entry.{Entry}
use Rattle.chooser.specs.declared.entry.ListKind.{ListKind}
use Rattle.model.proofs.Tables.{at_is}
use Rattle.model.specs.Lists.{stands_in, entry, offer, stayed}
use Rattle.model.specs.Session.{Session, vacant}
use Rattle.model.specs.Table.{Table, at}
use Rattle.session.specs.declared.row.Row.{Row}
use Rattle.table.specs.Places.{table_of}
use Rattle.table.proofs.Tables.{length_table}

-- a list that has of each session what h says
pub listed : {B : Type 0} (h : Session → B) (t : Table) (ys : List B) (n : ℕ) → length ys ≡ n → length t ≡ n → ((k : ℕ) (d : B) → k < n → get_or ys k d ≡ h (at t k)) → ys ≡ map h t
listed h t ys n long size each =
    same_lists ys (map h t) (long ∙ sym size ∙ sym (length-map t h))
    (λ k d l. each k d (omega arith) ∙ ap h (at_is t k) ∙ sym (get_or-map h t k vacant d (omega arith)))

pub length_stayed : (l : ListKind) (bs : List Bool) (t : Table) → length bs ≡ length t → length (stayed l bs t) ≡ length bs
unfolding stayed
length_stayed l [] t e = refl
length_stayed l (b ∷ bs) [] e = absurd (omega arith)
length_stayed l (b ∷ bs) (s ∷ t) e = ap suc (length_stayed l bs t (omega arith))

pub getD_stayed : (l : ListKind) (bs : List Bool) (t : Table) (i : ℕ) (e : Entry) (b : Bool) (d : Session) → length bs ≡ length t →
    i < length bs → get_or (stayed l bs t) i e ≡ entry (get_or bs i b && stands_in l (get_or t i d)) (get_or t i d)
unfolding stayed
getD_stayed l [] t i e b d same h = absurd (omega arith)
getD_stayed l (x ∷ bs) [] i e b d same h = absurd (omega arith)
getD_stayed l (x ∷ bs) (s ∷ t) zero e b d same h = refl
getD_stayed l (x ∷ bs) (s ∷ t) (suc i) e b d same h = getD_stayed l bs t i e b d (omega arith) (omega arith)

-- those who stayed, if all were there before, are all who stand in the list
stayed_all : (l : ListKind) (n : ℕ) (t : Table) → length t ≡ n → stayed l (replicate n true) t ≡ offer l t
unfolding stayed
stayed_all l zero [] e = refl
stayed_all l zero (s ∷ t) e = absurd (omega arith)
stayed_all l (suc n) [] e = absurd (omega arith)
stayed_all l (suc n) (s ∷ t) e = ap (λ es. entry (stands_in l s) s ∷ es) (stayed_all l n t (omega arith))

pub stayed_of_all : (l : ListKind) (n : ℕ) (rows : List Row) → length rows ≡ n → stayed l (replicate n true) (table_of rows) ≡ offer l (table_of rows)
stayed_of_all l n rows e = stayed_all l n (table_of rows) (length_table rows ∙ e)
