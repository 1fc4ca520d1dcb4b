-- What a cell's books say of its rows.
use Rattle.std.proofs.Common.{◌≡◌, ℕ, zero, suc, List, ◌∷◌, length, replicate, sym, refl, ap, ◌∙◌}
use Rattle.model.proofs.Order.{books}
use Rattle.model.proofs.Uses.{stayed_sound}
use Rattle.model.specs.Limits.{places}
use Rattle.model.specs.Session.{Session, vacant}
use Rattle.model.specs.Sound.{InOrder}
use Rattle.model.specs.Table.{Table, vacancies}
use Rattle.session.specs.Seen.{seen}
use Rattle.session.specs.declared.row.Row.{Row}
use Rattle.table.proofs.Tables.{length_table}
use Rattle.table.specs.Places.{table_of}
use Rattle.cell.specs.Offerable.{Offerable}

pub rows_sized : {keep mark turns : ℕ} (rows : List Row) → InOrder keep mark turns (table_of rows) → length rows ≡ places
rows_sized rows o = sym (length_table rows) ∙ (books o).size

-- and so of whom a chooser may be asked
pub can_be_offered : {keep mark turns : ℕ} {t : Table} → InOrder keep mark turns t → Offerable t
can_be_offered o = stayed_sound (books o)

-- rows of a new cell
pub table_vacant : (n : ℕ) (row : Row) → seen row ≡ vacant → table_of (replicate n row) ≡ vacancies n
unfolding table_of vacancies
table_vacant zero row e = refl
table_vacant (suc n) row e = ap (λ (s : Session). s ∷ table_of (replicate n row)) e ∙ ap (λ (t : Table). vacant ∷ t) (table_vacant n row e)
