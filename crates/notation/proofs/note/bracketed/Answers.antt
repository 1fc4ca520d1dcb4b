use Rattle.std.proofs.Common.{refl}
use Rattle.notation.specs.Reading.{bracketed}
use Rattle.notation.proofs.Notes.{too_short}
use Rattle.notation.proofs.note.bracketed.Goals as goal

pub returns-in_err-note : goal.returns-in_err-note
unfolding bracketed
returns-in_err-note c =
    let start = c.in_ok-after.ensures in
    rw (c.from_residual-in_err-note.ensures, ← start, too_short c.in_ok-after.field-0.now c.in_err-note.ensures.cases) refl
