use Rattle.std.proofs.Common.{Ok, sym, ap, ◌∙◌, subst, arith}
use Rattle.std.proofs.lemmas.Bool.{le-leb, cond-true}
use Rattle.model.proofs.Books.{new_sound}
use Rattle.model.specs.Sound.{InOrder}
use Rattle.model.specs.Table.{Table}
use Rattle.cell.proofs.Sized.{table_vacant}
use Rattle.cell.proofs.schedule.Schedule.new.Goals as goal

pub invariant_of-result : goal.invariant_of-result
invariant_of-result c =
    let e = table_vacant 64 c.vacant-vacant.result c.vacant-vacant.ensures in
    let b = new_sound c.args.keep (tt {0}) (omega (arith, c.if-keep-gt-QUARTERS.false)) in
    record { ordered = subst (λ (t : Table). InOrder c.args.keep 0 0 t) (sym e) ∣ b ∣₁ }

pub returns : goal.returns
returns c =
    let e = table_vacant 64 c.vacant-vacant.result c.vacant-vacant.ensures in
    let few = le-leb c.args.keep 4 (omega (arith, c.if-keep-gt-QUARTERS.false)) in
    let made = λ (t : Table). Ok (record { keep = c.args.keep; mark = 0; turns = 0; table = t; chooser = tt {0} }) in
    ap made e ∙ sym (cond-true _ _ _ few)
