use Rattle.std.proofs.Common.{◌≡◌, sym, ◌∙◌}
use Rattle.model.specs.Cell.{joins}
use Rattle.cell.proofs.Telling.{tells, tells_joiner, tells_member, tells_outsider, told_turn, told_to_all}
use Rattle.cell.proofs.settle.Roll.tell_each.Goals as goal
use Rattle.cell.proofs.settle.Roll.tell_each.Goals.{else-not-was-via-then-not-was+else-stands_in, else-not-was-via-else-not-was}

pub loop-place-preserved-then-stands_in : goal.loop-place-preserved-then-stands_in
loop-place-preserved-then-stands_in g c =
    let list = c.args.list in
    let place = c.in-Some.place in
    let row = c.in-Some.row in
    let was = c.in-Some.was in
    let now = c.loop-place.chooser in
    let stay = c.stayed-stay.result in
    let told = tells_joiner g.C.Chooser list stay place row.now was.now now _ c.joined.ensures
    c.if-not-was.true (sym c.stands_in.ensures ∙ c.if-stands_in.true) in
    told_turn g.C.Chooser list stay c.args.self.now.rows.now c.args.before.now c.into_iter-place-iterator.result (cc) (cc) (cc)
    _ _ c.loop-place.yielded_by _ c.next.new.self place row was c.args.chooser.now now c.joined.new.self c.in-Some.is c.next.ensures.steps told c.loop-place.invariant

pub loop-place-preserved : goal.loop-place-preserved
loop-place-preserved g c =
    let list = c.args.list in
    let place = c.in-Some.place in
    let row = c.in-Some.row in
    let was = c.in-Some.was in
    let now = c.loop-place.chooser in
    let stay = c.stayed-stay.result in
    let untold : now ≡ tells g.C.Chooser list stay now (place, (row.now, was.now)) =
    elim c.else-not-was.branch [
      | else-not-was-via-then-not-was+else-stands_in w ↦
          tells_outsider g.C.Chooser list stay place row.now was.now now w.if-not-was.true (sym w.stands_in.ensures ∙ w.if-stands_in.false)
      | else-not-was-via-else-not-was w ↦ tells_member g.C.Chooser list stay place row.now was.now now w.if-not-was.false
    ] in
    told_turn g.C.Chooser list stay c.args.self.now.rows.now c.args.before.now c.into_iter-place-iterator.result (cc) (cc) (cc)
    _ _ c.loop-place.yielded_by _ c.next.new.self place row was c.args.chooser.now now now c.in-Some.is c.next.ensures.steps untold c.loop-place.invariant

pub returns : goal.returns
unfolding joins
returns g c =
    told_to_all g.C.Chooser c.args.list c.stayed-stay.result c.args.self.now.rows.now c.args.before.now
    c.into_iter-place-iterator.result (cc) (cc) (cc)
    _ _ c.loop-place.yielded_by _ c.next.new.self _ _ _ c.in-None.is c.next.ensures.steps c.loop-place.invariant c.stayed-stay.ensures
