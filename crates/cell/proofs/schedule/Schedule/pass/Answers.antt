use Rattle.cell.proofs.Passing.{roll_before, can_carry, midway, roll_after, passed}
use Rattle.cell.proofs.Steps.{in_order}
use Rattle.cell.proofs.schedule.Schedule.pass.Goals as goal

pub invariant_of-roll : goal.invariant_of-roll
invariant_of-roll g c = roll_before g.C.Chooser g.met.C.Chooser.picks c.args.self.now c.args.chooser.now _ c.requires

pub carry_out-turn-requires : goal.carry_out-turn-requires
carry_out-turn-requires g c = can_carry g.C.Chooser g.met.C.Chooser.picks c.args.self.now c.args.chooser.now _ c.requires _ c.decide-way.ensures

pub leave-requires : goal.leave-requires
leave-requires g c =
    let carried = c.carry_out-turn in
    midway g.C.Chooser g.met.C.Chooser.picks c.args.self.now c.args.chooser.now _ c.requires _ c.decide-way.ensures carried.result carried.ensures.answer _
    carried.ensures.after

pub invariant_of-roll-2 : goal.invariant_of-roll-2
invariant_of-roll-2 g c =
    let carried = c.carry_out-turn in
    roll_after g.C.Chooser g.met.C.Chooser.picks c.args.self.now c.args.chooser.now _ c.requires _ c.decide-way.ensures carried.result carried.ensures.answer _ _
    carried.ensures.after c.leave.ensures

pub invariant_of-self : goal.invariant_of-self
invariant_of-self g c =
    let s = c.args.self.now in
    let now = c.args.chooser.now in
    let carried = c.carry_out-turn in
    let makes =
    passed g.C.Chooser g.met.C.Chooser.picks s now _ c.requires _ c.decide-way.ensures carried.result carried.ensures.answer
    _ _ _ _ _ _ c.look-before.ensures carried.ensures.after c.tell_served.ensures c.leave.ensures c.settle-self.ensures.mark c.settle-self.ensures.told in
    record { ordered = in_order g.C.Chooser g.met.C.Chooser.picks s now _ _ _ makes }

pub returns : goal.returns
returns g c =
    let carried = c.carry_out-turn in
    passed g.C.Chooser g.met.C.Chooser.picks c.args.self.now c.args.chooser.now _ c.requires _ c.decide-way.ensures carried.result carried.ensures.answer
    _ _ _ _ _ _ c.look-before.ensures carried.ensures.after c.tell_served.ensures c.leave.ensures c.settle-self.ensures.mark c.settle-self.ensures.told
