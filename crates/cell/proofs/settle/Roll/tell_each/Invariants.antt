use Rattle.std.proofs.Common.{◌≡◌, length, drop, fold}
use Rattle.std.specs.List.{zip, enumerate_from}
use Rattle.cell.proofs.Telling.{tells}
use Rattle.cell.proofs.settle.Roll.tell_each.Given as goal

abbrev pub invariant-loop-place : goal.invariant-loop-place
invariant-loop-place g l =
    let each = enumerate_from 0 (zip l.self.rows.now l.before) in
    let tell = tells g.C.Chooser l.list l.stay in
    fold tell l.chooser (drop (length l.yielded) each) ≡ fold tell l.initial.chooser each
