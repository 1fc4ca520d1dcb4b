use Rattle.std.proofs.Common.{◌≡◌, ◌≤◌, length, take, Ok, arith, rules}
use Rattle.record.specs.Layout.{contents}
use Rattle.record.specs.Reading.{parsed}
use Rattle.record.proofs.Trips.{write_again}
use Rattle.record.proofs.reader.read.Goals as goal

pub returns-clause-writes_back : goal.returns-clause-writes_back
returns-clause-writes_back c =
    let long : 16 ≤ length c.args.input.now = search rules in
    let is : parsed c.args.number (take 16 c.args.input.now) ≡ Ok (contents c.in_ok-event.event) = search rules in
    λ out room. write_again _ c.args.input.now out c.args.number (λ i. let h = c.type_inv.input i in omega arith) long is room
