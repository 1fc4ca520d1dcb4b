use Rattle.std.proofs.Common.{sym}
use Rattle.chooser.proofs.Sound.{booked_at}
use Rattle.largest_debt.proofs.debt_at.Goals as goal

pub debt_of-debt-requires : goal.debt_of-debt-requires
debt_of-debt-requires c =
    let o = c.args.offer.now in
    let own = booked_at o.entries o.ok _ c.in_ok-entry.entry (sym c.in_ok-entry.ensures) in
    record { near = own.near; price = own.price }
