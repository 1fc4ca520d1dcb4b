use Rattle.std.proofs.Common.{◌≡◌, refl, ap, ◌∙◌, decimal}
use Rattle.notation.proofs.Fronts.{after-split}
use Rattle.notation.proofs.Prices.{booked_words}
use Rattle.notation.proofs.calls.after_price.Goals as goal

pub returns-in_err-rest-in-Ok : goal.returns-in_err-rest-in-Ok
returns-in_err-rest-in-Ok c =
    let words = booked_words c.args.rate c.in-Ok.booked c.in-Ok.ensures in
    let none = c.in_err-rest-in-Ok.ensures in
    rw (words, after-split, ← none, c.from_residual.ensures) refl

pub returns-in_ok-rest-in-Ok : goal.returns-in_ok-rest-in-Ok
returns-in_ok-rest-in-Ok c =
    let words = booked_words c.args.rate c.in-Ok.booked c.in-Ok.ensures in
    let rest = c.in_ok-rest-in-Ok.ensures in
    let price : c.as_bytes.result.now ≡ decimal c.in-Ok.booked.price =
    c.as_bytes.ensures.value ∙ (c.format.ensures.text ∙ ap decimal c.price.ensures) in
    rw (words, after-split, ← rest, ← price) c.after-in-Ok.ensures
