use Rattle.std.proofs.Common.{◌∙◌, true, false}
use Rattle.notation.proofs.Fronts.{not_number, not_text, parsed_is, text_is}
use Rattle.notation.proofs.front.plain_number.Goals as goal

pub returns-in_err-ok : goal.returns-in_err-ok
returns-in_err-ok c = c.from_residual.ensures ∙ not_text _ c.args.digits.now c.from_utf8.result c.from_utf8.ensures.cases c.in_err-ok.ensures.value

pub returns-in_err-number : goal.returns-in_err-number
returns-in_err-number c =
    let text = text_is _ c.args.digits.now c.from_utf8.result c.in_ok-ok.field-0 c.from_utf8.ensures.cases c.in_ok-ok.ensures.value in
    c.from_residual-in_err-number.ensures ∙ not_number _ _ c.parse.result text c.parse.ensures.value.0 c.in_err-number.ensures.value

pub returns-then-eq : goal.returns-then-eq
returns-then-eq c =
    let text = text_is _ c.args.digits.now c.from_utf8.result c.in_ok-ok.field-0 c.from_utf8.ensures.cases c.in_ok-ok.ensures.value in
    parsed_is _ _ c.parse.result c.in_ok-number.number c.as_bytes.result.now true text c.parse.ensures.value.0 c.in_ok-number.ensures.value (c.as_bytes.ensures.value ∙ c.format.ensures.text) c.if-eq.ensures

pub returns-else-eq : goal.returns-else-eq
returns-else-eq c =
    let text = text_is _ c.args.digits.now c.from_utf8.result c.in_ok-ok.field-0 c.from_utf8.ensures.cases c.in_ok-ok.ensures.value in
    parsed_is _ _ c.parse.result c.in_ok-number.number c.as_bytes.result.now false text c.parse.ensures.value.0 c.in_ok-number.ensures.value (c.as_bytes.ensures.value ∙ c.format.ensures.text) c.if-eq.ensures
