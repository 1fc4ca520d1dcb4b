use Rattle.std.proofs.Common.{◌≡◌, ℕ, ◌<◌, false, length, get_or, sym, ap, ◌∙◌, rules, arith}
use Rattle.std.proofs.lemmas.List.{same_lists}
use Rattle.chooser.proofs.Made.{made_at}
use Rattle.chooser.specs.Limits.{places}
use Rattle.model.proofs.Tables.{at_is}
use Rattle.model.specs.Lists.{Entry, stayed}
use Rattle.model.specs.Session.{vacant}
use Rattle.model.specs.Table.{at}
use Rattle.session.specs.Seen.{stay}
use Rattle.table.specs.Places.{table_of}
use Rattle.table.proofs.Offering.{length_stayed, getD_stayed}
use Rattle.table.proofs.Tables.{length_table}
use Rattle.table.proofs.lists.stayed.Goals as goal

pub returns : goal.returns
returns c =
    let list = c.args.list in
    let before = c.args.before.now in
    let t = table_of c.args.rows.now in
    let made = c.from_fn.ensures.items in
    let at_place : ℕ → Entry = λ k. stay list (get_or before k false) (at t k) in
    let same : length before ≡ length t = omega (arith, length_table c.args.rows.now, c.told-rows, c.told-before) in
    same_lists c.from_fn.result (stayed list before t) (omega (arith, made.long, length_stayed list before t same, c.told-before))
    (λ k d l.
    let h : k < places = omega (arith, made.long) in
    made_at _ _ c.from_fn.result at_place places (λ k l y q call. search rules) made k d h
    ∙ ap (stay list (get_or before k false)) (at_is t k)
    ∙ sym (getD_stayed list before t k d false vacant same (omega (arith, c.told-before))))
