use Rattle.std.proofs.Common.{◌≡◌, ℕ, ◌+◌, Bool, ◌||◌, nat_lt, rules, tests, ap, ◌∙◌}
use Rattle.std.proofs.lemmas.Iterator.{YieldsList-from_slice}
use Rattle.std.proofs.lemmas.Iterator.Search.{position_from_yields_List}
use Rattle.std.specs.Range.{range_inclusive_end, range_inclusive_start}
use Rattle.std.specs.List.{position}
use Rattle.std.specs.Option.{option_map}
use Rattle.record.proofs.Finding.{numbered}
use Rattle.record.proofs.reader.first_outside.Goals as goal

pub returns : goal.returns
returns c =
    let q : ℕ → Bool = λ b. nat_lt b (range_inclusive_start c.args.range) || nat_lt (range_inclusive_end c.args.range) b in
    let at : c.position.result ≡ position q c.args.bytes.now =
    position_from_yields_List q _ _ c.position.result c.position.ensures.ran (YieldsList-from_slice _ c.iter.ensures.rest) (λ x b f k. search (rules, tests)) in
    let map : c.map.result ≡ option_map (λ k. c.args.base + k) c.position.result = search rules in
    map ∙ ap (option_map (λ k. c.args.base + k)) at ∙ numbered q c.args.base c.args.bytes.now
