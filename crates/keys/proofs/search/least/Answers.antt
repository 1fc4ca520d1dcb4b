use Rattle.std.proofs.Common.{◌≡◌, ap, ◌∙◌, subst, sym, rules}
use Rattle.std.specs.Option.{option_map}
use Rattle.std.proofs.lemmas.Iterator.{YieldsList-from_slice}
use Rattle.std.proofs.lemmas.Iterator.Consumers.{YieldsList-at, YieldsList-from_enumerate, YieldsList-from_filter_map}
use Rattle.keys.specs.Least.{Least}
use Rattle.keys.specs.Order.{lt_by_cmp}
use Rattle.keys.proofs.Finds.{least_is, numbered, search_finds, sooner, sooner_is}
use Rattle.keys.proofs.Orders.{strict_from_laws}
use Rattle.keys.proofs.Reduced.{picked}
use Rattle.keys.proofs.search.least.Goals as goal

pub returns : goal.returns
returns g c =
    let before = lt_by_cmp g.K.Ord.cmp in
    let key = g.met.K.Key in
    let order = strict_from_laws key.irreflexive key.transitive key.connected in
    let keys = c.args.keys.now in
    let picked = picked _ g.K.Ord.cmp (λ x. x.1) (sooner before) _ (sooner_is g.met.K.Ord.total) (λ x k f' call. search rules) _ _ c.min_by_key.ensures.ran
    (YieldsList-from_filter_map _ numbered
    (YieldsList-at c.filter_map.ensures.source
    (YieldsList-from_enumerate (YieldsList-at c.enumerate.ensures.source (YieldsList-from_slice keys (cc))) c.enumerate.ensures.count))
    c.filter_map.ensures.closure (λ x r f' call. search rules)) in
    let mapped : c.map.result ≡ option_map (λ x. x.0) c.min_by_key.result = search rules in
    let found = subst (Least before keys) (sym (mapped ∙ ap (option_map (λ x. x.0)) picked)) (search_finds order keys) in
    record { found = least_is _ keys _ found; least = found }
