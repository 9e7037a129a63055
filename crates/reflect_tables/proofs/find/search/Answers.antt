use Rattle.std.proofs.Common.{rules, of_calls, map}
use Rattle.std.proofs.lemmas.Fn.{always_returns_same}
use Rattle.reflect_tables.specs.Index.{key_at, key_order, key_view}
use Rattle.reflect_tables.proofs.Indexes.{found, missing}
use Rattle.reflect_tables.proofs.find.search.Goals as goal

pub returns-clause-found : goal.returns-clause-found
returns-clause-found g c =
    let keys = map (g.T.Keyed.key_of c.args.by) c.args.items.now in
    found keys c.args.places.now (key_view c.args.key) c.binary_search_by.result
    (c.binary_search_by.ensures.position (λ p. key_order (key_at keys p) (key_view c.args.key)) (always_returns_same _ _ _ (λ a r f' k. search (rules, of_calls))))

pub returns-clause-missing : goal.returns-clause-missing
returns-clause-missing g c = λ up.
    let keys = map (g.T.Keyed.key_of c.args.by) c.args.items.now in
    missing keys c.args.places.now up (key_view c.args.key) c.binary_search_by.result
    (c.binary_search_by.ensures.position (λ p. key_order (key_at keys p) (key_view c.args.key)) (always_returns_same _ _ _ (λ a r f' k. search (rules, of_calls))))
