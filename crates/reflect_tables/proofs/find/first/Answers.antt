use Rattle.std.proofs.Common.{map, get_or}
use Rattle.std.proofs.lemmas.List.{get_or_default}
use Rattle.reflect_tables.specs.Index.{key_view}
use Rattle.reflect_tables.proofs.Indexes.{first_of, none_of}
use Rattle.reflect_tables.proofs.find.first.Goals as goal

pub returns-in-Ok : goal.returns-in-Ok
returns-in-Ok g c = λ is.
    let ps = c.args.places.now in
    first_of (map (g.T.Keyed.key_of c.args.by) c.args.items.now) ps (key_view c.args.key) is c.in-Ok.at (get_or ps c.in-Ok.at 0) c.in-Ok.ensures.in_range (get_or_default ps c.in-Ok.at 0 (get_or ps c.in-Ok.at 0) c.in-Ok.ensures.in_range) c.in-Ok.ensures.found

pub returns-in-Err : goal.returns-in-Err
returns-in-Err g c = λ is.
    none_of (map (g.T.Keyed.key_of c.args.by) c.args.items.now) c.args.places.now (key_view c.args.key) is (c.in-Err.ensures.missing is.1.0)
