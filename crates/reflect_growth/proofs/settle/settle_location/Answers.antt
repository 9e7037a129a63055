use Rattle.std.proofs.Common.{◌∙◌, ap, rules}
use Rattle.std.proofs.Math.Seq.{map-set_same}
use Rattle.reflect_tables.specs.Views.{places_of}
use Rattle.reflect_growth.specs.Put.{path_put}
use Rattle.reflect_growth.specs.Settled.{stored_view}
use Rattle.reflect_growth.proofs.Puts.{put_at, put_past}
use Rattle.reflect_growth.proofs.settle.settle_location.Goals as goal

pub returns-in-Some-clause-declared : goal.returns-in-Some-clause-declared
returns-in-Some-clause-declared c =
    let was = c.in-Some.stored.now in
    map-set_same places_of c.args.files.now.items c.args.file
    (record { «record» = c.move_location.new.file; declared = was.declared }) was
    (ap places_of c.in-Some.ensures.value)

pub returns-in-Some-clause-put : goal.returns-in-Some-clause-put
returns-in-Some-clause-put c =
    let was = c.in-Some.stored.now in
    let h = path_put c.args.place c.args.path.items in
    put_at stored_view h c.args.files.now.items c.args.file
    (record { «record» = c.move_location.new.file; declared = was.declared }) was
    (c.move_location.ensures ∙ ap (λ f. h (stored_view f)) c.in-Some.ensures.value)

pub returns-in_default-clause-put : goal.returns-in_default-clause-put
returns-in_default-clause-put c =
    let h = path_put c.args.place c.args.path.items in
    put_past stored_view h c.args.files.now.items c.args.file (search rules)
