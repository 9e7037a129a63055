use Rattle.std.proofs.Common.{◌∙◌, ap, rules}
use Rattle.std.proofs.Math.Seq.{map-set_same}
use Rattle.reflect_tables.specs.Views.{places_of}
use Rattle.descriptor_records.specs.Content.{options_view}
use Rattle.reflect_growth.specs.Put.{file_put}
use Rattle.reflect_growth.specs.Settled.{stored_view}
use Rattle.reflect_growth.proofs.Puts.{put_at, put_past}
use Rattle.reflect_growth.proofs.settle.settle_options.Goals as goal

pub returns-in-Some-clause-declared : goal.returns-in-Some-clause-declared
returns-in-Some-clause-declared c =
    let was = c.in-Some.stored.now in
    map-set_same places_of c.args.files.now.items c.args.file
    (record { «record» = c.settle_file.new.file; declared = was.declared }) was
    (ap places_of c.in-Some.ensures.value)

pub returns-in-Some-clause-put : goal.returns-in-Some-clause-put
returns-in-Some-clause-put c =
    let was = c.in-Some.stored.now in
    let h = file_put c.args.path.now (options_view c.args.options) in
    put_at stored_view h c.args.files.now.items c.args.file
    (record { «record» = c.settle_file.new.file; declared = was.declared }) was
    (c.settle_file.ensures ∙ ap (λ f. h (stored_view f)) c.in-Some.ensures.value)

pub returns-in_default-clause-put : goal.returns-in_default-clause-put
returns-in_default-clause-put c =
    let h = file_put c.args.path.now (options_view c.args.options) in
    put_past stored_view h c.args.files.now.items c.args.file (search rules)
