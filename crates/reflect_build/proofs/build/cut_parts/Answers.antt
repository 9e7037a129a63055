use Rattle.std.proofs.Common.{◌≡◌, ◌∙◌, ap, length, map, nat_lt, refl, subst, sym}
use Rattle.std.proofs.Math.ListN.{length-map}
use Rattle.std.specs.List.{filter}
use Rattle.reflect_tables.specs.declared.tables.Tables.{Tables}
use Rattle.reflect_tables.specs.Views.{extension_of, pool_of}
use Rattle.reflect_pool.specs.Linked.{IsLinked}
use Rattle.reflect_build.proofs.Named.{FirstNumbers, linked_cut}
use Rattle.reflect_build.proofs.build.cut_parts.Goals as goal

pub returns-clause-cut : goal.returns-clause-cut
returns-clause-cut c = ap pool_of c.forget.ensures.tables ∙ c.cut.ensures.pool

pub returns-clause-fit : goal.returns-clause-fit
returns-clause-fit c =
    let old = c.args.parts.now in
    let tables = c.cut.new.tables in
    let items = tables.extensions.items in
    let new = c.forget.new.parts in
    let u = old.extension_numbers in
    let v = new.extension_numbers in
    let few : FirstNumbers (length (map extension_of items)) u v = (c.forget.ensures.numbers_were_ordered, subst (λ n. v.entries ≡ filter (λ e. nat_lt e.1 n) u.entries) (sym (length-map items extension_of)) c.forget.ensures.numbers) in
    let fit : IsLinked (pool_of tables) new.names new.file_names v new.links.items tables.messages.items = linked_cut (pool_of old.tables) (pool_of tables) c.args.mark old.names new.names old.file_names new.file_names u v old.links.items new.links.items
    old.tables.messages.items tables.messages.items c.cut.ensures.pool c.forget.ensures.names (c.forget.ensures.files_were_ordered, c.forget.ensures.files) few c.forget.ensures.links refl c.cut.ensures.messages c.requires.fit c.requires.alone in
    subst (λ (t : Tables). IsLinked (pool_of t) new.names new.file_names v new.links.items t.messages.items) (sym c.forget.ensures.tables) fit
