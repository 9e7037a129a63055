use Rattle.std.proofs.Common.{rules, arith, ◌≡◌, ◌∙◌, length, map, nat_lt, subst, sym, IfErr, OnOk}
use Rattle.std.proofs.Math.ListN.{length-map}
use Rattle.std.specs.List.{filter}
use Rattle.std.proofs.lemmas.Grind.{common_steps}
use Rattle.reflect_names.proofs.Declared.{err_from}
use Rattle.reflect_passes.specs.Errors.{ListsFaults}
use Rattle.reflect_tables.specs.declared.tables.Tables.{Tables}
use Rattle.reflect_tables.specs.Views.{extension_of, file_of, pool_of}
use Rattle.reflect_pool.specs.Linked.{IsLinked}
use Rattle.reflect_build.specs.Accepted.{AddsNames, Faultless}
use Rattle.reflect_build.specs.Parts.{StaysOrGrows}
use Rattle.reflect_build.specs.Refusals.{CountsOf, Faulty}
use Rattle.reflect_build.proofs.Refused.{mapped}
use Rattle.reflect_build.proofs.Named.{FirstNumbers, linked_same}
use Rattle.reflect_build.proofs.Parted.{grows, linking_same, stays}
use Rattle.reflect_build.proofs.build.add_new.Goals as goal

pub returns-in_err-before-clause-held : goal.returns-in_err-before-clause-held
returns-in_err-before-clause-held c =
    stays c.from_residual.result _ (pool_of c.args.parts.now.tables) c.from_residual.ensures.1

pub returns-in_err-first-clause-held : goal.returns-in_err-first-clause-held
returns-in_err-first-clause-held c =
    stays c.from_residual-in_err-first.result _ (pool_of c.args.parts.now.tables)
    c.from_residual-in_err-first.ensures.1

pub returns-then-is_err-clause-held : goal.returns-then-is_err-clause-held
returns-then-is_err-clause-held c =
    let tables = c.args.parts.now.tables in
    subst (λ (t : Tables). StaysOrGrows c.link-outcome.result (pool_of tables) (pool_of t)) (sym c.forget.ensures.tables)
    (grows c.link-outcome.result (pool_of tables) (pool_of c.link-outcome.new.tables)
    (length tables.files.items) (sym (length-map tables.files.items file_of))
    (record { pooled = c.requires.fit.pooled; imports = c.requires.fit.imports })
    c.link-outcome.ensures.unchanged c.link-outcome.ensures.grown)

pub returns-else-is_err-clause-held : goal.returns-else-is_err-clause-held
returns-else-is_err-clause-held c =
    let tables = c.args.parts.now.tables in
    grows c.link-outcome.result (pool_of tables) (pool_of c.link-outcome.new.tables)
    (length tables.files.items) (sym (length-map tables.files.items file_of))
    (record { pooled = c.requires.fit.pooled; imports = c.requires.fit.imports })
    c.link-outcome.ensures.unchanged c.link-outcome.ensures.grown

pub returns-then-is_err-clause-fit : goal.returns-then-is_err-clause-fit
returns-then-is_err-clause-fit c =
    let old = c.args.parts.now in
    let linked = c.link-outcome.new in
    let new = c.forget.new.parts in
    let first = c.in_ok-first.first in
    let start : first ≡ length old.tables.files.items = grind (arith, common_steps, c.in_ok-first.ensures.cases, c.len.ensures) in
    let same : pool_of linked.tables ≡ pool_of old.tables = err_from _ c.link-outcome.result (search rules) c.link-outcome.ensures.unchanged in
    let items = linked.tables.extensions.items in
    let v = linked.extension_numbers in
    let w = new.extension_numbers in
    let few : FirstNumbers (length (map extension_of items)) v w = (c.forget.ensures.numbers_were_ordered, subst (λ n. w.entries ≡ filter (λ e. nat_lt e.1 n) v.entries) (sym (length-map items extension_of)) c.forget.ensures.numbers) in
    let fit : IsLinked (pool_of linked.tables) new.names new.file_names w new.links.items linked.tables.messages.items = linked_same old.tables (pool_of linked.tables) old.names new.names old.file_names linked.file_names new.file_names old.extension_numbers v w
    old.links.items linked.links.items new.links.items linked.tables.messages.items first start same (λ t. c.forget.ensures.names t ∙ c.link-outcome.ensures.kept t) c.link-outcome.ensures.kept_files (c.forget.ensures.files_were_ordered, c.forget.ensures.files) c.link-outcome.ensures.kept_numbers few
    c.link-outcome.ensures.kept_links c.forget.ensures.links (err_from _ c.link-outcome.result (search rules) c.link-outcome.ensures.same_messages) c.requires.fit in
    subst (λ (t : Tables). IsLinked (pool_of t) new.names new.file_names w new.links.items t.messages.items) (sym c.forget.ensures.tables) fit

pub returns-then-is_err-clause-refused : goal.returns-then-is_err-clause-refused
returns-then-is_err-clause-refused c =
    let self = c.args.parts.now in
    let start : c.in_ok-first.first ≡ length self.tables.files.items = grind (arith, common_steps, c.in_ok-first.ensures.cases, c.len.ensures) in
    let counts = mapped (CountsOf (pool_of self.tables)) _ c.offsets.result c.map_err.result c.map_err.ensures.cases c.offsets.ensures c.in_ok-before.before c.in_ok-before.was in
    subst (λ w. IfErr c.link-outcome.result (λ e. ListsFaults (Faulty w c.args.files.items) e))
    (linking_same self c.in_ok-before.before c.in_ok-first.first counts start) c.link-outcome.ensures.refused

pub returns-else-is_err-clause-accepted : goal.returns-else-is_err-clause-accepted
returns-else-is_err-clause-accepted c =
    let self = c.args.parts.now in
    let start : c.in_ok-first.first ≡ length self.tables.files.items = grind (arith, common_steps, c.in_ok-first.ensures.cases, c.len.ensures) in
    let counts = mapped (CountsOf (pool_of self.tables)) _ c.offsets.result c.map_err.result c.map_err.ensures.cases c.offsets.ensures c.in_ok-before.before c.in_ok-before.was in
    subst (λ w. OnOk c.link-outcome.result (Faultless w c.args.files.items (pool_of c.link-outcome.new.tables)))
    (linking_same self c.in_ok-before.before c.in_ok-first.first counts start) c.link-outcome.ensures.accepted

pub returns-else-is_err-clause-added : goal.returns-else-is_err-clause-added
returns-else-is_err-clause-added c =
    let self = c.args.parts.now in
    let start : c.in_ok-first.first ≡ length self.tables.files.items = grind (arith, common_steps, c.in_ok-first.ensures.cases, c.len.ensures) in
    let counts = mapped (CountsOf (pool_of self.tables)) _ c.offsets.result c.map_err.result c.map_err.ensures.cases c.offsets.ensures c.in_ok-before.before c.in_ok-before.was in
    subst (λ w. OnOk c.link-outcome.result (AddsNames w c.args.files.items (pool_of c.link-outcome.new.tables)))
    (linking_same self c.in_ok-before.before c.in_ok-first.first counts start) c.link-outcome.ensures.added
