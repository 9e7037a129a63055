use Rattle.std.proofs.Common.{◌<◌, ◌∙◌, ℕ, List, All, length, map, ap, sym, subst}
use Rattle.reflect_tables.specs.Views.{pool_of}
use Rattle.reflect_pool.specs.Imports.{name_at}
use Rattle.reflect_pool.proofs.ImportsAt.{imports_inside, links_at, names_at}
use Rattle.reflect_pool.proofs.pool.DescriptorPool.imports_of.Goals as goal

pub returns-clause-inside : goal.returns-clause-inside
returns-clause-inside c =
    let p = c.self.inside in
    let pool = c.args.self.now in
    subst (All (λ place. place < length pool.files)) (sym c.as_slice.ensures.value)
    (imports_inside (pool_of p.tables) pool p.names p.file_names p.extension_numbers p.links.items c.self.view_is c.self.invariant c.args.file c.index.result.now c.requires c.index.ensures)

pub returns-clause-places : goal.returns-clause-places
returns-clause-places c =
    let p = c.self.inside in
    λ d. c.as_slice.ensures.value ∙ ap (λ (q : List ℕ × List ℕ). q.0) (links_at (pool_of p.tables) c.args.self.now p.names p.file_names p.extension_numbers p.links.items c.self.view_is c.self.invariant c.args.file c.index.result.now c.requires c.index.ensures d)

pub returns-clause-names : goal.returns-clause-names
returns-clause-names c =
    let p = c.self.inside in
    let pool = c.args.self.now in
    λ d. ap (map (name_at pool)) c.as_slice.ensures.value ∙ names_at (pool_of p.tables) pool p.names p.file_names p.extension_numbers p.links.items c.self.view_is c.self.invariant c.args.file c.index.result.now c.requires c.index.ensures d
