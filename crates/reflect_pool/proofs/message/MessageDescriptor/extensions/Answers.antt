use Rattle.std.proofs.Common.{◌≡◌, ◌<◌, All, List, length, map, sym, subst, refl, ℕ}
use Rattle.std.specs.List.{filter}
use Rattle.std.proofs.lemmas.List.Elements.{All-map}
use Rattle.std.proofs.lemmas.Simd.{map-map}
use Rattle.reflect_tables.specs.Types.{PoolType, extension_at}
use Rattle.reflect_tables.specs.Views.{pool_of}
use Rattle.reflect_pool.specs.ExtensionsLeft.{AreExtensions, extension_in}
use Rattle.reflect_pool.proofs.Ranged.{Entry, extensions_of, in_message, inside}
use Rattle.reflect_pool.proofs.message.MessageDescriptor.extensions.Goals as goal

pub invariant_of-result : goal.invariant_of-result
invariant_of-result c =
    let p = pool_of c.pool.inside.tables in
    let m = c.args.self.now.index in
    let n = c.pool.inside.extension_numbers in
    let is : c.range.result ≡ filter (λ (e : Entry). in_message m e.0) n.entries = c.range.ensures.between tt in
    let all = inside p m n c.range.ensures.ordered c.pool.invariant.numbers in
    record { inside = subst (λ (q : PoolType). All (λ e. e.1 < length q.extensions) c.range.result) c.pool.view_is (subst (λ (es : List Entry). All (λ e. e.1 < length p.extensions) es) (sym is) all) }

pub returns-clause-pool : goal.returns-clause-pool
returns-clause-pool c =
    let q : PoolType = c.args.self.now.pool.now in
    All-map (λ (x : PoolType × ℕ). x.0 ≡ q) (λ (e : Entry). (q, e.1)) c.range.result (λ k d lt. refl)

pub returns-clause-extensions : goal.returns-clause-extensions
returns-clause-extensions c =
    let p = pool_of c.pool.inside.tables in
    let m = c.args.self.now.index in
    let n = c.pool.inside.extension_numbers in
    let q : PoolType = c.args.self.now.pool.now in
    let is : c.range.result ≡ filter (λ (e : Entry). in_message m e.0) n.entries = c.range.ensures.between tt in
    let are = extensions_of p m n c.range.ensures.ordered c.pool.invariant.numbers in
    let found = subst (λ (r : PoolType). AreExtensions r m (map (λ e. extension_at r e.1) c.range.result)) c.pool.view_is (subst (λ (es : List Entry). AreExtensions p m (map (λ e. extension_at p e.1) es)) (sym is) are) in
    subst (AreExtensions q m) (sym (map-map extension_in (λ (e : Entry). (q, e.1)) c.range.result)) found
