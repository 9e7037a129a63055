-- Whoever lends a pool owns its parts, and with each part goes what the part's type says of it.
use Rattle.std.proofs.Common.{◌≡◌, ◌∙◌, ◌<◌, ℕ, List, [], ◌∷◌, Some, map, length, suc, slice_get, refl, sym, ap, subst, w32, arith}
use Rattle.std.specs.List.{AllByRecursion}
use Rattle.std.specs.Prelude.{FitsSigned}
use Rattle.std.proofs.raw_atomic.Walks.{proved}
use base.Fml.{ftrue, flft}
use mir.Syntax.{named}
use mir.Val.{vunit}
use contract.Monad.{fact}
use types.Kit.{‵, raw, ◌⊛◌, ◌$◌, ◌∵◌, !, qed, move, keep, use1, split, join, feq_i, suffices, frame, done}
use types.Run.{enter, of_opd, unit_lit, returns}
use types.ByLocal.{alloc_all, pass_all, free_all, look_at, sets}
use denote.Exit.{yes}
use denote.Known.{Known, All, nothing_known, sint_known, declared_known, struct_known, view_known, shr_known}
use denote.Ref.{ShrRef, shr_vals, shr_Tells}
use denote.Signature.{plain, shr_ref_to}
use denote.Steps.{nothing, heard}
use denote.Struct.Declared.{shape}
use denote.Triple.Walked.{Stays, says, stay_dropped, Goes-dropped, ends_at}
use Rattle.std.specs.contracts.alloc.Global as global
use Rattle.std.specs.contracts.impls.GlobalAllocator.TheImpl as allocator
use Rattle.std_alloc.specs.formers.vec.Vec as vec
use Rattle.reflect_tables.specs.contracts.lists.ValueList as list
use Rattle.reflect_tables.specs.contracts.stored.StoredEnum as enum
use Rattle.reflect_tables.specs.contracts.stored.StoredValue as value
use Rattle.reflect_tables.specs.contracts.tables.Tables as tables
use Rattle.reflect_tables.specs.declared.stored.StoredEnum.{StoredEnum}
use Rattle.reflect_tables.specs.declared.stored.StoredValue.{StoredValue}
use Rattle.reflect_tables.specs.ExtensionNumbers.{KeyType, Numbers, numbers_of}
use Rattle.reflect_tables.specs.Names.{AreNamed, names_of}
use Rattle.reflect_tables.specs.Types.{PoolType, ValueType, extension_at, no_extension}
use Rattle.reflect_scope.specs.Known.{known_of}
use Rattle.reflect_tables.specs.Views.{enum_of, value_of, pool_of}
use Rattle.message_view.proofs.Sound.{distinct}
use Rattle.reflect_pool.specs.Linked.{AreNumbered, key_of}
use Rattle.reflect_index.proofs.Among.{get_at, get_map}
use Rattle.reflect_pool.specs.contracts.pool.DescriptorPool as pool
use Rattle.reflect_pool.specs.contracts.pool.DescriptorPool.TheInside as inside
use Rattle.message_view.specs.Sound.{HasNumbers}
use Rattle.linked_view.specs.Kept.{ExtensionsAreApart, IsKept}
use Rattle.linked_view.specs.Alone.{IsRecorded}
use Rattle.linked_view.specs.Extended.{IsIndexed}
use Rattle.linked_view.specs.Pools.{IsPool}
use Rattle.linked_view.specs.contracts.pools.pools_are_whole as f
use Rattle.linked_view.proofs.pools.pools_are_whole.Statement.{statement}
use Rattle.linked_view.proofs.pools.pools_are_whole.Code as code

abbrev value_known : Known value.the_row
value_known = declared_known value.the_type
    (nothing_known _, (nothing_known _, (nothing_known _, (sint_known w32, tt))))

abbrev enum_known : Known enum.the_row
enum_known = declared_known enum.the_type (
  nothing_known _,
  (
    nothing_known _,
    (
      nothing_known _,
      (
        nothing_known _,
        (
          nothing_known _,
          (
            struct_known (shape list.the_type) (
              vec.the_facts value.the_row global.the_row allocator.ghosts value_known
                  (nothing_known _),
              (nothing_known _, (nothing_known _, tt)),
            ),
            tt,
          ),
        ),
      ),
    ),
  ),
)

abbrev pool_known : Known pool.the_row
pool_known = view_known inside.the_row (declared_known inside.the_type (
  struct_known (shape tables.the_type) (
    nothing_known _,
    (
      nothing_known _,
      (
        vec.the_facts enum.the_row global.the_row allocator.ghosts enum_known (nothing_known _),
        (nothing_known _, (nothing_known _, tt)),
      ),
    ),
  ),
  (nothing_known _, (nothing_known _, (nothing_known _, (nothing_known _, tt)))),
))
    _ _ _ _

value_fits : (vs : List StoredValue) → All value_known.Fact vs
    → AllByRecursion (λ (v : ValueType). FitsSigned w32 v.number) (map value_of vs)
value_fits [] h = tt
value_fits (v ∷ vs) h = (
  record { sfits = (h 0 v (omega arith)).1.1.1.0 },
  value_fits vs
      (λ i d lt. h (suc i) d (omega (arith, lt))),
)

enum_fits : (es : List StoredEnum) → All enum_known.Fact es
    → AllByRecursion HasNumbers (map enum_of es)
enum_fits [] h = tt
enum_fits (e ∷ es) h = (
  value_fits e.values.list.items (h 0 e (omega arith)).1.1.1.1.1.0.0,
  enum_fits es
      (λ i d lt. h (suc i) d (omega (arith, lt))),
)

-- a message and a number stand for one place among extensions
apart : (p : PoolType) (numbers : Numbers) → AreNumbered numbers (map key_of p.extensions)
    → ExtensionsAreApart p
apart p numbers h j k lt less to number =
    let at = λ (i : ℕ) (less : i < length p.extensions).
    (h (key_of (extension_at p i)) i).1 (get_map key_of p.extensions i (extension_at p i)
    (get_at p.extensions i no_extension less)) in
    let same : key_of (extension_at p j) ≡ key_of (extension_at p k) =
    λ i. (to i, number i) in
    let one : Some j ≡ Some k = sym (at j lt) ∙ ap numbers same ∙ at k less in cc one

one_place : (numbers : Numbers) (keys : List KeyType) → AreNumbered numbers keys → (k : KeyType)
    (i j : ℕ) → slice_get keys i ≡ Some k → slice_get keys j ≡ Some k → i ≡ j
one_place numbers keys h k i j e f =
    let same : Some i ≡ Some j = sym ((h k i).1 e) ∙ (h k j).1 f in cc same

recorded : (p : PoolType) → pool_known.Fact p → IsRecorded p
recorded p (a, (view, linked), known) =
    subst IsRecorded view (record { headers = linked.headers; imports = linked.imports })

indexed : (p : PoolType) → pool_known.Fact p → IsIndexed p
indexed p (a, (view, linked), known) =
    subst IsIndexed view (record {
      named = subst (λ k. AreNamed k (names_of (pool_of a.tables))) linked.known linked.named;
      numbers = one_place (numbers_of a.extension_numbers) (map key_of (pool_of a.tables).extensions) linked.numbers;
    })

kept : (p : PoolType) → pool_known.Fact p → IsKept p
kept p (a, (view, linked), known) =
    subst IsKept view (record {
      pooled = linked.pooled;
      names =
          distinct (pool_of a.tables) (known_of a.names) linked.named;
      numbers =
          enum_fits a.tables.enums.items known.0.1.1.0;
      extensions = apart (pool_of a.tables) (numbers_of a.extension_numbers) linked.numbers;
    })

whole : (p : PoolType) → pool_known.Fact p → IsPool p
whole p known = record { recorded = recorded p known; indexed = indexed p known; kept = kept p known }

abbrev stayed : Stays f.ended.signature.params f.ended.kept
stayed = (stay_dropped _ yes, tt)

pub pools_are_whole_spec : {M : Type 1} → statement M
pools_are_whole_spec {M = M} 𝓤 𝓛 𝓜 𝓡 wired =
    let c = f.clauses 𝓛 𝓜.mem 𝓡.returns in
    proved 𝓛 f.ended stayed c 𝓜 𝓡 (
      Goes-dropped 𝓛 1 (shr_ref_to (0 ∷ []) tt (plain (λ _. pool.the_row))) yes (λ κs x w. refl),
      tt,
    )
    f.Key.name code.function (code.unfolded 𝓤 𝓛.H 𝓜 𝓡 wired)
    (λ κs. (shr_vals, tt)) (λ κs. (shr_Tells (named 0) κs.0 pool.the_row, tt))
    (λ κs qs bounds a _ are.
    let vs = shr_vals a.0 in
    qed 𝓛 (((‵ (flft κs.0 qs.0) ⊛ ‵ ftrue) ⊛ ‵ ((ShrRef (named 0) κs.0 pool.the_row).own_val a.0 vs)
    ⊛ ‵ ftrue) ∷ ‵ ftrue ∷ []) ∵
    split ! $ split ! $ move ! (2 ∷ []) $ split ! $
    use1 𝓛 (raw (fact 𝓤 (pool_known.Fact a.0.now)))
    (((shr_known pool.the_row pool_known (named 0) κs.0).owned a.0 vs).go M 𝓤 𝓛)
    $ heard ! _ (λ known.
    keep ! (1 ∷ []) $ enter ! _ _ _ _ _ $ alloc_all ! (λ l. pass_all ! refl ((tt, tt), tt) $
    sets ! (of_opd ! (unit_lit !)) refl (tt, tt) $ returns ! (look_at ! 0 refl) $ free_all ! refl $
    suffices ! _ (ends_at 𝓛 f.ended stayed c ((κs, qs, bounds, a, (vs, tt)), tt) vunit tt (tt, tt)
    (tt, tt)) $ says ! (whole a.0.now known) $
    nothing ! $ move ! (1 ∷ 0 ∷ []) $ join ! $ frame ! $ nothing ! $ nothing ! $ join ! $ frame !
    $ feq_i ! _ (vunit ∷ []) _ refl $ done !)))
