-- The edits that settle files: each puts what the options of an entity settle to, or moves a location.
use Rattle.std.specs.declared.alloc.Global.{Global}
use Rattle.std.proofs.Common.{◌≡◌, ◌≤◌, ◌+◌, ℕ, zero, suc, ℤ, List, [], ◌∷◌, Option, Some, None, MatchOption, Vec, slice_get, inl, inr, refl, sym, subst, arith}
use Rattle.std.specs.List.{AllByRecursion}
use Rattle.descriptor_records.specs.Content.{options_view}
use Rattle.descriptor_records.specs.declared.file.FileDescriptorProto.{FileDescriptorProto}
use Rattle.descriptor_records.specs.declared.options.Options.{Options}
use Rattle.descriptor_records.specs.declared.source_info.Location.{Location}
use Rattle.option_parts.specs.Moves.{EditsLocation, EditsLocations}
use Rattle.option_setter.specs.declared.option_setter.NameScope.{NameScope}
use Rattle.reflect_growth.specs.declared.settle.Edit.{Edit}
use Rattle.reflect_growth.specs.declared.settle.Edit.TheVariants as edits
use Rattle.reflect_faults.specs.Spans.{locations}
use Rattle.reflect_options.specs.Entities.{Entity, file_entities}
use Rattle.reflect_options.specs.Settled.{Settles}
use Rattle.reflect_options.specs.Settling.{IsScopeOf, Move, SettlesAll, SettlesEntity, SettlesFiles, SettlesIn, target_in}
use Rattle.reflect_tables.specs.Types.{PoolType}
use Rattle.protobuf_model.proofs.Arranged.{all_append}

module _ (pool : PoolType) (P : Edit → Type 0) (moved : (file place : ℕ) (path : Vec ℤ Global) → P (edits.Location file place path)) where
  -- so it is of the edit of an entity
  abbrev pub EditsEntity : Entity → Type 0
  EditsEntity c = (s : NameScope) (o settled : Options) (paths : List (List ℤ)) (at : Vec ℤ Global) → c.options ≡ Some o → s.pool.now ≡ pool
      → Settles c.scope s o (options_view settled) paths → at.items ≡ c.path → P (edits.Options c.file at settled)

  -- in the files from an index on
  abbrev pub EditsFrom : ℕ → Type 0
  EditsFrom first = (k : ℕ) (f : FileDescriptorProto) → slice_get pool.records k ≡ Some f → first ≤ k → AllByRecursion EditsEntity (file_entities k f)

  entity_edits : (c : Entity) (es : List Edit) (ms : List Move) → EditsEntity c → SettlesEntity pool c es ms → AllByRecursion P es
  entity_edits c es ms edit settles = by c.options refl settles
    where
      by : (x : Option Options) → c.options ≡ x → MatchOption x ((es ≡ []) × (ms ≡ [])) (λ o. (s : NameScope) × IsScopeOf pool c s × SettlesIn c s o es ms) → AllByRecursion P es
      by None is (none, still) = subst (AllByRecursion P) (sym none) tt
      by (Some o) is (s, scope, inl (settled, paths, at, settles, placed, one, moves)) = subst (AllByRecursion P) (sym one) (edit s o settled paths at is scope.pool settles placed, tt)
      by (Some o) is (s, scope, inr (stay, none, still)) = subst (AllByRecursion P) (sym none) tt

  entities_edits : (cs : List Entity) (es : List Edit) (ms : List Move) → AllByRecursion EditsEntity cs → SettlesAll pool cs es ms → AllByRecursion P es
  entities_edits [] es ms edit (none, still) = subst (AllByRecursion P) (sym none) tt
  entities_edits (c ∷ cs) es ms edit (own, rest, moved, more, settles, others, is, are) =
      subst (AllByRecursion P) (sym is) (all_append P own rest (entity_edits c own moved edit.0 settles) (entities_edits cs rest more edit.1 others))

  pub locations_edits : (ms : List Move) (file place : ℕ) (ls : List Location) (es : List Edit) → EditsLocations (target_in ms) file place ls es → AllByRecursion P es
  locations_edits ms file place [] es none = subst (AllByRecursion P) (sym none) tt
  locations_edits ms file place (l ∷ ls) es (to, own, rest, moves, edit, others, is) =
      subst (AllByRecursion P) (sym is) (all_append P own rest (by to edit) (locations_edits ms file (place + 1) ls rest others))
    where
      by : (to : Option (List ℤ)) → EditsLocation file place to own → AllByRecursion P own
      by None none = subst (AllByRecursion P) (sym none) tt
      by (Some to) (path, items, one) = subst (AllByRecursion P) (sym one) (moved file _ path, tt)

  pub files_edits : (first n : ℕ) (es : List Edit) → EditsFrom first → SettlesFiles pool first n es → AllByRecursion P es
  files_edits first zero es edit none = subst (AllByRecursion P) (sym none) tt
  files_edits first (suc n) es edit (front, own, f, before, there, (options, moves, ms, settles, locates, both), is) =
      let one = entities_edits (file_entities (first + n) f) options ms (edit (first + n) f there (omega arith)) settles in
      let here = subst (AllByRecursion P) (sym both) (all_append P options moves one (locations_edits ms (first + n) 0 (locations f) moves locates)) in
      subst (AllByRecursion P) (sym is) (all_append P front own (files_edits first n front edit before) here)
