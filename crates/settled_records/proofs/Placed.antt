-- The edits that settle a file are edits of that file.
use Rattle.std.proofs.Common.{◌≡◌, ◌≤◌, ◌+◌, ◌∙◌, ℕ, zero, suc, ℤ, List, [], ◌∷◌, Option, Some, None, MatchOption, inl, inr, refl, sym, subst, arith}
use Rattle.std.specs.List.{AllByRecursion}
use Rattle.descriptor_records.specs.Content.{file_view}
use Rattle.descriptor_records.specs.declared.file.FileDescriptorProto.{FileDescriptorProto}
use Rattle.descriptor_records.specs.declared.options.Options.{Options}
use Rattle.descriptor_records.specs.declared.source_info.Location.{Location}
use Rattle.option_parts.specs.Moves.{EditsLocation, EditsLocations, Targets}
use Rattle.option_setter.specs.declared.option_setter.NameScope.{NameScope}
use Rattle.protobuf_model.proofs.Arranged.{all_append}
use Rattle.reflect_growth.specs.declared.settle.Edit.{Edit}
use Rattle.reflect_faults.specs.Spans.{locations}
use Rattle.reflect_options.specs.Entities.{Entity, file_entities}
use Rattle.reflect_options.specs.Settling.{IsScopeOf, Move, SettlesAll, SettlesEntity, SettlesFile, SettlesFiles, SettlesIn, target_in}
use Rattle.reflect_tables.specs.Types.{PoolType}
use Rattle.settled_records.proofs.Changes.{IsElsewhere, IsOf}
use Rattle.settled_records.proofs.AllOptions.{Said, file_keeps}
use Rattle.settled_records.proofs.InEntities.{entities_of}
use Rattle.settled_records.proofs.OfEntities.{Meets}
use Rattle.settled_records.proofs.Standing.{Stands, file_stands}

-- options of an entity of the file of an index
abbrev InFileOf : ℕ → ℕ → Said
InFileOf k file scope path o = file ≡ k

-- each entity of a file is in that file
in_own_file : (k : ℕ) (f : FileDescriptorProto) → AllByRecursion (Meets (InFileOf k)) (file_entities k f)
in_own_file k f = entities_of (InFileOf k) k f (file_keeps (Stands (file_view f)) (InFileOf k k) (λ scope path o stands. refl) (file_view f) (file_stands (file_view f)))

no_edits : (k : ℕ) (es : List Edit) → es ≡ [] → AllByRecursion (IsOf k) es
no_edits k es none = subst (AllByRecursion (IsOf k)) (sym none) tt

module _ (pool : PoolType) (k : ℕ) where
  entity_edits : (c : Entity) (es : List Edit) (ms : List Move) → Meets (InFileOf k) c → SettlesEntity pool c es ms → AllByRecursion (IsOf k) es
  entity_edits c es ms meets settles = by c.options refl settles
    where
      by : (x : Option Options) → c.options ≡ x → MatchOption x ((es ≡ []) × (ms ≡ [])) (λ o. (s : NameScope) × IsScopeOf pool c s × SettlesIn c s o es ms) → AllByRecursion (IsOf k) es
      by None is (none, still) = no_edits k es none
      by (Some o) is (s, scope, inl (settled, paths, at, settles, placed, single, moves)) = subst (AllByRecursion (IsOf k)) (sym single) (meets o is, tt)
      by (Some o) is (s, scope, inr (stay, none, still)) = no_edits k es none

  entities_edits : (cs : List Entity) (es : List Edit) (ms : List Move) → AllByRecursion (Meets (InFileOf k)) cs → SettlesAll pool cs es ms → AllByRecursion (IsOf k) es
  entities_edits [] es ms meet (none, still) = no_edits k es none
  entities_edits (c ∷ cs) es ms meet (own, rest, moved, more, settles, others, is, are) =
      subst (AllByRecursion (IsOf k)) (sym is) (all_append (IsOf k) own rest (entity_edits c own moved meet.0 settles) (entities_edits cs rest more meet.1 others))

  location_edits : (place : ℕ) (to : Option (List ℤ)) (es : List Edit) → EditsLocation k place to es → AllByRecursion (IsOf k) es
  location_edits place None es none = no_edits k es none
  location_edits place (Some to) es (path, items, single) = subst (AllByRecursion (IsOf k)) (sym single) (refl, tt)

  locations_edits : (targets : Targets) (place : ℕ) (ls : List Location) (es : List Edit) → EditsLocations targets k place ls es → AllByRecursion (IsOf k) es
  locations_edits targets place [] es none = no_edits k es none
  locations_edits targets place (l ∷ ls) es (to, own, rest, moves, edit, others, is) =
      subst (AllByRecursion (IsOf k)) (sym is) (all_append (IsOf k) own rest (location_edits place to own edit) (locations_edits targets (place + 1) ls rest others))

  pub file_edits : (f : FileDescriptorProto) (es : List Edit) → SettlesFile pool k f es → AllByRecursion (IsOf k) es
  file_edits f es (options, moved, ms, settles, locates, is) =
      subst (AllByRecursion (IsOf k)) (sym is)
      (all_append (IsOf k) options moved (entities_edits (file_entities k f) options ms (in_own_file k f) settles) (locations_edits (target_in ms) 0 (locations f) moved locates))

-- ---- they leave other files
pub all_elsewhere : (k i : ℕ) → (k ≡ i → ⊥) → (es : List Edit) → AllByRecursion (IsOf k) es → AllByRecursion (IsElsewhere i) es
all_elsewhere k i apart [] all = tt
all_elsewhere k i apart (e ∷ es) all = ((λ is. apart (sym all.0 ∙ is)), all_elsewhere k i apart es all.1)

-- those of files before one of them
pub files_elsewhere : (pool : PoolType) (first n i : ℕ) (es : List Edit) → first + n ≤ i → SettlesFiles pool first n es → AllByRecursion (IsElsewhere i) es
files_elsewhere pool first zero i es before none = subst (AllByRecursion (IsElsewhere i)) (sym none) tt
files_elsewhere pool first (suc n) i es before (front, own, f, settled, there, settles, is) =
    let earlier : first + n ≤ i = omega arith in
    let apart : first + n ≡ i → ⊥ = λ e. omega arith in
    subst (AllByRecursion (IsElsewhere i)) (sym is)
    (all_append (IsElsewhere i) front own (files_elsewhere pool first n i front earlier settled)
    (all_elsewhere (first + n) i apart own (file_edits pool (first + n) f own settles)))
