-- Where options settle to what they are, records stay as they are.
use Rattle.std.proofs.Common.{◌≡◌, ◌+◌, ◌-◌, ◌++◌, ◌∙◌, ℕ, zero, suc, ℤ, List, [], ◌∷◌, map, length, fold, Option, Some, None, MatchOption, slice_get, inl, inr, ap, refl, sym, subst, arith}
use Rattle.std.specs.List.{AllByRecursion}
use Rattle.descriptor_records.specs.Content.{FileContent, file_view, options_view}
use Rattle.descriptor_records.specs.declared.file.FileDescriptorProto.{FileDescriptorProto}
use Rattle.descriptor_records.specs.declared.options.Options.{Options}
use Rattle.descriptor_records.specs.declared.source_info.Location.{Location}
use Rattle.option_parts.specs.Moves.{EditsLocation, EditsLocations, MovesTo}
use Rattle.option_setter.specs.declared.option_setter.NameScope.{NameScope}
use Rattle.reflect_growth.specs.Put.{edited, file_put, with_at}
use Rattle.reflect_growth.specs.declared.settle.Edit.{Edit}
use Rattle.reflect_faults.specs.Spans.{locations}
use Rattle.reflect_options.specs.Entities.{Entity, file_entities}
use Rattle.reflect_options.specs.Settling.{IsScopeOf, Move, SettlesAll, SettlesEntity, SettlesFile, SettlesFiles, SettlesIn, SettlesPool, moves_from, options_path, target_in}
use Rattle.reflect_tables.specs.Types.{PoolType}
use Rattle.protobuf_model.proofs.Arranged.{all_append}
use Rattle.settled_records.proofs.AllOptions.{Said, file_keeps}
use Rattle.settled_records.proofs.InEntities.{entities_of}
use Rattle.settled_records.proofs.OfEntities.{Meets}
use Rattle.settled_records.specs.Themselves.{FilesSettleToThemselves, SettlesToItself}
use Rattle.settled_records.proofs.Standing.{Stands, file_stands}

-- ---- edits
-- an edit that changes nothing
abbrev Idle : List FileContent → Edit → Type 0
Idle fs e = edited fs e ≡ fs

all_idle : (es : List Edit) (fs : List FileContent) → AllByRecursion (Idle fs) es → fold edited fs es ≡ fs
all_idle [] fs idle = refl
all_idle (e ∷ es) fs idle = ap (λ gs. fold edited gs es) idle.0 ∙ all_idle es fs idle.1

-- what leaves the entry at a place leaves the list
pub stays_at : {A B : Type 0} (view : A → B) (change : B → B) (k : ℕ) (xs : List A) (x : A) → slice_get xs k ≡ Some x → change (view x) ≡ view x → with_at k change (map view xs) ≡ map view xs
stays_at view change k [] x there same = absurd (cc there)
stays_at view change zero (y ∷ ys) x there same =
    let is : y ≡ x = cc there in
    ap (λ z. z ∷ map view ys) (subst (λ z. change (view z) ≡ view z) (sym is) same)
stays_at view change (suc k) (y ∷ ys) x there same = ap (λ zs. view y ∷ zs) (stays_at view change k ys x there same)

-- where nothing was set no location moves
locations_idle : (file place : ℕ) (ls : List Location) (es : List Edit) → EditsLocations (target_in []) file place ls es → es ≡ []
locations_idle file place [] es none = none
locations_idle file place (l ∷ ls) es (moved, own, rest, to, edit, others, is) =
    is ∙ ap (λ xs. xs ++ rest) (by moved to edit) ∙ locations_idle file (place + 1) ls rest others
  where
    by : (moved : Option (List ℤ)) → MovesTo (target_in []) l.path.items moved → EditsLocation file place moved own → own ≡ []
    by None to none = none
    by (Some moved) (len, target, front, is, first) edit = absurd (cc front.2)

module _ (pool : PoolType) where
  abbrev files : List FileContent
  files = map file_view pool.records

  -- options that are put at the path of the file are there already
  abbrev Stay : ℕ → Said
  Stay file scope path o = with_at file (file_put path o) files ≡ files

  -- ---- entities
  entity_idle : (c : Entity) (es : List Edit) (ms : List Move) → Meets Stay c → SettlesToItself pool c → SettlesEntity pool c es ms → AllByRecursion (Idle files) es × (ms ≡ [])
  entity_idle c es ms meets itself settles = by c.options refl settles
    where
      by : (x : Option Options) → c.options ≡ x → MatchOption x ((es ≡ []) × (ms ≡ [])) (λ o. (s : NameScope) × IsScopeOf pool c s × SettlesIn c s o es ms)
          → AllByRecursion (Idle files) es × (ms ≡ [])
      by None is (none, still) = (subst (AllByRecursion (Idle files)) (sym none) tt, still)
      by (Some o) is (s, scope, inl (settled, paths, at, settles, placed, one, moves)) =
          let same = itself s o settled paths is scope.pool settles in
          let there : with_at c.file (file_put at.items (options_view settled)) files ≡ files =
          ap (λ p. with_at c.file (file_put p (options_view settled)) files) placed ∙ ap (λ v. with_at c.file (file_put c.path v) files) same.0 ∙ meets o is in (
            subst (AllByRecursion (Idle files)) (sym one) (there, tt),
            moves ∙ ap (moves_from (options_path c) 0) same.1,
          )
      by (Some o) is (s, scope, inr (stay, none, still)) = (subst (AllByRecursion (Idle files)) (sym none) tt, still)

  entities_idle : (cs : List Entity) (es : List Edit) (ms : List Move) → AllByRecursion (Meets Stay) cs → AllByRecursion (SettlesToItself pool) cs → SettlesAll pool cs es ms
      → AllByRecursion (Idle files) es × (ms ≡ [])
  entities_idle [] es ms meet themselves (none, still) = (subst (AllByRecursion (Idle files)) (sym none) tt, still)
  entities_idle (c ∷ cs) es ms meet themselves (own, rest, moved, more, settles, others, is, are) =
      let one = entity_idle c own moved meet.0 themselves.0 settles in
      let all = entities_idle cs rest more meet.1 themselves.1 others in
      (subst (AllByRecursion (Idle files)) (sym is) (all_append (Idle files) own rest one.0 all.0), are ∙ ap (λ xs. xs ++ more) one.1 ∙ all.1)

  -- ---- files
  file_idle : (file : ℕ) (f : FileDescriptorProto) (es : List Edit) → slice_get pool.records file ≡ Some f → AllByRecursion (SettlesToItself pool) (file_entities file f)
      → SettlesFile pool file f es → AllByRecursion (Idle files) es
  file_idle file f es there themselves (options, moved, ms, settles, locates, is) =
      let stand = file_keeps (Stands (file_view f)) (Stay file) (λ scope path o same. stays_at file_view (file_put path o) file pool.records f there same) (file_view f) (file_stands (file_view f)) in
      let all = entities_idle (file_entities file f) options ms (entities_of Stay file f stand) themselves settles in
      let none = locations_idle file 0 (locations f) moved (subst (λ ms. EditsLocations (target_in ms) file 0 (locations f) moved) all.1 locates) in
      subst (AllByRecursion (Idle files)) (sym is) (all_append (Idle files) options moved all.0 (subst (AllByRecursion (Idle files)) (sym none) tt))

  files_idle : (first n : ℕ) (es : List Edit) → FilesSettleToThemselves pool first → SettlesFiles pool first n es → AllByRecursion (Idle files) es
  files_idle first zero es themselves none = subst (AllByRecursion (Idle files)) (sym none) tt
  files_idle first (suc n) es themselves (front, own, f, before, there, settles, is) =
      subst (AllByRecursion (Idle files)) (sym is)
      (all_append (Idle files) front own (files_idle first n front themselves before) (file_idle (first + n) f own there (themselves (first + n) f there (omega arith)) settles))

  pub pool_stays : (first : ℕ) (new : PoolType) → FilesSettleToThemselves pool first → SettlesPool pool first new → map file_view new.records ≡ files
  pool_stays first new themselves settles =
      settles.put ∙ all_idle settles.edits files (files_idle first (length pool.files - first) settles.edits themselves settles.settled)
