-- Where options stand, in pools whose batches brought the same files in another order.
use Rattle.std.specs.Prelude.{◌≡◌, ◌++◌, ℕ, List, Some, Contains, map, slice_get}
use Rattle.descriptor_records.specs.Content.{Text, FileContent, unlocated}
use Rattle.option_setter.specs.declared.option_setter.NameScope.{NameScope}
use Rattle.reflect_options.specs.Settling.{SeesFrom}
use Rattle.reflect_pool.specs.Imports.{names_of_files}
use Rattle.reflect_tables.specs.Types.{PoolType}
use Rattle.schema_view.specs.Lawful.{Builds, SameFiles, sources}
use Rattle.schema_view.specs.Plain.{IsPlainFile}
use Rattle.types_view.specs.Pools.{IsPool}
use Rattle.types_view.specs.Typed.{IsTyped}

-- names of options are looked up in a pool that the batches built, in the file of this name, and in
-- this scope
pub record StandsIn (batches : List (List FileContent)) (p : PoolType) (s : NameScope)
    (file scope : Text) : Type 0 where
  pub typed : IsTyped batches p
  pub whole : IsPool p
  pub index : ℕ
  pub there : slice_get (names_of_files p.files) index ≡ Some file
  pub in_pool : s.pool.now ≡ p
  pub seen : SeesFrom p index s.seen.now
  pub name : s.name.now ≡ scope

-- batches, the last of them first, behind which others may come so that the same files are there,
-- but for lines, columns and comments, and their names have no dots
pub record HaveOneEnd (batches others : List (List FileContent)) : Type 0 where
  pub more : List (List FileContent)
  pub further : List (List FileContent)
  pub after : List FileContent
  pub last : List FileContent
  pub built : Builds (more ++ batches) after
  pub also : Builds (further ++ others) last
  pub plain : (f : FileContent) → Contains (sources (more ++ batches)) f → IsPlainFile f
  pub same : SameFiles (map unlocated (sources (more ++ batches)))
      (map unlocated (sources (further ++ others)))
