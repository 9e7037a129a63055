-- Schemas that came about by what was added to a schema without files, one after the other.
use Rattle.std.specs.Prelude.{◌≡◌, ℕ, List, [], ◌∷◌, map}
use Rattle.descriptor_records.specs.Content.{FileContent, file_view}
use Rattle.descriptor_records.specs.declared.file.FileDescriptorProto.{FileDescriptorProto}
use Rattle.option_parts.specs.TypedOptions.{TypedFiles}
use Rattle.reflect_build.specs.Refusals.{IsOf, Linking, new_files}
use Rattle.reflect_pool.specs.Linked.{empty_pool}
use Rattle.reflect_tables.specs.Types.{PoolType}
use Rattle.schema_core.specs.Refusals.{AreFilesOf, IsPool, SetLinked, SourcesLinked}
use Rattle.schema_core.specs.declared.schema.Schema.{Schema}

-- these were added to a schema without files, the last of them first, and it became this one;
-- `Linked` says what one of them makes of a pool
abbrev pub IsMadeBy : {A : Type 0} → (PoolType → A → PoolType → Type 0) → List A → Schema → Type 0
IsMadeBy Linked [] s = s.pool ≡ empty_pool
IsMadeBy Linked (last ∷ earlier) s =
    (old : Schema) × IsMadeBy Linked earlier old × Linked old.pool last s.pool × IsPool s.pool

-- a source's name and text
abbrev pub Source : Type 0
Source = List ℕ × List ℕ

-- sources that are added together
abbrev pub Sources : Type 0
Sources = List Source

-- what is added together: sources, or the bytes of a descriptor set
pub data Addition : Type 0 where
  of_sources : Sources → Addition
  of_set : List ℕ → Addition

abbrev pub AdditionLinked : PoolType → Addition → PoolType → Type 0
AdditionLinked old (of_sources given) new = SourcesLinked old given new
AdditionLinked old (of_set bytes) new = SetLinked old bytes new

-- such were added to a schema without files, and it became this one
abbrev pub IsGrown : Schema → Type 0
IsGrown s = (additions : List Addition) × IsMadeBy AdditionLinked additions s

-- of the files that these sources are, with the options that linking reads where it reads them,
-- those that a pool has not yet
abbrev pub AreNewFilesOf : PoolType → Sources → List FileContent → Type 0
AreNewFilesOf p given batch = (files typed : List FileDescriptorProto) × (w : Linking)
    × AreFilesOf given files × TypedFiles files typed × IsOf p w
    × (map file_view (new_files w.indexes typed) ≡ batch)

-- sources were added with which these files came
pub record BatchLinked (old : PoolType) (batch : List FileContent) (new : PoolType) : Type 0 where
  pub given : Sources
  pub linked : SourcesLinked old given new
  pub files : AreNewFilesOf old given batch
