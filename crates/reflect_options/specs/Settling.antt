-- What settling the options of files puts into their records, and why it is refused.
use Rattle.std.specs.declared.alloc.Global.{Global}
use Rattle.std.specs.Prelude.{◌≡◌, ◌<◌, ◌↔◌, ◌⊎◌, ◌+◌, ◌-◌, ◌++◌, [], ◌∷◌, ℕ, zero, suc, ℤ, pos, cond, fold, List, MatchOption, Option, None, Some, Vec, IsTrue, length, map, slice_get}
use Rattle.std.specs.Option.{option_or}
use Rattle.descriptor_records.specs.Content.{file_view, options_view}
use Rattle.descriptor_records.specs.declared.file.FileDescriptorProto.{FileDescriptorProto}
use Rattle.descriptor_records.specs.declared.options.Options.{Options}
use Rattle.option_parts.specs.Moves.{EditsLocations, Targets}
use Rattle.option_parts.specs.OptionTypes.{CanRead, TellsType}
use Rattle.option_parts.specs.Places.{IsPlaceIn}
use Rattle.option_parts.specs.declared.option_error.OptionErrorKind.{OptionErrorKind}
use Rattle.option_parts.specs.declared.option_scope.OptionScope.{OptionScope}
use Rattle.option_setter.specs.SetOptions.{place_of}
use Rattle.option_setter.specs.declared.option_setter.NameScope.{NameScope}
use Rattle.reflect_growth.specs.Put.{edited}
use Rattle.reflect_growth.specs.declared.settle.Edit.{Edit}
use Rattle.reflect_growth.specs.declared.settle.Edit.TheVariants as edits
use Rattle.reflect_faults.specs.Faults.{Place}
use Rattle.reflect_faults.specs.Spans.{locations, same_path}
use Rattle.reflect_pool.specs.Imports.{imported_places, place_named}
use Rattle.reflect_scope.specs.FileIndexes.{link_view}
use Rattle.reflect_scope.specs.Seen.{tells}
use Rattle.reflect_scope.specs.Sees.{Sees}
use Rattle.reflect_scope.specs.declared.seen.Links.{Links}
use Rattle.reflect_scope.specs.declared.seen.SeenFiles.{SeenFiles}
use Rattle.reflect_tables.specs.Types.{PoolType}
use Rattle.reflect_options.specs.Entities.{Entity, file_entities}
use Rattle.reflect_options.specs.Settled.{RefusesOptions, Settles, StayAsTheyAre}

-- ---- where locations move
-- an option's path, and where it was set
abbrev pub Move : Type 0
Move = List ℤ × List ℤ

-- of a path that moves twice the last move counts
abbrev pub target_in : List Move → Targets
target_in [] path = None
target_in (m ∷ ms) path = option_or (target_in ms path)
    (cond (same_path m.0 path) (Some m.1) None)

-- the path of an entity's options, and of those that a source wrote the one at a place
abbrev pub options_path : Entity → List ℤ
options_path c = c.path ++ (c.number ∷ [])

abbrev pub written_path : List ℤ → ℕ → List ℤ
written_path options place = options ++ (pos 999 ∷ place_of place ∷ [])

-- the options from a place on were set along these paths
abbrev pub moves_from : List ℤ → ℕ → List (List ℤ) → List Move
moves_from options place [] = []
moves_from options place (path ∷ paths) = (written_path options place, options ++ path)
    ∷ moves_from options (place + 1) paths

-- ---- one entity
-- the files that a file of the pool sees
abbrev pub SeesFrom : PoolType → ℕ → SeenFiles → Type 0
SeesFrom pool file seen = (links : List Links)
    × (map link_view links ≡ map (imported_places (place_named pool)) pool.files)
    × ((g : ℕ) → g < length links → (IsTrue (tells seen g) ↔ Sees links file g))

-- where names in the entity's options are looked up
pub record IsScopeOf (p : PoolType) (c : Entity) (s : NameScope) : Type 0 where
  pub pool : s.pool.now ≡ p
  pub seen : SeesFrom p c.file s.seen.now
  pub name : s.name.now ≡ c.name

-- its options are settled by an edit, and these moves
abbrev pub SettlesBy : Entity → NameScope → Options → List Edit → List Move → Type 0
SettlesBy c s o es ms =
    (settled : Options) × (paths : List (List ℤ)) × (at : Vec ℤ Global)
    × Settles c.scope s o (options_view settled) paths × (at.items ≡ c.path)
    × (es ≡ edits.Options c.file at settled ∷ []) × (ms ≡ moves_from (options_path c) 0 paths)

-- or stay as they are
abbrev pub SettlesIn : Entity → NameScope → Options → List Edit → List Move → Type 0
SettlesIn c s o es ms = SettlesBy c s o es ms
    ⊎ (StayAsTheyAre c.scope s o × (es ≡ []) × (ms ≡ []))

-- what settles an entity; nothing where it has no options
abbrev pub SettlesEntity : PoolType → Entity → List Edit → List Move → Type 0
SettlesEntity pool c es ms = MatchOption c.options ((es ≡ []) × (ms ≡ []))
    (λ o. (s : NameScope) × IsScopeOf pool c s × SettlesIn c s o es ms)

-- where the fault in its options stands
abbrev pub fault_path : Entity → Option ℕ → List ℤ
fault_path c None = options_path c
fault_path c (Some place) = written_path (options_path c) place

-- its options are refused, for this at this path
abbrev pub RefusesEntity : PoolType → Entity → List ℤ → OptionErrorKind → Type 0
RefusesEntity pool c path e =
    (o : Options) × (s : NameScope) × (at : Option ℕ) × (c.options ≡ Some o)
    × IsScopeOf pool c s × RefusesOptions c.scope s o at e × (path ≡ fault_path c at)

-- ---- a file
abbrev pub SettlesAll : PoolType → List Entity → List Edit → List Move → Type 0
SettlesAll pool [] es ms = (es ≡ []) × (ms ≡ [])
SettlesAll pool (c ∷ cs) es ms =
    (own rest : List Edit) × (moved more : List Move) × SettlesEntity pool c own moved
    × SettlesAll pool cs rest more × (es ≡ own ++ rest) × (ms ≡ moved ++ more)

-- its options are settled by these edits, in the order of its declarations; then the locations that
-- stand at options move
abbrev pub SettlesFile : PoolType → ℕ → FileDescriptorProto → List Edit → Type 0
SettlesFile pool file f es =
    (options moved : List Edit) × (ms : List Move)
    × SettlesAll pool (file_entities file f) options ms
    × EditsLocations (target_in ms) file 0 (locations f) moved × (es ≡ options ++ moved)

-- the first of its entities whose options are refused, for this at this path
abbrev pub RefusesFile : PoolType → ℕ → FileDescriptorProto → List ℤ → OptionErrorKind → Type 0
RefusesFile pool file f path e =
    (front back : List Entity) × (c : Entity) × (es : List Edit) × (ms : List Move)
    × (file_entities file f ≡ front ++ (c ∷ back))
    × SettlesAll pool front es ms × RefusesEntity pool c path e

-- ---- the files of a pool from an index on, so many of them
abbrev pub SettlesFiles : PoolType → ℕ → ℕ → List Edit → Type 0
SettlesFiles pool first zero es = es ≡ []
SettlesFiles pool first (suc n) es =
    (front own : List Edit) × (f : FileDescriptorProto) × SettlesFiles pool first n front
    × (slice_get pool.records (first + n) ≡ Some f) × SettlesFile pool (first + n) f own
    × (es ≡ front ++ own)

-- all of them
abbrev pub SettlesFrom : PoolType → ℕ → List Edit → Type 0
SettlesFrom pool first = SettlesFiles pool first (length pool.files - first)

-- the first whose options are refused, for this at this place
abbrev pub RefusesAtPlace : PoolType → ℕ → Place → OptionErrorKind → Type 0
RefusesAtPlace pool first p e =
    (n : ℕ) × (es : List Edit) × (f : FileDescriptorProto) × SettlesFiles pool first n es
    × (slice_get pool.records (first + n) ≡ Some f) × RefusesFile pool (first + n) f p.path e
    × IsPlaceIn f p

-- a type of options is none to read options by; or all are, and options are refused
abbrev pub RefusesFrom : PoolType → ℕ → Option Place → OptionErrorKind → Type 0
RefusesFrom pool first None e = TellsType (CanRead pool) e
RefusesFrom pool first (Some p) e =
    ((scope : OptionScope) → CanRead pool scope) × RefusesAtPlace pool first p e

-- the options of the files from an index on are settled, and nothing else is changed in records
pub record SettlesPool (old : PoolType) (first : ℕ) (new : PoolType) : Type 0 where
  pub readable : (scope : OptionScope) → CanRead old scope
  pub edits : List Edit
  pub settled : SettlesFrom old first edits
  pub put : map file_view new.records ≡ fold edited (map file_view old.records) edits
