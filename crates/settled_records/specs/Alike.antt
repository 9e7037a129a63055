-- Entities of one file in two pools, whose options settle alike.
use Rattle.std.specs.Prelude.{◌≡◌, ℕ, ℤ, List, Some, option_map}
use Rattle.std.specs.List.{AllZip}
use Rattle.descriptor_records.specs.Content.{options_view}
use Rattle.descriptor_records.specs.declared.file.FileDescriptorProto.{FileDescriptorProto}
use Rattle.descriptor_records.specs.declared.options.Options.{Options}
use Rattle.option_setter.specs.declared.option_setter.NameScope.{NameScope}
use Rattle.reflect_options.specs.Entities.{Entity, file_entities}
use Rattle.reflect_options.specs.Settled.{Settles, StayAsTheyAre}
use Rattle.reflect_options.specs.Settling.{IsScopeOf}
use Rattle.reflect_tables.specs.Types.{PoolType}
use Rattle.settled_records.specs.Themselves.{SettlesToItself}

-- the same in its file: what it is, where it stands, from where names are looked up, and its
-- options
pub record IsSameEntity (c d : Entity) : Type 0 where
  pub scope : c.scope ≡ d.scope
  pub path : c.path ≡ d.path
  pub number : c.number ≡ d.number
  pub name : c.name ≡ d.name
  pub options : option_map options_view c.options ≡ option_map options_view d.options

-- Where both pools have a type for its options, they settle to the same, along the same paths; where
-- one of them has none, so that they stay as they are there, they settle to just what they are in
-- the other, if it has one.
pub record SettleAlike (p q : PoolType) (c d : Entity) : Type 0 where
  pub here : (o : Options) (s : NameScope) → c.options ≡ Some o → IsScopeOf p c s
      → StayAsTheyAre c.scope s o → SettlesToItself q d
  pub there : (o : Options) (s : NameScope) → d.options ≡ Some o → IsScopeOf q d s
      → StayAsTheyAre d.scope s o → SettlesToItself p c
  pub alike : (o x settled other : Options) (s t : NameScope) (paths ways : List (List ℤ))
      → c.options ≡ Some o → d.options ≡ Some x → IsScopeOf p c s → IsScopeOf q d t
      → Settles c.scope s o (options_view settled) paths
      → Settles d.scope t x (options_view other) ways
      → (options_view settled ≡ options_view other) × (paths ≡ ways)

-- so it is of all entities of two files, one after another
abbrev pub AllSettleAlike : (p q : PoolType) → (i j : ℕ) → (f g : FileDescriptorProto) → Type 0
AllSettleAlike p q i j f g =
    AllZip (SettleAlike p q) (file_entities i f) (file_entities j g)
