-- What becomes of the entities of files whose options are settled.
use Rattle.std.specs.Prelude.{◌≡◌, ◌⊎◌, ℤ, List, Option, None, Some}
use Rattle.descriptor_records.specs.Content.{options_view}
use Rattle.descriptor_records.specs.declared.options.Options.{Options}
use Rattle.option_setter.specs.declared.option_setter.NameScope.{NameScope}
use Rattle.reflect_options.specs.Entities.{Entity}
use Rattle.reflect_options.specs.Settled.{Settles, StayAsTheyAre}
use Rattle.reflect_options.specs.Settling.{IsScopeOf}
use Rattle.reflect_tables.specs.Types.{PoolType}

-- where an entity has options, they settle to those that it has afterwards, or stay as they are;
-- where it has none, it has none afterwards
abbrev pub OptionsBecome : PoolType → Entity → Option Options → Option Options → Type 0
OptionsBecome pool c None y = y ≡ None
OptionsBecome pool c (Some o) None = ⊥
OptionsBecome pool c (Some o) (Some x) = (s : NameScope) × IsScopeOf pool c s
    × (((paths : List (List ℤ)) × Settles c.scope s o (options_view x) paths)
    ⊎ (StayAsTheyAre c.scope s o × (options_view x ≡ options_view o)))

-- it is what it was and where it was, with such options
pub record Becomes (pool : PoolType) (c d : Entity) : Type 0 where
  pub scope : c.scope ≡ d.scope
  pub path : c.path ≡ d.path
  pub number : c.number ≡ d.number
  pub name : c.name ≡ d.name
  pub options : OptionsBecome pool c c.options d.options
