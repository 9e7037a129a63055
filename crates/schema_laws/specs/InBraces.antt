-- Options of sources that are given in braces (protobuf.dev, "Language Guide (proto 2)", Custom
-- Options).
use Rattle.std.specs.Prelude.{◌≡◌, ◌∷◌, ◌++◌, ℕ, ℤ, List, Some, Contains, slice_get}
use Rattle.std.specs.List.{AllByRecursion}
use Rattle.descriptor_records.specs.Content.{OptionContent, Text, options_view}
use Rattle.descriptor_records.specs.declared.file.FileDescriptorProto.{FileDescriptorProto}
use Rattle.descriptor_records.specs.declared.options.Options.{Options}
use Rattle.option_parts.specs.OptionTypes.{CanRead}
use Rattle.option_parts.specs.declared.option_scope.OptionScope.{OptionScope}
use Rattle.option_setter.specs.declared.option_setter.NameScope.{NameScope}
use Rattle.plain_records.specs.SourceOptions.{AreGiven}
use Rattle.protobuf_model.specs.Types.{Name}
use Rattle.reflect_options.specs.Entities.{Entity, file_entities}
use Rattle.reflect_options.specs.Settled.{Settles}
use Rattle.reflect_tables.specs.Types.{PoolType}
use Rattle.settled_view.specs.BuiltBut.{ChangesOptions}
use Rattle.stored_options.specs.Braces.{KeepsOff, LeadsAlong}
use Rattle.stored_options.specs.SetOptions.{Leads}
use Rattle.text_model.specs.Schemas.{Schema}

-- one of the options is given with this text in braces; its name leads along the numbers to a field
-- of one message of the type, and those behind it keep off what stands there
pub record IsInBraces (w : Schema) (leads : Leads) (t : Name) (os : List OptionContent)
    (ns : List ℕ) (u : Name) (text : Text) : Type 0 where
  pub front : List OptionContent
  pub back : List OptionContent
  pub option : OptionContent
  pub among : os ≡ front ++ (option ∷ back)
  pub along : LeadsAlong w leads t option.name ns u
  pub braces : option.aggregate_value ≡ Some text
  pub apart : AllByRecursion (λ (x : OptionContent). KeepsOff w leads t ns x.name) back

-- the options of one record, as a source gives them, came to these as a pool became what it is: by
-- what their names mean in the pool that it was, where the scope says
pub record ComeTo (p : PoolType) (n : NameScope) (scope : OptionScope) (o settled : Options)
    : Type 0 where
  pub given : AreGiven scope (options_view o)
  pub readable : CanRead n.pool.now scope
  pub paths : List (List ℤ)
  pub settles : Settles scope n o (options_view settled) paths
  pub changes : ChangesOptions n.pool.now p

-- these options stand at a path in the record of a pool's file: an entity that is there has them
abbrev pub StandAt : PoolType → ℕ → List ℤ → Options → Type 0
StandAt p i path o = (f : FileDescriptorProto) × (d : Entity) × (slice_get p.records i ≡ Some f)
    × Contains (file_entities i f) d × (d.path ≡ path) × (d.options ≡ Some o)
