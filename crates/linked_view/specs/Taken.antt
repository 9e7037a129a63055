-- References that are written with what they mean, one after another.
use Rattle.std.specs.Prelude.{ℤ, pos, List, map}
use Rattle.descriptor_records.specs.Content.{FileContent}
use Rattle.reflect_scope.specs.declared.definition.DefinitionKind.{DefinitionKind}
use Rattle.reflect_scope.specs.declared.definition.DefinitionKind.TheVariants as kind
use Rattle.reflect_names.specs.References as pass
use Rattle.schema_view.specs.References.{Reference, Target, references}

-- the number of the type of a kind
abbrev pub type_of : DefinitionKind → ℤ
type_of (kind.Enum i) = pos 14
type_of _ = pos 11

-- the name that is written, and the type's number
abbrev pub names_of : (Reference → pass.Target) → Reference → Target
names_of targets r = record { name = (targets r).0; type = type_of (targets r).1.kind }

-- what the references of a file mean, one after another
abbrev pub in_order : (Reference → pass.Target) → FileContent → List pass.Target
in_order targets f = map targets (references f)
