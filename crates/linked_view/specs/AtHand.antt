-- What the rules of numbers ask of declarations by what their names mean, wherever these stand.
use Rattle.std.specs.Prelude.{◌≡◌, ℕ, List, true, Option, None, Some, String, string_bytes}
use Rattle.std.specs.declared.alloc.Global.{Global}
use Rattle.std.specs.List.{AllByRecursion}
use Rattle.reflect_scope.specs.declared.definition.DefinitionKind.{DefinitionKind}
use Rattle.reflect_scope.specs.declared.definition.ResolveNameFilter.{ResolveNameFilter}
use Rattle.reflect_scope.specs.declared.definition.ResolveNameFilter.TheVariants as filter
use Rattle.reflect_walk.specs.MapEntries.{says_entry}
use Rattle.reflect_declarations.specs.Declarations.{Declaration, of_file, of_message, of_field, of_oneof, of_enum, of_enum_value, of_service, of_method, of_extension}
use Rattle.reflect_names.specs.References.{View, meaning_of, kind_meant}
use Rattle.reflect_rules.specs.Rules.{Values, number_of, message_of, is_one_map}
use Rattle.reflect_rules.specs.Walks.{Facts}
use Rattle.linked_view.specs.Ruled.{IsMetField, IsExtensionNumber}

-- the kind of what a name means, if one stands there and means something
abbrev pub kind_by : View → ResolveNameFilter → List ℕ → Option (String Global)
    → Option DefinitionKind
kind_by v f scope None = None
kind_by v f scope (Some name) = kind_meant (meaning_of v f scope (string_bytes name))

-- a declaration by what its names mean, and by who refers to it
abbrev pub IsMetBy : Facts → Values → View → Declaration → Type 0
IsMetBy g values v d = elim d.body [
  | of_file f ↦ Unit {0}
  | of_message m ↦ (says_entry m.options ≡ true → is_one_map (g.uses d.index) ≡ true)
  | of_field f ↦ IsMetField g values (kind_by v filter.FieldType d.name f.type_name) f
  | of_oneof o ↦ Unit {0}
  | of_enum e ↦ Unit {0}
  | of_enum_value x ↦ Unit {0}
  | of_service s ↦ Unit {0}
  | of_method m ↦ Unit {0}
  | of_extension x ↦ IsExtensionNumber g.types (number_of x)
      (message_of (kind_by v filter.Message d.name x.extendee))
      × IsMetField g values (kind_by v filter.FieldType d.name x.type_name) x
]

-- each by the view of its file
abbrev pub AreMetBy : Facts → Values → (ℕ → View) → List Declaration → Type 0
AreMetBy g values views ds =
    AllByRecursion (λ (d : Declaration). IsMetBy g values (views d.file) d) ds
