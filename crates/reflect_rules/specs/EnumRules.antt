-- The rules of enums.
use Rattle.std.specs.Prelude.{ℤ, pos, List, [], ◌∷◌, ◌++◌, map, Bool, false, not, ◌&&◌, cond, Option, Some, None}
use Rattle.descriptor_records.specs.declared.enums.EnumDescriptorProto.{EnumDescriptorProto}
use Rattle.descriptor_records.specs.declared.enums.EnumValueDescriptorProto.{EnumValueDescriptorProto}
use Rattle.descriptor_records.specs.declared.options.Options.{Options}
use Rattle.reflect_declarations.specs.Declarations.{entry}
use Rattle.reflect_faults.specs.Faults.{Fault, empty_enum, duplicate_enum_number, bad_first_value}
use Rattle.reflect_names.specs.Names.{Places}
use Rattle.reflect_walk.specs.MapEntries.{is_true}
use Rattle.reflect_rules.specs.MapEntries.{is_equal}
use Rattle.reflect_rules.specs.Repeats.{repeat_faults}

abbrev pub allows_aliases : Option Options → Bool
allows_aliases None = false
allows_aliases (Some o) = is_true o.allow_alias

-- two values have one number, without the enum's leave
abbrev pub alias_faults : Places → List ℤ → EnumDescriptorProto → List Fault
alias_faults at path e = cond (allows_aliases e.options) []
    (repeat_faults duplicate_enum_number (pos 2) (pos 2) path at
    (map (λ v. v.number) e.value.items))

-- in proto3 the first value is 0
abbrev pub first_faults : Places → List ℤ → Bool → Option ℤ → List Fault
first_faults at path is_proto3 number =
    cond (is_proto3 && not (is_equal number (pos 0)))
    (bad_first_value (at (entry path (pos 2) 0 ++ (pos 2 ∷ []))) ∷ []) []

abbrev pub value_faults : Places → List ℤ → Bool → EnumDescriptorProto
    → List EnumValueDescriptorProto → List Fault
value_faults at path is_proto3 e [] = empty_enum (at path) ∷ []
value_faults at path is_proto3 e (v ∷ vs) = first_faults at path is_proto3 v.number
    ++ alias_faults at path e

abbrev pub enum_faults : Places → List ℤ → Bool → EnumDescriptorProto → List Fault
enum_faults at path is_proto3 e = value_faults at path is_proto3 e e.value.items
