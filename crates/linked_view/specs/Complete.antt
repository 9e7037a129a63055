-- What must be there of a declaration, whatever it says.
use Rattle.std.specs.Prelude.{◌≡◌, ◌⊎◌, ℤ, pos, Option, None, Some}
use Rattle.std.specs.List.{AllByRecursion}
use Rattle.descriptor_records.specs.Content.{Text, FieldContent}
use Rattle.descriptor_records.specs.declared.enums.EnumReservedRange.{EnumReservedRange}
use Rattle.schema_view.specs.Files.{IsThere}
use Rattle.schema_view.specs.Declarations.{extension_range, reserved_range, Body, of_message, of_field, of_oneof, of_enum, of_value, of_service, of_method, of_extension}
use Rattle.schema_view.specs.Rules.{HasBounds, IsMethod}

-- the number of a group, a message or an enum
abbrev pub IsNamedType : ℤ → Type 0
IsNamedType n = (n ≡ pos 10) ⊎ ((n ≡ pos 11) ⊎ (n ≡ pos 14))

-- a type is given by its number or by its name, and a group, a message or an enum has a name
abbrev pub GivesType : Option ℤ → Option Text → Type 0
GivesType None name = IsThere name
GivesType (Some n) None = IsNamedType n → ⊥
GivesType (Some n) (Some name) = Unit {0}

pub record IsGivenField (f : FieldContent) : Type 0 where
  pub name : IsThere f.name
  pub number : IsThere f.number
  pub type : GivesType f.field_type f.type_name

-- names, numbers, types, and the bounds of ranges
abbrev pub IsComplete : Body → Type 0
IsComplete (of_message m) =
    IsThere m.name
    × AllByRecursion (λ r. HasBounds (extension_range r)) m.extensions
    × AllByRecursion (λ r. HasBounds (reserved_range r)) m.reserved
IsComplete (of_field f) = IsGivenField f
IsComplete (of_oneof o) = IsThere o.name
IsComplete (of_enum e) =
    IsThere e.name
    × AllByRecursion (λ (r : EnumReservedRange). IsThere r.start × IsThere r.end) e.reserved_range
IsComplete (of_value v) = IsThere v.name × IsThere v.number
IsComplete (of_service s) = IsThere s.name
IsComplete (of_method m) = IsMethod m
IsComplete (of_extension x) = IsGivenField x × IsThere x.extendee
