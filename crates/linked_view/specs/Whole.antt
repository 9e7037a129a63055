-- What makes a declaration sound beside its being complete and the rules of numbers.
use Rattle.std.specs.Prelude.{◌≡◌, ℤ, List, Some, Contains, FitsSigned}
use Rattle.std.specs.Int.{w32}
use Rattle.descriptor_records.specs.Content.{FileContent}
use Rattle.schema_view.specs.Files.{is_proto3}
use Rattle.schema_view.specs.Declarations.{Declaration, declarations, Body, of_message, of_field, of_oneof, of_enum, of_value, of_service, of_method, of_extension}
use Rattle.schema_view.specs.Rules.{HasLabel, IsSound}

abbrev pub IsLabelled : Body → Type 0
IsLabelled (of_message m) = Unit {0}
IsLabelled (of_field f) = HasLabel f.label
IsLabelled (of_oneof o) = Unit {0}
IsLabelled (of_enum e) = Unit {0}
IsLabelled (of_value v) = Unit {0}
IsLabelled (of_service s) = Unit {0}
IsLabelled (of_method m) = Unit {0}
IsLabelled (of_extension x) = HasLabel x.label

-- the number of an enum's value is one of 32 bits
abbrev pub IsFitting : Body → Type 0
IsFitting (of_message m) = Unit {0}
IsFitting (of_field f) = Unit {0}
IsFitting (of_oneof o) = Unit {0}
IsFitting (of_enum e) = Unit {0}
IsFitting (of_value v) = (n : ℤ) → v.number ≡ Some n → FitsSigned w32 n
IsFitting (of_service s) = Unit {0}
IsFitting (of_method m) = Unit {0}
IsFitting (of_extension x) = Unit {0}

abbrev pub AreSound : List FileContent → Type 0
AreSound fs = (f : FileContent) (d : Declaration) → Contains fs f → Contains (declarations f) d
    → IsSound (is_proto3 f) d.body
