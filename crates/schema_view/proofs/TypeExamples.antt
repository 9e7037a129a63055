-- Worked cases: the types of messages of a proto2 and of a proto3 file, as the language guide has them.
use Rattle.std.proofs.Common.{◌≡◌, ℤ, pos, negsuc, Bool, true, false, [], ◌∷◌, Option, Some, None, refl}
use Rattle.std.specs.Prelude.{codes}
use Rattle.descriptor_records.specs.Content.{Text, OptionsContent, FieldContent, EnumContent, MessageContent, message, no_messages, more_messages, FileContent}
use Rattle.protobuf_model.specs.Values.{int32, text, enumerated}
use Rattle.protobuf_model.specs.Types.{tagged, scalar, nested, one, many, keyed}
use Rattle.protobuf_model.specs.Types as kinds
use Rattle.schema_view.specs.Views.{View, view_of}
use Rattle.schema_view.specs.Types.{types_of}

abbrev plain : Text → ℤ → ℤ → ℤ → FieldContent
plain name number label type = record {
  name = Some name;
  number = Some (pos 0);
  label = Some label;
  field_type = Some type;
  type_name = None;
  extendee = None;
  default_value = None;
  oneof_index = None;
  json_name = None;
  options = None;
  proto3_optional = None;
}

abbrev field : Text → ℤ → ℤ → ℤ → FieldContent
field name number label type = record (plain name number label type) { number = Some number }

abbrev said : (packed map_entry : Option Bool) → Option OptionsContent
said packed map_entry = Some (record { encoded = []; packed = packed; allow_alias = None; map_entry = map_entry; uninterpreted_option = [] })

-- message MEntry { optional int32 key = 1; optional string value = 2; }, the type of a map's entries
abbrev entry : MessageContent
entry = message (Some (codes "MEntry")) (field (codes "key") (pos 1) (pos 1) (pos 5) ∷ field (codes "value") (pos 2) (pos 1) (pos 9) ∷ []) [] no_messages [] [] [] (said None (Some true)) [] []

-- group Foo = 3 { }
abbrev group : MessageContent
group = message (Some (codes "Foo")) [] [] no_messages [] [] [] None [] []

-- enum E { TWO = 2; ONE = 1; }
abbrev enum_e : EnumContent
enum_e = record {
  name = Some (codes "E");
  value = record { name = Some (codes "TWO"); number = Some (pos 2); options = None } ∷ record { name = Some (codes "ONE"); number = Some (pos 1); options = None } ∷ [];
  options = None;
  reserved_range = [];
  reserved_name = [];
}

-- message A { optional int32 a = 1 [default = -5]; repeated int32 xs = 2; optional group Foo = 3 { } map<int32, string> m = 4; oneof o { int32 x = 5; int32 z = 6; }
-- optional float f = 7; optional E e = 8; optional E d = 9 [default = ONE]; repeated int32 ps = 10 [packed = true]; }
abbrev message_a : MessageContent
message_a = message (Some (codes "A"))
    (record (field (codes "a") (pos 1) (pos 1) (pos 5)) { default_value = Some (codes "-5") }
    ∷ field (codes "xs") (pos 2) (pos 3) (pos 5)
    ∷ record (field (codes "foo") (pos 3) (pos 1) (pos 10)) { type_name = Some (codes ".p.A.Foo") }
    ∷ record (field (codes "m") (pos 4) (pos 3) (pos 11)) { type_name = Some (codes ".p.A.MEntry") }
    ∷ record (field (codes "x") (pos 5) (pos 1) (pos 5)) { oneof_index = Some (pos 0) }
    ∷ record (field (codes "z") (pos 6) (pos 1) (pos 5)) { oneof_index = Some (pos 0) }
    ∷ field (codes "f") (pos 7) (pos 1) (pos 2)
    ∷ record (field (codes "e") (pos 8) (pos 1) (pos 14)) { type_name = Some (codes ".p.E") }
    ∷ record (field (codes "d") (pos 9) (pos 1) (pos 14)) { type_name = Some (codes ".p.E"); default_value = Some (codes "ONE") }
    ∷ record (field (codes "ps") (pos 10) (pos 3) (pos 5)) { options = said (Some true) None }
    ∷ [])
    [] (more_messages group (more_messages entry no_messages)) [] [] (record { name = Some (codes "o"); options = None } ∷ []) None [] []

-- extend A { optional int32 y = 100; }
abbrev extension : FieldContent
extension = record (field (codes "y") (pos 100) (pos 1) (pos 5)) { extendee = Some (codes ".p.A") }

abbrev file_in : Option Text → FileContent
file_in syntax = record {
  name = Some (codes "a.proto");
  package_name = Some (codes "p");
  dependency = [];
  public_dependency = [];
  weak_dependency = [];
  message_type = message_a ∷ [];
  enum_type = enum_e ∷ [];
  service = [];
  extension = extension ∷ [];
  options = None;
  source_code_info = None;
  syntax_name = syntax;
}

abbrev two : View
two = view_of (file_in None ∷ [])

abbrev three : View
three = view_of (file_in (Some (codes "proto3")) ∷ [])

abbrev name_a : Text
name_a = codes "p.A"

declared_default : types_of two name_a 1 ≡ Some (record { part = record { kind = scalar kinds.int32; presence = true; default = int32 (negsuc 4) }; label = one; oneof = None; extension = false })
declared_default = refl

no_presence : types_of three name_a 1 ≡ Some (record { part = record { kind = scalar kinds.int32; presence = false; default = int32 (negsuc 4) }; label = one; oneof = None; extension = false })
no_presence = refl

unpacked : types_of two name_a 2 ≡ Some (record { part = record { kind = scalar kinds.int32; presence = false; default = int32 (pos 0) }; label = many false; oneof = None; extension = false })
unpacked = refl

packed : types_of three name_a 2 ≡ Some (record { part = record { kind = scalar kinds.int32; presence = false; default = int32 (pos 0) }; label = many true; oneof = None; extension = false })
packed = refl

packed_where_said : types_of two name_a 10 ≡ Some (record { part = record { kind = scalar kinds.int32; presence = false; default = int32 (pos 0) }; label = many true; oneof = None; extension = false })
packed_where_said = refl

between_tags : types_of two name_a 3 ≡ Some (record { part = record { kind = nested tagged (codes "p.A.Foo"); presence = true; default = text [] }; label = one; oneof = None; extension = false })
between_tags = refl

a_map : types_of three name_a 4 ≡ Some (record {
  part = record { kind = scalar kinds.string; presence = false; default = text [] };
  label = keyed (record { kind = kinds.int32; presence = false; default = int32 (pos 0) });
  oneof = None;
  extension = false;
})
a_map = refl

a_member : types_of three name_a 5 ≡ Some (record { part = record { kind = scalar kinds.int32; presence = true; default = int32 (pos 0) }; label = one; oneof = Some 5; extension = false })
a_member = refl

its_rival : types_of three name_a 6 ≡ Some (record { part = record { kind = scalar kinds.int32; presence = true; default = int32 (pos 0) }; label = one; oneof = Some 5; extension = false })
its_rival = refl

no_float : types_of two name_a 7 ≡ None
no_float = refl

first_value : types_of two name_a 8 ≡ Some (record { part = record { kind = scalar kinds.enumeration; presence = true; default = enumerated (pos 2) }; label = one; oneof = None; extension = false })
first_value = refl

named_value : types_of two name_a 9 ≡ Some (record { part = record { kind = scalar kinds.enumeration; presence = true; default = enumerated (pos 1) }; label = one; oneof = None; extension = false })
named_value = refl

an_extension : types_of three name_a 100 ≡ Some (record { part = record { kind = scalar kinds.int32; presence = true; default = int32 (pos 0) }; label = one; oneof = None; extension = true })
an_extension = refl

no_type : types_of three (codes "p.B") 1 ≡ None
no_type = refl
