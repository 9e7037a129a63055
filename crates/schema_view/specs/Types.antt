-- The types of messages that a schema's view has.
use Rattle.std.specs.Prelude.{ℕ, ℤ, pos, List, [], ◌∷◌, Bool, true, false, cond, ◌&&◌, ◌==◌, Option, Some, None, codes}
use Rattle.std.specs.Option.{option_and_then, option_map, option_or}
use Rattle.std.specs.Str.{bytes_eq}
use Rattle.std.specs.Str.Parse.{digits_value, signed_digits_value}
use Rattle.descriptor_records.specs.Content.{Text, FieldContent, EnumValueContent, EnumContent}
use Rattle.protox_lex.specs.Lex.{unescaped}
use Rattle.protobuf_model.specs.Values.{Single, truth, int32, int64, uint32, uint64, text, blob, enumerated}
use Rattle.protobuf_model.specs.Types.{Scalar, sized, tagged, Kind, scalar, nested, Part, Key, one, many, keyed, Field, Types}
use Rattle.protobuf_model.specs.Types as kinds
use Rattle.schema_view.specs.Files.{text_of, join}
use Rattle.schema_view.specs.Declarations.{FieldFacts, MessageFacts, Body, of_message, of_field, of_enum, of_extension}
use Rattle.schema_view.specs.Rules.{is_number}
use Rattle.schema_view.specs.Fields.{is_repeated, is_packed, has_presence}
use Rattle.schema_view.specs.Views.{FileFacts, Held, View, first, when}

-- a name without the dot in front
abbrev pub undotted : Text → Text
undotted [] = []
undotted (b ∷ name) = name

-- the full name of a field's type, where it has one
abbrev pub type_name : FieldContent → Text
type_name f = elim f.type_name [ None ↦ [] | Some t ↦ undotted t ]

-- what stands under a full name
abbrev pub message_in : Body → Option MessageFacts
message_in (of_message m) = Some m
message_in _ = None

abbrev pub enum_in : Body → Option EnumContent
enum_in (of_enum e) = Some e
enum_in _ = None

abbrev pub field_in : Body → Option FieldContent
field_in (of_field f) = Some f
field_in (of_extension x) = Some x
field_in _ = None

abbrev pub body_at : View → Text → Option Body
body_at v n = option_map (λ h. h.body) (v.declared n)

abbrev pub message_at : View → Text → Option MessageFacts
message_at v n = option_and_then message_in (body_at v n)

abbrev pub field_at : View → Text → Option FieldContent
field_at v n = option_and_then field_in (body_at v n)

-- what a field's type is declared as
abbrev pub type_at : View → FieldContent → Option Body
type_at v f = option_and_then (λ t. body_at v (undotted t)) f.type_name

-- the file of a declaration is of proto3
abbrev pub says_proto3 : FileFacts → Bool
says_proto3 f = bytes_eq (text_of f.syntax) (codes "proto3")

abbrev pub is_proto3_at : View → Text → Bool
is_proto3_at v n =
    elim (option_and_then (λ (h : Held). v.files h.file) (v.declared n))
    [ None ↦ false | Some f ↦ says_proto3 f ]

-- the number of a value of a name, and of the first value
abbrev pub number_in : EnumValueContent → ℤ
number_in v = elim v.number [ None ↦ pos 0 | Some z ↦ z ]

abbrev pub value_number : Text → List EnumValueContent → Option ℤ
value_number name vs = first (λ v. when (bytes_eq (text_of v.name) name) (number_in v)) vs

abbrev pub first_number : List EnumValueContent → ℤ
first_number [] = pos 0
first_number (v ∷ vs) = number_in v

-- the values of the enum that is a field's type
abbrev pub values_of : Option Body → List EnumValueContent
values_of o = elim (option_and_then enum_in o) [ None ↦ [] | Some e ↦ e.value ]

-- the kind of the number of a type; floats are no kinds of messages
abbrev pub scalar_numbers : List (ℕ × Scalar)
scalar_numbers =
    (3, kinds.int64) ∷ (4, kinds.uint64) ∷ (5, kinds.int32) ∷ (6, kinds.fixed64)
    ∷ (7, kinds.fixed32) ∷ (8, kinds.bool) ∷ (9, kinds.string)
    ∷ (12, kinds.bytes) ∷ (13, kinds.uint32) ∷ (14, kinds.enumeration) ∷ (15, kinds.sfixed32)
    ∷ (16, kinds.sfixed64) ∷ (17, kinds.sint32)
    ∷ (18, kinds.sint64) ∷ []

abbrev pub scalar_of : ℕ → Option Scalar
scalar_of n = first (λ (p : ℕ × Scalar). when (p.0 == n) p.1) scalar_numbers

-- 10 is a group, 11 a message
abbrev pub kind_by : Option ℤ → Text → Option Kind
kind_by (Some (pos n)) name =
    cond (n == 10) (Some (nested tagged name))
    (cond (n == 11) (Some (nested sized name)) (option_map scalar (scalar_of n)))
kind_by _ name = None

abbrev pub kind_of : FieldContent → Option Kind
kind_of f = kind_by f.field_type (type_name f)

-- zero, false or empty; of an enum its first value, of a message nothing that counts
abbrev pub zero_of : List EnumValueContent → Kind → Single
zero_of vs (nested frame t) = text []
zero_of vs (scalar kinds.int32) = int32 (pos 0)
zero_of vs (scalar kinds.int64) = int64 (pos 0)
zero_of vs (scalar kinds.uint32) = uint32 0
zero_of vs (scalar kinds.uint64) = uint64 0
zero_of vs (scalar kinds.sint32) = int32 (pos 0)
zero_of vs (scalar kinds.sint64) = int64 (pos 0)
zero_of vs (scalar kinds.fixed32) = uint32 0
zero_of vs (scalar kinds.fixed64) = uint64 0
zero_of vs (scalar kinds.sfixed32) = int32 (pos 0)
zero_of vs (scalar kinds.sfixed64) = int64 (pos 0)
zero_of vs (scalar kinds.bool) = truth false
zero_of vs (scalar kinds.string) = text []
zero_of vs (scalar kinds.bytes) = blob []
zero_of vs (scalar kinds.enumeration) = enumerated (first_number vs)

-- what the text of a default says of the kind
abbrev pub said_of : List EnumValueContent → Kind → Text → Single
said_of vs (nested frame t) s = text []
said_of vs (scalar kinds.int32) s = int32 (signed_digits_value 10 s)
said_of vs (scalar kinds.int64) s = int64 (signed_digits_value 10 s)
said_of vs (scalar kinds.uint32) s = uint32 (digits_value 10 s)
said_of vs (scalar kinds.uint64) s = uint64 (digits_value 10 s)
said_of vs (scalar kinds.sint32) s = int32 (signed_digits_value 10 s)
said_of vs (scalar kinds.sint64) s = int64 (signed_digits_value 10 s)
said_of vs (scalar kinds.fixed32) s = uint32 (digits_value 10 s)
said_of vs (scalar kinds.fixed64) s = uint64 (digits_value 10 s)
said_of vs (scalar kinds.sfixed32) s = int32 (signed_digits_value 10 s)
said_of vs (scalar kinds.sfixed64) s = int64 (signed_digits_value 10 s)
said_of vs (scalar kinds.bool) s = truth (bytes_eq s (codes "true"))
said_of vs (scalar kinds.string) s = text s
said_of vs (scalar kinds.bytes) s = blob (unescaped s)
said_of vs (scalar kinds.enumeration) s =
    elim (value_number s vs) [ None ↦ enumerated (pos 0) | Some z ↦ enumerated z ]

abbrev pub default_of : List EnumValueContent → Option Text → Kind → Single
default_of vs None k = zero_of vs k
default_of vs (Some s) k = said_of vs k s

abbrev pub part_of : View → (proto3 extension : Bool) → FieldContent → Option Part
part_of v proto3 extension f =
    option_map (λ k. record {
      kind = k;
      presence = has_presence proto3 extension f;
      default = default_of (values_of (type_at v f)) f.default_value k;
    }) (kind_of f)

-- the field of a number that a message declares
abbrev pub named_in : Text → ℕ → MessageFacts → Option Text
named_in t n m = first (λ (f : FieldFacts). when (is_number (pos n) f.number)
    (join t (text_of f.name))) m.fields

abbrev pub name_of_field : View → Text → ℕ → Option Text
name_of_field v t n = option_and_then (named_in t n) (message_at v t)

-- the message of the name is the type of a map's entries
abbrev pub is_entry : MessageFacts → Bool
is_entry m = elim m.options [
  | None ↦ false
  | Some o ↦ elim o.map_entry [ None ↦ false | Some b ↦ b ]
]

abbrev pub names_entry : View → FieldContent → Bool
names_entry v f =
    is_number (pos 11) f.field_type
    && elim (option_and_then message_in (type_at v f)) [ None ↦ false | Some m ↦ is_entry m ]

-- a part of a map's entry: the key under 1, the value under 2
abbrev pub entry_part : View → Text → ℕ → Option Part
entry_part v t n =
    option_and_then (λ name. option_and_then (part_of v (is_proto3_at v name) false)
    (field_at v name)) (name_of_field v t n)

abbrev pub key_of : Part → Option Key
key_of p = elim p.kind [
  | scalar k ↦ Some (record { kind = k; presence = p.presence; default = p.default })
  | nested frame t ↦ None
]

-- a field's number, which is there where its message is lawful
abbrev pub field_number : FieldFacts → ℕ
field_number f = elim f.number [ Some (pos n) ↦ n | _ ↦ 0 ]

-- the number of the first of a message's fields that are in the oneof of the index
abbrev pub first_member : ℕ → MessageFacts → Option ℕ
first_member k m =
    first (λ (f : FieldFacts). when (is_number (pos k) f.oneof) (field_number f)) m.fields

-- a oneof is told by the number of its first member
abbrev pub oneof_in : Option MessageFacts → FieldContent → Option ℕ
oneof_in m f = elim f.oneof_index [ Some (pos k) ↦ option_and_then (first_member k) m | _ ↦ None ]

abbrev pub map_field : View → (extension : Bool) → (oneof : Option ℕ) → FieldContent → Option Field
map_field v extension oneof f =
    option_and_then (λ part. option_map
    (λ k. record { part = part; label = keyed k; oneof = oneof; extension = extension })
    (option_and_then key_of (entry_part v (type_name f) 1))) (entry_part v (type_name f) 2)

abbrev pub plain_field : View → (proto3 extension : Bool) → (oneof : Option ℕ) → FieldContent
    → Option Field
plain_field v proto3 extension oneof f =
    option_map (λ p. record {
      part = p;
      label = cond (is_repeated f) (many (is_packed proto3 f)) one;
      oneof = oneof;
      extension = extension;
    }) (part_of v proto3 extension f)

-- a field or an extension as messages hold it; floats and maps of floats are held by none
abbrev pub held_field : View → (proto3 extension : Bool) → (oneof : Option ℕ) → FieldContent
    → Option Field
held_field v proto3 extension oneof f =
    cond (is_repeated f && names_entry v f) (map_field v extension oneof f)
    (plain_field v proto3 extension oneof f)

-- what stands under a name, by the oneof that each field is in
abbrev pub field_named : View → (extension : Bool) → (FieldContent → Option ℕ) → Text
    → Option Field
field_named v extension oneof name = option_and_then
    (λ f. held_field v (is_proto3_at v name) extension (oneof f) f) (field_at v name)

-- the field of a name that the message declares
abbrev pub own_named : View → Text → Text → Option Field
own_named v t = field_named v false (oneof_in (message_at v t))

-- an extension is in no oneof
abbrev pub extension_named : View → Text → Option Field
extension_named v = field_named v true (λ f. None)

-- the field of a number, or else the extension
abbrev pub types_of : View → Types
types_of v t n =
    option_or (option_and_then (own_named v t) (name_of_field v t n))
    (option_and_then (extension_named v) (v.extensions (t, pos n)))
