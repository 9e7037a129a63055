-- The faults of a field before its options.
--
-- Source: "Specifying Field Cardinality", "Groups", "Oneof", "Maps", "Extensions" and "Assigning
-- Field Numbers" of the language guides on protobuf.dev.
use Rattle.std.specs.Prelude.{◌++◌, ◌&&◌, Bool, true, false, not, if◌then◌else◌, List, [], ◌∷◌, Option, None, Some}
use Rattle.std.specs.Char.{is_ascii_uppercase}
use Rattle.descriptor_records.specs.declared.field.FieldType.{FieldType}
use Rattle.descriptor_records.specs.declared.field.FieldType.TheVariants as types
use Rattle.descriptor_records.specs.declared.field.Label.{Label}
use Rattle.descriptor_records.specs.declared.field.Label.TheVariants as labels
use Rattle.protox_check.specs.Ranges.{lies_from}
use Rattle.protox_check.specs.Words.{told_if, is_proto3}
use Rattle.protox_check.specs.declared.field.Holder.{Holder}
use Rattle.protox_check.specs.declared.field.Holder.TheVariants as holders
use Rattle.protox_lex.specs.Class.{Text}
use Rattle.protox_lex.specs.Signed.{signed}
use Rattle.protox_lex.specs.declared.literal.Int.{Int}
use Rattle.protox_lex.specs.declared.span.Span.{Span}
use Rattle.protox_tree.specs.Nest.{Kind, normal, group, map_kind}
use Rattle.protox_tree.specs.NestView.{kind_view}
use Rattle.protox_tree.specs.Places.{ty_span}
use Rattle.protox_tree.specs.Scalar.{scalar_type}
use Rattle.protox_tree.specs.Tree.{Word}
use Rattle.protox_tree.specs.View.{ident_view}
use Rattle.protox_tree.specs.declared.error.ParseErrorKind.{ParseErrorKind}
use Rattle.protox_tree.specs.declared.error.ParseErrorKind.TheVariants as kinds
use Rattle.protox_tree.specs.declared.message.Field.{Field}
use Rattle.protox_tree.specs.declared.types.Syntax.{Syntax}

-- what a field is before its options
pub record Head : Type 0 where
  pub label : Option (Label × Span)
  pub kind : Kind
  pub name : Word
  pub number : Int
  pub span : Span

-- that of the value that the code reads
abbrev pub head_view : Field → Head
head_view f = record {
  label = f.label;
  kind = kind_view f.kind;
  name = ident_view f.name;
  number =
      f.number;
  span = f.span;
}

-- ---- kinds, labels and holders

abbrev pub is_map : Kind → Bool
is_map (normal ty) = false
is_map (group g) = false
is_map (map_kind m) = true

abbrev pub is_group : Kind → Bool
is_group (normal ty) = false
is_group (group g) = true
is_group (map_kind m) = false

abbrev pub is_required : Label → Bool
is_required labels.Optional = false
is_required labels.Required = true
is_required labels.Repeated = false

abbrev pub is_oneof : Holder → Bool
is_oneof holders.Message = false
is_oneof holders.Oneof = true
is_oneof holders.Extend = false

abbrev pub is_extend : Holder → Bool
is_extend holders.Message = false
is_extend holders.Oneof = false
is_extend holders.Extend = true

-- ---- labels

-- A proto2 field outside a oneof, that is no map, has a label. No field of proto3 is required.
abbrev pub presence_faults : Syntax → Holder → Kind → Span → Option (Label × Span)
    → List ParseErrorKind
presence_faults s h kind span None =
    told_if (not (is_proto3 s) && (not (is_oneof h) && not (is_map kind))) (kinds.MissingLabel span)
presence_faults s h kind span (Some l) =
    told_if (is_proto3 s && is_required l.0) (kinds.RequiredInProto3 l.1)

-- Neither a field of a oneof nor a map has a label.
abbrev pub label_faults : Holder → Kind → Option (Label × Span) → List ParseErrorKind
label_faults h kind None = []
label_faults h kind (Some l) =
    told_if (is_oneof h) (kinds.OneofFieldWithLabel l.1)
    ++ told_if (is_map kind) (kinds.MapFieldWithLabel l.1)

-- no extension is required
abbrev pub required_faults : Holder → Option (Label × Span) → List ParseErrorKind
required_faults h None = []
required_faults h (Some l) = told_if (is_extend h && is_required l.0) (kinds.RequiredExtension l.1)

-- ---- groups and maps

-- proto3 has no groups
abbrev pub group_faults : Syntax → Kind → Span → List ParseErrorKind
group_faults s kind span = told_if (is_proto3 s && is_group kind) (kinds.GroupInProto3 span)

-- maps stand in messages alone
abbrev pub holder_faults : Holder → Kind → Span → List ParseErrorKind
holder_faults h kind span =
    told_if (is_oneof h && is_map kind) (kinds.MapFieldInOneof span)
    ++ told_if (is_extend h && is_map kind) (kinds.MapFieldInExtend span)

abbrev pub begins_upper : Text → Bool
begins_upper [] = false
begins_upper (b ∷ bs) = is_ascii_uppercase b

-- a scalar type but a float or bytes
abbrev pub is_key_type : Option FieldType → Bool
is_key_type None = false
is_key_type (Some types.Double) = false
is_key_type (Some types.Float) = false
is_key_type (Some types.Bytes) = false
is_key_type _ = true

-- The name of a group begins with a capital letter. The keys of a map are integers, bools or
-- strings.
abbrev pub name_faults : Kind → Word → List ParseErrorKind
name_faults (normal ty) name = []
name_faults (group g) name = told_if (not (begins_upper name.text))
    (kinds.InvalidGroupName name.span)
name_faults (map_kind m) name =
    told_if (not (is_key_type (scalar_type m.key))) (kinds.InvalidMapKeyType (ty_span m.key))

-- ---- numbers

-- A field has a number from 1 to 536870911, and none of those from 19000 to 19999.
abbrev pub number_faults : Int → List ParseErrorKind
number_faults n =
    if lies_from 19000 19999 (signed n) then kinds.ReservedMessageNumber n.span ∷ []
    else told_if (not (lies_from 1 536870911 (signed n))) (kinds.InvalidMessageNumber n.span)

-- ---- all of these

abbrev pub head_faults : Syntax → Holder → Head → List ParseErrorKind
head_faults s h f =
    presence_faults s h f.kind f.span f.label
    ++ (group_faults s f.kind f.span
    ++ (label_faults h f.kind f.label
    ++ (holder_faults h f.kind f.span
    ++ (required_faults h f.label
    ++ (name_faults f.kind f.name
    ++ number_faults f.number)))))
