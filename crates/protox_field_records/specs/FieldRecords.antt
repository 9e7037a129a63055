-- The records of fields and of extensions.
--
-- Source: "Specifying Field Types", "Maps" and "Extensions" of the language guides on protobuf.dev.
use Rattle.std.specs.Prelude.{◌++◌, ◌||◌, ℕ, ℤ, Bool, true, false, if◌then◌else◌, ◌==◌, List, [], ◌∷◌, Option, Some, None, codes, string_bytes, encode_utf8_all}
use Rattle.std.specs.Char.{to_ascii_uppercase}
use Rattle.std.specs.Fmt.{decimal}
use Rattle.std.specs.List.{flat_map, fold}
use Rattle.std.specs.Option.{option_map}
use Rattle.descriptor_records.specs.Content.{FieldContent, OptionContent}
use Rattle.descriptor_records.specs.FieldNumbers.{label_number, type_number}
use Rattle.descriptor_records.specs.declared.field.FieldType.{FieldType}
use Rattle.descriptor_records.specs.declared.field.FieldType.TheVariants as types
use Rattle.descriptor_records.specs.declared.field.Label.{Label}
use Rattle.descriptor_records.specs.declared.field.Label.TheVariants as labels
use Rattle.protox_declaration_records.specs.Numbers.{i32_of}
use Rattle.protox_declaration_records.specs.OptionRecords.{listed, option_of, options_of}
use Rattle.protox_declaration_records.specs.Texts.{signed_text, text_of}
use Rattle.protox_lex.specs.Class.{Text}
use Rattle.protox_lex.specs.Escapes.{escaped}
use Rattle.protox_lex.specs.declared.literal.Int.{Int}
use Rattle.protox_lex.specs.declared.span.Span.{Span}
use Rattle.protox_field_records.specs.FieldName.{field_name_of}
use Rattle.protox_field_records.specs.Layers.{AddedLayer}
use Rattle.protox_tree.specs.Nest.{Kind, normal, group, map_kind}
use Rattle.protox_tree.specs.NestView.{kind_view}
use Rattle.protox_tree.specs.Scalar.{scalar_type, written_name}
use Rattle.protox_tree.specs.Tree.{Ty, has_name, joined, type_text}
use Rattle.protox_tree.specs.View.{name_view, strings_view, type_name_view}
use Rattle.protox_tree.specs.declared.ident.TypeName.{TypeName}
use Rattle.protox_tree.specs.declared.message.ExtendItem.{ExtendItem}
use Rattle.protox_tree.specs.declared.message.ExtendItem.TheOpen.{ExtendItem-F}
use Rattle.protox_tree.specs.declared.message.ExtendItem.TheViews.{out-ExtendItem}
use Rattle.protox_tree.specs.declared.message.Field.{Field}
use Rattle.protox_tree.specs.declared.option.OptionBody.{OptionBody}
use Rattle.protox_tree.specs.declared.option.OptionValue.{OptionValue}
use Rattle.protox_tree.specs.declared.option.OptionValue.TheVariants as values
use Rattle.protox_tree.specs.declared.text.Strings.{Strings}

-- ---- names and types

abbrev pub is_group : Kind → Bool
is_group (normal ty) = false
is_group (group g) = true
is_group (map_kind m) = false

abbrev pub letter : Bool → ℕ → ℕ
letter raise b = if raise then to_ascii_uppercase b else b

-- A name in camel case: each letter behind an underscore is raised, the first one too where `raise`
-- says so, and underscores fall away.
abbrev pub camel : Bool → Text → Text
camel raise [] = []
camel raise (b ∷ bs) = if b == 95 then camel true bs else letter raise b ∷ camel false bs

-- the type of a map's entries is named after the map
abbrev pub entry_name_of : Text → Text
entry_name_of name = encode_utf8_all (camel true name) ++ codes "Entry"

-- The number of a field's type: of a type that is named the record has none yet.
abbrev pub scalar_number : Ty → Option ℤ
scalar_number ty = option_map type_number (scalar_type ty)

abbrev pub type_of : Kind → Option ℤ
type_of (normal ty) = scalar_number ty
type_of (group g) = Some (type_number types.Group)
type_of (map_kind m) = Some (type_number types.Message)

-- The name of a field's type, as it is written; a group and the entries of a map have types of
-- their own.
abbrev pub type_name_of : Text → Kind → Option Text
type_name_of name (normal ty) = written_name ty
type_name_of name (group g) = Some name
type_name_of name (map_kind m) = Some (entry_name_of name)

-- `optional`, where no label is written; a map is a list
abbrev pub written_label : Option (Label × Span) → Label
written_label None = labels.Optional
written_label (Some l) = l.0

abbrev pub label_of : Option (Label × Span) → Kind → Label
label_of l (normal ty) = written_label l
label_of l (group g) = written_label l
label_of l (map_kind m) = labels.Repeated

-- ---- options that are fields of the record

abbrev pub is_named : Text → OptionBody → Bool
is_named name b = has_name name (name_view b.name.items)

abbrev pub is_bytes_type : Option FieldType → Bool
is_bytes_type (Some types.Bytes) = true
is_bytes_type _ = false

abbrev pub is_bytes : Kind → Bool
is_bytes (normal ty) = is_bytes_type (scalar_type ty)
is_bytes (group g) = false
is_bytes (map_kind m) = false

abbrev pub int_text : Int → Text
int_text n = signed_text n.negative (decimal n.value)

abbrev pub string_text : Bool → Strings → Text
string_text is_bytes s = if is_bytes then escaped (joined (strings_view s)) else text_of s

-- A default as text: an integer in decimal, bytes with escapes, and anything else as it is written.
abbrev pub default_text : Kind → OptionValue → Text
default_text k (values.Ident i) = string_bytes i.value
default_text k (values.NegativeWord i) = signed_text true (string_bytes i.value)
default_text k (values.Int n) = int_text n
default_text k (values.Float negative f) = signed_text negative (string_bytes f.text)
default_text k (values.String s) = string_text (is_bytes k) s
default_text k (values.Aggregate a) = string_bytes a.text

-- the default after an option, where this one stood before it: the last one counts
abbrev pub default_after : Kind → Option Text → OptionBody → Option Text
default_after k before b =
    if is_named (codes "default") b then Some (default_text k b.value) else before

abbrev pub default_of : Kind → List OptionBody → Option Text
default_of k bs = fold (default_after k) None bs

abbrev pub json_text : OptionValue → Option Text
json_text (values.String s) = Some (text_of s)
json_text _ = None

-- the JSON name after an option, where this one stood before it: the last one counts
abbrev pub json_after : Option Text → OptionBody → Option Text
json_after before b = if is_named (codes "json_name") b then json_text b.value else before

abbrev pub json_name_of : List OptionBody → Option Text
json_name_of bs = fold json_after None bs

-- all other options
abbrev pub other_at : OptionBody → List OptionContent
other_at b =
    if is_named (codes "default") b || is_named (codes "json_name") b then [] else option_of b ∷ []

-- ---- fields

-- A field that no oneof has, of a message and no extension.
abbrev pub field_of : Field → FieldContent
field_of f = record {
  name = Some (field_name_of (string_bytes f.name.value) (is_group (kind_view f.kind)));
  number = i32_of f.number;
  label = Some (label_number (label_of f.label (kind_view f.kind)));
  field_type = type_of (kind_view f.kind);
  type_name = type_name_of (string_bytes f.name.value) (kind_view f.kind);
  extendee = None;
  default_value = default_of (kind_view f.kind) (listed f.options);
  oneof_index = None;
  json_name = json_name_of (listed f.options);
  options = options_of (flat_map other_at (listed f.options));
  proto3_optional = None;
}

-- A field by which this type is extended.
abbrev pub extension_of : TypeName → Field → FieldContent
extension_of extendee f = record (field_of f)
    { extendee = Some (type_text (type_name_view extendee)) }

-- what an item of an `extend` statement adds

abbrev pub extension_in : TypeName → AddedLayer → List FieldContent
extension_in extendee (ExtendItem-F.«ExtendItem::Field» f) = extension_of extendee f ∷ []
extension_in extendee (ExtendItem-F.«ExtendItem::Empty» span) = []

abbrev pub extension_at : TypeName → ExtendItem → List FieldContent
extension_at extendee i = extension_in extendee (out-ExtendItem i)
