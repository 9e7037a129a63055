-- The tokens of fields, by the language specification's sections "Fields", "Normal field", "Map
-- field" and "Extensions".
use Rattle.descriptor_records.specs.declared.field.FieldType.{FieldType}
use Rattle.descriptor_records.specs.declared.field.Label.{Label}
use Rattle.protox_lex.specs.Class.{Text}
use Rattle.protox_lex.specs.Token.{ident, sign}
use Rattle.protox_lex.specs.declared.literal.Int.{Int}
use Rattle.protox_lex.specs.declared.span.Span.{Span}
use Rattle.protox_tokens.specs.Marks.{spot}
use Rattle.protox_tokens.specs.Stream.{Stream}
use Rattle.protox_tree.specs.Nest.{MapType, Extensions, Kind, normal, group, map_kind}
use Rattle.protox_tree.specs.Tree.{Word, Ty, scalar, named, OptionList}
use Rattle.source_grammar.specs.Languages.{Language, nothing, never, one, the, token_at, begins, ends, ◌▸◌, some_by, unless}
use Rattle.source_grammar.specs.Names.{a_word, a_type_name, integer, NoDot}
use Rattle.source_grammar.specs.Options.{options}
use Rattle.source_grammar.specs.Ranges.{a_range}
use Rattle.std.specs.Prelude.{[], List, ◌∷◌, Option, Some, None, codes}
use Rattle.descriptor_records.specs.declared.field.FieldType.TheVariants as types
use Rattle.descriptor_records.specs.declared.field.Label.TheVariants as labels
use Rattle.protox_lex.specs.declared.token.Sign.TheVariants as s

-- ---- types

-- The word of a scalar type.
abbrev pub scalar_word : FieldType → Option Text
scalar_word types.Double = Some (codes "double")
scalar_word types.Float = Some (codes "float")
scalar_word types.Int32 = Some (codes "int32")
scalar_word types.Int64 = Some (codes "int64")
scalar_word types.Uint32 = Some (codes "uint32")
scalar_word types.Uint64 = Some (codes "uint64")
scalar_word types.Sint32 = Some (codes "sint32")
scalar_word types.Sint64 = Some (codes "sint64")
scalar_word types.Fixed32 = Some (codes "fixed32")
scalar_word types.Fixed64 = Some (codes "fixed64")
scalar_word types.Sfixed32 = Some (codes "sfixed32")
scalar_word types.Sfixed64 = Some (codes "sfixed64")
scalar_word types.Bool = Some (codes "bool")
scalar_word types.String = Some (codes "string")
scalar_word types.Bytes = Some (codes "bytes")
scalar_word types.Group = None
scalar_word types.Message = None
scalar_word types.Enum = None

abbrev pub scalar_words : List Text
scalar_words =
    codes "double" ∷ codes "float" ∷ codes "int32" ∷ codes "int64"
    ∷ codes "uint32" ∷ codes "uint64" ∷ codes "sint32" ∷ codes "sint64"
    ∷ codes "fixed32" ∷ codes "fixed64" ∷ codes "sfixed32" ∷ codes "sfixed64"
    ∷ codes "bool" ∷ codes "string" ∷ codes "bytes" ∷ []

abbrev pub a_word_if : Option Text → Span → Language
a_word_if None at = never
a_word_if (Some x) at = one (spot at (ident x))

-- type = "double" | .. | "bytes" | messageType | enumType, where the words of scalar types begin no
-- other
abbrev pub a_type : Ty → Language
a_type (scalar t at) = a_word_if (scalar_word t) at
a_type (named name) = unless scalar_words (a_type_name name)

-- A type's name goes on behind a dot.
abbrev pub TyEnds : Ty → Stream → Type 0
TyEnds (scalar t at) r = Unit {0}
TyEnds (named n) r = NoDot n r

-- "map" "<" keyType "," type ">", with any type for a key
abbrev pub a_map : MapType → Language
a_map m =
    token_at (ident (codes "map")) (begins m.span) ▸ the (sign s.LeftAngleBracket)
    ▸ a_type m.key ▸ the (sign s.Comma) ▸ a_type m.value
    ▸ token_at (sign s.RightAngleBracket) (ends m.span)

abbrev pub a_kind : Kind → Language
a_kind (normal t) = a_type t
a_kind (map_kind m) = a_map m
a_kind (group g) = never

-- ---- labels

abbrev pub label_word : Label → Text
label_word labels.Optional = codes "optional"
label_word labels.Required = codes "required"
label_word labels.Repeated = codes "repeated"

-- label = "required" | "optional" | "repeated"
abbrev pub a_label : Option (Label × Span) → Language
a_label None = nothing
a_label (Some x) = one (spot x.1 (ident (label_word x.0)))

-- Behind a missing label no word of one stands.
abbrev pub label_words : Option (Label × Span) → List Text
label_words None = codes "optional" ∷ codes "required" ∷ codes "repeated" ∷ []
label_words (Some x) = []

-- ---- fields

-- fieldName "=" [ "-" ] fieldNumber [ "[" fieldOptions "]" ], and what stands behind that
abbrev pub a_numbered : Word → Int → Option OptionList → Language → Language
a_numbered name n os L = a_word name ▸ the (sign s.Equals) ▸ integer n ▸ options os ▸ L

-- type fieldName "=" fieldNumber [ "[" fieldOptions "]" ] ";", which the word `group` doesn't begin
abbrev pub a_plain_field : Kind → Word → Int → Option OptionList → Span → Language
a_plain_field k name n os whole =
    unless (codes "group" ∷ [])
    (a_kind k ▸ a_numbered name n os (token_at (sign s.Semicolon) (ends whole)))

-- extensions = "extensions" ranges [ "[" options "]" ] ";"
abbrev pub an_extensions : Extensions → Language
an_extensions x =
    token_at (ident (codes "extensions")) (begins x.span)
    ▸ some_by (sign s.Comma) a_range x.ranges ▸ options x.options
    ▸ token_at (sign s.Semicolon) (ends x.span)
