-- How what stands before a field's name is read, and the fields that nothing nests in.
use Rattle.descriptor_records.specs.declared.field.FieldType.{FieldType}
use Rattle.descriptor_records.specs.declared.field.Label.{Label}
use Rattle.protox_lex.specs.Token.{ident, sign}
use Rattle.protox_lex.specs.declared.literal.Int.{Int}
use Rattle.protox_lex.specs.declared.span.Span.{Span}
use Rattle.protox_options.specs.NameGrammar.{parts_after, an_int}
use Rattle.protox_options.specs.OptionGrammar.{options}
use Rattle.protox_options.specs.RangeGrammar.{ranges}
use Rattle.protox_tokens.specs.Parser.{Parser, ◌>>=◌, ◌>>◌, ◌<$>◌, pure, sees, eat, expect, word, choose}
use Rattle.protox_tokens.specs.Span.{across}
use Rattle.protox_tree.specs.Nest.{MapType, Extensions, Field, field, Kind, normal, map_kind}
use Rattle.protox_tree.specs.Scalar.{scalar_of}
use Rattle.protox_tree.specs.Tree.{Word, Ty, scalar, named, OptionList}
use Rattle.std.specs.Prelude.{List, Option, Some, None, codes}
use Rattle.descriptor_records.specs.declared.field.Label.TheVariants as labels
use Rattle.protox_lex.specs.declared.token.Sign.TheVariants as s

-- ---- types

abbrev pub named_type : Option Span → List Word → Ty
named_type dot parts = named (record { leading_dot = dot; parts = parts })

abbrev pub ty_of : Word → Option FieldType → Parser Ty
ty_of w (Some t) = pure (scalar t w.span)
ty_of w None = named_type None <$> parts_after w

abbrev pub ty_after : Option Span → Word → Parser Ty
ty_after None w = ty_of w (scalar_of w.text)
ty_after (Some dot) w = named_type (Some dot) <$> parts_after w

-- A type: the word of a scalar type is always that type.
unfoldable pub ty : Parser Ty
ty = do
  dot ← eat (sign s.Dot)
  w ← word
  ty_after dot w

-- A map's types behind its opening bracket, and the closing one.
unfoldable pub map_type : Span → Parser MapType
map_type first = do
  key ← ty
  expect (sign s.Comma)
  value ← ty
  close ← expect (sign s.RightAngleBracket)
  pure (record { key = key; value = value; span = across first close })

abbrev pub map_by : Word → Option Span → Parser Kind
map_by w (Some bracket) = map_kind <$> map_type w.span
map_by w None = (λ parts. normal (named_type None parts)) <$> parts_after w

-- The word `map` begins a map before `<` alone, and elsewhere a type's name.
unfoldable pub map_or_name : Parser Kind
map_or_name = do
  w ← word
  bracket ← eat (sign s.LeftAngleBracket)
  map_by w bracket

unfoldable pub field_type : Parser Kind
field_type = choose (sees (ident (codes "map"))) map_or_name (normal <$> ty)

-- The statement `extensions .. ;`.
unfoldable pub extensions : Parser Extensions
extensions = do
  first ← expect (ident (codes "extensions"))
  rs ← ranges
  os ← options
  close ← expect (sign s.Semicolon)
  pure (record { ranges = rs; options = os; span = across first close })

-- ---- labels

abbrev pub Labelled : Type 0
Labelled = Option (Label × Span)

abbrev pub repeated_if : Option Span → Parser Labelled
repeated_if (Some at) = pure (Some (labels.Repeated, at))
repeated_if None = pure None

abbrev pub required_if : Option Span → Parser Labelled
required_if (Some at) = pure (Some (labels.Required, at))
required_if None = eat (ident (codes "repeated")) >>= repeated_if

abbrev pub optional_if : Option Span → Parser Labelled
optional_if (Some at) = pure (Some (labels.Optional, at))
optional_if None = eat (ident (codes "required")) >>= required_if

-- A label, if one of the three words comes next.
unfoldable pub label : Parser Labelled
label = eat (ident (codes "optional")) >>= optional_if

-- ---- fields

-- What each field and each group has: a name, a number and the options behind it.
unfoldable pub numbered_name : Parser (Word × Int × Option OptionList)
numbered_name = do
  name ← word
  expect (sign s.Equals)
  number ← an_int
  os ← options
  pure (name, number, os)

-- A field or a map behind its label, from the place where the field begins.
unfoldable pub plain_field : Span → Labelled → Parser Field
plain_field start l = do
  kind ← field_type
  name ← word
  expect (sign s.Equals)
  number ← an_int
  os ← options
  last ← expect (sign s.Semicolon)
  pure (field l kind name number os (across start last))
