-- What values of each kind are read as, and which refusal comes where none stands there.
use Rattle.std.specs.Prelude.{◌≡◌, ◌||◌, ℤ, true, false, List, Option, None, Some, Result, Ok, Err, codes, is_some, string_bytes}
use Rattle.protox_lex.specs.Class.{Text}
use Rattle.protox_lex.specs.declared.span.Span.{Span}
use Rattle.text_lex.specs.Token.{Lexeme}
use Rattle.protobuf_model.specs.Types.{Scalar}
use Rattle.protobuf_model.specs.Types as scalars
use Rattle.protobuf_model.specs.Values.{Single, truth, int32, int64, uint32, uint64, text, blob, enumerated}
use Rattle.reflect_pool.specs.declared.enums.EnumDescriptor.{EnumDescriptor}
use Rattle.reflect_pool.specs.declared.kind.Kind.{Kind}
use Rattle.reflect_pool.specs.declared.kind.Kind.TheVariants as values
use Rattle.reflect_message.specs.Names.{Value}
use Rattle.reflect_message.specs.declared.value.ValueOf.TheVariants as held
use Rattle.text_error.specs.declared.error.ParseErrorKind.{ParseErrorKind}
use Rattle.text_error.specs.declared.error.ParseErrorKind.TheVariants as kinds
use Rattle.text_scalars.specs.Front.{integer_in, next, sees, word_in}
use Rattle.text_scalars.specs.Number.{nameless, signed_32_bounds, signed_64_bounds, unsigned_32_bounds, unsigned_64_bounds}
use Rattle.text_scalars.specs.Refusals.{IsUnexpected}
use Rattle.text_model.specs.Scalars.{scalar_in}
use Rattle.text_model.specs.Tree.{ScalarValue}
use Rattle.text_scalars.specs.Scalars.{RefusesInteger, RefusesStrings, RefusesText, truth_words, value_at}
use Rattle.reflect_format.specs.Enums.{number_named}
use Rattle.reflect_format.specs.Refusals.{TellsValue}

-- no message and no floating-point number
abbrev pub scalar_of : Kind → Option Scalar
scalar_of values.Int32 = Some scalars.int32
scalar_of values.Int64 = Some scalars.int64
scalar_of values.Uint32 = Some scalars.uint32
scalar_of values.Uint64 = Some scalars.uint64
scalar_of values.Sint32 = Some scalars.sint32
scalar_of values.Sint64 = Some scalars.sint64
scalar_of values.Fixed32 = Some scalars.fixed32
scalar_of values.Fixed64 = Some scalars.fixed64
scalar_of values.Sfixed32 = Some scalars.sfixed32
scalar_of values.Sfixed64 = Some scalars.sfixed64
scalar_of values.Bool = Some scalars.bool
scalar_of values.String = Some scalars.string
scalar_of values.Bytes = Some scalars.bytes
scalar_of (values.Enum e) = Some scalars.enumeration
scalar_of _ = None

abbrev pub names_of : Kind → Text → Option ℤ
names_of (values.Enum e) = number_named e
names_of _ = nameless

-- what the scalar value at the front of lexemes stands for in a field of the kind
abbrev pub value_by : (Text → Option ℤ) → Option Scalar → List Lexeme
    → Option (Single × Span × List Lexeme)
value_by enum (Some s) ls = value_at enum s ls
value_by enum None ls = None

abbrev pub kind_value_at : Kind → List Lexeme → Option (Single × Span × List Lexeme)
kind_value_at k ls = value_by (names_of k) (scalar_of k) ls

-- what a scalar value of a text stands for in a field of the kind
abbrev pub given_by : (Text → Option ℤ) → Option Scalar → ScalarValue → Option Single
given_by enum (Some k) s = scalar_in enum k s
given_by enum None s = None

abbrev pub scalar_given : Kind → ScalarValue → Option Single
scalar_given k s = given_by (names_of k) (scalar_of k) s

-- a value that is no message, no list and no map
abbrev pub single_of : Value → Option Single
single_of (held.Bool b) = Some (truth b)
single_of (held.I32 z) = Some (int32 z)
single_of (held.I64 z) = Some (int64 z)
single_of (held.U32 n) = Some (uint32 n)
single_of (held.U64 n) = Some (uint64 n)
single_of (held.String s) = Some (text (string_bytes s))
single_of (held.Bytes v) = Some (blob v.items)
single_of (held.EnumNumber z) = Some (enumerated z)
single_of _ = None

abbrev pub IsReadSingle : Option Single → Span → Option (Single × Span × List Lexeme) → List Lexeme
    → Type 0
IsReadSingle (Some v) span o rest = o ≡ Some (v, span, rest)
IsReadSingle None span o rest = ⊥

-- it is read, and these lexemes stand behind it; or there is none, or memory ran out
abbrev pub ReadsSingle : Option (Single × Span × List Lexeme)
    → Result (Value × Span) ParseErrorKind → List Lexeme → Type 0
ReadsSingle o (Ok p) rest = IsReadSingle (single_of p.0) p.1 o rest
ReadsSingle o (Err kinds.Memory) rest = Unit {0}
ReadsSingle o (Err kind) rest = o ≡ None

-- ---- which refusal it is

-- a name that the enum does not have, a number that is refused, or neither a name nor a number
abbrev pub RefusesEnum : EnumDescriptor → List Lexeme → ParseErrorKind → Type 0
RefusesEnum e ls kinds.Memory = Unit {0}
RefusesEnum e ls kind =
    elim (next word_in ls) [
      | Some p ↦ TellsValue e p.0 p.1 kind
      | None ↦ elim (sees 45 ls || is_some (next integer_in ls)) [
        | true ↦ RefusesInteger signed_32_bounds ls kind
        | false ↦ IsUnexpected (codes "an enum value") ls kind
      ]
    ]

abbrev pub RefusesKind : Kind → List Lexeme → ParseErrorKind → Type 0
RefusesKind values.Int32 ls kind = RefusesInteger signed_32_bounds ls kind
RefusesKind values.Sint32 ls kind = RefusesInteger signed_32_bounds ls kind
RefusesKind values.Sfixed32 ls kind = RefusesInteger signed_32_bounds ls kind
RefusesKind values.Int64 ls kind = RefusesInteger signed_64_bounds ls kind
RefusesKind values.Sint64 ls kind = RefusesInteger signed_64_bounds ls kind
RefusesKind values.Sfixed64 ls kind = RefusesInteger signed_64_bounds ls kind
RefusesKind values.Uint32 ls kind = RefusesInteger unsigned_32_bounds ls kind
RefusesKind values.Fixed32 ls kind = RefusesInteger unsigned_32_bounds ls kind
RefusesKind values.Uint64 ls kind = RefusesInteger unsigned_64_bounds ls kind
RefusesKind values.Fixed64 ls kind = RefusesInteger unsigned_64_bounds ls kind
RefusesKind values.Bool ls kind = IsUnexpected (truth_words ls) ls kind
RefusesKind values.String ls kind = RefusesText ls kind
RefusesKind values.Bytes ls kind = RefusesStrings ls kind
RefusesKind (values.Enum e) ls kind = RefusesEnum e ls kind
RefusesKind _ ls kind = IsUnexpected (codes "a number") ls kind
