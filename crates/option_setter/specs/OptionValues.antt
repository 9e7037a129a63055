-- What the value of an option says to a field of a kind (protobuf.dev, "Language Guide (proto 2)",
-- Custom Options).
use Rattle.std.specs.Prelude.{◌≡◌, ◌≢◌, ◌^◌, ℕ, ℤ, pos, negsuc, cond, nat_lt, List, Option, None, Some, option_map}
use Rattle.std.specs.Option.{option_and_then}
use Rattle.descriptor_records.specs.Content.{OptionContent}
use Rattle.option_parts.specs.TypedOptions.{truth_of}
use Rattle.protobuf_model.specs.Types.{Scalar}
use Rattle.protobuf_model.specs.Types as scalars
use Rattle.protobuf_model.specs.Values.{Single, truth, int32, int64, enumerated}
use Rattle.protox_lex.specs.Class.{Text}
use Rattle.reflect_format.specs.Filled.{Fills, Makes}
use Rattle.reflect_format.specs.Kinds.{names_of, scalar_of, single_of}
use Rattle.reflect_format.specs.Told.{TextFault}
use Rattle.reflect_format.specs.Unfit.{CannotMake, Unfit}
use Rattle.reflect_message.specs.Contents.{content_of, nothing}
use Rattle.reflect_message.specs.Names.{DynamicMessage, Value}
use Rattle.reflect_message.specs.declared.value.ValueOf.TheVariants as held
use Rattle.reflect_pool.specs.declared.kind.Kind.{Kind}
use Rattle.reflect_pool.specs.declared.kind.Kind.TheVariants as kinds
use Rattle.reflect_pool.specs.declared.message.MessageDescriptor.{MessageDescriptor}
use Rattle.text_error.specs.declared.error.ParseErrorKind.{ParseErrorKind}
use Rattle.text_error.specs.declared.error.ParseErrorKind.TheVariants.{Memory}
use Rattle.text_lex.specs.Longest.{Lexes}
use Rattle.text_lex.specs.Token.{Lexeme}
use Rattle.text_model.specs.Scalars.{natural_in, signed_32, string_in}
use Rattle.text_model.specs.Texts.{IsText}
use Rattle.text_model.specs.Tree.{Fields}
use Rattle.option_setter.specs.declared.option_value.ValueFault.{ValueFault}
use Rattle.option_setter.specs.declared.option_value.ValueFault.TheVariants as faults

-- the number that it is: of two that a set may give, the one that has no sign
abbrev pub number : OptionContent → Option ℤ
number o = elim o.positive_int_value [ None ↦ o.negative_int_value | Some n ↦ Some (pos n) ]

-- the number, where 64 bits with a sign hold it
abbrev pub number_64 : OptionContent → Option ℤ
number_64 o = elim o.positive_int_value [
  | None ↦ o.negative_int_value
  | Some n ↦ cond (nat_lt n (2 ^ 63)) (Some (pos n)) None
]

abbrev pub without_sign : ℤ → Option ℕ
without_sign (pos n) = Some n
without_sign (negsuc n) = None

-- truth values are `true` and `false`, numbers in range, strings UTF-8, enums named by a value
abbrev pub scalar_said : (Text → Option ℤ) → Scalar → OptionContent → Option Single
scalar_said enum scalars.bool o = option_map truth (truth_of o.identifier_value)
scalar_said enum scalars.enumeration o =
    option_and_then (λ w. option_map enumerated (enum w)) o.identifier_value
scalar_said enum scalars.string o = option_and_then (string_in scalars.string) o.string_value
scalar_said enum scalars.bytes o = option_and_then (string_in scalars.bytes) o.string_value
scalar_said enum scalars.int32 o = option_and_then (signed_32 int32) (number_64 o)
scalar_said enum scalars.sint32 o = option_and_then (signed_32 int32) (number_64 o)
scalar_said enum scalars.sfixed32 o = option_and_then (signed_32 int32) (number_64 o)
scalar_said enum scalars.int64 o = option_map int64 (number_64 o)
scalar_said enum scalars.sint64 o = option_map int64 (number_64 o)
scalar_said enum scalars.sfixed64 o = option_map int64 (number_64 o)
scalar_said enum k o = option_and_then (natural_in k) (option_and_then without_sign (number o))

-- what it says to a kind that is no message
abbrev pub said : Kind → OptionContent → Option Single
said k o = option_and_then (λ s. scalar_said (names_of k) s o) (scalar_of k)

-- the same of those whose values take no memory
abbrev pub plain_said : Kind → OptionContent → Option Single
plain_said kinds.String o = None
plain_said kinds.Bytes o = None
plain_said k o = said k o

-- a text makes a message of the type
abbrev pub TextMakes : MessageDescriptor → Text → DynamicMessage → Type 0
TextMakes d z m = (fs : Fields) × IsText z fs × Makes d (Fills fs) m

-- it makes none, for this fault
abbrev pub TextMakesNone : MessageDescriptor → Text → ParseErrorKind → Type 0
TextMakesNone d z kind = ((fs : Fields) → IsText z fs → CannotMake d (Unfit fs))
    × (blank : DynamicMessage) × (blank.descriptor ≡ d) × (content_of blank ≡ nothing)
    × (ls : List Lexeme) × Lexes 0 z ls × TextFault blank ls kind

-- the message is what the text in its braces makes
abbrev pub MakesSaid : MessageDescriptor → OptionContent → DynamicMessage → Type 0
MakesSaid d o m = (z : Text) × (o.aggregate_value ≡ Some z) × TextMakes d z m

-- there are no braces, or what stands in them makes none, unless memory ran out
abbrev pub SaysNoText : MessageDescriptor → OptionContent → ValueFault → Type 0
SaysNoText d o faults.Memory = Unit {0}
SaysNoText d o faults.Unsuited = o.aggregate_value ≡ None
SaysNoText d o (faults.Text e) = (z : Text) × (o.aggregate_value ≡ Some z)
    × (e.kind ≢ Memory) × TextMakesNone d z e.kind

-- the value is what the option says
abbrev pub IsSaid : Kind → OptionContent → Value → Type 0
IsSaid (kinds.Message d) o v = (m : DynamicMessage) × MakesSaid d o m × (v ≡ held.Message m)
IsSaid k o v = (x : Single) × (said k o ≡ Some x) × (single_of v ≡ Some x)

-- it says nothing, for this reason, unless memory ran out
abbrev pub SaysNothing : Kind → OptionContent → ValueFault → Type 0
SaysNothing (kinds.Message d) o e = SaysNoText d o e
SaysNothing k o faults.Memory = Unit {0}
SaysNothing k o faults.Unsuited = said k o ≡ None
SaysNothing k o (faults.Text e) = ⊥
