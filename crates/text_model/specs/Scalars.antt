-- What scalar values stand for in fields of each kind (protobuf.dev, "Text Format Language
-- Specification", Type-Specific Values).
use Rattle.std.specs.Prelude.{ℕ, ℤ, pos, negsuc, neg_ℤ, ◌==◌, ◌^◌, ◌||◌, nat_lt, cond, Bool, true, false, ◌++◌, Option, None, Some, option_map, codes}
use Rattle.std.specs.List.{flat_map}
use Rattle.std.specs.Str.{bytes_eq, is_utf8}
use Rattle.protox_lex.specs.Class.{Text}
use Rattle.protox_lex.specs.Lex.{value, unescaped}
use Rattle.text_lex.specs.declared.token.Radix.{Radix}
use Rattle.text_lex.specs.declared.token.Radix.TheVariants as radix
use Rattle.protobuf_model.specs.Values.{Single, truth, int32, int64, uint32, uint64, text, blob, enumerated}
use Rattle.protobuf_model.specs.Types.{Scalar}
use Rattle.protobuf_model.specs.Types as kinds
use Rattle.text_model.specs.Tree.{Word, integer, floating, identifier, ScalarValue, signed, strings}

abbrev pub base : Radix → ℕ
base radix.Octal = 8
base radix.Decimal = 10
base radix.Hexadecimal = 16

-- the number with its sign
abbrev pub number : Bool → ℕ → ℤ
number true n = neg_ℤ (pos n)
number false n = pos n

-- a number of at least -limit and below limit; `negsuc n` is -(n + 1)
abbrev pub is_within : ℕ → ℤ → Bool
is_within limit (pos n) = nat_lt n limit
is_within limit (negsuc n) = nat_lt n limit

abbrev pub only_if : Bool → Single → Option Single
only_if b v = cond b (Some v) None

abbrev pub truth_of : ℕ → Option Single
truth_of n = cond (n == 0) (Some (truth false)) (cond (n == 1) (Some (truth true)) None)

-- a number that has no minus: no kind without signs takes one
abbrev pub natural_in : Scalar → ℕ → Option Single
natural_in kinds.uint32 n = only_if (nat_lt n (2 ^ 32)) (uint32 n)
natural_in kinds.fixed32 n = only_if (nat_lt n (2 ^ 32)) (uint32 n)
natural_in kinds.uint64 n = only_if (nat_lt n (2 ^ 64)) (uint64 n)
natural_in kinds.fixed64 n = only_if (nat_lt n (2 ^ 64)) (uint64 n)
natural_in kinds.bool n = truth_of n
natural_in _ n = None

-- numbers of 32 and of 64 bits with a sign
abbrev pub signed_32 : (ℤ → Single) → ℤ → Option Single
signed_32 f z = only_if (is_within (2 ^ 31) z) (f z)

abbrev pub signed_64 : (ℤ → Single) → ℤ → Option Single
signed_64 f z = only_if (is_within (2 ^ 63) z) (f z)

-- a number with or without a minus
abbrev pub integer_in : Scalar → Bool → ℕ → Option Single
integer_in kinds.int32 minus n = signed_32 int32 (number minus n)
integer_in kinds.sint32 minus n = signed_32 int32 (number minus n)
integer_in kinds.sfixed32 minus n = signed_32 int32 (number minus n)
integer_in kinds.enumeration minus n = signed_32 enumerated (number minus n)
integer_in kinds.int64 minus n = signed_64 int64 (number minus n)
integer_in kinds.sint64 minus n = signed_64 int64 (number minus n)
integer_in kinds.sfixed64 minus n = signed_64 int64 (number minus n)
integer_in k true n = None
integer_in k false n = natural_in k n

abbrev pub is_true : Text → Bool
is_true w = bytes_eq w (codes "true") || (bytes_eq w (codes "True") || bytes_eq w (codes "t"))

abbrev pub is_false : Text → Bool
is_false w = bytes_eq w (codes "false") || (bytes_eq w (codes "False") || bytes_eq w (codes "f"))

-- an identifier: a truth value, or the name of one of an enum's values
abbrev pub identifier_in : (Text → Option ℤ) → Scalar → Text → Option Single
identifier_in enum kinds.bool w =
    cond (is_true w) (Some (truth true)) (cond (is_false w) (Some (truth false)) None)
identifier_in enum kinds.enumeration w = option_map enumerated (enum w)
identifier_in enum _ w = None

-- strings, one behind the other
abbrev pub string_in : Scalar → Text → Option Single
string_in kinds.string s = only_if (is_utf8 s) (text s)
string_in kinds.bytes s = Some (blob s)
string_in _ s = None

-- a word, with a minus or without; no kind holds floats
abbrev pub word_in : (Text → Option ℤ) → Scalar → Bool → Word → Option Single
word_in enum k minus (integer r digits) = integer_in k minus (value (base r) digits)
word_in enum k false (identifier w) = identifier_in enum k w
word_in enum k true (identifier w) = None
word_in enum k minus (floating s) = None

abbrev pub scalar_in : (Text → Option ℤ) → Scalar → ScalarValue → Option Single
scalar_in enum k (signed minus w) = word_in enum k minus w
scalar_in enum k (strings s ss) = string_in k (unescaped s ++ flat_map unescaped ss)
