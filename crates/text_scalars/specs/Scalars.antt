-- The scalar value at the front of lexemes, and what it stands for in a field of a kind.
use Rattle.std.specs.Prelude.{◌≡◌, ℕ, ℤ, Bool, true, false, List, [], ◌∷◌, Option, None, Some, option_map, is_some, Result, Ok, Err, codes, string_bytes}
use Rattle.protox_lex.specs.Class.{Text}
use Rattle.protox_lex.specs.declared.span.Span.{Span}
use Rattle.text_lex.specs.Token.{Token, ident, int, float, str, Lexeme, token_at}
use Rattle.protobuf_model.specs.Values.{Single}
use Rattle.protobuf_model.specs.Types.{Scalar}
use Rattle.text_error.specs.declared.error.ParseErrorKind.{ParseErrorKind}
use Rattle.text_error.specs.declared.error.ParseErrorKind.TheVariants as kinds
use Rattle.text_model.specs.Tree.{Word, integer, floating, identifier, ScalarValue, signed, strings}
use Rattle.text_model.specs.Scalars.{scalar_in}
use Rattle.text_scalars.specs.Front.{behind, fault_at, from_to, integer_in, literal_in, next, rest_of, sign_bytes}
use Rattle.text_scalars.specs.Number.{Bounds}
use Rattle.text_scalars.specs.Refusals.{IsFaultAt, IsUnexpected}

-- a scalar value, its bytes, and the lexemes behind it
pub record Found : Type 0 where
  pub value : ScalarValue
  pub span : Span
  pub rest : List Lexeme

abbrev pub word_of : Token → Option Word
word_of (int r digits) = Some (integer r digits)
word_of (float s) = Some (floating s)
word_of (ident w) = Some (identifier w)
word_of _ = None

-- behind a minus, if one is at the front
abbrev pub operand : List Lexeme → List Lexeme
operand ls = rest_of (sign_bytes 45 ls) ls

-- from the minus, if there is one
abbrev pub from_sign : Option Span → Span → Span
from_sign (Some minus) s = from_to minus.start s.end
from_sign None s = s

-- literals that stand one behind the other: what is between their quotes, where the last one ends,
-- and the lexemes behind it
pub record Literals : Type 0 where
  pub texts : List Text
  pub end : ℕ
  pub rest : List Lexeme

-- all that stand at the front, behind one that ends at a place
abbrev pub literals_at : ℕ → List Lexeme → Literals
literals_at place (token_at start end (str s) ∷ ls) =
    record {
      texts = s ∷ (literals_at end ls).texts;
      end = (literals_at end ls).end;
      rest = (literals_at end ls).rest;
    }
literals_at place ls = record { texts = []; end = place; rest = ls }

-- behind which no fault stands
abbrev pub joined : Text → ℕ → Literals → Option Found
joined s start l =
    elim (fault_at l.rest) [
      | None ↦ Some (record {
        value = strings s l.texts;
        span = from_to start l.end;
        rest = l.rest;
      })
      | Some e ↦ None
    ]

abbrev pub strings_at : List Lexeme → Option Found
strings_at ls =
    elim (next literal_in ls) [
      | None ↦ None
      | Some p ↦ joined p.0 p.1.start (literals_at p.1.end (behind ls))
    ]

-- a word, from its minus on if it has one, else what stands there otherwise
abbrev pub word_at : Option Span → List Lexeme → Option Found → Option Found
word_at minus ls other =
    elim (next word_of ls) [
      | Some p ↦ Some (record {
        value = signed (is_some minus) p.0;
        span = from_sign minus p.1;
        rest = behind ls;
      })
      | None ↦ other
    ]

-- a word, with a minus or without, or strings
abbrev pub scalar_at : List Lexeme → Option Found
scalar_at ls = word_at (sign_bytes 45 ls) (operand ls) (strings_at ls)

-- what it stands for in a field of the kind, its bytes, and the lexemes behind it
abbrev pub meaning : (Text → Option ℤ) → Scalar → Option Found
    → Option (Single × Span × List Lexeme)
meaning enum k None = None
meaning enum k (Some f) = option_map (λ v. (v, f.span, f.rest)) (scalar_in enum k f.value)

abbrev pub value_at : (Text → Option ℤ) → Scalar → List Lexeme
    → Option (Single × Span × List Lexeme)
value_at enum k ls = meaning enum k (scalar_at ls)

-- it is read, and these lexemes stand behind it; or there is none, or memory ran out
abbrev pub ReadsValue : {A : Type 0} → (A → Single) → Option (Single × Span × List Lexeme)
    → Result (A × Span) ParseErrorKind → List Lexeme → Type 0
ReadsValue view o (Ok p) rest = o ≡ Some (view p.0, p.1, rest)
ReadsValue view o (Err kinds.Memory) rest = Unit {0}
ReadsValue view o (Err kind) rest = o ≡ None

-- it is an integer
abbrev pub is_whole : ScalarValue → Bool
is_whole (signed minus (integer r digits)) = true
is_whole _ = false

abbrev pub is_integer : Option Found → Bool
is_integer (Some f) = is_whole f.value
is_integer None = false

-- ---- which refusal it is

-- an integer as it is told: its digits, behind a minus if there is one
abbrev pub told : ScalarValue → Option Text
told (signed true (integer r digits)) = Some (45 ∷ digits)
told (signed false (integer r digits)) = Some digits
told _ = None

-- the integer of these bytes is told to be beyond the bounds
abbrev pub IsBeyond : Bounds → ScalarValue → Span → ParseErrorKind → Type 0
IsBeyond bounds v bytes (kinds.IntegerValueOutOfRange expected actual min max span) =
    (told v ≡ Some (string_bytes actual)) × (span ≡ bytes)
    × (expected.now ≡ bounds.words) × (min.now ≡ bounds.least) × (max.now ≡ bounds.most)
IsBeyond bounds v bytes _ = ⊥

-- an integer stands there that is told to be beyond the bounds, or no integer stands there
abbrev pub RefusesFound : Bounds → List Lexeme → Option Found → ParseErrorKind → Type 0
RefusesFound bounds ls (Some f) kind =
    elim (is_whole f.value) [
      | true ↦ IsBeyond bounds f.value f.span kind
      | false ↦ IsUnexpected (codes "an integer") (operand ls) kind
    ]
RefusesFound bounds ls None kind = IsUnexpected (codes "an integer") (operand ls) kind

abbrev pub RefusesInteger : Bounds → List Lexeme → ParseErrorKind → Type 0
RefusesInteger bounds ls kinds.Memory = Unit {0}
RefusesInteger bounds ls kind = RefusesFound bounds ls (scalar_at ls) kind

-- what is expected of a truth value that begins so
abbrev pub truth_words : List Lexeme → Text
truth_words ls =
    elim (next integer_in ls) [
      | Some p ↦ codes "0 or 1"
      | None ↦ codes "'true' or 'false'"
    ]

-- no string stands there, or a fault behind strings
abbrev pub RefusesStrings : List Lexeme → ParseErrorKind → Type 0
RefusesStrings ls kinds.Memory = Unit {0}
RefusesStrings ls kind =
    elim (next literal_in ls) [
      | None ↦ IsUnexpected (codes "a string") ls kind
      | Some p ↦ IsFaultAt (literals_at p.1.end (behind ls)).rest kind
    ]

-- or strings that are no UTF-8
abbrev pub RefusesText : List Lexeme → ParseErrorKind → Type 0
RefusesText ls (kinds.InvalidUtf8String span) = option_map (λ f. f.span) (strings_at ls) ≡ Some span
RefusesText ls kind = RefusesStrings ls kind
