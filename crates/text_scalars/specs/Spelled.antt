-- Lexemes that begin with the tokens of a name or of a scalar value.
use Rattle.std.specs.Prelude.{◌≡◌, ℕ, List, [], ◌∷◌, None}
use Rattle.protox_lex.specs.declared.span.Span.{Span}
use Rattle.text_lex.specs.Token.{Token, Lexeme, token_at}
use Rattle.text_model.specs.Tree.{FieldName, ScalarValue, signed, strings}
use Rattle.text_model.specs.Tokens.{name_tokens, scalar_tokens}
use Rattle.text_scalars.specs.Front.{fault_at, literal_in, next}
use Rattle.text_scalars.specs.Scalars.{Found}

-- the lexemes, which begin behind a place, are these tokens, up to another place, and others
-- behind them
abbrev pub Begin : List Token → ℕ → List Lexeme → ℕ → List Lexeme → Type 0
Begin [] place ls stop rest = (stop ≡ place) × (rest ≡ ls)
Begin (t ∷ ts) place (token_at start end u ∷ ls) stop rest = (u ≡ t) × Begin ts end ls stop rest
Begin (t ∷ ts) place _ stop rest = ⊥

-- where the first of them begins
abbrev pub start_of : List Lexeme → ℕ
start_of (token_at start end t ∷ ls) = start
start_of _ = 0

-- behind a string stands no further literal, and no fault
abbrev pub Follows : ScalarValue → List Lexeme → Type 0
Follows (signed minus w) rest = Unit {0}
Follows (strings s ss) rest = (next literal_in rest ≡ None) × (fault_at rest ≡ None)

-- the scalar value stands at the front, in its bytes, and what is told stands behind it
pub record IsScalar (ls : List Lexeme) (f : Found) : Type 0 where
  pub begin : Begin (scalar_tokens f.value) 0 ls f.span.end f.rest
  pub start : f.span.start ≡ start_of ls
  pub follows : Follows f.value f.rest

-- the name stands at the front, in these bytes, and the rest behind it
pub record IsName (ls : List Lexeme) (n : FieldName) (span : Span) (rest : List Lexeme)
    : Type 0 where
  pub begin : Begin (name_tokens n) 0 ls span.end rest
  pub start : span.start ≡ start_of ls
