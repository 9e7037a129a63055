-- What stands at the front of lexemes.
use Rattle.std.specs.Prelude.{ℕ, Bool, true, false, ◌==◌, ◌||◌, cond, List, [], ◌∷◌, Option, None, Some, option_map, is_some}
use Rattle.protox_lex.specs.Class.{Text}
use Rattle.protox_lex.specs.declared.span.Span.{Span}
use Rattle.text_lex.specs.declared.lexer.LexError.{LexError}
use Rattle.text_lex.specs.declared.token.Radix.{Radix}
use Rattle.text_lex.specs.Token.{Token, ident, int, str, sign, Lexeme, token_at, fault}

-- the bytes from one place to another
abbrev pub from_to : ℕ → ℕ → Span
from_to start end = record { start = start; end = end }

-- no lexeme is there
abbrev pub is_over : List Lexeme → Bool
is_over [] = true
is_over (l ∷ ls) = false

-- the token at the front; a fault is none
abbrev pub first : List Lexeme → Option Token
first (token_at start end t ∷ ls) = Some t
first _ = None

-- what stands behind it
abbrev pub behind : List Lexeme → List Lexeme
behind (token_at start end t ∷ ls) = ls
behind ls = ls

-- what the token at the front is, where it is such a one, and its bytes
abbrev pub next : {A : Type 0} → (Token → Option A) → List Lexeme → Option (A × Span)
next f (token_at start end t ∷ ls) = option_map (λ x. (x, from_to start end)) (f t)
next f _ = None

-- what stands behind what was taken
abbrev pub rest_of : {A : Type 0} → Option A → List Lexeme → List Lexeme
rest_of (Some x) ls = behind ls
rest_of None ls = ls

abbrev pub word_in : Token → Option Text
word_in (ident w) = Some w
word_in _ = None

abbrev pub integer_in : Token → Option (Radix × Text)
integer_in (int r digits) = Some (r, digits)
integer_in _ = None

abbrev pub literal_in : Token → Option Text
literal_in (str s) = Some s
literal_in _ = None

abbrev pub is_sign : ℕ → Token → Bool
is_sign k (sign b) = b == k
is_sign k _ = false

-- the bytes of the sign at the front
abbrev pub sign_bytes : ℕ → List Lexeme → Option Span
sign_bytes k (token_at start end t ∷ ls) = cond (is_sign k t) (Some (from_to start end)) None
sign_bytes k _ = None

-- the sign is at the front
abbrev pub sees : ℕ → List Lexeme → Bool
sees k ls = is_some (sign_bytes k ls)

-- a field's name begins there
abbrev pub begins_name : List Lexeme → Bool
begins_name ls = is_some (next word_in ls) || sees 91 ls

-- the fault at the front
abbrev pub fault_at : List Lexeme → Option LexError
fault_at (fault e ∷ ls) = Some e
fault_at _ = None
