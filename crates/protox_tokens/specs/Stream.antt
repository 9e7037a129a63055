-- What is left of a source: its tokens, each with the comment before it.
use Rattle.protox_lex.specs.Class.{Text}
use Rattle.protox_lex.specs.Longest.{Lexes}
use Rattle.protox_lex.specs.Shown.{token_of}
use Rattle.protox_lex.specs.TextFormat.{format_fault}
use Rattle.protox_lex.specs.Token.{Token, ident, int, float, str, sign, comment, Lexeme, token_at, fault_at}
use Rattle.protox_lex.specs.declared.error.LexError.{LexError}
use Rattle.protox_lex.specs.declared.error.LexErrorKind.{LexErrorKind}
use Rattle.protox_lex.specs.declared.span.Span.{Span}
use Rattle.protox_tokens.specs.declared.tokens.Tokens.{Tokens}
use Rattle.std.specs.Option.{option_or}
use Rattle.std.specs.List.{Contains}
use Rattle.std.specs.Prelude.{◌≡◌, ◌⊎◌, Bool, true, false, List, [], ◌∷◌, Option, Some, None, Result, Ok, Err}
use Rattle.protox_lex.specs.Shown as lexer
use Rattle.protox_lex.specs.declared.lexer.Lexeme as code

-- a token or a fault, and the first `#` comment before it; or such a comment before the end
pub data Piece : Type 0 where
  piece : Option Span → Lexeme → Piece
  last : Span → Piece

abbrev pub Stream : Type 0
Stream = List Piece

-- each token with the comment before it
abbrev pub gather : Option Span → List Lexeme → Stream
gather None [] = []
gather (Some s) [] = last s ∷ []
gather h (token_at a b comment ∷ ts) =
    gather (option_or h (Some (record { start = a; end = b }))) ts
gather h (token_at a b (ident t) ∷ ts) = piece h (token_at a b (ident t)) ∷ gather None ts
gather h (token_at a b (int t) ∷ ts) = piece h (token_at a b (int t)) ∷ gather None ts
gather h (token_at a b (float t) ∷ ts) = piece h (token_at a b (float t)) ∷ gather None ts
gather h (token_at a b (str t) ∷ ts) = piece h (token_at a b (str t)) ∷ gather None ts
gather h (token_at a b (sign t) ∷ ts) = piece h (token_at a b (sign t)) ∷ gather None ts
gather h (fault_at k a b ∷ ts) = piece h (fault_at k a b) ∷ []

-- the token ahead, and those that the lexer has left
abbrev pub from_ahead : Option Span → Result (Option code.Lexeme) LexError → Stream → Stream
from_ahead None (Ok None) ts = []
from_ahead (Some s) (Ok None) ts = last s ∷ []
from_ahead h (Ok (Some l)) ts = piece h (token_at l.span.start l.span.end (token_of l.token)) ∷ ts
from_ahead h (Err e) ts = piece h (fault_at e.kind e.span.start e.span.end) ∷ []

abbrev pub raw : Result (Option code.Lexeme) LexError → List Lexeme → List Lexeme
raw (Ok None) ts = []
raw (Ok (Some l)) ts = token_at l.span.start l.span.end (token_of l.token) ∷ ts
raw (Err e) ts = fault_at e.kind e.span.start e.span.end ∷ []

abbrev pub comment_at : Token → Span → Option Span
comment_at comment s = Some s
comment_at (ident t) s = None
comment_at (int t) s = None
comment_at (float t) s = None
comment_at (str t) s = None
comment_at (sign t) s = None

abbrev pub comment_of : Result (Option code.Lexeme) LexError → Option Span
comment_of (Ok None) = None
comment_of (Ok (Some l)) = comment_at (token_of l.token) l.span
comment_of (Err e) = None

-- what is read of a source: the tokens that the longest match cuts it into, each with the comment
-- before it
abbrev pub IsRead : Text → Stream → Type 0
IsRead z s = (ts : List Lexeme) × Lexes 0 z ts × (s ≡ gather None ts)

-- The text has this fault: it can be cut no further there, or a token that only text format has
-- stands there.
abbrev pub HasLexical : Text → LexError → Type 0
HasLexical z e =
    (ts : List Lexeme) × Lexes 0 z ts
    × (Contains ts (fault_at e.kind e.span.start e.span.end)
    ⊎ ((t : Token) × Contains ts (token_at e.span.start e.span.end t)
    × (format_fault t ≡ Some e.kind)))

abbrev pub stream : Tokens → Stream
stream t = from_ahead t.hash t.ahead (gather None (lexer.stream t.lexer))

-- ---- what is ahead

-- outside an option's braces, or in them, where text format stands
pub data Mode : Type 0 where
  source : Mode
  text : Mode

abbrev pub Seen : Type 0
Seen = Option (Token × Span)

-- the token, unless text format alone has it
abbrev pub unless_misplaced : Option LexErrorKind → Token → Span → Seen
unless_misplaced None t s = Some (t, s)
unless_misplaced (Some k) t s = None

abbrev pub look_in : Mode → Option Span → Token → Span → Seen
look_in text h t s = Some (t, s)
look_in source None t s = unless_misplaced (format_fault t) t s
look_in source (Some c) t s = None

-- the token of a piece, where it may stand there
abbrev pub look : Mode → Piece → Seen
look m (last s) = None
look m (piece h (token_at a b t)) = look_in m h t (record { start = a; end = b })
look m (piece h (fault_at k a b)) = None

abbrev pub peek : Mode → Stream → Seen
peek m [] = None
peek m (p ∷ ts) = look m p

abbrev pub tail : Stream → Stream
tail [] = []
tail (p ∷ ts) = ts

abbrev pub is_over : Stream → Bool
is_over [] = true
is_over (p ∷ ts) = false

-- where what is seen stands; where nothing is, the start of the source
abbrev pub span_of : Seen → Span
span_of None = record { start = 0; end = 0 }
span_of (Some x) = x.1
