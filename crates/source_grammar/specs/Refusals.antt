-- Where a rule tells its fault: at the first token with which nothing goes on.
use Rattle.protox_lex.specs.Class.{Text}
use Rattle.protox_lex.specs.Longest.{Lexes}
use Rattle.protox_lex.specs.Token.{Token, ident, token_at, fault_at}
use Rattle.protox_lex.specs.declared.span.Span.{Span}
use Rattle.protox_tokens.specs.Parser.{Parser, sees}
use Rattle.protox_tokens.specs.Refusal.{Fault, unexpected, eof, lexical, unknown_syntax, too_deep}
use Rattle.protox_tokens.specs.Stream.{Piece, piece, last, Stream, look, source, text}
use Rattle.std.specs.Prelude.{◌≡◌, ◌⊎◌, ◌++◌, ◌∷◌, [], true, length, Some, None, Ok, Err, codes}

-- Some text is cut into this token alone.
abbrev pub IsWritten : Token → Type 0
IsWritten t = (z : Text) × Lexes 0 z (token_at 0 (length z) t ∷ [])

-- a token that a text may have, with no comment before it
abbrev pub MayStand : Piece → Type 0
MayStand (piece None (token_at a b t)) = IsWritten t
MayStand (piece None (fault_at k a b)) = ⊥
MayStand (piece (Some c) l) = ⊥
MayStand (last c) = ⊥

abbrev pub AllStand : Stream → Type 0
AllStand [] = Unit {0}
AllStand (p ∷ ts) = MayStand p × AllStand ts

-- With tokens behind them that a text may have, these are read to the end.
abbrev pub Begins : {A : Type 0} → Parser A → Stream → Type 0
Begins {A} p front =
    (more : Stream) × AllStand more × (a : A) × (p (front ++ more) ≡ Ok (a, []))

-- Whatever stands behind them, these are not.
abbrev pub BeginNothing : {A : Type 0} → Parser A → Stream → Type 0
BeginNothing {A} p front = (more : Stream) (a : A) → p (front ++ more) ≡ Ok (a, []) → ⊥

-- The token stands there, outside an option's braces or in them.
abbrev pub Shows : Piece → Token → Span → Type 0
Shows p t at = (look source p ≡ Some (t, at)) ⊎ (look text p ≡ Some (t, at))

-- the word `message` or `group`
abbrev pub OpensBlock : Piece → Type 0
OpensBlock p =
    (sees (ident (codes "message")) (p ∷ []) ≡ true)
    ⊎ (sees (ident (codes "group")) (p ∷ []) ≡ true)

-- One of these words among them is already the first token with which nothing goes on, as where a
-- brace has to come behind it, and as many are open as may be.
abbrev pub IsPast : {A : Type 0} → Parser A → Stream → Type 0
IsPast p front =
    (before : Stream) × (word : Piece) × (between : Stream) × (front ≡ before ++ (word ∷ between))
    × OpensBlock word × Begins p before × BeginNothing p (before ++ word ∷ [])

-- This holds of the tokens before that one, and with that one they begin nothing.
abbrev pub IsFirst : {A : Type 0} → (Stream → Type 0) → Parser A → Stream → Token → Span → Type 0
IsFirst Alive p ts t at =
    (before : Stream) × (here : Piece) × (rest : Stream) × (ts ≡ before ++ (here ∷ rest))
    × Shows here t at × Alive before × BeginNothing p (before ++ here ∷ [])

-- No token is left, though a comment may be.
abbrev pub HasNone : Stream → Type 0
HasNone [] = Unit {0}
HasNone (last c ∷ ts) = Unit {0}
HasNone (piece c l ∷ ts) = ⊥

-- This holds of all tokens, and no other is left.
abbrev pub IsCut : (Stream → Type 0) → Stream → Type 0
IsCut Alive ts =
    (before : Stream) × (rest : Stream) × (ts ≡ before ++ rest) × HasNone rest × Alive before

-- Where a token stands that is not expected, or the end. Of other faults nothing is said.
abbrev pub IsToldAt : {A : Type 0} → (Stream → Type 0) → Parser A → Stream → Fault → Type 0
IsToldAt Alive p ts (unexpected x t at) = IsFirst Alive p ts t at
IsToldAt Alive p ts (eof x) = IsCut Alive ts
IsToldAt Alive p ts (lexical e) = Unit {0}
IsToldAt Alive p ts (unknown_syntax at) = Unit {0}
IsToldAt Alive p ts (too_deep at) = Unit {0}

-- A token is told of that is the first with which nothing goes on, and the end where all tokens
-- begin what is read.
abbrev pub TellsFirst : {A : Type 0} → Parser A → Type 0
TellsFirst p = (ts : Stream) (f : Fault) → p ts ≡ Err f → IsToldAt (Begins p) p ts f

-- The same, or else one of the words that open blocks, among the tokens in front, is that first one.
abbrev pub TellsFirstInBlocks : {A : Type 0} → Parser A → Type 0
TellsFirstInBlocks p = (ts : Stream) (f : Fault) → p ts ≡ Err f
    → IsToldAt (λ front. Begins p front ⊎ IsPast p front) p ts f
