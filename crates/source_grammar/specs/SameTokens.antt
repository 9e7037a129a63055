-- Sources with the same tokens, whatever stands between them.
use Rattle.protox_lex.specs.Class.{Text}
use Rattle.protox_lex.specs.Longest.{Lexes}
use Rattle.protox_lex.specs.Token.{Token, comment, Lexeme, token_at, fault_at}
use Rattle.std.specs.Prelude.{[], ◌≡◌, List, ◌∷◌}

-- the tokens, without their places; comments are none
abbrev pub tokens_of : List Lexeme → List Token
tokens_of [] = []
tokens_of (token_at a b comment ∷ ts) = tokens_of ts
tokens_of (token_at a b t ∷ ts) = t ∷ tokens_of ts
tokens_of (fault_at k a b ∷ ts) = []

-- The longest match cuts both texts into the same tokens.
abbrev pub HaveSameTokens : Text → Text → Type 0
HaveSameTokens z w =
    (ts : List Lexeme) × (us : List Lexeme) × Lexes 0 z ts × Lexes 0 w us
    × (tokens_of ts ≡ tokens_of us)
