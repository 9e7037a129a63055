-- Adjacent literals, one after the other.
use Rattle.std.proofs.Common.{◌≡◌, ℕ, List, [], ◌∷◌, ◌++◌, None, refl}
use Rattle.std.specs.List.{flat_map}
use Rattle.protox_lex.specs.Class.{Text}
use Rattle.protox_lex.specs.Lex.{unescaped}
use Rattle.text_lex.specs.Token.{ident, int, float, str, sign, Lexeme, token_at, fault}
use Rattle.text_scalars.specs.Front.{literal_in, next}
use Rattle.text_scalars.specs.Scalars.{Literals, literals_at}

-- the bytes that the literals mean behind these, and where they end
abbrev pub meant : Text → Literals → Text × ℕ × List Lexeme
meant bytes l = (bytes ++ flat_map unescaped l.texts, l.end, l.rest)

-- no more
pub literals_end : (place : ℕ) (ls : List Lexeme) → next literal_in ls ≡ None
    → literals_at place ls ≡ record { texts = []; end = place; rest = ls }
literals_end place [] h = refl
literals_end place (fault e ∷ ls) h = refl
literals_end place (token_at x y (str v) ∷ ls) h = absurd (cc h)
literals_end place (token_at x y (ident v) ∷ ls) h = refl
literals_end place (token_at x y (int r d) ∷ ls) h = refl
literals_end place (token_at x y (float v) ∷ ls) h = refl
literals_end place (token_at x y (sign v) ∷ ls) h = refl
