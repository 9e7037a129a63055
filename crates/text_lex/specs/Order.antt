-- Tokens that stand one behind the other.
use Rattle.std.specs.Prelude.{◌≡◌, ℕ, ◌<◌, ◌≤◌, List, [], ◌∷◌}
use Rattle.text_lex.specs.Token.{Lexeme, token_at, fault}

-- None is empty, each begins where the one before it ends or behind, the first at the place `at` or
-- behind, and the last ends at `end` or before.
abbrev pub InOrder : ℕ → ℕ → List Lexeme → Type 0
InOrder at end [] = at ≤ end
InOrder at end (token_at start stop t ∷ ts) = (at ≤ start) × (start < stop) × InOrder stop end ts
InOrder at end (fault e ∷ ts) = (at ≤ end) × (ts ≡ [])
