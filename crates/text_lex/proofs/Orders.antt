-- The tokens of a text stand one behind the other.
use Rattle.std.proofs.Common.{◌≡◌, ℕ, zero, suc, ◌+◌, ◌≤◌, List, [], ◌∷◌, take, drop, length, subst, arith, refl, length-drop}
use Rattle.protox_lex.specs.Class.{Text}
use Rattle.text_lex.specs.Token.{Piece, token, Lexeme, token_at, fault}
use Rattle.text_lex.specs.Order.{InOrder}
use Rattle.text_lex.specs.Longest.{IsPiece, Lexes, ends, passes, takes, stops}
use Rattle.text_lex.proofs.OneReading.{nothing_no_piece}

-- what stands later is in order from an earlier place too
earlier : (at from end : ℕ) (ts : List Lexeme) → at ≤ from → InOrder from end ts → InOrder at end ts
earlier at from end [] le h = omega (arith, h)
earlier at from end (token_at start stop t ∷ ts) le h = (omega (arith, h.0), h.1, h.2)
earlier at from end (fault e ∷ ts) le h = (omega (arith, h.0), h.1)

-- a piece is not empty
some : (z : Text) (p : Piece) (n : ℕ) → IsPiece (take n z) p → 1 ≤ n
some z p zero h = absurd (nothing_no_piece p h)
some z p (suc n) h = omega arith

abbrev End : ℕ → Text → ℕ
End at z = at + length z

same_end : (at n : ℕ) (z : Text) (ts : List Lexeme) → n ≤ length z → InOrder (at + n) (End (at + n) (drop n z)) ts → InOrder (at + n) (End at z) ts
same_end at n z ts le h = let e : End (at + n) (drop n z) ≡ End at z = omega (arith, length-drop n z) in subst (λ k. InOrder (at + n) k ts) e h

pub in_order : (at : ℕ) (z : Text) (ts : List Lexeme) → Lexes at z ts → InOrder at (at + length z) ts
in_order at [] [] ends = omega arith
in_order at z ts (passes n l r) = earlier at (at + n) (End at z) ts (omega arith) (same_end at n z ts l.within (in_order (at + n) (drop n z) ts r))
in_order at z (t' ∷ ts) (takes t n l a r) = (omega arith, omega (arith, some z (token t) n l.is), same_end at n z ts l.within (in_order (at + n) (drop n z) ts r))
in_order at z (t' ∷ ts) (stops e more h) = (omega arith, refl)
