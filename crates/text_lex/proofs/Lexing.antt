-- The tokens that are cut are the longest.
use Rattle.std.proofs.Common.{◌≡◌, ℕ, zero, suc, ◌+◌, ◌≤◌, [], ◌∷◌, drop, length, Ok, Err, arith, refl, length-drop}
use Rattle.protox_lex.specs.Class.{Text}
use Rattle.text_lex.specs.Token.{gap, token}
use Rattle.text_lex.specs.Lex.{Cut, front, lexemes_from}
use Rattle.text_lex.specs.Longest.{Lexes, ends, passes, takes, stops}
use Rattle.text_lex.proofs.Fronts.{IsRight, front_right}
use Rattle.text_lex.proofs.Streams.{on_gap, on_token, on_fault}

abbrev Later : ℕ → Type 0
Later most = (at : ℕ) (z : Text) → length z ≤ most → Lexes at z (lexemes_from at 0 z)

turn : (most at b : ℕ) (y : Text) → length y ≤ most → Later most → (r : Cut) → front at (b ∷ y) ≡ r → IsRight at (b ∷ y) r → Lexes at (b ∷ y) (lexemes_from at 0 (b ∷ y))
turn most at b y le later (Ok (gap, n)) e r =
    rw (on_gap at n b y e r.0 r.1.within) (passes n r.1 (later (at + n) (drop n (b ∷ y)) (omega (arith, r.0, length-drop n (b ∷ y)))))
turn most at b y le later (Ok (token t, n)) e r =
    rw (on_token at n b t y e r.0 r.1.within) (takes t n r.1 r.2 (later (at + n) (drop n (b ∷ y)) (omega (arith, r.0, length-drop n (b ∷ y)))))
turn most at b y le later (Err f) e r = rw (on_fault at b f y e) (stops {z = b ∷ y} f (omega arith) r)

lex : (most : ℕ) → Later most
unfolding lexemes_from
lex most at [] le = ends
lex zero at (b ∷ y) le = absurd (omega arith)
lex (suc most) at (b ∷ y) le = turn most at b y (omega arith) (lex most) (front at (b ∷ y)) refl (front_right at b y)

pub all_longest : (at : ℕ) (z : Text) → Lexes at z (lexemes_from at 0 z)
all_longest at z = lex (length z) at z (omega arith)
