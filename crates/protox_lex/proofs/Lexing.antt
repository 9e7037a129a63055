-- The tokens that are cut are the longest.
use Rattle.std.proofs.Common.{◌≡◌, ℕ, zero, suc, ◌+◌, ◌≤◌, [], ◌∷◌, drop, length, Ok, Err, arith, refl, length-drop}
use Rattle.protox_lex.specs.Class.{Text}
use Rattle.protox_lex.specs.Token.{gap, token}
use Rattle.protox_lex.specs.Lex.{Cut, front, lexemes_from, lexemes}
use Rattle.protox_lex.specs.Longest.{Lexes, ends, passes, takes, stops}
use Rattle.protox_lex.proofs.Cuts.{IsRight}
use Rattle.protox_lex.proofs.Fronts.{front_right}
use Rattle.protox_lex.proofs.PieceSpelling.{longest_of}
use Rattle.protox_lex.proofs.Faults.{fault_of}
use Rattle.protox_lex.proofs.Streams.{on_gap, on_token, on_fault}

abbrev Later : ℕ → Type 0
Later most = (at : ℕ) (z : Text) → length z ≤ most → Lexes at z (lexemes_from at 0 z)

turn : (most at b : ℕ) (y : Text) → length y ≤ most → Later most → (r : Cut) → front (b ∷ y) ≡ r → IsRight (b ∷ y) r → Lexes at (b ∷ y) (lexemes_from at 0 (b ∷ y))
turn most at b y le later (Ok (gap, n)) e l =
    rw (on_gap at n (b ∷ y) e l.0.moves l.0.within) (passes n (longest_of (b ∷ y) gap n l.0) (later (at + n) (drop n (b ∷ y)) (omega (arith, l.0.moves, length-drop n (b ∷ y)))))
turn most at b y le later (Ok (token t, n)) e l =
    rw (on_token at n t (b ∷ y) e l.0.moves l.0.within) (takes t n (longest_of (b ∷ y) (token t) n l.0) l.1 (later (at + n) (drop n (b ∷ y)) (omega (arith, l.0.moves, length-drop n (b ∷ y)))))
turn most at b y le later (Err f) e l = rw (on_fault at f (b ∷ y) (omega arith) e) (stops {z = b ∷ y} f.kind f.start f.end (omega arith) (fault_of (b ∷ y) f.kind f.start f.end l))

lex : (most : ℕ) → Later most
unfolding lexemes_from
lex most at [] le = ends
lex zero at (b ∷ y) le = absurd (omega arith)
lex (suc most) at (b ∷ y) le = turn most at b y (omega arith) (lex most) (front (b ∷ y)) refl (front_right b y)

pub all_longest : (z : Text) → Lexes 0 z (lexemes z)
all_longest z = lex (length z) 0 z (omega arith)
