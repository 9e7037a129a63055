-- The tokens of a text: words are ASCII, and strings hold bytes, where the text is bytes.
use Rattle.std.proofs.Common.{◌≡◌, ℕ, zero, suc, ◌<◌, true, List, [], ◌∷◌, ◌++◌, take, drop, sym, subst, arith}
use Rattle.std.specs.List.{AllByRecursion, list_all}
use Rattle.std.proofs.lemmas.Bool.{and_parts}
use Rattle.std.proofs.lemmas.Bool.Decides.{nat_tests}
use Rattle.protox_lex.specs.declared.class.Class.TheVariants as class
use Rattle.protox_lex.specs.Class.{Text, is_in}
use Rattle.text_lex.specs.Token.{Token, ident, int, float, str, sign, Piece, gap, token, Lexeme}
use Rattle.text_lex.specs.Longest.{IsPiece, white_space, comment, word, hexadecimal, octal, decimal, floating, quoted, one_sign, Lexes, ends, passes, takes, stops}
use Rattle.text_model.specs.Texts.{AreTokens}
use Rattle.text_laws.proofs.Small.{AreSmall}

pub all_parts : {X : Type 0} (P : X → Type 0) (a b : List X) → AllByRecursion P (a ++ b) → AllByRecursion P a × AllByRecursion P b
all_parts P [] b h = (tt, h)
all_parts P (x ∷ a) b h = let rest = all_parts P a b h.1 in ((h.0, rest.0), rest.1)

abbrev pub AreAscii : Text → Type 0
AreAscii s = AllByRecursion (λ b. b < 128) s

word_small : (b : ℕ) → is_in class.Word b ≡ true → b < 128
word_small b h = grind (arith, nat_tests)

letter_small : (b : ℕ) → is_in class.Letter b ≡ true → b < 128
letter_small b h = grind (arith, nat_tests)

words_small : (y : Text) → list_all (is_in class.Word) y ≡ true → AreAscii y
words_small [] h = tt
words_small (b ∷ y) h = let p = and_parts (is_in class.Word b) (list_all (is_in class.Word) y) h in (word_small b p.0, words_small y p.1)

front_small : (n : ℕ) (z : Text) → AreSmall z → AreSmall (take n z)
front_small zero z h = tt
front_small (suc n) [] h = tt
front_small (suc n) (b ∷ z) h = (h.0, front_small n z h.1)

pub rest_small : (n : ℕ) (z : Text) → AreSmall z → AreSmall (drop n z)
rest_small zero z h = h
rest_small (suc n) [] h = tt
rest_small (suc n) (b ∷ z) h = rest_small n z h.1

-- strings hold bytes where P says that the text does
module _ (P : Type 0) where
  abbrev pub IsFine : Token → Type 0
  IsFine (ident w) = AreAscii w
  IsFine (str s) = P → AreSmall s
  IsFine (int r s) = Unit {0}
  IsFine (float s) = Unit {0}
  IsFine (sign b) = Unit {0}

  abbrev pub AreFine : List Token → Type 0
  AreFine ts = AllByRecursion IsFine ts

  abbrev IsFinePiece : Piece → Type 0
  IsFinePiece gap = Unit {0}
  IsFinePiece (token t) = IsFine t

  piece_fine : (z : Text) (p : Piece) → (P → AreSmall z) → IsPiece z p → IsFinePiece p
  piece_fine z p small (white_space some blank) = tt
  piece_fine z p small (comment y e line) = tt
  piece_fine z p small (word b y e letter words) = subst AreAscii (sym e) (letter_small b letter, words_small y words)
  piece_fine z p small (hexadecimal x y e h d) = tt
  piece_fine z p small (octal y e d) = tt
  piece_fine z p small (decimal d) = tt
  piece_fine z p small (floating f) = tt
  piece_fine z p small (quoted q y s e is string) = λ p. (all_parts (λ b. b < 256) s (q ∷ []) (subst AreSmall string.closes (subst AreSmall e (small p)).1)).0
  piece_fine z p small (one_sign b e is) = tt

  pub cut_fine : (at : ℕ) (z : Text) (ls : List Lexeme) (ts : List Token) → (P → AreSmall z) → Lexes at z ls → AreTokens ls ts → AreFine ts
  cut_fine at z ls ts small ends h = subst AreFine (sym h) tt
  cut_fine at z ls ts small (passes n is rest) h = cut_fine _ (drop n z) ls ts (λ p. rest_small n z (small p)) rest h
  cut_fine at z ls [] small (takes t n is alone rest) h = absurd h
  cut_fine at z ls (u ∷ ts) small (takes t n is alone rest) h =
      (subst IsFine h.0 (piece_fine (take n z) (token t) (λ p. front_small n z (small p)) is.is), cut_fine _ (drop n z) _ ts (λ p. rest_small n z (small p)) rest h.1)
  cut_fine at z ls ts small (stops e some is) h = absurd h
