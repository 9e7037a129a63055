-- A piece of a text is one of a source too, and a piece of a source that begins with no `/` is one of a text, but for the signs ( ) =.
use Rattle.std.proofs.Common.{◌≡◌, ℕ, ◌<◌, Bool, true, false, Option, Some, None, [], ◌∷◌, take, length, ap, sym, subst, ◌∙◌, arith, refl}
use Rattle.std.specs.Prelude.{slice_index, ◌==◌, option_map}
use Rattle.std.specs.List.{list_all}
use Rattle.std.proofs.lemmas.Bool.{eqb-true, and_parts}
use Rattle.protox_lex.specs.Class.{Text, is_in}
use Rattle.protox_lex.specs.Lex.{value}
use Rattle.protox_lex.specs.Longest as source
use Rattle.protox_lex.specs.Spelled.{IsDecLit}
use Rattle.protox_lex.specs.Token as sources
use Rattle.protox_lex.specs.declared.class.Class.TheVariants as class
use Rattle.text_lex.specs.declared.token.Radix.TheVariants as radix
use Rattle.text_lex.specs.Token.{Token, int, sign, Piece, gap, token}
use Rattle.text_lex.specs.Longest.{is_sign, IsPiece, white_space, comment, word, hexadecimal, octal, decimal, floating, quoted, one_sign, IsLongest}
use Rattle.text_lex.specs.Lex.{int_of, sign_at, token_in}
use Rattle.text_lex.proofs.Integers.{int_hexadecimal, int_octal, int_decimal}
use Rattle.text_lex.proofs.Signs.{sign_here, byte_is}

-- what these bytes are in a text, where they are this piece of a source
abbrev pub piece_in : Text → sources.Piece → Option Piece
piece_in z sources.gap = Some gap
piece_in z (sources.token (sources.ident s)) = option_map token (token_in z (sources.ident s))
piece_in z (sources.token (sources.int n)) = option_map token (token_in z (sources.int n))
piece_in z (sources.token (sources.float s)) = option_map token (token_in z (sources.float s))
piece_in z (sources.token (sources.str s)) = option_map token (token_in z (sources.str s))
piece_in z (sources.token (sources.sign s)) = option_map token (token_in z (sources.sign s))
piece_in z (sources.token sources.comment) = Some gap

-- ---- from a text to a source

pub record InSource (z : Text) (p : Piece) : Type 0 where
  pub what : sources.Piece
  pub is : source.IsPiece z what
  pub back : piece_in z what ≡ Some p

octal_in : (z y : Text) → z ≡ 48 ∷ y → 0 < length y → list_all (is_in class.Octal) y ≡ true → InSource z (token (int radix.Octal y))
octal_in z [] e some all = absurd (omega arith)
octal_in z (c ∷ w) e some all = record {
  what = sources.token (sources.int (value 8 z));
  is = source.octal (c ∷ w) e all;
  back = ap (λ u. Some (token (int_of u))) e ∙ ap (λ t. Some (token t)) (int_octal c w (and_parts (is_in class.Octal c) (list_all (is_in class.Octal) w) all).0);
}

nought_in : (z : Text) → length z ≡ 1 → (slice_index z 0 == 48) ≡ true → InSource z (token (int radix.Decimal z))
nought_in [] len nought = absurd (omega (arith, len))
nought_in (b ∷ c ∷ w) len nought = absurd (omega (arith, len))
nought_in (b ∷ []) len nought = subst (λ k. InSource (k ∷ []) (token (int radix.Decimal (k ∷ [])))) (sym (eqb-true b 48 nought)) zero_in where
  zero_in : InSource (48 ∷ []) (token (int radix.Decimal (48 ∷ [])))
  zero_in = record { what = sources.token (sources.int (value 8 (48 ∷ []))); is = source.octal [] refl refl; back = refl }

decimal_in : (z : Text) → IsDecLit z → InSource z (token (int radix.Decimal z))
decimal_in z lit = by (slice_index z 0 == 48) refl where
  by : (v : Bool) → (slice_index z 0 == 48) ≡ v → InSource z (token (int radix.Decimal z))
  by true nought = nought_in z (eqb-true (length z) 1 (rw nought at lit.plain)) nought
  by false other = record {
    what = sources.token (sources.int (value 10 z));
    is = source.decimal lit.decimals other;
    back = ap (λ t. Some (token t)) (int_decimal z other);
  }

sign_in : (z : Text) (b : ℕ) → z ≡ b ∷ [] → is_sign b ≡ true → InSource z (token (sign b))
sign_in z b e is =
    let h = sign_here b is in
    record {
      what = sources.token (sources.sign h.which);
      is = source.one_sign b h.which e h.is.known;
      back = ap (λ k. option_map token (sign_at k)) h.is.byte ∙ rw is refl;
    }

pub in_source : (z : Text) (p : Piece) → IsPiece z p → InSource z p
in_source z gap (white_space some all) = record { what = sources.gap; is = source.white_space some all; back = refl }
in_source z gap (comment y e line) = record { what = sources.token sources.comment; is = source.hash_comment y e line; back = refl }
in_source z (token t) (word b y e letter all) = record { what = sources.token (sources.ident z); is = source.word b y e letter all; back = refl }
in_source z (token t) (hexadecimal x y e mark d) = record {
  what = sources.token (sources.int (value 16 y));
  is = source.hexadecimal x y e mark d;
  back = ap (λ u. Some (token (int_of u))) e ∙ ap (λ t. Some (token t)) (int_hexadecimal x y mark);
}
in_source z (token t) (octal y e d) = octal_in z y e d.some d.digits
in_source z (token t) (decimal lit) = decimal_in z lit
in_source z (token t) (floating f) = record { what = sources.token (sources.float z); is = source.floating f; back = refl }
in_source z (token t) (quoted q y s e quote string) = record { what = sources.token (sources.str s); is = source.quoted q y s e quote string; back = refl }
in_source z (token t) (one_sign b e is) = sign_in z b e is

-- ---- from a source to a text

piece_is : (z : Text) (p q : Piece) → Some p ≡ Some q → IsPiece z p → IsPiece z q
piece_is z p q e h = let f : p ≡ q = cc in subst (IsPiece z) f h

-- the bytes begin with `/`
slash : {P : Type 0} (z y : Text) → (slice_index z 0 == 47) ≡ false → z ≡ 47 ∷ y → P
slash z y none e = absurd (let wrong : true ≡ false = ap (λ w. slice_index w 0 == 47) (sym e) ∙ none in cc)

int_from : (z : Text) (t : Token) → int_of z ≡ t → IsPiece z (token t) → IsPiece z (token (int_of z))
int_from z t e h = subst (λ u. IsPiece z (token u)) (sym e) h

octal_from : (z y : Text) → z ≡ 48 ∷ y → list_all (is_in class.Octal) y ≡ true → IsPiece z (token (int_of z))
octal_from z [] e all = subst (λ w. IsPiece w (token (int_of w))) (sym e) (decimal (record { decimals = record { some = omega arith; digits = refl }; plain = refl }))
octal_from z (c ∷ w) e all =
    int_from z (int radix.Octal (c ∷ w)) (ap int_of e ∙ int_octal c w (and_parts (is_in class.Octal c) (list_all (is_in class.Octal) w) all).0)
    (octal (c ∷ w) e (record { some = omega arith; digits = all }))

sign_from : (z : Text) (b : ℕ) (q : Piece) (v : Bool) → is_sign b ≡ v → z ≡ b ∷ [] → option_map token (sign_at b) ≡ Some q → IsPiece z q
sign_from z b q true is e h = piece_is z (token (sign b)) q (rw is at h) (one_sign b e is)
sign_from z b q false is e h = absurd (let f : None ≡ Some q = rw is at h in cc)

pub from_source : (z : Text) (p : sources.Piece) (q : Piece) → (slice_index z 0 == 47) ≡ false → source.IsPiece z p → piece_in z p ≡ Some q → IsPiece z q
from_source z sources.gap q none (source.white_space some all) h = piece_is z gap q h (white_space some all)
from_source z sources.gap q none (source.line_comment y e all) h = slash z (47 ∷ y) none e
from_source z sources.gap q none (source.block_comment y e is) h = slash z (42 ∷ y) none e
from_source z (sources.token t) q none (source.hash_comment y e line) h = piece_is z gap q h (comment y e line)
from_source z (sources.token t) q none (source.word b y e letter all) h = piece_is z _ q h (word b y e letter all)
from_source z (sources.token t) q none (source.hexadecimal x y e mark d) h =
    piece_is z (token (int_of z)) q h (int_from z (int radix.Hexadecimal y) (ap int_of e ∙ int_hexadecimal x y mark) (hexadecimal x y e mark d))
from_source z (sources.token t) q none (source.octal y e all) h = piece_is z (token (int_of z)) q h (octal_from z y e all)
from_source z (sources.token t) q none (source.decimal d other) h =
    piece_is z (token (int_of z)) q h (int_from z (int radix.Decimal z) (int_decimal z other) (decimal (record { decimals = d; plain = rw other refl })))
from_source z (sources.token t) q none (source.floating f) h = piece_is z _ q h (floating f)
from_source z (sources.token t) q none (source.quoted r y s e quote string) h = piece_is z _ q h (quoted r y s e quote string)
from_source z (sources.token t) q none (source.one_sign b s e known) h =
    sign_from z b q (is_sign b) refl e (sym (ap (λ k. option_map token (sign_at k)) (byte_is b s known)) ∙ h)

-- ---- the longest

pub longest_in : (z : Text) (p : sources.Piece) (q : Piece) (n : ℕ) → source.IsLongest z p n → IsPiece (take n z) q → IsLongest z q n
longest_in z p q n l is = record {
  within = l.within;
  is = is;
  longest = λ m r lt le h. (let s = in_source (take m z) r h in l.longest m s.what lt le s.is);
}
