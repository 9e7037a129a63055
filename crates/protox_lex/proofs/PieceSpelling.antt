-- What the test of a piece says is what is spelled.
use Rattle.std.proofs.Common.{◌≡◌, ℕ, zero, suc, ◌≤◌, ◌<◌, Bool, true, false, cond, eqb, ◌&&◌, ◌||◌, not, Option, Some, None, [], ◌∷◌, ◌++◌, take, drop, length, ap, sym, subst, ◌∙◌, arith, refl, append_assoc, inl, inr}
use Rattle.std.specs.Prelude.{slice_index, ◌==◌, option_map}
use Rattle.std.specs.List.{prefix_len, list_all}
use Rattle.std.proofs.lemmas.Bool.{eqb-true, and_parts}
use Rattle.std.proofs.lemmas.List.{append-nil, get_or_past}
use Rattle.protox_lex.specs.declared.class.Class.TheVariants as class
use Rattle.protox_lex.specs.declared.token.Sign.{Sign}
use Rattle.protox_lex.specs.Class.{Text, is_in}
use Rattle.protox_lex.specs.Token.{Token, ident, int, float, str, sign, comment, Piece, gap, token}
use Rattle.protox_lex.specs.Lex.{is_hex, begins_number, value, sign_of, is_suffix, is_exponent_mark, past_fraction, past_suffix}
use Rattle.protox_lex.specs.Spelled.{IsDigits, IsDecimals, IsFloatLit, with_point, with_exponent, from_point, IsFloat, plain, with_suffix, is_quote, is_empty, is_line}
use Rattle.protox_lex.specs.Longest.{IsPiece, white_space, line_comment, block_comment, hash_comment, word, hexadecimal, octal, decimal, floating, quoted, one_sign, IsLongest}
use Rattle.protox_lex.proofs.Pieces.{if_all, is_float_text, int_of, number_of, literal_of, is_block, piece_of, IsCut}
use Rattle.protox_lex.proofs.Cuts.{IsOther, piece_blank, piece_word}
use Rattle.protox_lex.proofs.CommentCuts.{piece_hash, piece_comment, piece_block}
use Rattle.protox_lex.proofs.StringCuts.{piece_quote}
use Rattle.protox_lex.proofs.Numbers.{frac_none, exp_no_mark}
use Rattle.protox_lex.proofs.Floats.{whole, end_of, floats, floats_at, begins_with_point, and_false, both_false, octals_are_digits}
use Rattle.protox_lex.proofs.NumberCuts.{piece_number}
use Rattle.protox_lex.proofs.Fronts.{IsMark, piece_sign, block_begins}
use Rattle.protox_lex.proofs.FloatSpelling.{float_text, float_spelled, first_is, first_digit, run_front}
use Rattle.protox_lex.proofs.StringSpelling.{string_text, string_spelled}
use Rattle.protox_lex.proofs.CommentSpelling.{block_text, block_spelled}

if_is : {A : Type 0} (c : Bool) (x p : A) → if_all c x ≡ Some p → (c ≡ true) × (x ≡ p)
if_is true x p e = (refl, cc)
if_is false x p e = absurd (cc)

map_is : {A B : Type 0} (f : A → B) (o : Option A) (p : B) → option_map f o ≡ Some p → (x : A) × (o ≡ Some x) × (f x ≡ p)
map_is f (Some x) p e = (x, refl, cc)
map_is f None p e = absurd (cc)

-- ---- what passes the test is spelled

hex_spelled : (z : Text) (t : Token) → is_hex z ≡ true → if_all (list_all (is_in class.Hex) (drop 2 z)) (int (value 16 (drop 2 z))) ≡ Some t → IsPiece z (token t)
hex_spelled [] t hex e = absurd (let wrong : false ≡ true = hex in cc)
hex_spelled (b ∷ []) t hex e = absurd (let h = (and_parts (eqb b 48) false hex).1 in cc)
hex_spelled (b ∷ x ∷ []) t hex e = absurd (let h = (and_parts (eqb x 120 || eqb x 88) false (and_parts (eqb b 48) _ hex).1).1 in cc)
hex_spelled (b ∷ x ∷ c ∷ w) t hex e =
    let first = and_parts (eqb b 48) ((eqb x 120 || eqb x 88) && is_in class.Hex c) hex in
    let h = if_is (list_all (is_in class.Hex) (c ∷ w)) (int (value 16 (c ∷ w))) t e in
    subst (λ u. IsPiece (b ∷ x ∷ c ∷ w) (token u)) h.1
    (hexadecimal x (c ∷ w) (ap (λ k. k ∷ x ∷ c ∷ w) (eqb-true b 48 first.0)) (and_parts (eqb x 120 || eqb x 88) (is_in class.Hex c) first.1).0 (record { some = omega arith; digits = h.0 }))

int_spelled : (b : ℕ) (y : Text) (n : ℕ) → int_of (b ∷ y) ≡ Some n → IsPiece (b ∷ y) (token (int n))
int_spelled b y n e = by (b == 48) refl where
  by : (v : Bool) → (b == 48) ≡ v → IsPiece (b ∷ y) (token (int n))
  by true nought =
      let h = if_is (list_all (is_in class.Octal) (b ∷ y)) (value 8 (b ∷ y)) n (rw nought at e) in
      subst (λ k. IsPiece (b ∷ y) (token (int k))) h.1 (octal y (ap (λ k. k ∷ y) (eqb-true b 48 nought)) (and_parts (is_in class.Octal b) (list_all (is_in class.Octal) y) h.0).1)
  by false other =
      let h = if_is (list_all (is_in class.Digit) (b ∷ y)) (value 10 (b ∷ y)) n (rw other at e) in
      subst (λ k. IsPiece (b ∷ y) (token (int k))) h.1 (decimal (record { some = omega arith; digits = h.0 }) other)

number_spelled : (b : ℕ) (y : Text) (t : Token) → begins_number (b ∷ y) ≡ true → number_of (b ∷ y) ≡ Some t → IsPiece (b ∷ y) (token t)
number_spelled b y t begins e = by (is_hex (b ∷ y)) refl (is_float_text (b ∷ y)) refl where
  by : (h : Bool) → is_hex (b ∷ y) ≡ h → (f : Bool) → is_float_text (b ∷ y) ≡ f → IsPiece (b ∷ y) (token t)
  by true hex f _ = hex_spelled (b ∷ y) t hex (rw hex at e)
  by false hex true is =
      let f : Some (float (b ∷ y)) ≡ Some t = rw (hex, is) at e in
      let same : float (b ∷ y) ≡ t = cc in
      subst (λ u. IsPiece (b ∷ y) (token u)) same (floating (float_spelled (b ∷ y) begins is))
  by false hex false is =
      let n = map_is int (int_of (b ∷ y)) t (rw (hex, is) at e) in
      subst (λ u. IsPiece (b ∷ y) (token u)) n.2 (int_spelled b y n.0 n.1)

line_begins : (b : ℕ) (y : Text) → (b == 47 && slice_index y 0 == 47) ≡ true → (x : Text) × (b ∷ y ≡ 47 ∷ 47 ∷ x)
line_begins b [] h = absurd (let both = and_parts (b == 47) false h in let wrong : false ≡ true = both.1 in cc)
line_begins b (c ∷ x) h =
    let both = and_parts (b == 47) (c == 47) h in
    (x, ap (λ k. k ∷ c ∷ x) (eqb-true b 47 both.0) ∙ ap (λ k. 47 ∷ k ∷ x) (eqb-true c 47 both.1))

from_piece : (z w : Text) (p : Piece) → z ≡ w → piece_of z ≡ Some p → piece_of w ≡ Some p
from_piece z w p e h = subst (λ x. piece_of x ≡ Some p) e h

line_spelled : (z x : Text) (p : Piece) → z ≡ 47 ∷ 47 ∷ x → piece_of z ≡ Some p → IsPiece z p
line_spelled z x p e h = let i = if_is (list_all (is_in class.Line) x) gap p (sym (piece_comment x) ∙ from_piece z (47 ∷ 47 ∷ x) p e h) in subst (IsPiece z) i.1 (line_comment x e i.0)

comment_spelled : (z x : Text) (p : Piece) → z ≡ 47 ∷ 42 ∷ x → piece_of z ≡ Some p → IsPiece z p
comment_spelled z x p e h = let i = if_is (is_block x) gap p (sym (piece_block x) ∙ from_piece z (47 ∷ 42 ∷ x) p e h) in subst (IsPiece z) i.1 (block_comment x e (block_spelled x i.0))

sign_spelled : (b : ℕ) (y : Text) (p : Piece) (v : Bool) → is_empty y ≡ v → cond v (option_map (λ s. token (sign s)) (sign_of b)) None ≡ Some p → IsPiece (b ∷ y) p
sign_spelled b y p false e h = absurd (cc)
sign_spelled b (c ∷ y) p true e h = absurd (cc)
sign_spelled b [] p true e h = let s = map_is (λ s. token (sign s)) (sign_of b) p h in subst (IsPiece (b ∷ [])) s.2 (one_sign b s.0 refl s.1)

pub piece_spelled : (z : Text) (p : Piece) → piece_of z ≡ Some p → IsPiece z p
unfolding piece_of
piece_spelled [] p e = absurd (cc)
piece_spelled (b ∷ y) p e = by (is_in class.Blank b) refl (is_in class.Letter b) refl (begins_number (b ∷ y)) refl (is_quote b) refl (b == 35) refl (b == 47 && slice_index y 0 == 47) refl (b == 47 && slice_index y 0 == 42) refl where
  by : (t1 : Bool) → is_in class.Blank b ≡ t1 → (t2 : Bool) → is_in class.Letter b ≡ t2 → (t3 : Bool) → begins_number (b ∷ y) ≡ t3 → (t4 : Bool) → is_quote b ≡ t4 → (t5 : Bool) → (b == 35) ≡ t5
      → (t6 : Bool) → (b == 47 && slice_index y 0 == 47) ≡ t6 → (t7 : Bool) → (b == 47 && slice_index y 0 == 42) ≡ t7 → IsPiece (b ∷ y) p
  by true blank t2 _ t3 _ t4 _ t5 _ t6 _ t7 _ =
      let h = if_is (list_all (is_in class.Blank) y) gap p (sym (piece_blank b y blank) ∙ e) in
      subst (IsPiece (b ∷ y)) h.1 (white_space (omega arith) (rw blank h.0))
  by false blank true letter t3 _ t4 _ t5 _ t6 _ t7 _ =
      let h = if_is (list_all (is_in class.Word) y) (token (ident (b ∷ y))) p (sym (piece_word b y (record { blank = blank; letter = letter })) ∙ e) in
      subst (IsPiece (b ∷ y)) h.1 (word b y refl letter h.0)
  by false blank false letter true begins t4 _ t5 _ t6 _ t7 _ =
      let m = map_is token (number_of (b ∷ y)) p (sym (piece_number b y (record { blank = blank; letter = letter }) begins) ∙ e) in
      subst (IsPiece (b ∷ y)) m.2 (number_spelled b y m.0 begins m.1)
  by false blank false letter false begins true quote t5 _ t6 _ t7 _ =
      let m = map_is (λ s. token (str s)) (literal_of b y) p (sym (piece_quote b y quote) ∙ e) in
      subst (IsPiece (b ∷ y)) m.2 (quoted b y m.0 refl quote (string_spelled b y m.0 m.1))
  by false blank false letter false begins false quote true hash t6 _ t7 _ =
      let start : b ∷ y ≡ 35 ∷ y = ap (λ k. k ∷ y) (eqb-true b 35 hash) in
      let h = if_is (is_line y) (token comment) p (sym (piece_hash y) ∙ from_piece (b ∷ y) (35 ∷ y) p start e) in
      subst (IsPiece (b ∷ y)) h.1 (hash_comment y start h.0)
  by false blank false letter false begins false quote false hash true line t7 _ = let x = line_begins b y line in line_spelled (b ∷ y) x.0 p x.1 e
  by false blank false letter false begins false quote false hash false line true block = let x = block_begins b y block in comment_spelled (b ∷ y) x.0 p x.1 e
  by false blank false letter false begins false quote false hash false line false block = sign_spelled b y p (is_empty y) refl (rw (blank, letter, begins, quote, hash, line, block) at e)

-- ---- what is spelled passes the test

blank_text : (z : Text) → 0 < length z → list_all (is_in class.Blank) z ≡ true → piece_of z ≡ Some gap
blank_text [] some all = absurd (omega arith)
blank_text (b ∷ y) some all = let both = and_parts (is_in class.Blank b) (list_all (is_in class.Blank) y) all in piece_blank b y both.0 ∙ ap (λ v. if_all v gap) both.1

letter_no_blank : (b : ℕ) → is_in class.Letter b ≡ true → is_in class.Blank b ≡ false
letter_no_blank b h = grind arith

digit_other : (b : ℕ) → is_in class.Digit b ≡ true → IsOther b
digit_other b h = record { blank = no_blank; letter = no_letter } where
  no_blank : is_in class.Blank b ≡ false
  no_blank = grind arith

  no_letter : is_in class.Letter b ≡ false
  no_letter = grind arith

word_text : (b : ℕ) (y : Text) → is_in class.Letter b ≡ true → list_all (is_in class.Word) y ≡ true → piece_of (b ∷ y) ≡ Some (token (ident (b ∷ y)))
word_text b y letter all = piece_word b y (record { blank = letter_no_blank b letter; letter = letter }) ∙ ap (λ v. if_all v (token (ident (b ∷ y)))) all

-- digits alone are no float, and neither is a hexadecimal number
digits_no_float : (z : Text) → list_all (is_in class.Digit) z ≡ true → is_float_text z ≡ false
digits_no_float z all = both_false (floats z) (past_suffix z (end_of z) == length z) (floats_at z (length z) run end ∙ ap (λ b. (not (slice_index z 0 == 48) || length z == 1) && is_suffix b) (get_or_past z (length z) 0 (omega arith)) ∙ and_false _) where
  run : whole z ≡ length z
  run = let r : prefix_len (is_in class.Digit) z ≡ length z = ap (prefix_len (is_in class.Digit)) (sym (append-nil z)) ∙ run_front (is_in class.Digit) z [] all refl in omega (arith, r)

  end : past_fraction z (length z) ≡ length z
  end = frac_none z (length z) (ap (λ b. b == 46) (get_or_past z (length z) 0 (omega arith))) ∙ exp_no_mark z (length z) (ap is_exponent_mark (get_or_past z (length z) 0 (omega arith)))

marked_no_float : (x : ℕ) (w : Text) → (x == 120 || x == 88) ≡ true → floats (48 ∷ x ∷ w) ≡ false
marked_no_float x w mark = by (x == 120) refl where
  small : floats (48 ∷ 120 ∷ w) ≡ false
  small = floats_at (48 ∷ 120 ∷ w) 1 refl (frac_none (48 ∷ 120 ∷ w) 1 refl ∙ exp_no_mark (48 ∷ 120 ∷ w) 1 refl)

  large : floats (48 ∷ 88 ∷ w) ≡ false
  large = floats_at (48 ∷ 88 ∷ w) 1 refl (frac_none (48 ∷ 88 ∷ w) 1 refl ∙ exp_no_mark (48 ∷ 88 ∷ w) 1 refl)

  by : (v : Bool) → (x == 120) ≡ v → floats (48 ∷ x ∷ w) ≡ false
  by true h = subst (λ k. floats (48 ∷ k ∷ w) ≡ false) (sym (eqb-true x 120 h)) small
  by false h = subst (λ k. floats (48 ∷ k ∷ w) ≡ false) (sym (eqb-true x 88 (rw h at mark))) large

hex_no_float : (z : Text) → is_hex z ≡ true → is_float_text z ≡ false
hex_no_float [] hex = absurd (let wrong : false ≡ true = hex in cc)
hex_no_float (b ∷ []) hex = absurd (let h = (and_parts (eqb b 48) false hex).1 in cc)
hex_no_float (b ∷ x ∷ w) hex =
    let first = and_parts (eqb b 48) ((eqb x 120 || eqb x 88) && is_in class.Hex (slice_index w 0)) hex in
    let mark = (and_parts (eqb x 120 || eqb x 88) (is_in class.Hex (slice_index w 0)) first.1).0 in
    both_false (floats (b ∷ x ∷ w)) (past_suffix (b ∷ x ∷ w) (end_of (b ∷ x ∷ w)) == length (b ∷ x ∷ w)) (subst (λ k. floats (k ∷ x ∷ w) ≡ false) (sym (eqb-true b 48 first.0)) (marked_no_float x w mark))

hex_text : (x : ℕ) (y : Text) → (x == 120 || x == 88) ≡ true → IsDigits class.Hex y → piece_of (48 ∷ x ∷ y) ≡ Some (token (int (value 16 y)))
hex_text x [] mark d = absurd (omega (arith, d.some))
hex_text x (c ∷ w) mark d =
    let both = and_parts (is_in class.Hex c) (list_all (is_in class.Hex) w) d.digits in
    piece_number 48 (x ∷ c ∷ w) (record { blank = refl; letter = refl }) refl ∙ rw (mark, both.0, both.1) refl

octal_no_hex : (y : Text) → list_all (is_in class.Octal) y ≡ true → is_hex (48 ∷ y) ≡ false
octal_no_hex [] all = refl
octal_no_hex (c ∷ w) all = by (c == 120) refl (c == 88) refl where
  octal_is : is_in class.Octal c ≡ true
  octal_is = (and_parts (is_in class.Octal c) (list_all (is_in class.Octal) w) all).0

  by : (u : Bool) → (c == 120) ≡ u → (v : Bool) → (c == 88) ≡ v → is_hex (48 ∷ c ∷ w) ≡ false
  by true h v _ = absurd (let wrong : true ≡ false = sym octal_is ∙ ap (is_in class.Octal) (eqb-true c 120 h) in cc)
  by false h true i = absurd (let wrong : true ≡ false = sym octal_is ∙ ap (is_in class.Octal) (eqb-true c 88 i) in cc)
  by false h false i = rw (h, i) refl

octal_text : (y : Text) → list_all (is_in class.Octal) y ≡ true → piece_of (48 ∷ y) ≡ Some (token (int (value 8 (48 ∷ y))))
octal_text y all =
    let no_float : is_float_text (48 ∷ y) ≡ false = digits_no_float (48 ∷ y) (octals_are_digits (48 ∷ y) all) in
    piece_number 48 y (record { blank = refl; letter = refl }) refl ∙ rw (octal_no_hex y all, no_float, all) refl

no_nought_no_hex : (b : ℕ) (y : Text) → (b == 48) ≡ false → is_hex (b ∷ y) ≡ false
no_nought_no_hex b y h = rw h refl

decimal_text : (z : Text) → IsDecimals z → (slice_index z 0 == 48) ≡ false → piece_of z ≡ Some (token (int (value 10 z)))
decimal_text [] d other = absurd (omega (arith, d.some))
decimal_text (b ∷ y) d other =
    let digit = (and_parts (is_in class.Digit b) (list_all (is_in class.Digit) y) d.digits).0 in
    let all : list_all (is_in class.Digit) (b ∷ y) ≡ true = d.digits in
    piece_number b y (digit_other b digit) (rw digit refl) ∙ rw (no_nought_no_hex b y other, digits_no_float (b ∷ y) all, other, all) refl

-- ---- floats

digit_begins : (z : Text) → is_in class.Digit (slice_index z 0) ≡ true → begins_number z ≡ true
digit_begins z digit = rw digit refl

literal_begins : (x s : Text) → IsFloatLit x → begins_number (x ++ s) ≡ true
literal_begins x s (with_point a b e is da mb me) =
    let first : slice_index (x ++ s) 0 ≡ slice_index a 0 = ap (λ w. slice_index (w ++ s) 0) is ∙ ap (λ w. slice_index w 0) (append_assoc a (46 ∷ (b ++ e)) s) ∙ first_is a ((46 ∷ (b ++ e)) ++ s) da.some in
    digit_begins (x ++ s) (ap (is_in class.Digit) first ∙ first_digit a da)
literal_begins x s (with_exponent a e is da ie) =
    let first : slice_index (x ++ s) 0 ≡ slice_index a 0 = ap (λ w. slice_index (w ++ s) 0) is ∙ ap (λ w. slice_index w 0) (append_assoc a e s) ∙ first_is a (e ++ s) da.some in
    digit_begins (x ++ s) (ap (is_in class.Digit) first ∙ first_digit a da)
literal_begins x s (from_point b e is db me) =
    let first : slice_index ((b ++ e) ++ s) 0 ≡ slice_index b 0 = ap (λ w. slice_index w 0) (append_assoc b e s) ∙ first_is b (e ++ s) db.some in
    let digit : is_in class.Digit (slice_index ((b ++ e) ++ s) 0) ≡ true = ap (is_in class.Digit) first ∙ first_digit b db in
    let at_point : begins_number (46 ∷ ((b ++ e) ++ s)) ≡ true = digit in
    subst (λ w. begins_number (w ++ s) ≡ true) (sym is) at_point

float_begins : (z : Text) → IsFloat z → begins_number z ≡ true
float_begins z (plain lit) = subst (λ w. begins_number w ≡ true) (append-nil z) (literal_begins z [] lit)
float_begins z (with_suffix x s is suffix (inl lit)) = subst (λ w. begins_number w ≡ true) (sym is) (literal_begins x (s ∷ []) lit)
float_begins z (with_suffix x s is suffix (inr lit)) =
    let first : slice_index (x ++ (s ∷ [])) 0 ≡ slice_index x 0 = first_is x (s ∷ []) lit.decimals.some in
    subst (λ w. begins_number w ≡ true) (sym is) (digit_begins (x ++ (s ∷ [])) (ap (is_in class.Digit) first ∙ first_digit x lit.decimals))

begins_other : (b : ℕ) (y : Text) → begins_number (b ∷ y) ≡ true → IsOther b
begins_other b y begins = by (is_in class.Digit b) refl where
  by : (v : Bool) → is_in class.Digit b ≡ v → IsOther b
  by true digit = digit_other b digit
  by false none = subst IsOther (sym (begins_with_point b y begins none).0) (record { blank = refl; letter = refl })

float_piece : (z : Text) → begins_number z ≡ true → is_float_text z ≡ true → piece_of z ≡ Some (token (float z))
float_piece [] begins is = absurd (let wrong : false ≡ true = begins in cc)
float_piece (b ∷ y) begins is = piece_number b y (begins_other b y begins) begins ∙ by (is_hex (b ∷ y)) refl where
  by : (v : Bool) → is_hex (b ∷ y) ≡ v → option_map token (number_of (b ∷ y)) ≡ Some (token (float (b ∷ y)))
  by true hex = absurd (let wrong : true ≡ false = sym is ∙ hex_no_float (b ∷ y) hex in cc)
  by false hex = rw (hex, is) refl

-- ---- signs

is_mark : ℕ → Bool
is_mark b = not (is_in class.Blank b || (is_in class.Letter b || (is_in class.Digit b || (is_quote b || b == 35))))

mark_of : (b : ℕ) → is_mark b ≡ true → IsMark b
unfolding is_mark
mark_of b h = by (is_in class.Blank b) refl (is_in class.Letter b) refl (is_in class.Digit b) refl (is_quote b) refl (b == 35) refl where
  by : (t1 : Bool) → is_in class.Blank b ≡ t1 → (t2 : Bool) → is_in class.Letter b ≡ t2 → (t3 : Bool) → is_in class.Digit b ≡ t3 → (t4 : Bool) → is_quote b ≡ t4 → (t5 : Bool) → (b == 35) ≡ t5 → IsMark b
  by false e1 false e2 false e3 false e4 false e5 = record { blank = e1; letter = e2; digit = e3; quote = e4; hash = e5 }
  by true e1 t2 _ t3 _ t4 _ t5 _ = absurd (let f = rw e1 at h in cc)
  by false e1 true e2 t3 _ t4 _ t5 _ = absurd (let f = rw (e1, e2) at h in cc)
  by false e1 false e2 true e3 t4 _ t5 _ = absurd (let f = rw (e1, e2, e3) at h in cc)
  by false e1 false e2 false e3 true e4 t5 _ = absurd (let f = rw (e1, e2, e3, e4) at h in cc)
  by false e1 false e2 false e3 false e4 true e5 = absurd (let f = rw (e1, e2, e3, e4, e5) at h in cc)

try : (b k : ℕ) → is_mark k ≡ true → ((b == k) ≡ false → is_mark b ≡ true) → is_mark b ≡ true
try b k is other = by (b == k) refl where
  by : (v : Bool) → (b == k) ≡ v → is_mark b ≡ true
  by true h = ap is_mark (eqb-true b k h) ∙ is
  by false h = other h

-- each byte of a sign is such a byte
sign_mark : (b : ℕ) (s : Sign) → sign_of b ≡ Some s → is_mark b ≡ true
unfolding is_mark
sign_mark b s e =
    try b 46 refl λ h1. try b 45 refl λ h2. try b 40 refl λ h3. try b 41 refl λ h4. try b 123 refl λ h5. try b 125 refl λ h6. try b 91 refl λ h7. try b 93 refl λ h8.
    try b 60 refl λ h9. try b 62 refl λ h10. try b 44 refl λ h11. try b 61 refl λ h12. try b 58 refl λ h13. try b 59 refl λ h14. try b 47 refl λ h15.
    absurd (let f : None ≡ Some s = rw (h1, h2, h3, h4, h5, h6, h7, h8, h9, h10, h11, h12, h13, h14, h15) at e in cc)

pub piece_text : (z : Text) (p : Piece) → IsPiece z p → piece_of z ≡ Some p
piece_text z gap (white_space some all) = blank_text z some all
piece_text z gap (line_comment y is all) = ap piece_of is ∙ piece_comment y ∙ ap (λ v. if_all v gap) all
piece_text z gap (block_comment y is h) = ap piece_of is ∙ piece_block y ∙ ap (λ v. if_all v gap) (block_text y h)
piece_text z (token comment) (hash_comment y is line) = ap piece_of is ∙ piece_hash y ∙ ap (λ v. if_all v (token comment)) line
piece_text z (token (ident s)) (word b y is letter all) = subst (λ w. piece_of w ≡ Some (token (ident w))) (sym is) (word_text b y letter all)
piece_text z (token (int n)) (hexadecimal x y is mark d) = ap piece_of is ∙ hex_text x y mark d
piece_text z (token (int n)) (octal y is all) = subst (λ w. piece_of w ≡ Some (token (int (value 8 w)))) (sym is) (octal_text y all)
piece_text z (token (int n)) (decimal d other) = decimal_text z d other
piece_text z (token (float s)) (floating is) = float_piece z (float_begins z is) (float_text z is)
piece_text z (token (str t)) (quoted q y s is quote string) = ap piece_of is ∙ piece_quote q y quote ∙ ap (option_map (λ s. token (str s))) (string_text q y s quote string)
piece_text z (token (sign t)) (one_sign b s is known) = ap piece_of is ∙ piece_sign b (mark_of b (sign_mark b s known)) ∙ ap (option_map (λ s. token (sign s))) known

-- ---- the longest

pub longest_of : (z : Text) (p : Piece) (n : ℕ) → IsCut z p n → IsLongest z p n
longest_of z p n l = record {
  within = l.within;
  is = piece_spelled (take n z) p l.is;
  longest = λ m q lt le h. (let wrong : None ≡ Some q = sym (l.longest m lt le) ∙ piece_text (take m z) q h in absurd (cc));
}

pub no_piece_none : (z : Text) → ((q : Piece) → IsPiece z q → ⊥) → piece_of z ≡ None
no_piece_none z none = by (piece_of z) refl where
  by : (o : Option Piece) → piece_of z ≡ o → piece_of z ≡ None
  by (Some q) e = absurd (none q (piece_spelled z q e))
  by None e = e

nothing_no_piece : (p : Piece) → IsPiece [] p → ⊥
unfolding piece_of
nothing_no_piece p h = let wrong : None ≡ Some p = piece_text [] p h in cc

pub cut_of : (z : Text) (p : Piece) (n : ℕ) → IsLongest z p n → IsCut z p n
cut_of z p n l = record { moves = some n l.is; within = l.within; is = piece_text (take n z) p l.is; longest = λ m lt le. no_piece_none (take m z) (λ q h. l.longest m q lt le h) } where
  some : (n : ℕ) → IsPiece (take n z) p → 1 ≤ n
  some zero h = absurd (nothing_no_piece p h)
  some (suc n) h = omega arith
