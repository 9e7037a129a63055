-- The piece at the front is the longest that begins there, or there is a fault.
use Rattle.std.proofs.Common.{◌≡◌, ℕ, zero, suc, ◌+◌, ◌≤◌, ◌<◌, Bool, true, false, ◌&&◌, Option, Some, None, [], ◌∷◌, take, drop, length, ap, sym, subst, ◌∙◌, arith, refl}
use Rattle.std.specs.Prelude.{slice_index, ◌==◌, option_map}
use Rattle.std.specs.List.{prefix_len}
use Rattle.std.proofs.Math.Numerals.{one-add}
use Rattle.std.proofs.lemmas.Bool.{eqb-true, and_parts, or_parts}
use Rattle.protox_lex.specs.declared.class.Class.TheVariants as class
use Rattle.protox_lex.specs.declared.token.Sign.{Sign}
use Rattle.protox_lex.specs.Class.{Text, is_in}
use Rattle.protox_lex.specs.Token.{ident, sign, gap, token}
use Rattle.protox_lex.specs.Lex.{begins_number, sign_of, signed, front}
use Rattle.protox_lex.specs.Spelled.{is_quote}
use Rattle.protox_lex.proofs.Pieces.{piece_of, IsCut}
use Rattle.protox_lex.proofs.Runs.{longest_run, longest_run_behind}
use Rattle.protox_lex.proofs.Cuts.{IsRight, IsWord, piece_blank, piece_word}
use Rattle.protox_lex.proofs.CommentCuts.{piece_comment, hash_longest, block_right}
use Rattle.protox_lex.proofs.NumberCuts.{number_right}
use Rattle.protox_lex.proofs.StringCuts.{quoted_right}
use Rattle.protox_lex.proofs.Floats.{and_false}

-- ---- signs

-- the byte begins no piece that is not a sign or a comment of `/`
pub record IsMark (b : ℕ) : Type 0 where
  pub blank : is_in class.Blank b ≡ false
  pub letter : is_in class.Letter b ≡ false
  pub digit : is_in class.Digit b ≡ false
  pub quote : is_quote b ≡ false
  pub hash : (b == 35) ≡ false

pub piece_sign : (b : ℕ) → IsMark b → piece_of (b ∷ []) ≡ option_map (λ s. token (sign s)) (sign_of b)
unfolding piece_of
piece_sign b h = rw (h.blank, h.letter, h.digit, h.quote, h.hash, and_false (b == 46), and_false (b == 47)) refl

-- no number, line comment or block comment begins with these bytes
record IsApart (b c : ℕ) : Type 0 where
  number : (b == 46 && is_in class.Digit c) ≡ false
  line : (b == 47 && c == 47) ≡ false
  block : (b == 47 && c == 42) ≡ false

piece_marks : (b c : ℕ) (y : Text) → IsMark b → IsApart b c → piece_of (b ∷ c ∷ y) ≡ None
unfolding piece_of
piece_marks b c y h a = rw (h.blank, h.letter, h.digit, a.number, h.quote, h.hash, a.line, a.block) refl

module _ (b : ℕ) (y : Text) (is : IsMark b) (only : IsApart b (slice_index y 0)) where
  no_longer : (x : Text) → IsApart b (slice_index x 0) → (m : ℕ) → 1 < m → m ≤ length (b ∷ x) → piece_of (take m (b ∷ x)) ≡ None
  no_longer x a zero lt le = absurd (omega arith)
  no_longer x a (suc zero) lt le = absurd (omega arith)
  no_longer [] a (suc (suc m)) lt le = absurd (omega arith)
  no_longer (c ∷ x) a (suc (suc m)) lt le = piece_marks b c (take m x) is a

  no_piece : (x : Text) → IsApart b (slice_index x 0) → sign_of b ≡ None → (m : ℕ) → piece_of (take m (b ∷ x)) ≡ None
  unfolding piece_of
  no_piece x a none zero = refl
  no_piece x a none (suc zero) = piece_sign b is ∙ ap (option_map (λ t. token (sign t))) none
  no_piece [] a none (suc (suc m)) = piece_sign b is ∙ ap (option_map (λ t. token (sign t))) none
  no_piece (c ∷ x) a none (suc (suc m)) = piece_marks b c (take m x) is a

  sign_right : (s : Option Sign) → sign_of b ≡ s → IsRight (b ∷ y) (signed (b ∷ y) s)
  sign_right (Some s) known = (
    record {
      moves = omega arith;
      within = omega arith;
      is = piece_sign b is ∙ ap (option_map (λ t. token (sign t))) known;
      longest = no_longer y only;
    },
    only.block,
  )
  sign_right None known = (refl, refl, is.quote, no_piece y only known)

-- ---- comments

line_longest : (b : ℕ) (y : Text) → (b == 47 && slice_index y 0 == 47) ≡ true → IsCut (b ∷ y) gap (2 + prefix_len (is_in class.Line) (drop 1 y))
line_longest b [] h = absurd (let both = and_parts (b == 47) false h in let wrong : false ≡ true = both.1 in cc)
line_longest b (c ∷ y) h =
    let both = and_parts (b == 47) (c == 47) h in
    let start : b ∷ c ∷ y ≡ 47 ∷ 47 ∷ y = ap (λ k. k ∷ c ∷ y) (eqb-true b 47 both.0) ∙ ap (λ k. 47 ∷ k ∷ y) (eqb-true c 47 both.1) in
    let two : 2 + prefix_len (is_in class.Line) y ≡ suc (suc (prefix_len (is_in class.Line) y)) = omega arith in
    rw two (subst (λ z. IsCut z gap (suc (suc (prefix_len (is_in class.Line) y)))) (sym start) (longest_run_behind (is_in class.Line) y (λ x. gap) 47 47 (λ m h. piece_comment (take m y))))

pub block_begins : (b : ℕ) (y : Text) → (b == 47 && slice_index y 0 == 42) ≡ true → (x : Text) × (b ∷ y ≡ 47 ∷ 42 ∷ x)
block_begins b [] h = absurd (let both = and_parts (b == 47) false h in let wrong : false ≡ true = both.1 in cc)
block_begins b (c ∷ x) h =
    let both = and_parts (b == 47) (c == 42) h in
    (x, ap (λ k. k ∷ c ∷ x) (eqb-true b 47 both.0) ∙ ap (λ k. 47 ∷ k ∷ x) (eqb-true c 42 both.1))

block_front : (x : Text) → IsRight (47 ∷ 42 ∷ x) (front (47 ∷ 42 ∷ x))
unfolding front
block_front x = block_right x

-- ---- the cases

pub front_right : (b : ℕ) (y : Text) → IsRight (b ∷ y) (front (b ∷ y))
unfolding front
front_right b y = by (is_in class.Blank b) refl (is_in class.Letter b) refl (begins_number (b ∷ y)) refl (is_quote b) refl (b == 35) refl (b == 47 && slice_index y 0 == 47) refl (b == 47 && slice_index y 0 == 42) refl where
  by : (t1 : Bool) → is_in class.Blank b ≡ t1 → (t2 : Bool) → is_in class.Letter b ≡ t2 → (t3 : Bool) → begins_number (b ∷ y) ≡ t3 → (t4 : Bool) → is_quote b ≡ t4 → (t5 : Bool) → (b == 35) ≡ t5
      → (t6 : Bool) → (b == 47 && slice_index y 0 == 47) ≡ t6 → (t7 : Bool) → (b == 47 && slice_index y 0 == 42) ≡ t7 → IsRight (b ∷ y) (front (b ∷ y))
  by true blank t2 _ t3 _ t4 _ t5 _ t6 _ t7 _ = rw (blank, one-add) (longest_run (is_in class.Blank) y (λ x. gap) b (λ m h. piece_blank b (take m y) blank), tt)
  by false blank true letter t3 _ t4 _ t5 _ t6 _ t7 _ =
      let is : IsWord b = record { blank = blank; letter = letter } in
      rw (blank, letter, one-add) (longest_run (is_in class.Word) y (λ x. token (ident (b ∷ x))) b (λ m h. piece_word b (take m y) is), tt)
  by false blank false letter true begins t4 _ t5 _ t6 _ t7 _ = rw (blank, letter, begins) (number_right b y (record { blank = blank; letter = letter }) begins)
  by false blank false letter false begins true quote t5 _ t6 _ t7 _ = rw (blank, letter, begins, quote) (quoted_right b y quote)
  by false blank false letter false begins false quote true hash t6 _ t7 _ = rw (eqb-true b 35 hash) (hash_longest y, tt)
  by false blank false letter false begins false quote false hash true line t7 _ = rw (blank, letter, begins, quote, hash, line) (line_longest b y line, tt)
  by false blank false letter false begins false quote false hash false line true block =
      let e = block_begins b y block in
      subst (λ z. IsRight z (front z)) (sym e.1) (block_front e.0)
  by false blank false letter false begins false quote false hash false line false block =
      let none = or_parts (is_in class.Digit b) (b == 46 && is_in class.Digit (slice_index y 0)) begins in
      let is : IsMark b = record { blank = blank; letter = letter; digit = none.0; quote = quote; hash = hash } in
      let only : IsApart b (slice_index y 0) = record { number = none.1; line = line; block = block } in
      rw (blank, letter, begins, quote, hash, line, block) (sign_right b y is only (sign_of b) refl)
