-- Words and decimal integers at the front of a text, which are cut as a source cuts them.
use Rattle.std.proofs.Common.{◌≡◌, ℕ, ◌<◌, ◌≤◌, ◌-◌, Bool, length, subst, IsCharBoundary, true, false, take, Option, Some, None, Ok, refl, ap, sym, ◌∙◌, arith}
use Rattle.std.specs.Prelude.{slice_index, ◌==◌, ◌&&◌, ◌||◌, not, nat_le, nat_lt}
use Rattle.std.specs.Str.{IsUtf8}
use Rattle.std.proofs.lemmas.Bool.{agree_below, agree_below_at, and_parts, eqb-true, leb-true, ltb-true, or_parts}
use Rattle.std.proofs.lemmas.Bool.Decides.{nat_tests}
use Rattle.std.proofs.lemmas.Str.{IsCharBoundary-after_ascii}
use Rattle.protox_lex.specs.Ascii.{IsAsciiTo, is_ascii_class}
use Rattle.protox_lex.specs.Class.{Text, is_in, past}
use Rattle.protox_lex.specs.Lex as source
use Rattle.protox_lex.specs.Lex.{number, past_exponent, past_fraction, short, sized, value}
use Rattle.protox_lex.specs.declared.class.Class.{Class}
use Rattle.protox_lex.specs.declared.class.Class.TheVariants as class
use Rattle.protox_lex.proofs.AsciiRuns.{ascii_past}
use Rattle.protox_lex.proofs.Numbers.{first_run, past_within}
use Rattle.text_lex.specs.Lex.{front, as_text, int_of}
use Rattle.text_lex.specs.Token.{ident, token}

not_other : (v : Bool) → v ≡ not v → ⊥
not_other true e = cc
not_other false e = cc

-- a byte that a test tells from k
apart : (p : ℕ → Bool) (b k : ℕ) (v : Bool) → p b ≡ v → p k ≡ not v → (b == k) ≡ false
apart p b k v here there = by (b == k) refl where
  by : (t : Bool) → (b == k) ≡ t → t ≡ false
  by false e = refl
  by true e = absurd (not_other v (sym here ∙ ap p (eqb-true b k e) ∙ there))

none_other : agree_below (λ b. is_in class.Digit b && (is_in class.Blank b || is_in class.Letter b)) (λ b. false) 58 ≡ true
none_other = refl

digit_small : (b : ℕ) → is_in class.Digit b ≡ true → b < 58
digit_small b h = omega (arith, leb-true b 57 (and_parts (nat_le 48 b) (nat_le b 57) h).1)

-- a digit is no white space and no letter
digit_only : (b : ℕ) → is_in class.Digit b ≡ true → (is_in class.Blank b ≡ false) × (is_in class.Letter b ≡ false)
digit_only b h =
    let other = agree_below_at (λ b. is_in class.Digit b && (is_in class.Blank b || is_in class.Letter b)) (λ b. false) 58 b none_other (digit_small b h) in
    or_parts (is_in class.Blank b) (is_in class.Letter b) (ap (λ t. t && (is_in class.Blank b || is_in class.Letter b)) (sym h) ∙ other)

not_less : (n : ℕ) → nat_lt n n ≡ false
not_less n = by (nat_lt n n) refl where
  by : (b : Bool) → nat_lt n n ≡ b → b ≡ false
  by false e = refl
  by true e = absurd (let x = ltb-true n n e in omega arith)

number_is : (z : Text) → (slice_index z 0 == 48) ≡ false → is_in class.Letter (slice_index z (past class.Digit z 0)) ≡ false → (slice_index z (past class.Digit z 0) == 46) ≡ false
    → number z ≡ sized (past class.Digit z 0) (short (value 10 (take (past class.Digit z 0) z)))
unfolding number past_fraction past_exponent
number_is z first letter point =
    let c = slice_index z (past class.Digit z 0) in
    let not_k : (k : ℕ) → is_in class.Letter k ≡ true → (c == k) ≡ false = λ k known. apart (is_in class.Letter) c k false letter known in
    rw (first, point, not_k 101 refl, not_k 69 refl, not_less (past class.Digit z 0), not_k 102 refl, not_k 70 refl, letter) refl

-- a text takes an integer of any size
any_size : (at : ℕ) (z : Text) (n : ℕ) (o : Option ℕ) → as_text at z (sized n o) ≡ Ok (token (int_of (take n z)), n)
any_size at z n (Some i) = refl
any_size at z n None = refl

pub decimal_front : (at : ℕ) (z : Text) → is_in class.Digit (slice_index z 0) ≡ true → (slice_index z 0 == 48) ≡ false
    → (is_in class.Letter (slice_index z (past class.Digit z 0)) || slice_index z (past class.Digit z 0) == 46) ≡ false
    → front at z ≡ Ok (token (int_of (take (past class.Digit z 0) z)), past class.Digit z 0)
unfolding front source.front
decimal_front at z digit first ends =
    let b = slice_index z 0 in
    let end = past class.Digit z 0 in
    let is = digit_only b digit in
    let behind = or_parts (is_in class.Letter (slice_index z end)) (slice_index z end == 46) ends in
    rw (apart (is_in class.Digit) b 47 true digit refl, apart (is_in class.Digit) b 35 true digit refl, is.0, is.1, digit)
    (ap (as_text at z) (number_is z first behind.0 behind.1) ∙ any_size at z end (short (value 10 (take end z))))

pub word_front : (at : ℕ) (z : Text) → is_in class.Blank (slice_index z 0) ≡ false → is_in class.Letter (slice_index z 0) ≡ true
    → front at z ≡ Ok (token (ident (take (past class.Word z 1) z)), past class.Word z 1)
unfolding front source.front
word_front at z solid letter =
    let b = slice_index z 0 in
    rw (apart (is_in class.Letter) b 47 true letter refl, apart (is_in class.Letter) b 35 true letter refl, solid, letter) refl

-- ---- where they end

-- a run of bytes below 128 ends at a character
run_boundary : (c : Class) (z : Text) (at : ℕ) → IsUtf8 z → is_ascii_class c ≡ true → IsAsciiTo z at → at ≤ length z → 1 ≤ past c z at → IsCharBoundary z (past c z at)
run_boundary c z at utf8 small before le some =
    let end = past c z at in
    let within = past_within c z at le in
    let ascii = ascii_past c z at small before in
    subst (IsCharBoundary z) (omega (arith, some)) (IsCharBoundary-after_ascii z (end - 1) utf8 (omega (arith, some, within)) (ascii.each (end - 1) (omega (arith, some))))

pub digits_boundary : (z : Text) → IsUtf8 z → is_in class.Digit (slice_index z 0) ≡ true → IsCharBoundary z (past class.Digit z 0)
digits_boundary z utf8 digit =
    let run = first_run (is_in class.Digit) z refl digit in
    run_boundary class.Digit z 0 utf8 refl (record { each = λ k lt. absurd (omega (arith, lt)) }) (omega arith) (omega (arith, run))

letter_small : (b : ℕ) → is_in class.Letter b ≡ true → b < 128
letter_small b h = grind (arith, nat_tests)

pub word_boundary : (z : Text) → IsUtf8 z → 0 < length z → is_in class.Letter (slice_index z 0) ≡ true → IsCharBoundary z (past class.Word z 1)
word_boundary z utf8 some letter =
    let first : IsAsciiTo z 1 = record { each = λ k lt. (let e : 0 ≡ k = omega (arith, lt) in subst (λ i. slice_index z i < 128) e (letter_small (slice_index z 0) letter)) } in
    run_boundary class.Word z 1 utf8 refl first some (omega arith)
