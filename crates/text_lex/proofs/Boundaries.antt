-- An integer ends where a text may be cut, and a fault is within the text.
use Rattle.std.proofs.Common.{◌≡◌, ℕ, suc, ◌+◌, ◌-◌, ◌≤◌, ◌<◌, Bool, true, false, eqb, ltb, ◌||◌, Option, Some, None, [], ◌∷◌, take, drop, length, get_or, Err, ap, sym, subst, ◌∙◌, arith, refl, min, inl, inr, length-take, length-drop}
use Rattle.std.specs.Prelude.{slice_index, ◌==◌, nat_lt, IsUtf8, IsCharBoundary}
use Rattle.std.specs.List.{list_all, prefix_len}
use Rattle.std.proofs.lemmas.Bool.{ltb-false, lt-ltb, ne_eqb, cases_lt, and_parts}
use Rattle.std.proofs.lemmas.Bool.Decides.{nat_tests}
use Rattle.std.proofs.lemmas.List.{get_or-take, get_or_past}
use Rattle.std.proofs.lemmas.List.Folds.{list_all_at}
use Rattle.std.proofs.lemmas.List.Sums.{prefix_len-le-length}
use Rattle.std.proofs.lemmas.Str.{IsCharBoundary-after_ascii, IsCharBoundary-before_ascii}
use Rattle.protox_lex.specs.Class.{Text, is_in}
use Rattle.protox_lex.specs.Lex as source_lex
use Rattle.protox_lex.specs.Lex.{sign_of, char_len, is_hex, value, short, scalar, byte_of, char_of, simple, simple_of, hex, octal_escape, unicode, escape, fault_len, contents_len}
use Rattle.protox_lex.specs.Longest as source
use Rattle.protox_lex.specs.Token as sources
use Rattle.protox_lex.specs.declared.class.Class.TheVariants as class
use Rattle.protox_lex.specs.declared.error.LexErrorKind.{LexErrorKind}
use Rattle.protox_lex.specs.declared.error.LexErrorKind.TheVariants as kinds
use Rattle.protox_lex.proofs.Numbers.{within_text, past_within}
use Rattle.protox_lex.proofs.Pieces.{IsFlaw}
use Rattle.text_lex.specs.declared.lexer.LexError.TheVariants as errors
use Rattle.text_lex.specs.Longest.{from_to}
use Rattle.text_lex.specs.Lex.{front}

-- ---- the end of an integer

-- the last of such bytes
last_is : (p : ℕ → Bool) (z : Text) → 0 < length z → list_all p z ≡ true → p (get_or z (length z - 1) 0) ≡ true
last_is p z some all = by (p (get_or z (length z - 1) 0)) refl where
  by : (v : Bool) → p (get_or z (length z - 1) 0) ≡ v → p (get_or z (length z - 1) 0) ≡ true
  by true e = e
  by false e = absurd (let wrong : true ≡ false = sym all ∙ list_all_at p z (length z - 1) 0 (omega arith) e in cc)

hex_ascii : (b : ℕ) → is_in class.Hex b ≡ true → b < 128
hex_ascii b h = grind (arith, nat_tests)

octal_ascii : (b : ℕ) → is_in class.Octal b ≡ true → b < 128
octal_ascii b h = grind (arith, nat_tests)

digit_ascii : (b : ℕ) → is_in class.Digit b ≡ true → b < 128
digit_ascii b h = grind (arith, nat_tests)

int_last : (z : Text) (i : ℕ) → source.IsPiece z (sources.token (sources.int i)) → (0 < length z) × (get_or z (length z - 1) 0 < 128)
int_last z i (source.hexadecimal x y e mark d) =
    let n : length z - 1 ≡ suc (suc (length y - 1)) = omega (arith, ap length e, d.some) in
    let same : get_or z (length z - 1) 0 ≡ get_or y (length y - 1) 0 = ap (λ k. get_or z k 0) n ∙ ap (λ w. get_or w (suc (suc (length y - 1))) 0) e in
    (omega (arith, ap length e), subst (λ b. b < 128) (sym same) (hex_ascii _ (last_is (is_in class.Hex) y d.some d.digits)))
int_last z i (source.octal y e all) =
    let is : list_all (is_in class.Octal) z ≡ true = ap (list_all (is_in class.Octal)) e ∙ all in
    (omega (arith, ap length e), octal_ascii _ (last_is (is_in class.Octal) z (omega (arith, ap length e)) is))
int_last z i (source.decimal d other) = (d.some, digit_ascii _ (last_is (is_in class.Digit) z d.some d.digits))

pub int_boundary : (z : Text) (i n : ℕ) → IsUtf8 z → source.IsLongest z (sources.token (sources.int i)) n → IsCharBoundary z n
int_boundary z i n utf8 l =
    let last = int_last (take n z) i l.is in
    let len : length (take n z) ≡ n = omega (arith, length-take n z, l.within) in
    let some : 0 < n = omega (arith, len, last.0) in
    let same : get_or (take n z) (length (take n z) - 1) 0 ≡ get_or z (n - 1) 0 = ap (λ k. get_or (take n z) (k - 1) 0) len ∙ get_or-take n z (n - 1) 0 (omega arith) in
    let next : n - 1 + 1 ≡ n = omega arith in
    subst (IsCharBoundary z) next (IsCharBoundary-after_ascii z (n - 1) utf8 (omega (arith, l.within)) (subst (λ b. b < 128) same last.1))

-- ---- the places of a fault

byte_fault : (o : Option ℕ) (n : ℕ) → fault_len (byte_of o n) ≤ n
byte_fault (Some v) n = by (nat_lt v 256) refl where
  by : (t : Bool) → nat_lt v 256 ≡ t → fault_len (byte_of (Some v) n) ≤ n
  by true e = rw e (omega arith)
  by false e = rw e (omega arith)
byte_fault None n = omega arith

char_fault : (o : Option ℕ) (n : ℕ) → fault_len (char_of o n) ≤ n
char_fault (Some v) n = by (scalar v) refl where
  by : (s : Option ℕ) → scalar v ≡ s → fault_len (char_of (Some v) n) ≤ n
  by (Some c) e = rw e (omega arith)
  by None e = rw e (omega arith)
char_fault None n = omega arith

simple_fault : (o : Option ℕ) → fault_len (simple_of o) ≤ 0
simple_fault (Some b) = omega arith
simple_fault None = omega arith

hex_fault : (c : ℕ) (u : Text) → fault_len (hex (c ∷ u)) ≤ suc (length u)
unfolding hex
hex_fault c u = by (min (1 + prefix_len (is_in class.Hex) u) 3 == 1) refl where
  by : (v : Bool) → (min (1 + prefix_len (is_in class.Hex) u) 3 == 1) ≡ v → fault_len (hex (c ∷ u)) ≤ suc (length u)
  by true e = rw e (omega arith)
  by false e =
      let f = byte_fault (short (value 16 (take (min (1 + prefix_len (is_in class.Hex) u) 3 - 1) u))) (min (1 + prefix_len (is_in class.Hex) u) 3) in
      rw e (omega (arith, f, prefix_len-le-length (is_in class.Hex) u))

octal_fault : (c : ℕ) (u : Text) → fault_len (octal_escape (c ∷ u)) ≤ suc (length u)
unfolding octal_escape
octal_fault c u =
    let n = min (0 + prefix_len (is_in class.Octal) (c ∷ u)) 3 in
    let f = byte_fault (short (value 8 (take n (c ∷ u)))) n in
    omega (arith, f, prefix_len-le-length (is_in class.Octal) (c ∷ u))

unicode_fault : (c : ℕ) (u : Text) (d : ℕ) → fault_len (unicode (c ∷ u) d) ≤ suc (length u)
unfolding unicode
unicode_fault c u d = by (ltb (1 + prefix_len (is_in class.Hex) u) (d + 1)) refl where
  by : (v : Bool) → ltb (1 + prefix_len (is_in class.Hex) u) (d + 1) ≡ v → fault_len (unicode (c ∷ u) d) ≤ suc (length u)
  by true e = rw e (omega arith)
  by false e = let f = char_fault (short (value 16 (take d u))) (d + 1) in rw e (omega (arith, f, ltb-false _ _ e, prefix_len-le-length (is_in class.Hex) u))

escape_fault : (w : Text) → fault_len (escape w) ≤ length w
unfolding escape
escape_fault [] = omega arith
escape_fault (c ∷ u) = by (c == 120 || c == 88) refl (c == 117) refl (c == 85) refl (is_in class.Octal c) refl where
  by : (u1 : Bool) → (c == 120 || c == 88) ≡ u1 → (u2 : Bool) → (c == 117) ≡ u2 → (u3 : Bool) → (c == 85) ≡ u3 → (u4 : Bool) → is_in class.Octal c ≡ u4 → fault_len (escape (c ∷ u)) ≤ suc (length u)
  by true e1 u2 _ u3 _ u4 _ = rw e1 (hex_fault c u)
  by false e1 true e2 u3 _ u4 _ = rw (e1, e2) (unicode_fault c u 4)
  by false e1 false e2 true e3 u4 _ = rw (e1, e2, e3) (unicode_fault c u 8)
  by false e1 false e2 false e3 true e4 = rw (e1, e2, e3, e4) (octal_fault c u)
  by false e1 false e2 false e3 false e4 = rw (e1, e2, e3, e4) (let f = simple_fault (simple c) in omega (arith, f))

letter_within : (z : Text) (n : ℕ) → is_in class.Letter (slice_index z n) ≡ true → n < length z
letter_within z n letter = elim (cases_lt n (length z)) [
  | inl lt ↦ lt
  | inr le ↦ absurd (let wrong : false ≡ true = ap (is_in class.Letter) (sym (get_or_past z n 0 le)) ∙ letter in cc)
]

hex_within : (z : Text) → is_hex z ≡ true → 2 ≤ length z
hex_within [] h = absurd (let wrong : false ≡ true = h in cc)
hex_within (b ∷ []) h = absurd (let g = (and_parts (eqb b 48) false h).1 in cc)
hex_within (b ∷ c ∷ z) h = omega arith

prefix_within : (z : Text) (n : ℕ) → n ≤ length z → source.prefix_of z n ≤ length z
prefix_within z n le = by (is_hex z) refl (slice_index z 0 == 48) refl where
  by : (v : Bool) → is_hex z ≡ v → (o : Bool) → (slice_index z 0 == 48) ≡ o → source.prefix_of z n ≤ length z
  by true hex o _ = rw hex (omega (arith, hex_within z hex))
  by false hex true nought = rw (hex, nought) (omega arith)
  by false hex false nought = rw (hex, nought) (omega arith)

-- the places of a fault are within the text
pub record IsWithin (z : Text) (start end : ℕ) : Type 0 where
  pub first : start ≤ length z
  pub last : end ≤ length z

no_comment : {P : Type 0} (z y : Text) → (slice_index z 0 == 47) ≡ false → z ≡ 47 ∷ y → P
no_comment z y none e = absurd (let wrong : true ≡ false = ap (λ w. slice_index w 0 == 47) (sym e) ∙ none in cc)

pub fault_within : (z : Text) (kind : LexErrorKind) (start end : ℕ) → (slice_index z 0 == 47) ≡ false → IsFlaw z kind start end → IsWithin z start end
fault_within z kinds.InvalidToken start end none h = record { first = omega (arith, h.0); last = omega (arith, h.1) }
fault_within z kinds.NoSpaceBetweenIntAndIdent start end none h =
    let n = h.1 in
    record { first = omega (arith, h.4, prefix_within z n h.2.within); last = omega (arith, h.5, past_within class.Alphabetic z (n + 1) (omega (arith, letter_within z n h.3))) }
fault_within z kinds.IntegerOutOfRange start end none h = record { first = omega (arith, h.5); last = omega (arith, h.6, h.2.within) }
fault_within z kinds.UnterminatedString start end none h = record { first = omega (arith, h.4.1); last = omega (arith, h.4.2) }
fault_within z kinds.InvalidStringEscape start end none h =
    let n = contents_len h.0 h.1 in
    let lt : n < length h.1 = within_text h.1 n 91 h.4.0 in
    let f = escape_fault (drop (n + 1) h.1) in
    record { first = omega (arith, h.4.1, lt, ap length h.2); last = omega (arith, h.4.2, lt, f, length-drop (n + 1) h.1, ap length h.2) }
fault_within z kinds.InvalidStringCharacters start end none h = record { first = omega (arith, h.4.0, h.4.2, ap length h.2); last = omega (arith, h.4.0, h.4.3, ap length h.2) }
fault_within z kinds.NestedBlockComment start end none h = no_comment z (42 ∷ h.0) none h.1
fault_within z kinds.UnterminatedComment start end none h = no_comment z (42 ∷ h.0) none h.1
fault_within z kinds.HashCommentOutsideTextFormat start end none h = absurd h
fault_within z kinds.FloatSuffixOutsideTextFormat start end none h = absurd h

-- ---- a byte where no character begins

pub no_boundary : (s : Text) (at : ℕ) → at < length s → (IsCharBoundary s at → ⊥) → (128 ≤ slice_index s at) × (slice_index s at < 192)
no_boundary s at lt none = elim (cases_lt (slice_index s at) 128) [
  | inl low ↦ absurd (none (IsCharBoundary-before_ascii s at lt low))
  | inr high ↦ elim (cases_lt (slice_index s at) 192) [
    | inl less ↦ (high, less)
    | inr lead ↦ absurd (none (omega arith, λ l a. lead))
  ]
]

module _ (at b : ℕ) (y : Text) (high : 128 ≤ b) (less : b < 192) where
  other : (k : ℕ) → k < 128 → (b == k) ≡ false
  other k lt = ne_eqb b k (λ e. omega (arith, e))

  no_sign : sign_of b ≡ None
  no_sign =
      rw (
        other 46 (omega arith),
        other 45 (omega arith),
        other 40 (omega arith),
        other 41 (omega arith),
        other 123 (omega arith),
        other 125 (omega arith),
        other 91 (omega arith),
        other 93 (omega arith),
        other 60 (omega arith),
        other 62 (omega arith),
        other 44 (omega arith),
        other 61 (omega arith),
        other 58 (omega arith),
        other 59 (omega arith),
        other 47 (omega arith),
      ) refl

  blank : is_in class.Blank b ≡ false
  blank = grind (arith, nat_tests)

  letter : is_in class.Letter b ≡ false
  letter = grind (arith, nat_tests)

  digit : is_in class.Digit b ≡ false
  digit = grind (arith, nat_tests)

  one : char_len b ≡ 1
  one = let lt : nat_lt b 192 ≡ true = lt-ltb b 192 less in rw lt refl

  size : min (length (b ∷ y)) (char_len b) ≡ 1
  size = omega (arith, one)

  pub invalid_front : front at (b ∷ y) ≡ Err (errors.InvalidToken (from_to at 0 1))
  unfolding front source_lex.front
  invalid_front = rw (no_sign, size, blank, letter, digit, other 46 (omega arith), other 47 (omega arith), other 35 (omega arith), other 34 (omega arith), other 39 (omega arith)) refl
