-- Escapes are read as they are spelled.
use Rattle.std.proofs.Common.{◌≡◌, ℕ, zero, suc, ◌+◌, ◌-◌, ◌≤◌, ◌<◌, Bool, true, false, cond, ltb, ◌||◌, ◌&&◌, List, Option, Some, None, Result, [], ◌∷◌, take, length, Ok, Err, ap, sym, subst, ◌∙◌, ◌^◌, arith, refl, length-take, ◌⊎◌, inl, inr, min}
use Rattle.std.specs.Prelude.{◌==◌}
use Rattle.std.specs.List.{Contains, AllByRecursion, prefix_len, list_all}
use Rattle.std.proofs.lemmas.Bool.{eqb-true, eqb-false, and_parts, and_from, or_right, ltb-true, ltb-false, lt-ltb, le-ltb, cases_lt}
use Rattle.std.proofs.lemmas.List.Sums.{prefix_len-le-length}
use Rattle.protox_lex.specs.declared.class.Class.TheVariants as class
use Rattle.protox_lex.specs.declared.escape.Meaning.{Meaning}
use Rattle.protox_lex.specs.declared.escape.Meaning.TheVariants as meaning
use Rattle.protox_lex.specs.Class.{Text, is_in}
use Rattle.protox_lex.specs.Lex.{Escaped, value, short, is_scalar, meant, simple, simple_of, byte_of, char_of, hex, octal_escape, unicode, escape}
use Rattle.protox_lex.proofs.Runs.{more_than_run}
use Rattle.protox_lex.proofs.Values.{is_short}
use Rattle.protox_lex.specs.Spelled.{IsDigits, letters, HasForm, letter, hexadecimal, octal, unicode as four, long_unicode, IsMeant, IsLongestForm, IsEscape, NoEscape, no_form, no_meaning}

-- ---- runs

run_part : (p : ℕ → Bool) (y : Text) (k : ℕ) → k ≤ prefix_len p y → list_all p (take k y) ≡ true
run_part p y zero le = refl
run_part p [] (suc k) le = absurd (omega arith)
run_part p (b ∷ y) (suc k) le = by (p b) refl le (run_part p y k) where
  by : (v : Bool) → p b ≡ v → suc k ≤ cond v (1 + prefix_len p y) 0 → (k ≤ prefix_len p y → list_all p (take k y) ≡ true) → list_all p (take (suc k) (b ∷ y)) ≡ true
  by true e le rest = rw e (rest (omega arith))
  by false e le rest = absurd (omega arith)

run_bound : (p : ℕ → Bool) (y : Text) (j : ℕ) → j ≤ length y → list_all p (take j y) ≡ true → j ≤ prefix_len p y
run_bound p y j le all = by (ltb (prefix_len p y) j) refl where
  by : (v : Bool) → ltb (prefix_len p y) j ≡ v → j ≤ prefix_len p y
  by true e = absurd (let wrong : true ≡ false = sym all ∙ more_than_run p y j (ltb-true _ _ e) le in cc)
  by false e = ltb-false _ _ e

-- ---- letters

-- what holds of each pair of the table
all_letters : (P : ℕ × ℕ → Type 0) (ls : List (ℕ × ℕ)) (x : ℕ × ℕ) → AllByRecursion P ls → Contains ls x → P x
all_letters P [] x all (k, lt, e) = absurd (omega arith)
all_letters P (l ∷ ls) x all (zero, lt, e) = subst P e all.0
all_letters P (l ∷ ls) x all (suc k, lt, e) = all_letters P ls x all.1 (k, omega arith, e)

-- a letter of the table begins no other form, and stands for a byte
record IsLetter (l : ℕ × ℕ) : Type 0 where
  byte : l.1 < 256
  read : simple l.0 ≡ Some l.1
  hex : (l.0 == 120 || l.0 == 88) ≡ false
  four : (l.0 == 117) ≡ false
  eight : (l.0 == 85) ≡ false
  digit : is_in class.Octal l.0 ≡ false

known_letter : (a b : ℕ) → b < 256 → simple a ≡ Some b → (a == 120 || a == 88) ≡ false → (a == 117) ≡ false → (a == 85) ≡ false → is_in class.Octal a ≡ false → IsLetter (a, b)
known_letter a b h1 h2 h3 h4 h5 h6 = record { byte = h1; read = h2; hex = h3; four = h4; eight = h5; digit = h6 }

known_letters : AllByRecursion IsLetter letters
known_letters = (
  known_letter 97 7 (omega arith) refl refl refl refl refl,
  (
    known_letter 98 8 (omega arith) refl refl refl refl refl,
    (
      known_letter 102 12 (omega arith) refl refl refl refl refl,
      (
        known_letter 110 10 (omega arith) refl refl refl refl refl,
        (
          known_letter 114 13 (omega arith) refl refl refl refl refl,
          (
            known_letter 116 9 (omega arith) refl refl refl refl refl,
            (
              known_letter 118 11 (omega arith) refl refl refl refl refl,
              (
                known_letter 63 63 (omega arith) refl refl refl refl refl,
                (
                  known_letter 92 92 (omega arith) refl refl refl refl refl,
                  (
                    known_letter 39 39 (omega arith) refl refl refl refl refl,
                    (known_letter 34 34 (omega arith) refl refl refl refl refl, tt),
                  ),
                ),
              ),
            ),
          ),
        ),
      ),
    ),
  ),
)

is_letter : (c b : ℕ) → Contains {X = ℕ × ℕ} letters (c, b) → IsLetter (c, b)
is_letter c b h = all_letters IsLetter letters (c, b) known_letters h

-- what is read as a letter stands in the table
letter_at : (c b x y : ℕ) → c ≡ x → y ≡ b → Contains {X = ℕ × ℕ} letters (x, y) → Contains {X = ℕ × ℕ} letters (c, b)
letter_at c b x y e f h = subst (λ k. Contains {X = ℕ × ℕ} letters (k, b)) (sym e) (subst (λ k. Contains {X = ℕ × ℕ} letters (x, k)) f h)

letter_of : (c b : ℕ) → simple c ≡ Some b → Contains {X = ℕ × ℕ} letters (c, b)
letter_of c b h = by (c == 97) refl (c == 98) refl (c == 116) refl (c == 110) refl (c == 118) refl (c == 102) refl (c == 114) refl (c == 63) refl (c == 92) refl (c == 39) refl (c == 34) refl where
  by : (t0 : Bool) → (c == 97) ≡ t0 → (t1 : Bool) → (c == 98) ≡ t1 → (t2 : Bool) → (c == 116) ≡ t2 → (t3 : Bool) → (c == 110) ≡ t3 → (t4 : Bool) → (c == 118) ≡ t4 → (t5 : Bool) → (c == 102) ≡ t5 → (t6 : Bool) → (c == 114) ≡ t6 → (t7 : Bool) → (c == 63) ≡ t7 → (t8 : Bool) → (c == 92) ≡ t8 → (t9 : Bool) → (c == 39) ≡ t9 → (t10 : Bool) → (c == 34) ≡ t10 → Contains {X = ℕ × ℕ} letters (c, b)
  by true e0 t1 _ t2 _ t3 _ t4 _ t5 _ t6 _ t7 _ t8 _ t9 _ t10 _ = let f : ◌≡◌ {A = Option ℕ} (Some 7) (Some b) = rw e0 at h in let same : 7 ≡ b = cc in letter_at c b 97 7 (eqb-true c 97 e0) same (0, omega arith, refl)
  by false e0 true e1 t2 _ t3 _ t4 _ t5 _ t6 _ t7 _ t8 _ t9 _ t10 _ = let f : ◌≡◌ {A = Option ℕ} (Some 8) (Some b) = rw (e0, e1) at h in let same : 8 ≡ b = cc in letter_at c b 98 8 (eqb-true c 98 e1) same (1, omega arith, refl)
  by false e0 false e1 true e2 t3 _ t4 _ t5 _ t6 _ t7 _ t8 _ t9 _ t10 _ = let f : ◌≡◌ {A = Option ℕ} (Some 9) (Some b) = rw (e0, e1, e2) at h in let same : 9 ≡ b = cc in letter_at c b 116 9 (eqb-true c 116 e2) same (5, omega arith, refl)
  by false e0 false e1 false e2 true e3 t4 _ t5 _ t6 _ t7 _ t8 _ t9 _ t10 _ = let f : ◌≡◌ {A = Option ℕ} (Some 10) (Some b) = rw (e0, e1, e2, e3) at h in let same : 10 ≡ b = cc in letter_at c b 110 10 (eqb-true c 110 e3) same (3, omega arith, refl)
  by false e0 false e1 false e2 false e3 true e4 t5 _ t6 _ t7 _ t8 _ t9 _ t10 _ = let f : ◌≡◌ {A = Option ℕ} (Some 11) (Some b) = rw (e0, e1, e2, e3, e4) at h in let same : 11 ≡ b = cc in letter_at c b 118 11 (eqb-true c 118 e4) same (6, omega arith, refl)
  by false e0 false e1 false e2 false e3 false e4 true e5 t6 _ t7 _ t8 _ t9 _ t10 _ = let f : ◌≡◌ {A = Option ℕ} (Some 12) (Some b) = rw (e0, e1, e2, e3, e4, e5) at h in let same : 12 ≡ b = cc in letter_at c b 102 12 (eqb-true c 102 e5) same (2, omega arith, refl)
  by false e0 false e1 false e2 false e3 false e4 false e5 true e6 t7 _ t8 _ t9 _ t10 _ = let f : ◌≡◌ {A = Option ℕ} (Some 13) (Some b) = rw (e0, e1, e2, e3, e4, e5, e6) at h in let same : 13 ≡ b = cc in letter_at c b 114 13 (eqb-true c 114 e6) same (4, omega arith, refl)
  by false e0 false e1 false e2 false e3 false e4 false e5 false e6 true e7 t8 _ t9 _ t10 _ = let f : Some c ≡ Some b = rw (e0, e1, e2, e3, e4, e5, e6, e7) at h in let same : c ≡ b = cc in let is = eqb-true c 63 e7 in letter_at c b 63 63 is (sym is ∙ same) (7, omega arith, refl)
  by false e0 false e1 false e2 false e3 false e4 false e5 false e6 false e7 true e8 t9 _ t10 _ = let f : Some c ≡ Some b = rw (e0, e1, e2, e3, e4, e5, e6, e7, e8) at h in let same : c ≡ b = cc in let is = eqb-true c 92 e8 in letter_at c b 92 92 is (sym is ∙ same) (8, omega arith, refl)
  by false e0 false e1 false e2 false e3 false e4 false e5 false e6 false e7 false e8 true e9 t10 _ = let f : Some c ≡ Some b = rw (e0, e1, e2, e3, e4, e5, e6, e7, e8, e9) at h in let same : c ≡ b = cc in let is = eqb-true c 39 e9 in letter_at c b 39 39 is (sym is ∙ same) (9, omega arith, refl)
  by false e0 false e1 false e2 false e3 false e4 false e5 false e6 false e7 false e8 false e9 true e10 = let f : Some c ≡ Some b = rw (e0, e1, e2, e3, e4, e5, e6, e7, e8, e9, e10) at h in let same : c ≡ b = cc in let is = eqb-true c 34 e10 in letter_at c b 34 34 is (sym is ∙ same) (10, omega arith, refl)
  by false e0 false e1 false e2 false e3 false e4 false e5 false e6 false e7 false e8 false e9 false e10 = absurd (let f = rw (e0, e1, e2, e3, e4, e5, e6, e7, e8, e9, e10) at h in cc)

-- ---- what the first byte says of the form

no_letter : (c d : ℕ) → simple c ≡ None → Contains {X = ℕ × ℕ} letters (c, d) → ⊥
no_letter c d none h = let wrong : ◌≡◌ {A = Option ℕ} None (Some d) = sym none ∙ (is_letter c d h).read in cc

no_digit : (c : ℕ) (t : Text) → is_in class.Octal c ≡ false → IsDigits class.Octal (c ∷ t) → ⊥
no_digit c t none d = let wrong : true ≡ false = sym (and_parts (is_in class.Octal c) (list_all (is_in class.Octal) t) d.digits).0 ∙ none in cc

nothing_is_no_form : (q : Meaning) → HasForm [] q → ⊥
nothing_is_no_form (meaning.Byte v) (letter b d e h) = cc
nothing_is_no_form (meaning.Byte v) (hexadecimal x y e mark d le) = cc
nothing_is_no_form (meaning.Byte v) (octal d le) = absurd (let h = d.some in omega (arith, h))
nothing_is_no_form (meaning.Char v) (four y e d le) = cc
nothing_is_no_form (meaning.Char v) (long_unicode y e d le) = cc

-- a form behind `x`
record IsHex (t : Text) (q : Meaning) : Type 0 where
  digits : IsDigits class.Hex t
  most : length t ≤ 2
  is : q ≡ meaning.Byte (value 16 t)

hex_form : (c : ℕ) (t : Text) (q : Meaning) → simple c ≡ None → (c == 117) ≡ false → (c == 85) ≡ false → is_in class.Octal c ≡ false → HasForm (c ∷ t) q → IsHex t q
hex_form c t (meaning.Byte v) none no_u no_l no_o (letter b d e h) = absurd (let same : b ≡ c = cc in no_letter c d none (subst (λ k. Contains {X = ℕ × ℕ} letters (k, d)) same h))
hex_form c t (meaning.Byte v) none no_u no_l no_o (hexadecimal x y e mark d le) =
    let same : y ≡ t = cc in
    record { digits = subst (IsDigits class.Hex) same d; most = subst (λ k. length k ≤ 2) same le; is = ap (λ k. meaning.Byte (value 16 k)) same }
hex_form c t (meaning.Byte v) none no_u no_l no_o (octal d le) = absurd (no_digit c t no_o d)
hex_form c t (meaning.Char v) none no_u no_l no_o (four y e d le) = absurd (let same : c ≡ 117 = cc in let wrong : true ≡ false = sym (ap (λ k. k == 117) same) ∙ no_u in cc)
hex_form c t (meaning.Char v) none no_u no_l no_o (long_unicode y e d le) = absurd (let same : c ≡ 85 = cc in let wrong : true ≡ false = sym (ap (λ k. k == 85) same) ∙ no_l in cc)

-- a form behind `u` or `U`
record IsUnicode (digits : ℕ) (t : Text) (q : Meaning) : Type 0 where
  all : IsDigits class.Hex t
  many : length t ≡ digits
  is : q ≡ meaning.Char (value 16 t)

unicode_form : (c : ℕ) (t : Text) (q : Meaning) → c ≡ 117 → HasForm (c ∷ t) q → IsUnicode 4 t q
unicode_form c t (meaning.Byte v) u (letter b d e h) = absurd (let same : b ≡ 117 = cc in no_letter 117 d refl (subst (λ k. Contains {X = ℕ × ℕ} letters (k, d)) same h))
unicode_form c t (meaning.Byte v) u (hexadecimal x y e mark d le) = absurd (let same : x ≡ 117 = cc in let wrong : false ≡ true = rw same at mark in cc)
unicode_form c t (meaning.Byte v) u (octal d le) = absurd (no_digit 117 t refl (subst (λ k. IsDigits class.Octal (k ∷ t)) u d))
unicode_form c t (meaning.Char v) u (four y e d le) =
    let same : y ≡ t = cc in
    record { all = subst (IsDigits class.Hex) same d; many = subst (λ k. length k ≡ 4) same le; is = ap (λ k. meaning.Char (value 16 k)) same }
unicode_form c t (meaning.Char v) u (long_unicode y e d le) = absurd (let same : c ≡ 85 = cc in omega (arith, same, u))

long_form : (c : ℕ) (t : Text) (q : Meaning) → c ≡ 85 → HasForm (c ∷ t) q → IsUnicode 8 t q
long_form c t (meaning.Byte v) u (letter b d e h) = absurd (let same : b ≡ 85 = cc in no_letter 85 d refl (subst (λ k. Contains {X = ℕ × ℕ} letters (k, d)) same h))
long_form c t (meaning.Byte v) u (hexadecimal x y e mark d le) = absurd (let same : x ≡ 85 = cc in let wrong : false ≡ true = rw same at mark in cc)
long_form c t (meaning.Byte v) u (octal d le) = absurd (no_digit 85 t refl (subst (λ k. IsDigits class.Octal (k ∷ t)) u d))
long_form c t (meaning.Char v) u (four y e d le) = absurd (let same : c ≡ 117 = cc in omega (arith, same, u))
long_form c t (meaning.Char v) u (long_unicode y e d le) =
    let same : y ≡ t = cc in
    record { all = subst (IsDigits class.Hex) same d; many = subst (λ k. length k ≡ 8) same le; is = ap (λ k. meaning.Char (value 16 k)) same }

-- a form of octal digits
record IsOctal (z : Text) (q : Meaning) : Type 0 where
  digits : IsDigits class.Octal z
  most : length z ≤ 3
  is : q ≡ meaning.Byte (value 8 z)

octal_form : (c : ℕ) (t : Text) (q : Meaning) → is_in class.Octal c ≡ true → (c == 120 || c == 88) ≡ false → (c == 117) ≡ false → (c == 85) ≡ false → HasForm (c ∷ t) q → IsOctal (c ∷ t) q
octal_form c t (meaning.Byte v) o no_x no_u no_l (letter b d e h) =
    absurd (let same : b ≡ c = cc in let l = is_letter b d h in let wrong : true ≡ false = sym o ∙ subst (λ k. is_in class.Octal k ≡ false) same l.digit in cc)
octal_form c t (meaning.Byte v) o no_x no_u no_l (hexadecimal x y e mark d le) =
    absurd (let same : c ≡ x = cc in let wrong : true ≡ false = sym mark ∙ sym (ap (λ k. k == 120 || k == 88) same) ∙ no_x in cc)
octal_form c t (meaning.Byte v) o no_x no_u no_l (octal d le) = record { digits = d; most = le; is = refl }
octal_form c t (meaning.Char v) o no_x no_u no_l (four y e d le) = absurd (let same : c ≡ 117 = cc in let wrong : true ≡ false = sym (ap (λ k. k == 117) same) ∙ no_u in cc)
octal_form c t (meaning.Char v) o no_x no_u no_l (long_unicode y e d le) = absurd (let same : c ≡ 85 = cc in let wrong : true ≡ false = sym (ap (λ k. k == 85) same) ∙ no_l in cc)

-- a form of one letter
record IsOne (c : ℕ) (t : Text) (q : Meaning) : Type 0 where
  byte : ℕ
  read : simple c ≡ Some byte
  alone : t ≡ []
  is : q ≡ meaning.Byte byte

letter_form : (c : ℕ) (t : Text) (q : Meaning) → is_in class.Octal c ≡ false → (c == 120 || c == 88) ≡ false → (c == 117) ≡ false → (c == 85) ≡ false → HasForm (c ∷ t) q → IsOne c t q
letter_form c t (meaning.Byte v) no_o no_x no_u no_l (letter b d e h) =
    let same : b ≡ c = cc in
    let none : t ≡ [] = cc in
    record { byte = d; read = subst (λ k. simple k ≡ Some d) same (is_letter b d h).read; alone = none; is = refl }
letter_form c t (meaning.Byte v) no_o no_x no_u no_l (hexadecimal x y e mark d le) =
    absurd (let same : c ≡ x = cc in let wrong : true ≡ false = sym mark ∙ sym (ap (λ k. k == 120 || k == 88) same) ∙ no_x in cc)
letter_form c t (meaning.Byte v) no_o no_x no_u no_l (octal d le) = absurd (no_digit c t no_o d)
letter_form c t (meaning.Char v) no_o no_x no_u no_l (four y e d le) = absurd (let same : c ≡ 117 = cc in let wrong : true ≡ false = sym (ap (λ k. k == 117) same) ∙ no_u in cc)
letter_form c t (meaning.Char v) no_o no_x no_u no_l (long_unicode y e d le) = absurd (let same : c ≡ 85 = cc in let wrong : true ≡ false = sym (ap (λ k. k == 85) same) ∙ no_l in cc)

-- ---- what is read

-- what is read of a form of so many bytes
abbrev read_as : Meaning → ℕ → Escaped
read_as (meaning.Byte b) n = byte_of (short b) n
read_as (meaning.Char c) n = char_of (short c) n

-- a text is read as its longest form, or has none
data IsRead (y : Text) : Escaped → Type 0 where
  reads : (n : ℕ) (m : Meaning) → IsLongestForm y n m → IsRead y (read_as m n)
  finds_none : ((k : ℕ) (q : Meaning) → k ≤ length y → HasForm (take k y) q → ⊥) → IsRead y (Err 0)

front_of : (c k : ℕ) (u : Text) → 1 ≤ k → take k (c ∷ u) ≡ c ∷ take (k - 1) u
front_of c zero u h = absurd (omega arith)
front_of c (suc k) u h = let e : suc k - 1 ≡ k = omega arith in ap (λ j. c ∷ take j u) (sym e)

taken : (u : Text) (j : ℕ) → j ≤ length u → length (take j u) ≡ j
taken u j le = omega (arith, length-take j u)

module _ (c : ℕ) (u : Text) (none : simple c ≡ None) (x : (c == 120 || c == 88) ≡ true) (no_u : (c == 117) ≡ false) (no_l : (c == 85) ≡ false) (no_o : is_in class.Octal c ≡ false) where
  most_hex : (j : ℕ) (q : Meaning) → j ≤ length u → HasForm (c ∷ take j u) q → (1 ≤ j) × (j ≤ prefix_len (is_in class.Hex) u) × (j ≤ 2)
  most_hex j q le h =
      let f = hex_form c (take j u) q none no_u no_l no_o h in
      let some = f.digits.some in
      let most = f.most in
      (omega (arith, some, taken u j le), run_bound (is_in class.Hex) u j le f.digits.digits, omega (arith, most, taken u j le))

  hex_none : prefix_len (is_in class.Hex) u ≡ 0 → (k : ℕ) (q : Meaning) → k ≤ length (c ∷ u) → HasForm (take k (c ∷ u)) q → ⊥
  hex_none e zero q le h = nothing_is_no_form q h
  hex_none e (suc j) q le h = let b = most_hex j q (omega arith) h in omega (arith, b.0, b.1, e)

  hex_longest : (k : ℕ) (q : Meaning) → min (1 + prefix_len (is_in class.Hex) u) 3 < k → k ≤ length (c ∷ u) → HasForm (take k (c ∷ u)) q → ⊥
  hex_longest zero q lt le h = nothing_is_no_form q h
  hex_longest (suc j) q lt le h = let b = most_hex j q (omega arith) h in omega (arith, b.1, b.2)

  hex_read : IsRead (c ∷ u) (hex (c ∷ u))
  unfolding hex
  hex_read = by (min (1 + prefix_len (is_in class.Hex) u) 3 == 1) refl where
    by : (b : Bool) → (min (1 + prefix_len (is_in class.Hex) u) 3 == 1) ≡ b
        → IsRead (c ∷ u) (cond b (Err 0) (byte_of (short (value 16 (take (min (1 + prefix_len (is_in class.Hex) u) 3 - 1) u))) (min (1 + prefix_len (is_in class.Hex) u) 3)))
    by true e = let one = eqb-true (min (1 + prefix_len (is_in class.Hex) u) 3) 1 e in finds_none (hex_none (omega (arith, one)))
    by false e =
        let n = min (1 + prefix_len (is_in class.Hex) u) 3 in
        let t = take (n - 1) u in
        let more = prefix_len-le-length (is_in class.Hex) u in
        let other = eqb-false n 1 e in
        let some : 1 ≤ prefix_len (is_in class.Hex) u = elim (cases_lt 0 (prefix_len (is_in class.Hex) u)) [ inl lt ↦ omega (arith, lt) | inr ge ↦ absurd (other (omega (arith, ge))) ] in
        let long : length t ≡ n - 1 = taken u (n - 1) (omega (arith, more)) in
        let d : IsDigits class.Hex t = record { some = omega (arith, long, some); digits = run_part (is_in class.Hex) u (n - 1) (omega arith) } in
        reads n (meaning.Byte (value 16 t)) (record {
          within = omega (arith, more);
          form = hexadecimal c t (front_of c n u (omega arith)) x d (omega (arith, long));
          longest = hex_longest;
        })

module _ (c d : ℕ) (u : Text) (some : 1 ≤ d) (make : (t : Text) → IsDigits class.Hex t → length t ≡ d → HasForm (c ∷ t) (meaning.Char (value 16 t))) (only : (t : Text) (q : Meaning) → HasForm (c ∷ t) q → IsUnicode d t q) where
  as_many : (j : ℕ) (q : Meaning) → j ≤ length u → HasForm (c ∷ take j u) q → (j ≡ d) × (d ≤ prefix_len (is_in class.Hex) u)
  as_many j q le h =
      let f = only (take j u) q h in
      let same : j ≡ d = omega (arith, f.many, taken u j le) in
      (same, omega (arith, same, run_bound (is_in class.Hex) u j le f.all.digits))

  unicode_none : prefix_len (is_in class.Hex) u < d → (k : ℕ) (q : Meaning) → k ≤ length (c ∷ u) → HasForm (take k (c ∷ u)) q → ⊥
  unicode_none lt zero q le h = nothing_is_no_form q h
  unicode_none lt (suc j) q le h = let b = as_many j q (omega arith) h in omega (arith, b.1, lt)

  unicode_longest : (k : ℕ) (q : Meaning) → d + 1 < k → k ≤ length (c ∷ u) → HasForm (take k (c ∷ u)) q → ⊥
  unicode_longest zero q lt le h = nothing_is_no_form q h
  unicode_longest (suc j) q lt le h = let b = as_many j q (omega arith) h in omega (arith, b.0)

  unicode_read : IsRead (c ∷ u) (unicode (c ∷ u) d)
  unfolding unicode
  unicode_read = by (ltb (1 + prefix_len (is_in class.Hex) u) (d + 1)) refl where
    by : (b : Bool) → ltb (1 + prefix_len (is_in class.Hex) u) (d + 1) ≡ b → IsRead (c ∷ u) (cond b (Err 0) (char_of (short (value 16 (take d u))) (d + 1)))
    by true e = finds_none (unicode_none (omega (arith, ltb-true _ _ e)))
    by false e =
        let most = prefix_len-le-length (is_in class.Hex) u in
        let enough = ltb-false _ _ e in
        let long : length (take d u) ≡ d = taken u d (omega (arith, most, enough)) in
        let digits : IsDigits class.Hex (take d u) = record { some = omega (arith, long, some); digits = run_part (is_in class.Hex) u d (omega (arith, enough)) } in
        let front : take (d + 1) (c ∷ u) ≡ c ∷ take d u = let one : d + 1 ≡ suc d = omega arith in ap (λ k. take k (c ∷ u)) one in
        reads (d + 1) (meaning.Char (value 16 (take d u))) (record {
          within = omega (arith, most, enough);
          form = subst (λ z. HasForm z (meaning.Char (value 16 (take d u)))) (sym front) (make (take d u) digits long);
          longest = unicode_longest;
        })

module _ (c : ℕ) (u : Text) (o : is_in class.Octal c ≡ true) (no_x : (c == 120 || c == 88) ≡ false) (no_u : (c == 117) ≡ false) (no_l : (c == 85) ≡ false) where
  abbrev octals : ℕ
  octals = 0 + prefix_len (is_in class.Octal) (c ∷ u)

  octal_longest : (k : ℕ) (q : Meaning) → min octals 3 < k → k ≤ length (c ∷ u) → HasForm (take k (c ∷ u)) q → ⊥
  octal_longest zero q lt le h = nothing_is_no_form q h
  octal_longest (suc j) q lt le h =
      let f = octal_form c (take j u) q o no_x no_u no_l h in
      let most = f.most in
      omega (arith, most, taken u j (omega arith), run_bound (is_in class.Octal) (c ∷ u) (suc j) le f.digits.digits)

  octal_read : IsRead (c ∷ u) (octal_escape (c ∷ u))
  unfolding octal_escape
  octal_read =
      let n = min octals 3 in
      let z = take n (c ∷ u) in
      let some : prefix_len (is_in class.Octal) (c ∷ u) ≡ 1 + prefix_len (is_in class.Octal) u = ap (λ v. cond v (1 + prefix_len (is_in class.Octal) u) 0) o in
      let most = prefix_len-le-length (is_in class.Octal) (c ∷ u) in
      let long : length z ≡ n = omega (arith, length-take n (c ∷ u), most) in
      reads n (meaning.Byte (value 8 z)) (record {
        within = omega (arith, most);
        form = octal (record { some = omega (arith, long, some); digits = run_part (is_in class.Octal) (c ∷ u) n (omega arith) }) (omega (arith, long));
        longest = octal_longest;
      })

-- ---- what is read, as it is spelled

byte_is_read : (b n : ℕ) → b < 256 → byte_of (short b) n ≡ Ok (meaning.Byte b, n)
byte_is_read b n lt = ap (λ o. byte_of o n) (is_short b (omega (arith, lt))) ∙ ap (λ v. cond v (Ok (meaning.Byte b, n)) (Err n)) (lt-ltb b 256 lt)

no_byte_is_read : (b n : ℕ) → (b < 256 → ⊥) → byte_of (short b) n ≡ Err n
no_byte_is_read b n never = by (ltb b (2 ^ 64)) refl where
  by : (v : Bool) → ltb b (2 ^ 64) ≡ v → byte_of (cond v (Some b) None) n ≡ Err n
  by true e = ap (λ v. cond v (Ok (meaning.Byte b, n)) (Err n)) (le-ltb b 256 (elim (cases_lt b 256) [ inl lt ↦ absurd (never lt) | inr ge ↦ ge ]))
  by false e = refl

scalar_of : (c : ℕ) → IsMeant (meaning.Char c) → is_scalar c ≡ true
scalar_of c (inl low) = ap (λ v. v || (ltb 0xdfff c && ltb c 0x110000)) (lt-ltb c 0xd800 low)
scalar_of c (inr high) = or_right (ltb c 0xd800) (ltb 0xdfff c && ltb c 0x110000) (and_from (ltb 0xdfff c) (ltb c 0x110000) (lt-ltb 0xdfff c high.0) (lt-ltb c 0x110000 high.1))

meant_of : (c : ℕ) → is_scalar c ≡ true → IsMeant (meaning.Char c)
meant_of c h = by (ltb c 0xd800) refl h where
  by : (v : Bool) → ltb c 0xd800 ≡ v → (v || (ltb 0xdfff c && ltb c 0x110000)) ≡ true → IsMeant (meaning.Char c)
  by true e g = inl (ltb-true c 0xd800 e)
  by false e g = let both = and_parts (ltb 0xdfff c) (ltb c 0x110000) g in inr (ltb-true 0xdfff c both.0, ltb-true c 0x110000 both.1)

char_bound : (c : ℕ) → IsMeant (meaning.Char c) → c < 2 ^ 64
char_bound c (inl low) = omega (arith, low)
char_bound c (inr high) = omega (arith, high.1)

char_is_read : (c n : ℕ) → IsMeant (meaning.Char c) → char_of (short c) n ≡ Ok (meaning.Char c, n)
char_is_read c n h = ap (λ o. char_of o n) (is_short c (char_bound c h)) ∙ ap (λ v. meant (cond v (Some c) None) n) (scalar_of c h)

no_char_is_read : (c n : ℕ) → (IsMeant (meaning.Char c) → ⊥) → char_of (short c) n ≡ Err n
no_char_is_read c n never = by (ltb c (2 ^ 64)) refl (is_scalar c) refl where
  by : (v : Bool) → ltb c (2 ^ 64) ≡ v → (s : Bool) → is_scalar c ≡ s → char_of (cond v (Some c) None) n ≡ Err n
  by false e s _ = refl
  by true e true f = absurd (never (meant_of c f))
  by true e false f = ap (λ v. meant (cond v (Some c) None) n) f

meant_is_read : (m : Meaning) (n : ℕ) → IsMeant m → read_as m n ≡ Ok (m, n)
meant_is_read (meaning.Byte b) n h = byte_is_read b n h
meant_is_read (meaning.Char c) n h = char_is_read c n h

no_meaning_is_read : (m : Meaning) (n : ℕ) → (IsMeant m → ⊥) → read_as m n ≡ Err n
no_meaning_is_read (meaning.Byte b) n never = no_byte_is_read b n never
no_meaning_is_read (meaning.Char c) n never = no_char_is_read c n never

is_meant_or_not : (m : Meaning) → IsMeant m ⊎ (IsMeant m → ⊥)
is_meant_or_not (meaning.Byte b) = elim (cases_lt b 256) [ inl lt ↦ inl lt | inr ge ↦ inr (λ lt. omega (arith, lt, ge)) ]
is_meant_or_not (meaning.Char c) = by (is_scalar c) refl where
  by : (v : Bool) → is_scalar c ≡ v → IsMeant (meaning.Char c) ⊎ (IsMeant (meaning.Char c) → ⊥)
  by true e = inl (meant_of c e)
  by false e = inr (λ h. let wrong : true ≡ false = sym (scalar_of c h) ∙ e in cc)

-- ---- each text is read so

letter_read : (c : ℕ) (u : Text) → is_in class.Octal c ≡ false → (c == 120 || c == 88) ≡ false → (c == 117) ≡ false → (c == 85) ≡ false → IsRead (c ∷ u) (simple_of (simple c))
letter_read c u no_o no_x no_u no_l = by (simple c) refl where
  longer : (k : ℕ) (q : Meaning) → 1 < k → k ≤ length (c ∷ u) → HasForm (take k (c ∷ u)) q → ⊥
  longer zero q lt le h = nothing_is_no_form q h
  longer (suc j) q lt le h =
      let f = letter_form c (take j u) q no_o no_x no_u no_l h in
      omega (arith, ap length f.alone, taken u j (omega arith))

  nothing_else : simple c ≡ None → (k : ℕ) (q : Meaning) → k ≤ length (c ∷ u) → HasForm (take k (c ∷ u)) q → ⊥
  nothing_else none zero q le h = nothing_is_no_form q h
  nothing_else none (suc j) q le h =
      let f = letter_form c (take j u) q no_o no_x no_u no_l h in
      let wrong : ◌≡◌ {A = Option ℕ} None (Some f.byte) = sym none ∙ f.read in cc

  by : (o : Option ℕ) → simple c ≡ o → IsRead (c ∷ u) (simple_of o)
  by (Some b) e =
      let h = letter_of c b e in
      subst (IsRead (c ∷ u)) (byte_is_read b 1 (is_letter c b h).byte)
      (reads 1 (meaning.Byte b) (record { within = omega arith; form = letter c b refl h; longest = longer }))
  by None e = finds_none (nothing_else e)

x_or_upper : (c : ℕ) → (c == 120 || c == 88) ≡ true → (c ≡ 120) ⊎ (c ≡ 88)
x_or_upper c h = by (c == 120) refl (c == 88) refl where
  by : (u : Bool) → (c == 120) ≡ u → (v : Bool) → (c == 88) ≡ v → (c ≡ 120) ⊎ (c ≡ 88)
  by true e v _ = inl (eqb-true c 120 e)
  by false e true f = inr (eqb-true c 88 f)
  by false e false f = absurd (let g = rw (e, f) at h in cc)

-- `x` and `X` begin no other form
record IsMark (c : ℕ) : Type 0 where
  none : simple c ≡ None
  four : (c == 117) ≡ false
  eight : (c == 85) ≡ false
  digit : is_in class.Octal c ≡ false

mark_of : (c : ℕ) → (c == 120 || c == 88) ≡ true → IsMark c
mark_of c h = elim (x_or_upper c h) [
  | inl e ↦ subst IsMark (sym e) (record { none = refl; four = refl; eight = refl; digit = refl })
  | inr e ↦ subst IsMark (sym e) (record { none = refl; four = refl; eight = refl; digit = refl })
]

none_in_nothing : (k : ℕ) (q : Meaning) → k ≤ length {A = ℕ} [] → HasForm (take k []) q → ⊥
none_in_nothing zero q le h = nothing_is_no_form q h
none_in_nothing (suc k) q le h = omega arith

four_read : (c : ℕ) (u : Text) → (c == 117) ≡ true → IsRead (c ∷ u) (unicode (c ∷ u) 4)
four_read c u e = let is = eqb-true c 117 e in unicode_read c 4 u (omega arith) (λ t d n. four t (ap (λ k. k ∷ t) is) d n) (λ t q h. unicode_form c t q is h)

long_read : (c : ℕ) (u : Text) → (c == 85) ≡ true → IsRead (c ∷ u) (unicode (c ∷ u) 8)
long_read c u e = let is = eqb-true c 85 e in unicode_read c 8 u (omega arith) (λ t d n. long_unicode t (ap (λ k. k ∷ t) is) d n) (λ t q h. long_form c t q is h)

escape_read : (y : Text) → IsRead y (escape y)
unfolding escape
escape_read [] = finds_none none_in_nothing
escape_read (c ∷ u) = by (c == 120 || c == 88) refl (c == 117) refl (c == 85) refl (is_in class.Octal c) refl where
  by : (t1 : Bool) → (c == 120 || c == 88) ≡ t1 → (t2 : Bool) → (c == 117) ≡ t2 → (t3 : Bool) → (c == 85) ≡ t3 → (t4 : Bool) → is_in class.Octal c ≡ t4
      → IsRead (c ∷ u) (cond t1 (hex (c ∷ u)) (cond t2 (unicode (c ∷ u) 4) (cond t3 (unicode (c ∷ u) 8) (cond t4 (octal_escape (c ∷ u)) (simple_of (simple c))))))
  by true e1 t2 _ t3 _ t4 _ = let m = mark_of c e1 in hex_read c u m.none e1 m.four m.eight m.digit
  by false e1 true e2 t3 _ t4 _ = four_read c u e2
  by false e1 false e2 true e3 t4 _ = long_read c u e3
  by false e1 false e2 false e3 true e4 = octal_read c u e4 e1 e2 e3
  by false e1 false e2 false e3 false e4 = letter_read c u e4 e1 e2 e3

-- ---- one form is read in one way

one_meaning : (z : Text) (m q : Meaning) → HasForm z m → HasForm z q → m ≡ q
one_meaning [] m q h g = absurd (nothing_is_no_form m h)
one_meaning (c ∷ t) m q h g = by (c == 120 || c == 88) refl (c == 117) refl (c == 85) refl (is_in class.Octal c) refl where
  by : (t1 : Bool) → (c == 120 || c == 88) ≡ t1 → (t2 : Bool) → (c == 117) ≡ t2 → (t3 : Bool) → (c == 85) ≡ t3 → (t4 : Bool) → is_in class.Octal c ≡ t4 → m ≡ q
  by true e1 t2 _ t3 _ t4 _ =
      let k = mark_of c e1 in
      (hex_form c t m k.none k.four k.eight k.digit h).is ∙ sym (hex_form c t q k.none k.four k.eight k.digit g).is
  by false e1 true e2 t3 _ t4 _ = let is = eqb-true c 117 e2 in (unicode_form c t m is h).is ∙ sym (unicode_form c t q is g).is
  by false e1 false e2 true e3 t4 _ = let is = eqb-true c 85 e3 in (long_form c t m is h).is ∙ sym (long_form c t q is g).is
  by false e1 false e2 false e3 true e4 = (octal_form c t m e4 e1 e2 e3 h).is ∙ sym (octal_form c t q e4 e1 e2 e3 g).is
  by false e1 false e2 false e3 false e4 =
      let a = letter_form c t m e4 e1 e2 e3 h in
      let b = letter_form c t q e4 e1 e2 e3 g in
      let same : ◌≡◌ {A = Option ℕ} (Some a.byte) (Some b.byte) = sym a.read ∙ b.read in
      let bytes : a.byte ≡ b.byte = cc in
      a.is ∙ ap meaning.Byte bytes ∙ sym b.is

one_length : (y : Text) (n k : ℕ) (m q : Meaning) → IsLongestForm y n m → IsLongestForm y k q → n ≡ k
one_length y n k m q a b = elim (cases_lt n k) [
  | inl lt ↦ absurd (a.longest k q lt b.within b.form)
  | inr ge ↦ elim (cases_lt k n) [ inl lt ↦ absurd (b.longest n m lt a.within a.form) | inr ge' ↦ omega (arith, ge, ge') ]
]

reads_form : (y : Text) (r : Escaped) (n : ℕ) (m : Meaning) → IsRead y r → IsLongestForm y n m → r ≡ read_as m n
reads_form y r n m (reads k q is) l =
    let same = one_length y k n q m is l in
    let meanings : q ≡ m = one_meaning (take n y) q m (subst (λ j. HasForm (take j y) q) same is.form) l.form in
    ap (λ j. read_as q j) same ∙ ap (λ x. read_as x n) meanings
reads_form y r n m (finds_none none) l = absurd (none n m l.within l.form)

reads_none : (y : Text) (r : Escaped) → IsRead y r → ((k : ℕ) (q : Meaning) → k ≤ length y → HasForm (take k y) q → ⊥) → r ≡ Err 0
reads_none y r (reads k q is) none = absurd (none k q is.within is.form)
reads_none y r (finds_none _) none = refl

-- ---- escapes

-- an escape is read as it is spelled
pub escape_of : (y : Text) (n : ℕ) (m : Meaning) → IsEscape y n m → escape y ≡ Ok (m, n)
escape_of y n m h = reads_form y (escape y) n m (escape_read y) h.0 ∙ meant_is_read m n h.1

-- where none is spelled, none is read
pub no_escape_of : (y : Text) (n : ℕ) → NoEscape y n → escape y ≡ Err n
no_escape_of y n (no_form none) = reads_none y (escape y) (escape_read y) none
no_escape_of y n (no_meaning k m l never) = reads_form y (escape y) n m (escape_read y) l ∙ no_meaning_is_read m n never

spelled_of : (y : Text) (r : Escaped) (e : Meaning × ℕ) → IsRead y r → r ≡ Ok e → IsEscape y e.1 e.0
spelled_of y r e (reads n m l) h = elim (is_meant_or_not m) [
  | inl means ↦
      let both : ◌≡◌ {A = Result (Meaning × ℕ) ℕ} (Ok (m, n)) (Ok e) = sym (meant_is_read m n means) ∙ h in
      let same : (m, n) ≡ e = cc in
      subst (λ x. IsEscape y x.1 x.0) same (l, means)
  | inr never ↦ absurd (let wrong : ◌≡◌ {A = Result (Meaning × ℕ) ℕ} (Err n) (Ok e) = sym (no_meaning_is_read m n never) ∙ h in cc)
]
spelled_of y r e (finds_none none) h = absurd (cc)

-- what is read is spelled
pub escape_spelled : (y : Text) (e : Meaning × ℕ) → escape y ≡ Ok e → IsEscape y e.1 e.0
escape_spelled y e h = spelled_of y (escape y) e (escape_read y) h

none_of : (y : Text) (r : Escaped) (n : ℕ) → IsRead y r → r ≡ Err n → NoEscape y n
none_of y r n (reads k m l) h = elim (is_meant_or_not m) [
  | inl means ↦ absurd (let wrong : ◌≡◌ {A = Result (Meaning × ℕ) ℕ} (Ok (m, k)) (Err n) = sym (meant_is_read m k means) ∙ h in cc)
  | inr never ↦
      let both : ◌≡◌ {A = Result (Meaning × ℕ) ℕ} (Err k) (Err n) = sym (no_meaning_is_read m k never) ∙ h in
      let same : k ≡ n = cc in
      subst (NoEscape y) same (no_meaning k m l never)
]
none_of y r n (finds_none none) h =
    let both : ◌≡◌ {A = Result (Meaning × ℕ) ℕ} (Err 0) (Err n) = h in
    let same : 0 ≡ n = cc in
    subst (NoEscape y) same (no_form none)

pub no_escape_spelled : (y : Text) (n : ℕ) → escape y ≡ Err n → NoEscape y n
no_escape_spelled y n h = none_of y (escape y) n (escape_read y) h
