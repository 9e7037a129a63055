-- An integer by how it is written.
use Rattle.std.proofs.Common.{◌≡◌, ℕ, suc, ◌-◌, ◌<◌, Bool, true, false, eqb, ◌&&◌, ◌||◌, [], ◌∷◌, take, drop, length, ap, sym, subst, ◌∙◌, refl, arith, min, length-take}
use Rattle.std.specs.Prelude.{slice_index, ◌==◌, nat_lt}
use Rattle.std.proofs.lemmas.Bool.{eqb-true, lt-ltb, and_parts}
use Rattle.protox_lex.specs.Class.{Text, is_in}
use Rattle.protox_lex.specs.declared.class.Class.TheVariants as class
use Rattle.protox_lex.specs.Lex.{is_hex}
use Rattle.protox_lex.specs.Longest as source
use Rattle.protox_lex.specs.Token as sources
use Rattle.protox_lex.proofs.Floats.{and_false}
use Rattle.std.specs.List.{list_all}
use Rattle.std.proofs.lemmas.List.{get_or-take}
use Rattle.text_lex.specs.declared.token.Radix.{Radix}
use Rattle.text_lex.specs.declared.token.Radix.TheVariants as radix
use Rattle.text_lex.specs.Token.{Token, int}
use Rattle.text_lex.specs.Lex.{int_of}

pub int_hexadecimal : (x : ℕ) (y : Text) → (x == 120 || x == 88) ≡ true → int_of (48 ∷ x ∷ y) ≡ int radix.Hexadecimal y
int_hexadecimal x y mark = rw mark refl

no_mark : (c : ℕ) → is_in class.Octal c ≡ true → (c == 120 || c == 88) ≡ false
no_mark c octal = by (c == 120) refl (c == 88) refl where
  by : (u : Bool) → (c == 120) ≡ u → (v : Bool) → (c == 88) ≡ v → (c == 120 || c == 88) ≡ false
  by true h v _ = absurd (let wrong : true ≡ false = sym octal ∙ ap (is_in class.Octal) (eqb-true c 120 h) in cc)
  by false h true i = absurd (let wrong : true ≡ false = sym octal ∙ ap (is_in class.Octal) (eqb-true c 88 i) in cc)
  by false h false i = rw (h, i) refl

pub int_octal : (c : ℕ) (y : Text) → is_in class.Octal c ≡ true → int_of (48 ∷ c ∷ y) ≡ int radix.Octal (c ∷ y)
int_octal c y octal = let two : nat_lt 1 (length (48 ∷ c ∷ y)) ≡ true = lt-ltb 1 (length (48 ∷ c ∷ y)) (omega arith) in rw (no_mark c octal, two) refl

pub int_decimal : (z : Text) → (slice_index z 0 == 48) ≡ false → int_of z ≡ int radix.Decimal z
int_decimal z h = rw h refl

-- an integer has a radix and digits
pub record IsInt (t : Token) : Type 0 where
  pub base : Radix
  pub digits : Text
  pub is : t ≡ int base digits

pub an_int : (z : Text) → IsInt (int_of z)
an_int z = by (slice_index z 0 == 48) refl (slice_index z 1 == 120 || slice_index z 1 == 88) refl (nat_lt 1 (length z)) refl where
  by : (t1 : Bool) → (slice_index z 0 == 48) ≡ t1 → (t2 : Bool) → (slice_index z 1 == 120 || slice_index z 1 == 88) ≡ t2 → (t3 : Bool) → nat_lt 1 (length z) ≡ t3 → IsInt (int_of z)
  by true e1 true e2 t3 _ = record { base = radix.Hexadecimal; digits = drop 2 z; is = rw (e1, e2) refl }
  by true e1 false e2 true e3 = record { base = radix.Octal; digits = drop 1 z; is = rw (e1, e2, e3) refl }
  by true e1 false e2 false e3 = record { base = radix.Decimal; digits = z; is = rw (e1, e2, e3) refl }
  by false e1 t2 _ t3 _ = record { base = radix.Decimal; digits = z; is = rw e1 refl }

-- ---- where the digits of an integer begin

hex-take : (n : ℕ) (z : Text) → 2 < n → is_hex (take n z) ≡ is_hex z
hex-take n z lt = rw (get_or-take n z 0 0 (omega arith), get_or-take n z 1 0 (omega arith), get_or-take n z 2 0 (omega arith)) refl

nought_alone : (z : Text) (i : ℕ) → source.IsLongest z (sources.token (sources.int i)) 1 → is_hex z ≡ true → ⊥
nought_alone [] i l hex = let wrong : false ≡ true = hex in cc
nought_alone (b ∷ []) i l hex = (let h = (and_parts (eqb b 48) false hex).1 in cc)
nought_alone (b ∷ x ∷ []) i l hex = (let h = (and_parts (eqb x 120 || eqb x 88) false (and_parts (eqb b 48) _ hex).1).1 in cc)
nought_alone (b ∷ x ∷ c ∷ w) i l hex =
    let first = and_parts (eqb b 48) ((eqb x 120 || eqb x 88) && is_in class.Hex c) hex in
    let rest = and_parts (eqb x 120 || eqb x 88) (is_in class.Hex c) first.1 in
    let digits : list_all (is_in class.Hex) (c ∷ []) ≡ true = rw rest.1 refl in
    l.longest 3 _ (omega arith) (omega arith) (source.hexadecimal x (c ∷ []) (ap (λ k. k ∷ x ∷ c ∷ []) (eqb-true b 48 first.0)) rest.0 (record { some = omega arith; digits = digits }))

pub same_digits : (r s : Radix) (d e : Text) → int r d ≡ int s e → d ≡ e
same_digits r s d e h = cc

other_prefix : (z : Text) (n : ℕ) → is_hex z ≡ false → (slice_index z 0 == 48) ≡ false → source.prefix_of z n ≡ 0
other_prefix z n hex other = rw (hex, other) refl

nought_prefix : (z : Text) (n : ℕ) → is_hex z ≡ false → (slice_index z 0 == 48) ≡ true → source.prefix_of z n ≡ min n 2 - 1
nought_prefix z n hex nought = rw (hex, nought) refl

module _ (z : Text) (i n : ℕ) (l : source.IsLongest z (sources.token (sources.int i)) n) (r : Radix) (d : Text) (is : int_of (take n z) ≡ int r d) where
  len : length (take n z) ≡ n
  len = omega (arith, length-take n z, l.within)

  -- the bytes of the integer are bytes of the text
  at_place : (k : ℕ) (y : Text) → k < n → take n z ≡ y → slice_index z k ≡ slice_index y k
  at_place k y lt e = sym (get_or-take n z k 0 lt) ∙ ap (λ w. slice_index w k) e

  alone : take n z ≡ 48 ∷ [] → source.prefix_of z n ≡ n - length d
  alone e = by (is_hex z) refl where
    one : n ≡ 1
    one = omega (arith, len, ap length e)

    same : 48 ∷ [] ≡ d
    same = same_digits radix.Decimal r (48 ∷ []) d (sym (ap int_of e) ∙ is)

    by : (v : Bool) → is_hex z ≡ v → source.prefix_of z n ≡ n - length d
    by true hex = absurd (nought_alone z i (subst (source.IsLongest z (sources.token (sources.int i))) one l) hex)
    by false hex = nought_prefix z n hex (ap (λ b. b == 48) (at_place 0 (48 ∷ []) (omega (arith, one)) e)) ∙ omega (arith, one, ap length same)

  in_octal : (c : ℕ) (w : Text) → take n z ≡ 48 ∷ c ∷ w → is_in class.Octal c ≡ true → source.prefix_of z n ≡ n - length d
  in_octal c w e octal =
      let size : n ≡ suc (suc (length w)) = omega (arith, len, ap length e) in
      let same : c ∷ w ≡ d = same_digits radix.Octal r (c ∷ w) d (sym (int_octal c w octal) ∙ sym (ap int_of e) ∙ is) in
      let mark : (slice_index z 1 == 120 || slice_index z 1 == 88) ≡ false = ap (λ b. b == 120 || b == 88) (at_place 1 (48 ∷ c ∷ w) (omega (arith, size)) e) ∙ no_mark c octal in
      let hex : is_hex z ≡ false = rw mark (and_false (slice_index z 0 == 48)) in
      nought_prefix z n hex (ap (λ b. b == 48) (at_place 0 (48 ∷ c ∷ w) (omega (arith, size)) e)) ∙ omega (arith, size, ap length same)

  in_decimal : 0 < length (take n z) → (slice_index (take n z) 0 == 48) ≡ false → source.prefix_of z n ≡ n - length d
  in_decimal some other =
      let same : take n z ≡ d = same_digits radix.Decimal r (take n z) d (sym (int_decimal (take n z) other) ∙ is) in
      let first : (slice_index z 0 == 48) ≡ false = ap (λ b. b == 48) (at_place 0 (take n z) (omega (arith, len, some)) refl) ∙ other in
      let hex : is_hex z ≡ false = rw first refl in
      other_prefix z n hex first ∙ omega (arith, len, ap length same)

  pub digits_begin : source.prefix_of z n ≡ n - length d
  digits_begin = by i l.is where
    by : (j : ℕ) → source.IsPiece (take n z) (sources.token (sources.int j)) → source.prefix_of z n ≡ n - length d
    by j (source.hexadecimal x [] e mark h) = absurd (omega (arith, h.some))
    by j (source.hexadecimal x (c ∷ w) e mark h) =
        let same : c ∷ w ≡ d = same_digits radix.Hexadecimal r (c ∷ w) d (sym (int_hexadecimal x (c ∷ w) mark) ∙ sym (ap int_of e) ∙ is) in
        let digit = (and_parts (is_in class.Hex c) (list_all (is_in class.Hex) w) h.digits).0 in
        let hex : is_hex z ≡ true = sym (hex-take n z (omega (arith, len, ap length e))) ∙ ap is_hex e ∙ rw (mark, digit) refl in
        rw hex (omega (arith, len, ap length e, ap length same))
    by j (source.octal [] e all) = alone e
    by j (source.octal (c ∷ w) e all) = in_octal c w e (and_parts (is_in class.Octal c) (list_all (is_in class.Octal) w) all).0
    by j (source.decimal h other) = in_decimal h.some other
