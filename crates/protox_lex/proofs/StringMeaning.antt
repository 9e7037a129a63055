-- The bytes that a string's contents are read as are what they mean.
use Rattle.std.proofs.Common.{◌≡◌, ℕ, zero, suc, ◌+◌, ◌≤◌, Bool, true, false, Result, [], ◌∷◌, ◌++◌, drop, length, Ok, Err, ap, sym, subst, ◌∙◌, arith, refl, length-drop}
use Rattle.std.specs.Prelude.{◌==◌}
use Rattle.std.proofs.lemmas.Bool.{eqb-true, eqb-false}
use Rattle.protox_lex.specs.declared.escape.Meaning.{Meaning}
use Rattle.protox_lex.specs.declared.escape.Meaning.TheVariants as meaning
use Rattle.protox_lex.specs.Class.{Text}
use Rattle.protox_lex.specs.Lex.{Escaped, escape, or_slash, unit_of, bytes_of, unescaped}
use Rattle.protox_lex.proofs.Contents.{unescaped_step, unescaped_none}
use Rattle.protox_lex.specs.StringMeaning.{Means, no_bytes, same_byte, escape_means, slash_means}
use Rattle.protox_lex.proofs.EscapeForms.{escape_of, no_escape_of, escape_spelled, no_escape_spelled}

unit_at : (b : ℕ) (y : Text) (u : Meaning × ℕ) → unit_of (b ∷ y) ≡ u → 1 ≤ u.1 → u.1 ≤ length (b ∷ y) → unescaped (b ∷ y) ≡ bytes_of u.0 ++ unescaped (drop u.1 (b ∷ y))
unit_at b y u e some le =
    let step = unescaped_step (b ∷ y) u.1 (ap (λ x. x.1) e) some le in
    step ∙ ap (λ x. bytes_of x.0 ++ unescaped (drop u.1 (b ∷ y))) e

other_unit : (b : ℕ) (y : Text) → (b == 92) ≡ false → unit_of (b ∷ y) ≡ (meaning.Byte b, 1)
other_unit b y e = rw e refl

slash_unit : (b : ℕ) (y : Text) (r : Escaped) → (b == 92) ≡ true → escape y ≡ r → unit_of (b ∷ y) ≡ or_slash r
slash_unit b y r e h = rw (e, h) refl

means_within : (most : ℕ) (y : Text) → length y ≤ most → Means y (unescaped y)
means_within most [] le = subst (Means []) (sym (unescaped_none [] refl)) no_bytes
means_within zero (b ∷ y) le = absurd (omega arith)
means_within (suc most) (b ∷ y) le = by (b == 92) refl (escape y) refl (means_within most) where
  by : (s : Bool) → (b == 92) ≡ s → (r : Escaped) → escape y ≡ r → ((z : Text) → length z ≤ most → Means z (unescaped z)) → Means (b ∷ y) (unescaped (b ∷ y))
  by false e r h rest =
      subst (Means (b ∷ y)) (sym (unit_at b y (meaning.Byte b, 1) (other_unit b y e) (omega arith) (omega arith)))
      (same_byte b y (unescaped y) (eqb-false b 92 e) (rest y (omega arith)))
  by true e (Ok x) h rest =
      let is = escape_spelled y x h in
      let within = is.0.within in
      let unit : unit_of (b ∷ y) ≡ (x.0, x.1 + 1) = slash_unit b y (Ok x) e h in
      let one : x.1 + 1 ≡ suc x.1 = omega arith in
      let all : unescaped (b ∷ y) ≡ bytes_of x.0 ++ unescaped (drop x.1 y) = unit_at b y (x.0, x.1 + 1) unit (omega arith) (omega (arith, within)) ∙ ap (λ k. bytes_of x.0 ++ unescaped (drop k (b ∷ y))) one in
      subst (λ k. Means (k ∷ y) (unescaped (b ∷ y))) (sym (eqb-true b 92 e))
      (subst (Means (92 ∷ y)) (sym all) (escape_means y x.1 x.0 (unescaped (drop x.1 y)) is (rest (drop x.1 y) (omega (arith, length-drop x.1 y)))))
  by true e (Err n) h rest =
      let unit : unit_of (b ∷ y) ≡ (meaning.Byte 92, 1) = slash_unit b y (Err n) e h in
      let all : unescaped (b ∷ y) ≡ 92 ∷ unescaped y = unit_at b y (meaning.Byte 92, 1) unit (omega arith) (omega arith) in
      subst (λ k. Means (k ∷ y) (unescaped (b ∷ y))) (sym (eqb-true b 92 e))
      (subst (Means (92 ∷ y)) (sym all) (slash_means y n (unescaped y) (no_escape_spelled y n h) (rest y (omega arith))))

pub means_its_bytes : (y : Text) → Means y (unescaped y)
means_its_bytes y = means_within (length y) y (omega arith)

pub means_one : (y s t : Text) → Means y s → Means y t → s ≡ t
means_one y s t no_bytes no_bytes = refl
means_one y s t (same_byte b x u ne m) (same_byte c z v ne' k) = ap (λ w. b ∷ w) (means_one x u v m k)
means_one y s t (same_byte b x u ne m) (escape_means z n q v h k) = absurd (ne refl)
means_one y s t (same_byte b x u ne m) (slash_means z n v h k) = absurd (ne refl)
means_one y s t (escape_means x n q u h m) (same_byte c z v ne k) = absurd (ne refl)
means_one y s t (escape_means x n q u h m) (escape_means z j p v g k) =
    let both : ◌≡◌ {A = Result (Meaning × ℕ) ℕ} (Ok (q, n)) (Ok (p, j)) = sym (escape_of x n q h) ∙ escape_of x j p g in
    let pair : ◌≡◌ {A = Meaning × ℕ} (q, n) (p, j) = cc in
    let lengths : n ≡ j = ap (λ e. e.1) pair in
    let meanings : q ≡ p = ap (λ e. e.0) pair in
    let rests : u ≡ v = means_one (drop n x) u v m (subst (λ i. Means (drop i x) v) (sym lengths) k) in
    ap (λ a. bytes_of a ++ u) meanings ∙ ap (λ w. bytes_of p ++ w) rests
means_one y s t (escape_means x n q u h m) (slash_means z j v g k) =
    absurd (let wrong : ◌≡◌ {A = Result (Meaning × ℕ) ℕ} (Ok (q, n)) (Err j) = sym (escape_of x n q h) ∙ no_escape_of x j g in cc)
means_one y s t (slash_means x n u h m) (same_byte c z v ne k) = absurd (ne refl)
means_one y s t (slash_means x n u h m) (escape_means z j p v g k) =
    absurd (let wrong : ◌≡◌ {A = Result (Meaning × ℕ) ℕ} (Ok (p, j)) (Err n) = sym (escape_of x j p g) ∙ no_escape_of x n h in cc)
means_one y s t (slash_means x n u h m) (slash_means z j v g k) = ap (λ w. 92 ∷ w) (means_one x u v m k)
