-- An escape is the same whatever stands behind the byte after it.
use Rattle.std.proofs.Common.{◌≡◌, ℕ, zero, suc, ◌+◌, ◌-◌, ◌≤◌, ◌<◌, Bool, true, false, cond, ltb, ◌||◌, Option, Some, None, [], ◌∷◌, take, Ok, Err, ap, sym, ◌∙◌, arith, refl, min}
use Rattle.std.specs.Prelude.{◌==◌, nat_lt}
use Rattle.std.specs.List.{prefix_len}
use Rattle.std.proofs.lemmas.Bool.{le-ltb, ltb-false}
use Rattle.protox_lex.specs.declared.class.Class.TheVariants as class
use Rattle.protox_lex.specs.declared.escape.Meaning.{Meaning}
use Rattle.protox_lex.specs.Class.{Text, is_in}
use Rattle.protox_lex.specs.Lex.{Escaped, value, short, scalar, meant, byte_of, char_of, hex, octal_escape, unicode, escape}
use Rattle.protox_lex.proofs.Alike.{Alike, alike_back, alike_rest, alike_head, alike_cons, alike_none, alike_run, alike_front}

pub byte_of_len : (o : Option ℕ) (n : ℕ) (x : Meaning × ℕ) → byte_of o n ≡ Ok x → x.1 ≡ n
byte_of_len (Some v) n x e = by (nat_lt v 256) refl where
  by : (b : Bool) → nat_lt v 256 ≡ b → x.1 ≡ n
  by true t = let f = rw t at e in cc
  by false t = absurd (let f = rw t at e in cc)
byte_of_len None n x e = absurd (cc)

pub char_of_len : (o : Option ℕ) (n : ℕ) (x : Meaning × ℕ) → char_of o n ≡ Ok x → x.1 ≡ n
char_of_len (Some v) n x e = by (scalar v) refl where
  by : (s : Option ℕ) → scalar v ≡ s → x.1 ≡ n
  by (Some c) t = let f : meant (Some c) n ≡ Ok x = ap (λ s. meant s n) (sym t) ∙ e in cc
  by None t = absurd (let f : meant None n ≡ Ok x = ap (λ s. meant s n) (sym t) ∙ e in cc)
char_of_len None n x e = absurd (cc)

abbrev hex_with : ℕ → Text → Escaped
hex_with e y = cond (e == 1) (Err 0) (byte_of (short (value 16 (take (e - 1) y))) e)

pub hex_len : (e : ℕ) (y : Text) (x : Meaning × ℕ) → hex_with e y ≡ Ok x → x.1 ≡ e
hex_len e y x h = by (e == 1) refl where
  by : (b : Bool) → (e == 1) ≡ b → x.1 ≡ e
  by true t = absurd (let f = rw t at h in cc)
  by false t = byte_of_len (short (value 16 (take (e - 1) y))) e x (rw t at h)

hex_alike : (c : ℕ) (u v : Text) (m : ℕ) (x : Meaning × ℕ) → Alike m u v → hex (c ∷ u) ≡ Ok x → x.1 ≤ m → hex (c ∷ v) ≡ hex (c ∷ u)
unfolding hex
hex_alike c u v m x a h le =
    let e = min (1 + prefix_len (is_in class.Hex) u) 3 in
    let len : x.1 ≡ e = hex_len e u x h in
    let same : min (1 + prefix_len (is_in class.Hex) v) 3 ≡ e = omega (arith, alike_run (is_in class.Hex) m u v a, len) in
    ap (λ k. hex_with k v) same ∙ ap (λ t. cond (e == 1) (Err 0) (byte_of (short (value 16 t)) e)) (alike_front (e - 1) m v u (omega (arith, len)) (alike_back m u v a))

octal_alike : (c : ℕ) (u v : Text) (m : ℕ) (x : Meaning × ℕ) → Alike m u v → octal_escape (c ∷ u) ≡ Ok x → x.1 ≤ m → octal_escape (c ∷ v) ≡ octal_escape (c ∷ u)
unfolding octal_escape
octal_alike c u v m x a h le =
    let e = min (0 + prefix_len (is_in class.Octal) (c ∷ u)) 3 in
    let len : x.1 ≡ e = byte_of_len (short (value 8 (take e (c ∷ u)))) e x h in
    let more = alike_cons m c u v a in
    let same : min (0 + prefix_len (is_in class.Octal) (c ∷ v)) 3 ≡ e = omega (arith, alike_run (is_in class.Octal) (suc m) (c ∷ u) (c ∷ v) more, len) in
    ap (λ k. byte_of (short (value 8 (take k (c ∷ v)))) k) same ∙ ap (λ t. byte_of (short (value 8 t)) e) (alike_front e (suc m) (c ∷ v) (c ∷ u) (omega (arith, len)) (alike_back (suc m) (c ∷ u) (c ∷ v) more))

unicode_alike : (c : ℕ) (u v : Text) (d m : ℕ) (x : Meaning × ℕ) → Alike m u v → unicode (c ∷ u) d ≡ Ok x → x.1 ≤ m → unicode (c ∷ v) d ≡ unicode (c ∷ u) d
unfolding unicode
unicode_alike c u v d m x a h le = by (ltb (1 + prefix_len (is_in class.Hex) u) (d + 1)) refl where
  by : (b : Bool) → ltb (1 + prefix_len (is_in class.Hex) u) (d + 1) ≡ b → unicode (c ∷ v) d ≡ unicode (c ∷ u) d
  by true t = absurd (let f = rw t at h in cc)
  by false t =
      let len : x.1 ≡ d + 1 = char_of_len (short (value 16 (take d u))) (d + 1) x (rw t at h) in
      let enough : ltb (1 + prefix_len (is_in class.Hex) v) (d + 1) ≡ false = le-ltb _ _ (omega (arith, alike_run (is_in class.Hex) m u v a, len, ltb-false _ _ t)) in
      rw (t, enough) (ap (λ s. char_of (short (value 16 s)) (d + 1)) (alike_front d m v u (omega (arith, len)) (alike_back m u v a)))

escape_behind : (c : ℕ) (u v : Text) (m : ℕ) (x : Meaning × ℕ) → Alike m u v → escape (c ∷ u) ≡ Ok x → x.1 ≤ m → escape (c ∷ v) ≡ escape (c ∷ u)
unfolding escape
escape_behind c u v m x a h le = by (c == 120 || c == 88) refl (c == 117) refl (c == 85) refl (is_in class.Octal c) refl where
  by : (u1 : Bool) → (c == 120 || c == 88) ≡ u1 → (u2 : Bool) → (c == 117) ≡ u2 → (u3 : Bool) → (c == 85) ≡ u3 → (u4 : Bool) → is_in class.Octal c ≡ u4 → escape (c ∷ v) ≡ escape (c ∷ u)
  by true e1 u2 _ u3 _ u4 _ = rw e1 (hex_alike c u v m x a (rw e1 at h) le)
  by false e1 true e2 u3 _ u4 _ = rw (e1, e2) (unicode_alike c u v 4 m x a (rw (e1, e2) at h) le)
  by false e1 false e2 true e3 u4 _ = rw (e1, e2, e3) (unicode_alike c u v 8 m x a (rw (e1, e2, e3) at h) le)
  by false e1 false e2 false e3 true e4 = rw (e1, e2, e3, e4) (octal_alike c u v m x a (rw (e1, e2, e3, e4) at h) le)
  by false e1 false e2 false e3 false e4 = rw (e1, e2, e3, e4) refl

-- an escape is the same in a text that has the same bytes up to the one behind it
pub escape_alike : (u v : Text) (m : ℕ) (x : Meaning × ℕ) → Alike m u v → escape u ≡ Ok x → x.1 < m → escape v ≡ Ok x
unfolding escape
escape_alike u v zero x a h lt = absurd (omega arith)
escape_alike [] v (suc m) x a h lt = absurd (cc)
escape_alike (b ∷ u) [] (suc m) x a h lt = alike_none m b u a
escape_alike (b ∷ u) (c ∷ v) (suc m) x a h lt =
    ap (λ k. escape (k ∷ v)) (sym (alike_head m b c u v a)) ∙ escape_behind b u v m x (alike_rest m b c u v a) h (omega arith) ∙ h
