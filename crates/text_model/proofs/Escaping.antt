-- Escaped bytes mean themselves.
use Rattle.std.proofs.Common.{sym, append_assoc, length, drop, length-append, ◌≡◌, ℕ, ◌+◌, ◌-◌, ◌<◌, ◌==◌, min, not, ◌&&◌, ◌||◌, Bool, true, false, cond, [], ◌∷◌, ◌++◌, take, Option, Some, None, Ok, Err, refl, ap, ◌∙◌, arith}
use Rattle.std.specs.Prelude.{if◌then◌else◌}
use Rattle.std.specs.List.{prefix_len, AllByRecursion}
use Rattle.std.proofs.lemmas.Bool.{and_parts, agree_below, agree_below_at, or_parts, not-true, eqb-true, lt-ltb}
use Rattle.std.specs.Fmt.{digits, padded_integral, char_count}
use Rattle.protox_lex.specs.declared.class.Class.TheVariants as class
use Rattle.protox_lex.specs.declared.escape.Meaning.{Meaning}
use Rattle.protox_lex.specs.declared.escape.Meaning.TheVariants as meaning
use Rattle.protox_lex.specs.Class.{Text, is_in, past}
use Rattle.protox_lex.specs.Escapes.{escaped_byte, escaped}
use Rattle.protox_lex.specs.Lex.{value, short, simple, simple_of, byte_of, hex, unicode, octal_escape, escape, or_slash, unit_of, bytes_of, unescaped_from, unescaped, is_plain, escape_len, unit_len, contents_len}
use Rattle.protox_lex.proofs.Contents.{contents_step, contents_end}
use Rattle.protox_lex.proofs.Values.{is_short}

-- what begins a longer escape
abbrev is_long : ℕ → Bool
is_long c = (c == 120 || c == 88) || (c == 117 || c == 85)

abbrev is_same : Option ℕ → ℕ → Bool
is_same (Some a) b = a == b
is_same None b = false

-- a byte as itself, behind a backslash a letter for it, or three octal digits
abbrev is_right : ℕ → Text → Bool
is_right b (c ∷ []) = c == b && (not (c == 92) && is_plain 34 c)
is_right b (s ∷ c ∷ []) = s == 92 && (not (is_long c) && (not (is_in class.Octal c) && is_same (simple c) b))
is_right b (s ∷ c ∷ d ∷ e ∷ []) =
    s == 92 && (is_in class.Octal c && (is_in class.Octal d && (is_in class.Octal e && (not (is_long c) && value 8 (c ∷ d ∷ e ∷ []) == b))))
is_right b _ = false

all_right : agree_below (λ b. is_right b (escaped_byte b)) (λ b. true) 256 ≡ true
unfolding digits padded_integral char_count
all_right = refl

-- what the first unit of a text means, before what the rest does
abbrev step : Meaning × ℕ → Text → Text
step u y = bytes_of u.0 ++ unescaped_from (u.1 - 1) y

unit_plain : (c : ℕ) (y : Text) → (c == 92) ≡ false → unit_of (c ∷ y) ≡ (meaning.Byte c, 1)
unit_plain c y e = ap (λ t. if t then or_slash (escape y) else (meaning.Byte c, 1)) e

unit_escape : (y : Text) (u : Meaning × ℕ) → escape y ≡ Ok u → unit_of (92 ∷ y) ≡ (u.0, u.1 + 1)
unit_escape y u e = ap or_slash e

-- an escape that is no long one
short_escape : (c : ℕ) (y : Text) → is_long c ≡ false → escape (c ∷ y) ≡ (if is_in class.Octal c then octal_escape (c ∷ y) else simple_of (simple c))
unfolding escape
short_escape c y long =
    let p = or_parts (c == 120 || c == 88) (c == 117 || c == 85) long in
    let us = or_parts (c == 117) (c == 85) p.1 in
    let last = if is_in class.Octal c then octal_escape (c ∷ y) else simple_of (simple c) in
    ap (λ t. if t then hex (c ∷ y) else if c == 117 then unicode (c ∷ y) 4 else if c == 85 then unicode (c ∷ y) 8 else last) p.0
    ∙ ap (λ t. if t then unicode (c ∷ y) 4 else if c == 85 then unicode (c ∷ y) 8 else last) us.0
    ∙ ap (λ t. if t then unicode (c ∷ y) 8 else last) us.1

simple_escape : (c b : ℕ) (y : Text) → is_long c ≡ false → is_in class.Octal c ≡ false → simple c ≡ Some b → escape (c ∷ y) ≡ Ok (meaning.Byte b, 1)
simple_escape c b y long octal is =
    short_escape c y long ∙ ap (λ t. if t then octal_escape (c ∷ y) else simple_of (simple c)) octal ∙ ap simple_of is

three_digits : (c d e : ℕ) (y : Text) → is_in class.Octal c ≡ true → is_in class.Octal d ≡ true → is_in class.Octal e ≡ true → min (past class.Octal (c ∷ d ∷ e ∷ y) 0) 3 ≡ 3
three_digits c d e y h i j =
    ap (λ t. min (0 + cond t (1 + prefix_len (is_in class.Octal) (d ∷ e ∷ y)) 0) 3) h
    ∙ ap (λ t. min (0 + (1 + cond t (1 + prefix_len (is_in class.Octal) (e ∷ y)) 0)) 3) i
    ∙ ap (λ t. min (0 + (1 + (1 + cond t (1 + prefix_len (is_in class.Octal) y) 0))) 3) j
    ∙ omega arith

octal_is : (c d e b : ℕ) (y : Text) → is_in class.Octal c ≡ true → is_in class.Octal d ≡ true → is_in class.Octal e ≡ true → value 8 (c ∷ d ∷ e ∷ []) ≡ b → b < 256 → octal_escape (c ∷ d ∷ e ∷ y) ≡ Ok (meaning.Byte b, 3)
unfolding octal_escape
octal_is c d e b y h i j is small =
    ap (λ n. byte_of (short (value 8 (take n (c ∷ d ∷ e ∷ y)))) n) (three_digits c d e y h i j)
    ∙ ap (λ n. byte_of (short n) 3) is
    ∙ ap (λ o. byte_of o 3) (is_short b (omega arith))
    ∙ ap (λ t. if t then Ok (meaning.Byte b, 3) else Err 3) (lt-ltb b 256 small)

octal_escapes : (c d e b : ℕ) (y : Text) → is_long c ≡ false → is_in class.Octal c ≡ true → is_in class.Octal d ≡ true → is_in class.Octal e ≡ true → value 8 (c ∷ d ∷ e ∷ []) ≡ b → b < 256 → escape (c ∷ d ∷ e ∷ y) ≡ Ok (meaning.Byte b, 3)
octal_escapes c d e b y long h i j is small =
    short_escape c (d ∷ e ∷ y) long ∙ ap (λ t. if t then octal_escape (c ∷ d ∷ e ∷ y) else simple_of (simple c)) h ∙ octal_is c d e b y h i j is small

same_option : (o : Option ℕ) (b : ℕ) → is_same o b ≡ true → o ≡ Some b
same_option (Some a) b h = ap Some (eqb-true a b h)
same_option None b h = cc

-- a backslash, and what stands behind it for the byte
record IsEscape (b s : ℕ) (es : Text) : Type 0 where
  slash : s ≡ 92
  escapes : (y : Text) → escape (es ++ y) ≡ Ok (meaning.Byte b, length es)

one_letter : (b s c : ℕ) → is_right b (s ∷ c ∷ []) ≡ true → IsEscape b s (c ∷ [])
one_letter b s c h =
    let p = and_parts (s == 92) (not (is_long c) && (not (is_in class.Octal c) && is_same (simple c) b)) h in
    let q = and_parts (not (is_long c)) (not (is_in class.Octal c) && is_same (simple c) b) p.1 in
    let r = and_parts (not (is_in class.Octal c)) (is_same (simple c) b) q.1 in
    record { slash = eqb-true s 92 p.0; escapes = λ y. simple_escape c b y (not-true (is_long c) q.0) (not-true (is_in class.Octal c) r.0) (same_option (simple c) b r.1) }

three_octal : (b s c d e : ℕ) → b < 256 → is_right b (s ∷ c ∷ d ∷ e ∷ []) ≡ true → IsEscape b s (c ∷ d ∷ e ∷ [])
three_octal b s c d e small h =
    let p = and_parts (s == 92) (is_in class.Octal c && (is_in class.Octal d && (is_in class.Octal e && (not (is_long c) && value 8 (c ∷ d ∷ e ∷ []) == b)))) h in
    let q = and_parts (is_in class.Octal c) (is_in class.Octal d && (is_in class.Octal e && (not (is_long c) && value 8 (c ∷ d ∷ e ∷ []) == b))) p.1 in
    let r = and_parts (is_in class.Octal d) (is_in class.Octal e && (not (is_long c) && value 8 (c ∷ d ∷ e ∷ []) == b)) q.1 in
    let t = and_parts (is_in class.Octal e) (not (is_long c) && value 8 (c ∷ d ∷ e ∷ []) == b) r.1 in
    let v = and_parts (not (is_long c)) (value 8 (c ∷ d ∷ e ∷ []) == b) t.1 in
    record { slash = eqb-true s 92 p.0; escapes = λ y. octal_escapes c d e b y (not-true (is_long c) v.0) q.0 r.0 t.0 (eqb-true (value 8 (c ∷ d ∷ e ∷ [])) b v.1) small }

right_means : (b : ℕ) (es y : Text) → b < 256 → is_right b es ≡ true → unescaped (es ++ y) ≡ b ∷ unescaped y
unfolding unescaped_from
right_means b [] y small h = cc
right_means b (c ∷ []) y small h =
    let p = and_parts (c == b) (not (c == 92) && is_plain 34 c) h in
    let q = and_parts (not (c == 92)) (is_plain 34 c) p.1 in
    ap (λ u. step u y) (unit_plain c y (not-true (c == 92) q.0)) ∙ ap (λ a. a ∷ unescaped y) (eqb-true c b p.0)
right_means b (s ∷ c ∷ []) y small h =
    let k = one_letter b s c h in
    ap (λ a. unescaped (a ∷ c ∷ y)) k.slash ∙ ap (λ u. step u (c ∷ y)) (unit_escape (c ∷ y) (meaning.Byte b, 1) (k.escapes y))
right_means b (s ∷ c ∷ d ∷ []) y small h = cc
right_means b (s ∷ c ∷ d ∷ e ∷ []) y small h =
    let k = three_octal b s c d e small h in
    ap (λ a. unescaped (a ∷ c ∷ d ∷ e ∷ y)) k.slash ∙ ap (λ u. step u (c ∷ d ∷ e ∷ y)) (unit_escape (c ∷ d ∷ e ∷ y) (meaning.Byte b, 3) (k.escapes y))
right_means b (s ∷ c ∷ d ∷ e ∷ f ∷ es) y small h = cc

pub escaped_means : (s : Text) → AllByRecursion (λ x. x < 256) s → unescaped (escaped s) ≡ s
unfolding unescaped_from
escaped_means [] h = refl
escaped_means (b ∷ s) h =
    right_means b (escaped_byte b) (escaped s) h.0 (agree_below_at (λ b. is_right b (escaped_byte b)) (λ b. true) 256 b all_right h.0)
    ∙ ap (λ t. b ∷ t) (escaped_means s h.1)

-- in double quotes it is one unit
right_unit : (b : ℕ) (es y : Text) → b < 256 → is_right b es ≡ true → unit_len 34 (es ++ y) ≡ length es
right_unit b [] y small h = cc
right_unit b (c ∷ []) y small h =
    let p = and_parts (c == b) (not (c == 92) && is_plain 34 c) h in
    let q = and_parts (not (c == 92)) (is_plain 34 c) p.1 in
    ap (λ t. if t then escape_len (escape y) else if is_plain 34 c then 1 else 0) (not-true (c == 92) q.0)
    ∙ ap (λ t. if t then 1 else 0) q.1
right_unit b (s ∷ c ∷ []) y small h = let k = one_letter b s c h in ap (λ a. unit_len 34 (a ∷ c ∷ y)) k.slash ∙ ap escape_len (k.escapes y)
right_unit b (s ∷ c ∷ d ∷ []) y small h = cc
right_unit b (s ∷ c ∷ d ∷ e ∷ []) y small h = let k = three_octal b s c d e small h in ap (λ a. unit_len 34 (a ∷ c ∷ d ∷ e ∷ y)) k.slash ∙ ap escape_len (k.escapes y)
right_unit b (s ∷ c ∷ d ∷ e ∷ f ∷ es) y small h = cc

some_right : (b : ℕ) (es : Text) → is_right b es ≡ true → 0 < length es
some_right b [] h = absurd (let x : false ≡ true = h in cc)
some_right b (c ∷ es) h = omega arith

behind : (es y : Text) → drop (length es) (es ++ y) ≡ y
behind [] y = refl
behind (e ∷ es) y = behind es y

-- escaped bytes reach to the closing quote
pub escaped_reach : (s y : Text) → AllByRecursion (λ x. x < 256) s → contents_len 34 (escaped s ++ 34 ∷ y) ≡ length (escaped s)
escaped_reach [] y h = contents_end 34 (34 ∷ y) refl
escaped_reach (b ∷ s) y h =
    let es = escaped_byte b in
    let right = agree_below_at (λ b. is_right b (escaped_byte b)) (λ b. true) 256 b all_right h.0 in
    let more = escaped s ++ 34 ∷ y in
    let unit = right_unit b es more h.0 right in
    ap (contents_len 34) (append_assoc es (escaped s) (34 ∷ y))
    ∙ contents_step 34 (es ++ more) (omega (arith, unit, some_right b es right)) (omega (arith, unit, length-append es more))
    ∙ ap (λ n. n + contents_len 34 (drop n (es ++ more))) unit
    ∙ ap (λ t. length es + contents_len 34 t) (behind es more)
    ∙ ap (λ n. length es + n) (escaped_reach s y h.1)
    ∙ sym (length-append es (escaped s))
