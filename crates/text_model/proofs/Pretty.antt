-- Fields that are printed pretty are cut into their tokens again.
use Rattle.std.proofs.Common.{◌≡◌, ℕ, zero, suc, ◌+◌, ◌==◌, true, false, List, [], ◌∷◌, ◌++◌, replicate, refl, sym, ap, ◌∙◌, subst, append_assoc, append-nil}
use Rattle.protox_lex.specs.Class.{Text, is_in}
use Rattle.protox_lex.specs.declared.class.Class.TheVariants as class
use Rattle.text_lex.specs.Token.{Token, sign}
use Rattle.text_lex.proofs.Streams.{on_blank}
use Rattle.text_model.specs.Tree.{FieldName, ScalarValue, curly, angle, Separator, no_separator, comma, semicolon, Value, scalar, braced, Values, no_values, more_values, Given, one_scalar, one_message, listed, Fields, no_fields, more_fields}
use Rattle.text_model.specs.Tokens.{name_tokens, scalar_tokens, separator_tokens, value_tokens, more_tokens, values_tokens, given_tokens, fields_tokens}
use Rattle.text_model.specs.Rendered.{run, line, last_line, pretty_value, pretty_more, pretty_values, pretty_given, lines, pretty}
use Rattle.text_model.proofs.Leaves.{Rest, IsEnd, Begin, Lexed, lexed_nil, ends_number}
use Rattle.text_model.proofs.Signs.{IsSign, bracket_sign, brace_sign, close_bracket_sign, close_brace_sign, colon_sign, comma_sign, sign_before}
use Rattle.text_model.proofs.Written.{AreWritten, IsBetween, IsCleanScalar, IsNameShown, IsValueShown, AreValuesShown, IsGivenShown, AreShown, nothing_follows, scalar_written, name_written, run_lexed}

blank_before : {R : Rest} (b : ℕ) (z : Text) (ts : List Token) → is_in class.Blank b ≡ true → Lexed R z ts → Lexed R (b ∷ z) ts
blank_before {R = R} b z ts blank rest = record { cut = λ at. subst (λ ls. Begin R ls ts) (sym (on_blank at b z blank)) (rest.cut (at + 1)) }

spaces : {R : Rest} (n : ℕ) (z : Text) (ts : List Token) → Lexed R z ts → Lexed R (replicate n 32 ++ z) ts
spaces zero z ts h = h
spaces (suc n) z ts h = blank_before 32 (replicate n 32 ++ z) ts refl (spaces n z ts h)

on_line : {R : Rest} (n : ℕ) (z : Text) (ts : List Token) → Lexed R z ts → Lexed R (line n ++ z) ts
on_line n z ts h = blank_before 10 (replicate n 32 ++ z) ts refl (spaces n z ts h)

scalar_before : {R : Rest} (s : ScalarValue) → IsCleanScalar s → (z : Text) (ts : List Token) → ends_number z ≡ true → Lexed R z ts → Lexed R (run (scalar_tokens s) ++ z) (scalar_tokens s ++ ts)
scalar_before s c z ts e h = run_lexed (scalar_tokens s) (subst AreWritten (append-nil (scalar_tokens s)) (scalar_written s c [] nothing_follows tt)) z ts e h

pub name_before : {R : Rest} (n : FieldName) → IsNameShown n → (z : Text) (ts : List Token) → ends_number z ≡ true → Lexed R z ts → Lexed R (run (name_tokens n) ++ z) (name_tokens n ++ ts)
name_before n c z ts e h = run_lexed (name_tokens n) (subst AreWritten (append-nil (name_tokens n)) (name_written n c [] nothing_follows tt)) z ts e h

-- the same text and the same tokens, otherwise grouped
same : {R : Rest} (x y : Text) (ts us : List Token) → x ≡ y → ts ≡ us → Lexed R x ts → Lexed R y us
same {R = R} x y ts us e f h = subst (λ t. Lexed R t us) e (subst (Lexed R x) f h)

-- a sign and a space
spaced_before : {R : Rest} (b : ℕ) → IsSign b → (b == 46) ≡ false → (z : Text) (ts : List Token) → Lexed R z ts → Lexed R (b ∷ 32 ∷ z) (sign b ∷ ts)
spaced_before b is other z ts h = sign_before b is other (32 ∷ z) ts (blank_before 32 z ts refl h)

more_ends : (n : ℕ) (vs : Values) (z : Text) → ends_number (pretty_more n vs ++ 93 ∷ z) ≡ true
more_ends n no_values z = refl
more_ends n (more_values v vs) z = refl

given_ends : (n : ℕ) (g : Given) (z : Text) → ends_number (pretty_given n g ++ z) ≡ true
given_ends n (one_scalar s) z = refl
given_ends n (one_message c b fs) z = refl
given_ends n (listed vs) z = refl

lines_end : (n : ℕ) (fs : Fields) (z : Text) → ends_number z ≡ true → ends_number (lines n fs ++ z) ≡ true
lines_end n no_fields z e = e
lines_end n (more_fields m g s fs) z e = refl

last_ends : (n : ℕ) (fs : Fields) (z : Text) → ends_number (last_line n fs ++ z) ≡ true
last_ends n no_fields z = refl
last_ends n (more_fields m g s fs) z = refl

last_before : {R : Rest} (n : ℕ) (fs : Fields) (z : Text) (ts : List Token) → Lexed R z ts → Lexed R (last_line n fs ++ z) (sign 125 ∷ ts)
last_before n no_fields z ts h = sign_before 125 close_brace_sign refl z ts h
last_before {R = R} n (more_fields m g s fs) z ts h =
    subst (λ y. Lexed R y (sign 125 ∷ ts)) (sym (append_assoc (line n) (125 ∷ []) z)) (on_line n (125 ∷ z) (sign 125 ∷ ts) (sign_before 125 close_brace_sign refl z ts h))

no_sign : (s : Separator) (fs : Fields) → IsBetween true s fs → separator_tokens s ≡ []
no_sign no_separator fs c = refl
no_sign comma fs c = absurd c
no_sign semicolon fs c = absurd c

four : (a b c d z : Text) → a ++ (b ++ (c ++ (d ++ z))) ≡ (a ++ (b ++ (c ++ d))) ++ z
four a b c d z = simp append_assoc

three_tokens : (a b c z : List Token) → a ++ (b ++ (c ++ z)) ≡ (a ++ (b ++ c)) ++ z
three_tokens a b c z = simp append_assoc

mutual
  pub value_lexed : {R : Rest} (n : ℕ) (v : Value) → IsValueShown true v → (z : Text) (ts : List Token) → ends_number z ≡ true → Lexed R z ts → Lexed R (pretty_value n v ++ z) (value_tokens v ++ ts)
  value_lexed n (scalar s) c z ts e h = scalar_before s c z ts e h
  value_lexed n (braced angle fs) c z ts e h = absurd c
  value_lexed n (braced curly fs) c z ts e h =
      same (123 ∷ (lines (n + 2) fs ++ (last_line n fs ++ z))) (123 ∷ ((lines (n + 2) fs ++ last_line n fs) ++ z)) (sign 123 ∷ (fields_tokens fs ++ sign 125 ∷ ts)) (sign 123 ∷ ((fields_tokens fs ++ sign 125 ∷ []) ++ ts))
      (ap (λ (t : Text). 123 ∷ t) (sym (append_assoc (lines (n + 2) fs) (last_line n fs) z))) (ap (λ us. sign 123 ∷ us) (sym (append_assoc (fields_tokens fs) (sign 125 ∷ []) ts)))
      (sign_before 123 brace_sign refl (lines (n + 2) fs ++ (last_line n fs ++ z)) (fields_tokens fs ++ sign 125 ∷ ts) (lines_lexed (n + 2) fs c (last_line n fs ++ z) (sign 125 ∷ ts) (last_ends n fs z) (last_before n fs z ts h)))

  more_lexed : {R : Rest} (n : ℕ) (vs : Values) → AreValuesShown true vs → (z : Text) (ts : List Token) → Lexed R z ts → Lexed R (pretty_more n vs ++ 93 ∷ z) (more_tokens vs ++ sign 93 ∷ ts)
  more_lexed n no_values c z ts h = sign_before 93 close_bracket_sign refl z ts h
  more_lexed n (more_values v vs) c z ts h =
      same (44 ∷ 32 ∷ (pretty_value n v ++ (pretty_more n vs ++ 93 ∷ z))) (44 ∷ 32 ∷ ((pretty_value n v ++ pretty_more n vs) ++ 93 ∷ z)) (sign 44 ∷ (value_tokens v ++ (more_tokens vs ++ sign 93 ∷ ts))) (sign 44 ∷ ((value_tokens v ++ more_tokens vs) ++ sign 93 ∷ ts))
      (ap (λ (t : Text). 44 ∷ 32 ∷ t) (sym (append_assoc (pretty_value n v) (pretty_more n vs) (93 ∷ z)))) (ap (λ us. sign 44 ∷ us) (sym (append_assoc (value_tokens v) (more_tokens vs) (sign 93 ∷ ts))))
      (spaced_before 44 comma_sign refl (pretty_value n v ++ (pretty_more n vs ++ 93 ∷ z)) (value_tokens v ++ (more_tokens vs ++ sign 93 ∷ ts))
      (value_lexed n v c.0 (pretty_more n vs ++ 93 ∷ z) (more_tokens vs ++ sign 93 ∷ ts) (more_ends n vs z) (more_lexed n vs c.1 z ts h)))

  values_lexed : {R : Rest} (n : ℕ) (vs : Values) → AreValuesShown true vs → (z : Text) (ts : List Token) → Lexed R z ts → Lexed R (pretty_values n vs ++ 93 ∷ z) (values_tokens vs ++ sign 93 ∷ ts)
  values_lexed n no_values c z ts h = sign_before 93 close_bracket_sign refl z ts h
  values_lexed n (more_values v vs) c z ts h =
      same (pretty_value n v ++ (pretty_more n vs ++ 93 ∷ z)) ((pretty_value n v ++ pretty_more n vs) ++ 93 ∷ z) (value_tokens v ++ (more_tokens vs ++ sign 93 ∷ ts)) ((value_tokens v ++ more_tokens vs) ++ sign 93 ∷ ts)
      (sym (append_assoc (pretty_value n v) (pretty_more n vs) (93 ∷ z))) (sym (append_assoc (value_tokens v) (more_tokens vs) (sign 93 ∷ ts)))
      (value_lexed n v c.0 (pretty_more n vs ++ 93 ∷ z) (more_tokens vs ++ sign 93 ∷ ts) (more_ends n vs z) (more_lexed n vs c.1 z ts h))

  pub given_lexed : {R : Rest} (n : ℕ) (g : Given) → IsGivenShown true g → (z : Text) (ts : List Token) → ends_number z ≡ true → Lexed R z ts → Lexed R (pretty_given n g ++ z) (given_tokens g ++ ts)
  given_lexed n (one_scalar s) c z ts e h = spaced_before 58 colon_sign refl (run (scalar_tokens s) ++ z) (scalar_tokens s ++ ts) (scalar_before s c z ts e h)
  given_lexed n (one_message false angle fs) c z ts e h = absurd c
  given_lexed n (one_message true b fs) c z ts e h = absurd c
  given_lexed n (one_message false curly fs) c z ts e h =
      same (32 ∷ 123 ∷ (lines (n + 2) fs ++ (last_line n fs ++ z))) (32 ∷ 123 ∷ ((lines (n + 2) fs ++ last_line n fs) ++ z)) (sign 123 ∷ (fields_tokens fs ++ sign 125 ∷ ts)) (sign 123 ∷ ((fields_tokens fs ++ sign 125 ∷ []) ++ ts))
      (ap (λ (t : Text). 32 ∷ 123 ∷ t) (sym (append_assoc (lines (n + 2) fs) (last_line n fs) z))) (ap (λ us. sign 123 ∷ us) (sym (append_assoc (fields_tokens fs) (sign 125 ∷ []) ts)))
      (blank_before 32 (123 ∷ (lines (n + 2) fs ++ (last_line n fs ++ z))) (sign 123 ∷ (fields_tokens fs ++ sign 125 ∷ ts)) refl
      (sign_before 123 brace_sign refl (lines (n + 2) fs ++ (last_line n fs ++ z)) (fields_tokens fs ++ sign 125 ∷ ts) (lines_lexed (n + 2) fs c (last_line n fs ++ z) (sign 125 ∷ ts) (last_ends n fs z) (last_before n fs z ts h))))
  given_lexed n (listed vs) c z ts e h =
      same (58 ∷ 32 ∷ 91 ∷ (pretty_values n vs ++ 93 ∷ z)) (58 ∷ 32 ∷ 91 ∷ ((pretty_values n vs ++ 93 ∷ []) ++ z)) (sign 58 ∷ sign 91 ∷ (values_tokens vs ++ sign 93 ∷ ts)) (sign 58 ∷ sign 91 ∷ ((values_tokens vs ++ sign 93 ∷ []) ++ ts))
      (ap (λ (t : Text). 58 ∷ 32 ∷ 91 ∷ t) (sym (append_assoc (pretty_values n vs) (93 ∷ []) z))) (ap (λ us. sign 58 ∷ sign 91 ∷ us) (sym (append_assoc (values_tokens vs) (sign 93 ∷ []) ts)))
      (spaced_before 58 colon_sign refl (91 ∷ (pretty_values n vs ++ 93 ∷ z)) (sign 91 ∷ (values_tokens vs ++ sign 93 ∷ ts)) (sign_before 91 bracket_sign refl (pretty_values n vs ++ 93 ∷ z) (values_tokens vs ++ sign 93 ∷ ts) (values_lexed n vs c z ts h)))

  lines_lexed : {R : Rest} (n : ℕ) (fs : Fields) → AreShown true fs → (z : Text) (ts : List Token) → ends_number z ≡ true → Lexed R z ts → Lexed R (lines n fs ++ z) (fields_tokens fs ++ ts)
  lines_lexed n no_fields c z ts e h = h
  lines_lexed n (more_fields m g s fs) c z ts e h =
      let given = pretty_given n g ++ (lines n fs ++ z) in
      let us = given_tokens g ++ (fields_tokens fs ++ ts) in
      same (line n ++ (run (name_tokens m) ++ given)) ((line n ++ (run (name_tokens m) ++ (pretty_given n g ++ lines n fs))) ++ z) (name_tokens m ++ us) ((name_tokens m ++ (given_tokens g ++ (separator_tokens s ++ fields_tokens fs))) ++ ts)
      (four (line n) (run (name_tokens m)) (pretty_given n g) (lines n fs) z)
      (three_tokens (name_tokens m) (given_tokens g) (fields_tokens fs) ts ∙ ap (λ ss. (name_tokens m ++ (given_tokens g ++ (ss ++ fields_tokens fs))) ++ ts) (sym (no_sign s fs c.2)))
      (on_line n (run (name_tokens m) ++ given) (name_tokens m ++ us)
      (name_before m c.0 given us (given_ends n g (lines n fs ++ z))
      (given_lexed n g c.1 (lines n fs ++ z) (fields_tokens fs ++ ts) (lines_end n fs z e) (lines_lexed n fs c.3 z ts e h))))

-- the first line has no line end before it
pub pretty_lexed : (fs : Fields) → AreShown true fs → Lexed IsEnd (pretty fs) (fields_tokens fs)
pretty_lexed no_fields c = lexed_nil
pretty_lexed (more_fields m g s fs) c =
    let h = lines_lexed 0 fs c.3 [] [] refl lexed_nil in
    let given = pretty_given 0 g ++ (lines 0 fs ++ []) in
    let us = given_tokens g ++ (fields_tokens fs ++ []) in
    same (run (name_tokens m) ++ given) (run (name_tokens m) ++ (pretty_given 0 g ++ lines 0 fs)) (name_tokens m ++ us) (name_tokens m ++ (given_tokens g ++ (separator_tokens s ++ fields_tokens fs)))
    (ap (λ y. run (name_tokens m) ++ (pretty_given 0 g ++ y)) (append-nil (lines 0 fs)))
    (ap (λ y. name_tokens m ++ (given_tokens g ++ y)) (append-nil (fields_tokens fs)) ∙ ap (λ ss. name_tokens m ++ (given_tokens g ++ (ss ++ fields_tokens fs))) (sym (no_sign s fs c.2)))
    (name_before m c.0 given us (given_ends 0 g (lines 0 fs ++ [])) (given_lexed 0 g c.1 (lines 0 fs ++ []) (fields_tokens fs ++ []) (lines_end 0 fs [] refl) h))
