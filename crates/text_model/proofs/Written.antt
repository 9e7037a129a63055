-- Tokens that are written one directly behind the other are cut into again, where none lengthens the one before it.
use Rattle.std.proofs.Common.{◌||◌, ◌≡◌, ◌⊎◌, inl, inr, ℕ, ◌+◌, ◌<◌, ◌^◌, ◌==◌, not, Bool, true, false, List, [], ◌∷◌, ◌++◌, length, decimal, Ok, refl, sym, ap, ◌∙◌, subst, append_assoc, append-nil, length-append, arith}
use Rattle.std.specs.Prelude.{slice_index}
use Rattle.std.specs.List.{flat_map, list_all, AllByRecursion}
use Rattle.std.proofs.lemmas.Bool.{and_parts, or_from, or_parts, not-true}
use Rattle.std.proofs.lemmas.Fmt.{decimal_is_IsNumeral}
use Rattle.protox_lex.specs.Class.{Text, is_in}
use Rattle.protox_lex.specs.Escapes.{escaped}
use Rattle.protox_lex.specs.declared.class.Class.TheVariants as class
use Rattle.text_lex.specs.Lex.{front}
use Rattle.text_lex.specs.Token.{Token, ident, int, float, str, sign, token}
use Rattle.text_lex.specs.declared.token.Radix.TheVariants as radix
use Rattle.text_model.specs.Tree.{FullName, FieldName, plain, extension, expansion, integer, floating, identifier, ScalarValue, signed, strings, curly, angle, Separator, no_separator, comma, semicolon, Value, scalar, braced, Values, no_values, more_values, Given, one_scalar, one_message, listed, Fields, no_fields, more_fields}
use Rattle.text_model.specs.Tokens.{dotted, full_name_tokens, name_tokens, word_token, scalar_tokens, separator_tokens, value_tokens, more_tokens, values_tokens, given_tokens, fields_tokens}
use Rattle.text_model.specs.Rendered.{run}
use Rattle.text_model.specs.Identifiers.{is_identifier}
use Rattle.text_model.proofs.Front.{is_sign, is_at}
use Rattle.text_model.proofs.Reading.{grouped}
use Rattle.text_model.proofs.Leaves.{Rest, IsEnd, Lexed, lexed_nil, token_before, ends_word, ends_number, word_front, string_front}
use Rattle.text_model.proofs.Decimals.{letter_solid, letter_no_digit, decimal_front}
use Rattle.text_model.proofs.Signs.{IsSign, comma_sign, minus_sign, dot_sign, slash_sign, colon_sign, bracket_sign, close_bracket_sign, brace_sign, close_brace_sign}

abbrev pub begins_word : Token → Bool
begins_word (ident w) = true
begins_word (int r d) = true
begins_word (float s) = true
begins_word _ = false

abbrev pub is_ident : Token → Bool
is_ident (ident w) = true
is_ident _ = false

-- it is written as it is cut
abbrev pub IsClean : Token → Type 0
IsClean (ident w) = is_identifier w ≡ true
IsClean (int radix.Decimal d) = (n : ℕ) × (n < 2 ^ 64) × (d ≡ decimal n)
IsClean (int r d) = ⊥
IsClean (float s) = ⊥
IsClean (str raw) = (s : Text) × AllByRecursion (λ x. x < 256) s × (raw ≡ escaped s)
IsClean (sign b) = IsSign b

-- and what follows does not lengthen it
abbrev pub IsApart : Token → List Token → Type 0
IsApart (ident w) ts = is_at begins_word ts ≡ false
IsApart (int r d) ts = (is_at begins_word ts ≡ false) × (is_at (is_sign 46) ts ≡ false)
IsApart (float s) ts = ⊥
IsApart (str s) ts = Unit {0}
IsApart (sign b) ts = ((b == 46) ≡ false) ⊎ (is_at is_ident ts ≡ true)

abbrev pub AreWritten : List Token → Type 0
AreWritten [] = Unit {0}
AreWritten (t ∷ ts) = IsClean t × IsApart t ts × AreWritten ts

number_word : (z : Text) → ends_number z ≡ true → ends_word z ≡ true
number_word [] h = refl
number_word (b ∷ z) h = ap not (or_parts (is_in class.Word b) (b == 46) (not-true (is_in class.Word b || b == 46) h)).0

word_ended : (ts : List Token) (z : Text) → AreWritten ts → is_at begins_word ts ≡ false → ends_number z ≡ true → ends_word (run ts ++ z) ≡ true
word_ended [] z h e g = number_word z g
word_ended (ident w ∷ ts) z h e g = cc
word_ended (int r d ∷ ts) z h e g = cc
word_ended (float s ∷ ts) z h e g = cc
word_ended (str s ∷ ts) z h e g = refl
word_ended (sign b ∷ ts) z h e g = ap not h.0.word

number_ended : (ts : List Token) (z : Text) → AreWritten ts → is_at begins_word ts ≡ false → is_at (is_sign 46) ts ≡ false → ends_number z ≡ true → ends_number (run ts ++ z) ≡ true
number_ended [] z h e f g = g
number_ended (ident w ∷ ts) z h e f g = cc
number_ended (int r d ∷ ts) z h e f g = cc
number_ended (float s ∷ ts) z h e f g = cc
number_ended (str s ∷ ts) z h e f g = refl
number_ended (sign b ∷ ts) z h e f g = ap not (or_from (is_in class.Word b) (b == 46) h.0.word f)

no_digit : (ts : List Token) (z : Text) → AreWritten ts → is_at is_ident ts ≡ true → is_in class.Digit (slice_index (run ts ++ z) 0) ≡ false
no_digit [] z h e = cc
no_digit (ident [] ∷ ts) z h e = absurd (let x : false ≡ true = h.0 in cc)
no_digit (ident (b ∷ y) ∷ ts) z h e = letter_no_digit b (and_parts (is_in class.Letter b) (list_all (is_in class.Word) y) h.0).0
no_digit (int r d ∷ ts) z h e = cc
no_digit (float s ∷ ts) z h e = cc
no_digit (str s ∷ ts) z h e = cc
no_digit (sign b ∷ ts) z h e = cc

decimal_lexed : {R : Rest} (d : Text) (n : ℕ) (z : Text) (ts : List Token) → n < 2 ^ 64 → d ≡ decimal n → ends_number z ≡ true → Lexed R z ts → Lexed R (d ++ z) (int radix.Decimal d ∷ ts)
decimal_lexed [] n z ts small e f h = absurd (let k = (decimal_is_IsNumeral n small).0.0 in omega (arith, ap length e))
decimal_lexed (b ∷ y) n z ts small e f h = token_before b y z (int radix.Decimal (b ∷ y)) ts (λ at. subst (λ ds. front at (ds ++ z) ≡ Ok (token (int radix.Decimal ds), length ds)) (sym e) (decimal_front at n z small f)) h

string_lexed : {R : Rest} (raw s z : Text) (ts : List Token) → AllByRecursion (λ x. x < 256) s → raw ≡ escaped s → Lexed R z ts → Lexed R ((34 ∷ (raw ++ 34 ∷ [])) ++ z) (str raw ∷ ts)
string_lexed raw s z ts small e h =
    token_before 34 (raw ++ 34 ∷ []) z (str raw) ts
    (λ at.
    subst (λ r. front at ((34 ∷ (r ++ 34 ∷ [])) ++ z) ≡ Ok (token (str r), length (34 ∷ (r ++ 34 ∷ [])))) (sym e)
    (ap (λ y. front at (34 ∷ y)) (append_assoc (escaped s) (34 ∷ []) z) ∙ string_front at s z small ∙ ap (λ n. Ok (token (str (escaped s)), n)) (let l = length-append (escaped s) (34 ∷ []) in let k : length (escaped s) + 2 ≡ length (34 ∷ (escaped s ++ 34 ∷ [])) = omega arith in k)))
    h

-- one token more
more_lexed : {R : Rest} (t x z : Text) (y : Token) (ts : List Token) → Lexed R (t ++ (x ++ z)) (y ∷ ts) → Lexed R ((t ++ x) ++ z) (y ∷ ts)
more_lexed {R = R} t x z y ts h = subst (λ s. Lexed R s (y ∷ ts)) (sym (append_assoc t x z)) h

-- before a text that lengthens no word and no number
pub run_lexed : {R : Rest} (ts : List Token) → AreWritten ts → (z : Text) (us : List Token) → ends_number z ≡ true → Lexed R z us → Lexed R (run ts ++ z) (ts ++ us)
run_lexed [] h z us e g = g
run_lexed (ident [] ∷ ts) h z us e g = absurd (let x : false ≡ true = h.0 in cc)
run_lexed (ident (b ∷ y) ∷ ts) h z us e g =
    let p = and_parts (is_in class.Letter b) (list_all (is_in class.Word) y) h.0 in
    more_lexed (b ∷ y) (run ts) z (ident (b ∷ y)) (ts ++ us)
    (token_before b y (run ts ++ z) (ident (b ∷ y)) (ts ++ us) (λ at. word_front at b y (run ts ++ z) p.0 (letter_solid b p.0) p.1 (word_ended ts z h.2 h.1 e)) (run_lexed ts h.2 z us e g))
run_lexed (int radix.Decimal d ∷ ts) h z us e g =
    more_lexed d (run ts) z (int radix.Decimal d) (ts ++ us) (decimal_lexed d h.0.0 (run ts ++ z) (ts ++ us) h.0.1 h.0.2 (number_ended ts z h.2 h.1.0 h.1.1 e) (run_lexed ts h.2 z us e g))
run_lexed (int radix.Octal d ∷ ts) h z us e g = absurd h.0
run_lexed (int radix.Hexadecimal d ∷ ts) h z us e g = absurd h.0
run_lexed (float s ∷ ts) h z us e g = absurd h.0
run_lexed (str raw ∷ ts) h z us e g =
    more_lexed (34 ∷ (raw ++ 34 ∷ [])) (run ts) z (str raw) (ts ++ us) (string_lexed raw h.0.0 (run ts ++ z) (ts ++ us) h.0.1 h.0.2 (run_lexed ts h.2 z us e g))
run_lexed (sign b ∷ ts) h z us e g =
    token_before b [] (run ts ++ z) (sign b) (ts ++ us) (λ at. h.0.front at (run ts ++ z) (elim h.1 [ inl i ↦ inl i | inr i ↦ inr (no_digit ts z h.2 i) ])) (run_lexed ts h.2 z us e g)

-- ---- trees

-- neither a word nor a dot
pub record Follows (ts : List Token) : Type 0 where
  pub word : is_at begins_word ts ≡ false
  pub dot : is_at (is_sign 46) ts ≡ false

pub nothing_follows : Follows []
nothing_follows = record { word = refl; dot = refl }

abbrev pub IsCleanScalar : ScalarValue → Type 0
IsCleanScalar (signed minus w) = IsClean (word_token w)
IsCleanScalar (strings s []) = IsClean (str s)
IsCleanScalar (strings s (x ∷ ss)) = ⊥

abbrev pub IsFullNameShown : FullName → Type 0
IsFullNameShown n = (is_identifier n.first ≡ true) × AllByRecursion (λ w. is_identifier w ≡ true) n.others

abbrev pub IsNameShown : FieldName → Type 0
IsNameShown (plain w) = is_identifier w ≡ true
IsNameShown (extension n) = IsFullNameShown n
IsNameShown (expansion d n) = IsFullNameShown d × IsFullNameShown n

-- a comma between two fields, or, pretty, no sign
abbrev pub IsBetween : Bool → Separator → Fields → Type 0
IsBetween true no_separator fs = Unit {0}
IsBetween false no_separator no_fields = Unit {0}
IsBetween false comma fs = Unit {0}
IsBetween pretty s fs = ⊥

abbrev mutual
  pub IsValueShown : Bool → Value → Type 0
  IsValueShown p (scalar s) = IsCleanScalar s
  IsValueShown p (braced curly fs) = AreShown p fs
  IsValueShown p (braced angle fs) = ⊥

  pub AreValuesShown : Bool → Values → Type 0
  AreValuesShown p no_values = Unit {0}
  AreValuesShown p (more_values v vs) = IsValueShown p v × AreValuesShown p vs

  pub IsGivenShown : Bool → Given → Type 0
  IsGivenShown p (one_scalar s) = IsCleanScalar s
  IsGivenShown p (one_message false curly fs) = AreShown p fs
  IsGivenShown p (one_message colon b fs) = ⊥
  IsGivenShown p (listed vs) = AreValuesShown p vs

  -- fields that are printed
  pub AreShown : Bool → Fields → Type 0
  AreShown p no_fields = Unit {0}
  AreShown p (more_fields n g s fs) = IsNameShown n × IsGivenShown p g × IsBetween p s fs × AreShown p fs

pub scalar_written : (s : ScalarValue) → IsCleanScalar s → (ts : List Token) → Follows ts → AreWritten ts → AreWritten (scalar_tokens s ++ ts)
scalar_written (signed true (integer r d)) c ts f h = (minus_sign, inl refl, (c, (f.word, f.dot), h))
scalar_written (signed true (floating s)) c ts f h = absurd c
scalar_written (signed true (identifier w)) c ts f h = (minus_sign, inl refl, (c, f.word, h))
scalar_written (signed false (integer r d)) c ts f h = (c, (f.word, f.dot), h)
scalar_written (signed false (floating s)) c ts f h = absurd c
scalar_written (signed false (identifier w)) c ts f h = (c, f.word, h)
scalar_written (strings s []) c ts f h = (c, tt, h)
scalar_written (strings s (x ∷ ss)) c ts f h = absurd c

dots_follow : (ws : List Text) (b : ℕ) (ts : List Token) → is_at begins_word (flat_map dotted ws ++ sign b ∷ ts) ≡ false
dots_follow [] b ts = refl
dots_follow (w ∷ ws) b ts = refl

-- before a sign that is no dot
others_written : (ws : List Text) → AllByRecursion (λ w. is_identifier w ≡ true) ws → (b : ℕ) → IsSign b → (b == 46) ≡ false → (ts : List Token) → AreWritten ts → AreWritten (flat_map dotted ws ++ sign b ∷ ts)
others_written [] a b clean no_dot ts h = (clean, inl no_dot, h)
others_written (w ∷ ws) a b clean no_dot ts h = (dot_sign, inr refl, (a.0, dots_follow ws b ts, others_written ws a.1 b clean no_dot ts h))

full_name_written : (n : FullName) → IsFullNameShown n → (b : ℕ) → IsSign b → (b == 46) ≡ false → (ts : List Token) → AreWritten ts → AreWritten (full_name_tokens n ++ sign b ∷ ts)
full_name_written n c b clean no_dot ts h = (c.0, dots_follow n.others b ts, others_written n.others c.1 b clean no_dot ts h)

pub name_written : (n : FieldName) → IsNameShown n → (ts : List Token) → Follows ts → AreWritten ts → AreWritten (name_tokens n ++ ts)
name_written (plain w) c ts f h = (c, f.word, h)
name_written (extension n) c ts f h =
    subst (λ us. AreWritten (sign 91 ∷ us)) (sym (append_assoc (full_name_tokens n) (sign 93 ∷ []) ts))
    (bracket_sign, inl refl, full_name_written n c 93 close_bracket_sign refl ts h)
name_written (expansion d n) c ts f h =
    subst (λ us. AreWritten (sign 91 ∷ us))
    (sym
    (append_assoc (full_name_tokens d) (sign 47 ∷ (full_name_tokens n ++ sign 93 ∷ [])) ts
    ∙ ap (λ us. full_name_tokens d ++ sign 47 ∷ us) (append_assoc (full_name_tokens n) (sign 93 ∷ []) ts)))
    (bracket_sign, inl refl, full_name_written d c.0 47 slash_sign refl (full_name_tokens n ++ sign 93 ∷ ts) (full_name_written n c.1 93 close_bracket_sign refl ts h))

more_follow : (vs : Values) (ts : List Token) → Follows (more_tokens vs ++ sign 93 ∷ ts)
more_follow no_values ts = record { word = refl; dot = refl }
more_follow (more_values v vs) ts = record { word = refl; dot = refl }

given_follow : (g : Given) → IsGivenShown false g → (ts : List Token) → Follows (given_tokens g ++ ts)
given_follow (one_scalar s) c ts = record { word = refl; dot = refl }
given_follow (one_message false curly fs) c ts = record { word = refl; dot = refl }
given_follow (one_message false angle fs) c ts = absurd c
given_follow (one_message true b fs) c ts = absurd c
given_follow (listed vs) c ts = record { word = refl; dot = refl }

between_follow : (s : Separator) (fs : Fields) → IsBetween false s fs → (ts : List Token) → Follows ts → Follows (separator_tokens s ++ (fields_tokens fs ++ ts))
between_follow no_separator no_fields c ts f = f
between_follow no_separator (more_fields n g s fs) c ts f = absurd c
between_follow comma fs c ts f = record { word = refl; dot = refl }
between_follow semicolon fs c ts f = absurd c

between_written : (s : Separator) (fs : Fields) → IsBetween false s fs → (ts : List Token) → AreWritten ts → AreWritten (separator_tokens s ++ ts)
between_written no_separator no_fields c ts h = h
between_written no_separator (more_fields n g s fs) c ts h = absurd c
between_written comma fs c ts h = (comma_sign, inl refl, h)
between_written semicolon fs c ts h = absurd c

close_follow : (ts : List Token) → Follows (sign 125 ∷ ts)
close_follow ts = record { word = refl; dot = refl }

mutual
  value_written : (v : Value) → IsValueShown false v → (ts : List Token) → Follows ts → AreWritten ts → AreWritten (value_tokens v ++ ts)
  value_written (scalar s) c ts f h = scalar_written s c ts f h
  value_written (braced curly fs) c ts f h =
      subst (λ us. AreWritten (sign 123 ∷ us)) (sym (append_assoc (fields_tokens fs) (sign 125 ∷ []) ts))
      (brace_sign, inl refl, fields_written fs c (sign 125 ∷ ts) (close_follow ts) (close_brace_sign, inl refl, h))
  value_written (braced angle fs) c ts f h = absurd c

  more_written : (vs : Values) → AreValuesShown false vs → (ts : List Token) → AreWritten ts → AreWritten (more_tokens vs ++ sign 93 ∷ ts)
  more_written no_values c ts h = (close_bracket_sign, inl refl, h)
  more_written (more_values v vs) c ts h =
      subst (λ us. AreWritten (sign 44 ∷ us)) (sym (append_assoc (value_tokens v) (more_tokens vs) (sign 93 ∷ ts)))
      (comma_sign, inl refl, value_written v c.0 (more_tokens vs ++ sign 93 ∷ ts) (more_follow vs ts) (more_written vs c.1 ts h))

  values_written : (vs : Values) → AreValuesShown false vs → (ts : List Token) → AreWritten ts → AreWritten (values_tokens vs ++ sign 93 ∷ ts)
  values_written no_values c ts h = (close_bracket_sign, inl refl, h)
  values_written (more_values v vs) c ts h =
      subst AreWritten (sym (append_assoc (value_tokens v) (more_tokens vs) (sign 93 ∷ ts)))
      (value_written v c.0 (more_tokens vs ++ sign 93 ∷ ts) (more_follow vs ts) (more_written vs c.1 ts h))

  given_written : (g : Given) → IsGivenShown false g → (ts : List Token) → Follows ts → AreWritten ts → AreWritten (given_tokens g ++ ts)
  given_written (one_scalar s) c ts f h = (colon_sign, inl refl, scalar_written s c ts f h)
  given_written (one_message false curly fs) c ts f h =
      subst (λ us. AreWritten (sign 123 ∷ us)) (sym (append_assoc (fields_tokens fs) (sign 125 ∷ []) ts))
      (brace_sign, inl refl, fields_written fs c (sign 125 ∷ ts) (close_follow ts) (close_brace_sign, inl refl, h))
  given_written (one_message false angle fs) c ts f h = absurd c
  given_written (one_message true b fs) c ts f h = absurd c
  given_written (listed vs) c ts f h =
      subst (λ us. AreWritten (sign 58 ∷ sign 91 ∷ us)) (sym (append_assoc (values_tokens vs) (sign 93 ∷ []) ts))
      (colon_sign, inl refl, (bracket_sign, inl refl, values_written vs c ts h))

  pub fields_written : (fs : Fields) → AreShown false fs → (ts : List Token) → Follows ts → AreWritten ts → AreWritten (fields_tokens fs ++ ts)
  fields_written no_fields c ts f h = h
  fields_written (more_fields n g s fs) c ts f h =
      let last = separator_tokens s ++ (fields_tokens fs ++ ts) in
      subst AreWritten (sym (grouped (name_tokens n) (given_tokens g) (separator_tokens s) (fields_tokens fs) ts))
      (name_written n c.0 (given_tokens g ++ last) (given_follow g c.1 last)
      (given_written g c.1 last (between_follow s fs c.2 ts f) (between_written s fs c.2 (fields_tokens fs ++ ts) (fields_written fs c.3 ts f h))))

-- fields that are printed on one line are cut into again
pub shown_lexed : (fs : Fields) → AreShown false fs → Lexed IsEnd (run (fields_tokens fs)) (fields_tokens fs)
shown_lexed fs c =
    let written = subst AreWritten (append-nil (fields_tokens fs)) (fields_written fs c [] nothing_follows tt) in
    subst (λ z. Lexed IsEnd z (fields_tokens fs)) (append-nil (run (fields_tokens fs)))
    (subst (Lexed IsEnd (run (fields_tokens fs) ++ [])) (append-nil (fields_tokens fs)) (run_lexed (fields_tokens fs) written [] [] refl lexed_nil))

-- so are their parts, before a text that lengthens no word and no number
pub value_run : {R : Rest} (v : Value) → IsValueShown false v → (z : Text) (ts : List Token) → ends_number z ≡ true → Lexed R z ts → Lexed R (run (value_tokens v) ++ z) (value_tokens v ++ ts)
value_run v c z ts e h = run_lexed (value_tokens v) (subst AreWritten (append-nil (value_tokens v)) (value_written v c [] nothing_follows tt)) z ts e h

pub given_run : {R : Rest} (g : Given) → IsGivenShown false g → (z : Text) (ts : List Token) → ends_number z ≡ true → Lexed R z ts → Lexed R (run (given_tokens g) ++ z) (given_tokens g ++ ts)
given_run g c z ts e h = run_lexed (given_tokens g) (subst AreWritten (append-nil (given_tokens g)) (given_written g c [] nothing_follows tt)) z ts e h
