-- Among the tokens of a tree no number stands directly before a colon or an opening brace.
use Rattle.std.proofs.Common.{◌≡◌, ◌==◌, ◌&&◌, ◌||◌, Bool, true, false, true≢false, List, [], ◌∷◌, ◌++◌, map, refl, sym, ap, ◌∙◌, append_assoc, append-nil}
use Rattle.std.specs.List.{flat_map}
use Rattle.std.proofs.lemmas.Bool.{or_right}
use Rattle.protox_lex.specs.Class.{Text}
use Rattle.text_lex.specs.Token.{Token, int, str, sign, Lexeme, token_at, fault}
use Rattle.text_model.specs.Texts.{AreTokens}
use Rattle.text_model.specs.Tokens.{dotted, full_name_tokens, name_tokens, scalar_tokens, separator_tokens, value_tokens, more_tokens, values_tokens, given_tokens, fields_tokens}
use Rattle.text_model.specs.Tree.{FullName, FieldName, plain, extension, expansion, integer, floating, identifier, ScalarValue, signed, strings, curly, angle, Separator, no_separator, comma, semicolon, Value, scalar, braced, Values, no_values, more_values, Given, one_scalar, one_message, listed, Fields, no_fields, more_fields}
use Rattle.text_model.proofs.Front.{is_at}
use Rattle.text_model.proofs.Leaves.{Rest, Begin}
use Rattle.text_model.proofs.Reading.{grouped}

abbrev pub is_number : Token → Bool
is_number (int r digits) = true
is_number _ = false

-- a colon or an opening brace
abbrev pub opens : Token → Bool
opens (sign b) = (b == 58) || (b == 123)
opens _ = false

-- a number stands somewhere directly before one
abbrev pub tells : List Token → Bool
tells [] = false
tells (t ∷ ts) = (is_number t && is_at opens ts) || tells ts

-- so it does with other tokens before these
pub tells_behind : (ts us : List Token) → tells us ≡ true → tells (ts ++ us) ≡ true
tells_behind [] us h = h
tells_behind (t ∷ ts) us h = or_right (is_number t && is_at opens (ts ++ us)) (tells (ts ++ us)) (tells_behind ts us h)

never : (b : Bool) → (b && false) || false ≡ false
never true = refl
never false = refl

-- and with others behind them
tells_before : (ts us : List Token) → tells ts ≡ true → tells (ts ++ us) ≡ true
tells_before [] us h = absurd (true≢false (sym h))
tells_before (t ∷ []) us h = absurd (true≢false (sym h ∙ never (is_number t)))
tells_before (t ∷ u ∷ ts) us h = by (is_number t && opens u) h (tells_before (u ∷ ts) us) where
  by : (b : Bool) → b || tells (u ∷ ts) ≡ true → (tells (u ∷ ts) ≡ true → tells (u ∷ (ts ++ us)) ≡ true) → b || tells (u ∷ (ts ++ us)) ≡ true
  by true h later = refl
  by false h later = later h

-- ---- what a text begins with

-- tokens that a text begins with are the first of all
begun : (R : Rest) (ls : List Lexeme) (ts us : List Token) → Begin R ls ts → AreTokens ls us → (rest : List Token) × (us ≡ ts ++ rest)
begun R ls [] us h k = (us, refl)
begun R [] (t ∷ ts) us h k = absurd h
begun R (token_at start end t ∷ ls) (u ∷ ts) [] h k = absurd k
begun R (token_at start end t ∷ ls) (u ∷ ts) (v ∷ us) h k =
    let more = begun R ls ts us h.1 k.1 in
    (more.0, ap (λ x. x ∷ us) (sym k.0 ∙ h.0) ∙ ap (λ xs. u ∷ xs) more.1)
begun R (fault e ∷ ls) (t ∷ ts) us h k = absurd h

pub told_in : (R : Rest) (ls : List Lexeme) (ts us : List Token) → Begin R ls ts → AreTokens ls us → tells ts ≡ true → tells us ≡ true
told_in R ls ts us h k t = let first = begun R ls ts us h k in ap tells first.1 ∙ tells_before ts first.0 t

-- ---- trees

-- their tokens add nothing that tells, before what does not open
dots_quiet : (ws : List Text) (ts : List Token) → tells (flat_map dotted ws ++ ts) ≡ tells ts
dots_quiet [] ts = refl
dots_quiet (w ∷ ws) ts = dots_quiet ws ts

full_quiet : (n : FullName) (ts : List Token) → tells (full_name_tokens n ++ ts) ≡ tells ts
full_quiet n ts = dots_quiet n.others ts

name_quiet : (n : FieldName) (ts : List Token) → tells (name_tokens n ++ ts) ≡ tells ts
name_quiet (plain w) ts = refl
name_quiet (extension n) ts = ap tells (append_assoc (full_name_tokens n) (sign 93 ∷ []) ts) ∙ full_quiet n (sign 93 ∷ ts)
name_quiet (expansion d n) ts =
    ap tells (append_assoc (full_name_tokens d) (sign 47 ∷ (full_name_tokens n ++ sign 93 ∷ [])) ts)
    ∙ full_quiet d (sign 47 ∷ ((full_name_tokens n ++ sign 93 ∷ []) ++ ts))
    ∙ ap tells (append_assoc (full_name_tokens n) (sign 93 ∷ []) ts) ∙ full_quiet n (sign 93 ∷ ts)

strings_quiet : (ss : List Text) (ts : List Token) → tells (map str ss ++ ts) ≡ tells ts
strings_quiet [] ts = refl
strings_quiet (s ∷ ss) ts = strings_quiet ss ts

scalar_quiet : (s : ScalarValue) (ts : List Token) → is_at opens ts ≡ false → tells (scalar_tokens s ++ ts) ≡ tells ts
scalar_quiet (signed true (integer r digits)) ts e = ap (λ b. b || tells ts) e
scalar_quiet (signed true (floating s)) ts e = refl
scalar_quiet (signed true (identifier w)) ts e = refl
scalar_quiet (signed false (integer r digits)) ts e = ap (λ b. b || tells ts) e
scalar_quiet (signed false (floating s)) ts e = refl
scalar_quiet (signed false (identifier w)) ts e = refl
scalar_quiet (strings s ss) ts e = strings_quiet ss ts

separator_quiet : (s : Separator) (ts : List Token) → tells (separator_tokens s ++ ts) ≡ tells ts
separator_quiet no_separator ts = refl
separator_quiet comma ts = refl
separator_quiet semicolon ts = refl

-- what stands behind a value or a field does not open
more_shut : (vs : Values) (ts : List Token) → is_at opens (more_tokens vs ++ sign 93 ∷ ts) ≡ false
more_shut no_values ts = refl
more_shut (more_values v vs) ts = refl

name_shut : (n : FieldName) (ts : List Token) → is_at opens (name_tokens n ++ ts) ≡ false
name_shut (plain w) ts = refl
name_shut (extension n) ts = refl
name_shut (expansion d n) ts = refl

fields_shut : (fs : Fields) (ts : List Token) → is_at opens ts ≡ false → is_at opens (fields_tokens fs ++ ts) ≡ false
fields_shut no_fields ts e = e
fields_shut (more_fields n g s fs) ts e =
    ap (is_at opens) (grouped (name_tokens n) (given_tokens g) (separator_tokens s) (fields_tokens fs) ts)
    ∙ name_shut n (given_tokens g ++ (separator_tokens s ++ (fields_tokens fs ++ ts)))

behind_shut : (s : Separator) (fs : Fields) (ts : List Token) → is_at opens ts ≡ false → is_at opens (separator_tokens s ++ (fields_tokens fs ++ ts)) ≡ false
behind_shut no_separator fs ts e = fields_shut fs ts e
behind_shut comma fs ts e = refl
behind_shut semicolon fs ts e = refl

mutual
  value_quiet : (v : Value) (ts : List Token) → is_at opens ts ≡ false → tells (value_tokens v ++ ts) ≡ tells ts
  value_quiet (scalar s) ts e = scalar_quiet s ts e
  value_quiet (braced curly fs) ts e = ap tells (append_assoc (fields_tokens fs) (sign 125 ∷ []) ts) ∙ fields_quiet fs (sign 125 ∷ ts) refl
  value_quiet (braced angle fs) ts e = ap tells (append_assoc (fields_tokens fs) (sign 62 ∷ []) ts) ∙ fields_quiet fs (sign 62 ∷ ts) refl

  more_quiet : (vs : Values) (ts : List Token) → tells (more_tokens vs ++ sign 93 ∷ ts) ≡ tells ts
  more_quiet no_values ts = refl
  more_quiet (more_values v vs) ts =
      ap tells (append_assoc (value_tokens v) (more_tokens vs) (sign 93 ∷ ts))
      ∙ value_quiet v (more_tokens vs ++ sign 93 ∷ ts) (more_shut vs ts) ∙ more_quiet vs ts

  values_quiet : (vs : Values) (ts : List Token) → tells (values_tokens vs ++ sign 93 ∷ ts) ≡ tells ts
  values_quiet no_values ts = refl
  values_quiet (more_values v vs) ts =
      ap tells (append_assoc (value_tokens v) (more_tokens vs) (sign 93 ∷ ts))
      ∙ value_quiet v (more_tokens vs ++ sign 93 ∷ ts) (more_shut vs ts) ∙ more_quiet vs ts

  given_quiet : (g : Given) (ts : List Token) → is_at opens ts ≡ false → tells (given_tokens g ++ ts) ≡ tells ts
  given_quiet (one_scalar s) ts e = scalar_quiet s ts e
  given_quiet (one_message false curly fs) ts e = ap tells (append_assoc (fields_tokens fs) (sign 125 ∷ []) ts) ∙ fields_quiet fs (sign 125 ∷ ts) refl
  given_quiet (one_message false angle fs) ts e = ap tells (append_assoc (fields_tokens fs) (sign 62 ∷ []) ts) ∙ fields_quiet fs (sign 62 ∷ ts) refl
  given_quiet (one_message true curly fs) ts e = ap tells (append_assoc (fields_tokens fs) (sign 125 ∷ []) ts) ∙ fields_quiet fs (sign 125 ∷ ts) refl
  given_quiet (one_message true angle fs) ts e = ap tells (append_assoc (fields_tokens fs) (sign 62 ∷ []) ts) ∙ fields_quiet fs (sign 62 ∷ ts) refl
  given_quiet (listed vs) ts e = ap tells (append_assoc (values_tokens vs) (sign 93 ∷ []) ts) ∙ values_quiet vs ts

  fields_quiet : (fs : Fields) (ts : List Token) → is_at opens ts ≡ false → tells (fields_tokens fs ++ ts) ≡ tells ts
  fields_quiet no_fields ts e = refl
  fields_quiet (more_fields n g s fs) ts e =
      let behind = separator_tokens s ++ (fields_tokens fs ++ ts) in
      ap tells (grouped (name_tokens n) (given_tokens g) (separator_tokens s) (fields_tokens fs) ts)
      ∙ name_quiet n (given_tokens g ++ behind)
      ∙ given_quiet g behind (behind_shut s fs ts e)
      ∙ separator_quiet s (fields_tokens fs ++ ts)
      ∙ fields_quiet fs ts e

pub tree_quiet : (fs : Fields) → tells (fields_tokens fs) ≡ false
tree_quiet fs = ap tells (sym (append-nil (fields_tokens fs))) ∙ fields_quiet fs [] refl
