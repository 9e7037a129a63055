-- What is read is what the tokens of a tree spell.
use Rattle.std.proofs.Common.{◌≡◌, ℕ, zero, suc, ◌≤◌, Bool, true, false, cond, ◌||◌, codes, option_map, length, List, [], ◌∷◌, ◌++◌, Option, Some, None, Ok, Err, ◌⊎◌, inl, inr, is_some, refl, sym, ap, subst, ◌∙◌, append_assoc, arith}
use Rattle.std.proofs.Math.Nat.{max-le}
use Rattle.protox_lex.specs.declared.span.Span.{Span}
use Rattle.text_lex.specs.Token.{Token, sign, Lexeme, token_at}
use Rattle.text_model.specs.Tree.{FieldName, ScalarValue, Brace, curly, angle, Value, scalar, braced, Values, no_values, more_values, Given, one_scalar, one_message, listed, Fields, more_fields}
use Rattle.text_model.specs.Texts.{AreTokens}
use Rattle.text_model.specs.Tokens.{name_tokens, scalar_tokens, opening, separator_tokens, value_tokens, more_tokens, values_tokens, given_tokens, fields_tokens, value_braces, values_braces, given_braces, open_braces}
use Rattle.text_model.specs.Tokens as tokens
use Rattle.text_scalars.specs.declared.tokens.Brace as code
use Rattle.text_scalars.specs.declared.tokens.Brace.TheVariants as braces
use Rattle.text_scalars.specs.Braces.{closing, opening_brace}
use Rattle.text_scalars.specs.Front.{behind, is_sign, sees, sign_bytes}
use Rattle.text_scalars.specs.Names.{name_at, separator_at}
use Rattle.text_scalars.specs.Reading.{Reading}
use Rattle.text_scalars.specs.Scalars.{Found, scalar_at}
use Rattle.text_scalars.proofs.Finding.{scalars}
use Rattle.text_scalars.proofs.Named.{names}
use Rattle.text_syntax.specs.Syntax.{Read, then, untold, Inner, OneField, alone, brace_of, scalar_of, value_by, value_at, values_by, more_by, more_within, more_at, list_by, list_at, given_by, given_at, end_by, end_at, field_at, fields_by, fields_within, fields_at, at_sign, at_end, message_by, message_at, text_at}
use Rattle.text_syntax.proofs.Fronts.{Front, joined, parted, begun, from_begin, are_tokens, sign_front, brace_front, brace_seen, apart, scalar_starts}

-- this holds of what is read and of the lexemes behind it
abbrev pub Has : {A : Type 0} → (A → List Lexeme → Type 0) → Read A → Type 0
Has P (Some p) = P p.0 p.1
Has P None = Unit {0}

then_has : {A B : Type 0} (P : A → List Lexeme → Type 0) (Q : B → List Lexeme → Type 0) (r : Read A) (f : A → List Lexeme → Read B)
    → Has P r → ((x : A) (rest : List Lexeme) → P x rest → Has Q (f x rest)) → Has Q (then r f)
then_has P Q (Some p) f h k = k p.0 p.1 h
then_has P Q None f h k = tt

-- ---- what each reading finds, with at most so many braces open

abbrev pub IsValue : ℕ → List Lexeme → Value → List Lexeme → Type 0
IsValue n ls v rest = Front (value_tokens v) ls rest × (value_braces v ≤ n)

abbrev pub AreMore : ℕ → List Lexeme → Values → List Lexeme → Type 0
AreMore n ls vs rest = Front (more_tokens vs ++ sign 93 ∷ []) ls rest × (values_braces vs ≤ n)

abbrev pub AreListed : ℕ → List Lexeme → Values → List Lexeme → Type 0
AreListed n ls vs rest = Front (values_tokens vs ++ sign 93 ∷ []) ls rest × (values_braces vs ≤ n)

-- the tokens behind a colon
abbrev bare_tokens : Given → List Token
bare_tokens (one_scalar s) = scalar_tokens s
bare_tokens (one_message colon b fs) = value_tokens (braced b fs)
bare_tokens (listed vs) = sign 91 ∷ (values_tokens vs ++ sign 93 ∷ [])

abbrev TellsColon : Bool → Given → Type 0
TellsColon colon (one_message c b fs) = c ≡ colon
TellsColon colon g = Unit {0}

abbrev IsBare : ℕ → Bool → List Lexeme → Given → List Lexeme → Type 0
IsBare n colon ls g rest = Front (bare_tokens g) ls rest × (given_braces g ≤ n) × TellsColon colon g

abbrev pub IsGiven : ℕ → List Lexeme → Given → List Lexeme → Type 0
IsGiven n ls g rest = Front (given_tokens g) ls rest × (given_braces g ≤ n)

abbrev pub IsField : ℕ → List Lexeme → OneField → List Lexeme → Type 0
IsField n ls f rest =
    Front (name_tokens f.name ++ (given_tokens f.given ++ separator_tokens f.separator)) ls rest × (given_braces f.given ≤ n)

abbrev pub AreFields : (List Lexeme → Option (List Lexeme)) → ℕ → List Lexeme → Fields → List Lexeme → Type 0
AreFields ends n ls fs rest =
    (mid : List Lexeme) × Front (fields_tokens fs) ls mid × (ends mid ≡ Some rest) × (open_braces fs ≤ n)

abbrev pub IsMessage : ℕ → List Lexeme → Brace × Fields → List Lexeme → Type 0
IsMessage n ls m rest = IsValue n ls (braced m.0 m.1) rest

-- ---- scalar values, names, colons and signs

scalar_has : (n : ℕ) (ls : List Lexeme) → Has (IsValue n ls) (scalar_of (scalar_at ls))
scalar_has n ls = by (scalar_at ls) refl where
  by : (o : Option Found) → scalar_at ls ≡ o → Has (IsValue n ls) (scalar_of o)
  by None e = tt
  by (Some f) e =
      let h = (scalars ls f).0 e in (from_begin (scalar_tokens f.value) 0 ls f.span.end f.rest h.begin, omega arith)

name_has : (ls : List Lexeme) → Has (λ n rest. Front (name_tokens n.0) ls rest) (untold (name_at ls))
name_has ls = by (name_at ls) refl where
  by : (r : Reading (FieldName × Span)) → name_at ls ≡ r → Has (λ n rest. Front (name_tokens n.0) ls rest) (untold r)
  by (Err stop) e = tt
  by (Ok p) e =
      let h = (names ls p.0.0 p.0.1 p.1).0 e in from_begin (name_tokens p.0.0) 0 ls p.0.1.end p.1 h.begin

-- a colon was taken, or a brace stands there
abbrev Parts : List Lexeme → Unit {0} → List Lexeme → Type 0
Parts ls u rest =
    (Front (sign 58 ∷ []) ls rest × (sees 58 ls ≡ true))
    ⊎ ((b : Brace) × Front (opening b ∷ []) ls (behind ls) × (rest ≡ ls))

colon_has : (ls : List Lexeme) → Has (Parts ls) (untold (separator_at ls))
colon_has ls = by (sees 123 ls || sees 60 ls) (sign_bytes 58 ls) refl refl where
  by : (v : Bool) (o : Option Span) → (sees 123 ls || sees 60 ls) ≡ v → sign_bytes 58 ls ≡ o → Has (Parts ls)
      (untold (cond v (Ok (tt {0}, ls)) (elim o [
        | Some s ↦ Ok (tt {0}, behind ls)
        | None ↦ Err (codes "':' or a message value", ls)
      ])))
  by true o e f = let b = brace_seen ls e in inr (b.0, b.1, refl)
  by false None e f = tt
  by false (Some s) e f = inl (sign_front 58 ls s f, ap (λ o. is_some o) f)

end_front : (ls : List Lexeme) → Front (separator_tokens (end_at ls).0) ls (end_at ls).1
end_front ls = by (sign_bytes 44 ls) (sign_bytes 59 ls) refl refl where
  by : (o p : Option Span) → sign_bytes 44 ls ≡ o → sign_bytes 59 ls ≡ p
      → Front (separator_tokens (end_by ls o p).0) ls (end_by ls o p).1
  by (Some s) p e f = sign_front 44 ls s e
  by None (Some s) e f = sign_front 59 ls s f
  by None None e f = refl

-- no scalar value and no list begins with a brace
no_brace : {A : Type 0} (b : Brace) (t : Token) → is_sign 123 t ≡ false → is_sign 60 t ≡ false → opening b ≡ t → A
no_brace curly t h k e = apart 123 (sign 123) t refl h e
no_brace angle t h k e = apart 60 (sign 60) t refl k e

no_scalar : {A : Type 0} (b : Brace) (s : ScalarValue) (x y : ℕ) (ls rest : List Lexeme) → Front (scalar_tokens s) (token_at x y (opening b) ∷ ls) rest → A
no_scalar b s x y ls rest h =
    let t = scalar_starts s in
    no_brace b t.first t.no_curly t.no_angle (subst (λ ts. Front ts (token_at x y (opening b) ∷ ls) rest) t.are h).0

brace_bare : (n : ℕ) (x y : ℕ) (o : Brace) (ls : List Lexeme) (g : Given) (rest : List Lexeme)
    → IsBare n false (token_at x y (opening o) ∷ ls) g rest → IsGiven n (token_at x y (opening o) ∷ ls) g rest
brace_bare n x y o ls (one_scalar s) rest h = no_scalar o s x y ls rest h.0
brace_bare n x y o ls (one_message c b fs) rest h =
    subst (λ c. IsGiven n (token_at x y (opening o) ∷ ls) (one_message c b fs) rest) (sym h.2) (h.0, h.1)
brace_bare n x y o ls (listed vs) rest h = no_brace o (sign 91) refl refl h.0.0

no_colon : (x y : ℕ) (o : Brace) (ls : List Lexeme) → sees 58 (token_at x y (opening o) ∷ ls) ≡ false
no_colon x y curly ls = refl
no_colon x y angle ls = refl

-- what stands behind a colon, or where a brace stands
behind_colon : (n : ℕ) (named : List Lexeme) (g : Given) (parted rest : List Lexeme) (u : Unit {0}) → Parts named u parted
    → IsBare n (sees 58 named) parted g rest → IsGiven n named g rest
behind_colon n named g parted rest u (inl k) h = by g h where
  by : (g : Given) → IsBare n (sees 58 named) parted g rest → IsGiven n named g rest
  by (one_scalar s) h = (joined (sign 58 ∷ []) (scalar_tokens s) named parted rest k.0 h.0, h.1)
  by (one_message c b fs) h =
      subst (λ c. IsGiven n named (one_message c b fs) rest) (sym (h.2 ∙ k.1)) (joined (sign 58 ∷ []) (value_tokens (braced b fs)) named parted rest k.0 h.0, h.1)
  by (listed vs) h = (joined (sign 58 ∷ []) (sign 91 ∷ (values_tokens vs ++ sign 93 ∷ [])) named parted rest k.0 h.0, h.1)
behind_colon n named g parted rest u (inr k) h =
    let b = begun (opening k.0) [] named (behind named) k.1 in
    let ls = token_at b.start b.end (opening k.0) ∷ b.mid in
    let here : IsBare n (sees 58 named) named g rest = subst (λ l. IsBare n (sees 58 named) l g rest) k.2 h in
    let there : IsBare n (sees 58 ls) ls g rest = subst (λ l. IsBare n (sees 58 l) l g rest) b.is here in
    subst (λ l. IsGiven n l g rest) (sym b.is)
    (brace_bare n b.start b.end k.0 b.mid g rest (subst (λ v. IsBare n v ls g rest) (no_colon b.start b.end k.0 b.mid) there))

-- values of which there is one
abbrev AreSome : ℕ → List Lexeme → Values → List Lexeme → Type 0
AreSome n ls no_values rest = ⊥
AreSome n ls (more_values v vs) rest =
    Front (value_tokens v ++ (more_tokens vs ++ sign 93 ∷ [])) ls rest × (values_braces (more_values v vs) ≤ n)

as_listed : (n : ℕ) (ls : List Lexeme) (vs : Values) (rest : List Lexeme) → AreSome n ls vs rest → AreListed n ls vs rest
as_listed n ls no_values rest h = absurd h
as_listed n ls (more_values v vs) rest h =
    (subst (λ ts. Front ts ls rest) (sym (append_assoc (value_tokens v) (more_tokens vs) (sign 93 ∷ []))) h.0, h.1)

further : (n : ℕ) (ls : List Lexeme) (s : Span) (vs : Values) (rest : List Lexeme) → sign_bytes 44 ls ≡ Some s
    → AreSome n (behind ls) vs rest → AreMore n ls vs rest
further n ls s no_values rest e h = absurd h
further n ls s (more_values v vs) rest e h =
    let k = as_listed n (behind ls) (more_values v vs) rest h in
    (joined (sign 44 ∷ []) (values_tokens (more_values v vs) ++ sign 93 ∷ []) ls (behind ls) rest (sign_front 44 ls s e) k.0, h.1)

as_more : {A : Type 0} (P Q : A → List Lexeme → Type 0) (r : Read A) → Has P r → ((x : A) (rest : List Lexeme) → P x rest → Q x rest) → Has Q r
as_more P Q (Some p) h k = k p.0 p.1 h
as_more P Q None h k = tt

bare_alone : (n : ℕ) (colon : Bool) (ls : List Lexeme) (v : Value) (rest : List Lexeme) → IsValue n ls v rest → IsBare n colon ls (alone colon v) rest
bare_alone n colon ls (scalar s) rest h = (h.0, h.1, tt)
bare_alone n colon ls (braced b fs) rest h = (h.0, h.1, refl)

grouped : (a b c d : List Token) (ls rest mid : List Lexeme) → Front (a ++ (b ++ c)) ls rest → Front d rest mid → Front (a ++ (b ++ (c ++ d))) ls mid
grouped a b c d ls rest mid h k =
    let p = parted a (b ++ c) ls rest h in
    let q = parted b c p.mid rest p.second in
    joined a (b ++ (c ++ d)) ls p.mid mid p.first (joined b (c ++ d) p.mid q.mid mid q.first (joined c d q.mid rest mid q.second k))

-- ---- with what finds a message in braces

module _ (n : ℕ) (inner : Inner) (sound : (ls : List Lexeme) → Has (IsMessage n ls) (inner ls)) where
  value_has : (ls : List Lexeme) → Has (IsValue n ls) (value_at inner ls)
  value_has ls = by (opening_brace ls) where
    by : (o : Option (Span × code.Brace)) → Has (IsValue n ls) (value_by inner ls o)
    by (Some b) = then_has (IsMessage n ls) (IsValue n ls) (inner ls) (λ m rest. Some (braced m.0 m.1, rest)) (sound ls) (λ m rest h. h)
    by None = scalar_has n ls

  values_has : (more : List Lexeme → Read Values) → ((ls : List Lexeme) → Has (AreMore n ls) (more ls))
      → (ls : List Lexeme) → Has (AreSome n ls) (values_by inner more ls)
  values_has more all ls =
      then_has (IsValue n ls) (AreSome n ls) (value_at inner ls) (λ v rest. then (more rest) (λ vs last. Some (more_values v vs, last))) (value_has ls)
      (λ v rest h.
      then_has (AreMore n rest) (AreSome n ls) (more rest) (λ vs last. Some (more_values v vs, last)) (all rest)
      (λ vs last k. (
        joined (value_tokens v) (more_tokens vs ++ sign 93 ∷ []) ls rest last h.0 k.0,
        max-le h.1 k.1,
      )))

  more_step : (more : List Lexeme → Read Values) → ((ls : List Lexeme) → Has (AreMore n ls) (more ls))
      → (ls : List Lexeme) (o p : Option Span) → sign_bytes 93 ls ≡ o → sign_bytes 44 ls ≡ p → Has (AreMore n ls) (more_by inner more ls o p)
  more_step more all ls (Some s) p e f = (sign_front 93 ls s e, omega arith)
  more_step more all ls None (Some s) e f =
      as_more (AreSome n (behind ls)) (AreMore n ls) (values_by inner more (behind ls)) (values_has more all (behind ls)) (λ vs rest h. further n ls s vs rest f h)
  more_step more all ls None None e f = tt

  more_within_has : (k : ℕ) (ls : List Lexeme) → Has (AreMore n ls) (more_within k inner ls)
  unfolding more_within
  more_within_has zero ls = tt
  more_within_has (suc k) ls =
      more_step (more_within k inner) (more_within_has k) ls (sign_bytes 93 ls) (sign_bytes 44 ls) refl refl

  more_has : (ls : List Lexeme) → Has (AreMore n ls) (more_at inner ls)
  unfolding more_at
  more_has ls = more_within_has (suc (length ls)) ls

  list_has : (ls : List Lexeme) → Has (AreListed n ls) (list_at inner ls)
  list_has ls = by (sign_bytes 93 ls) refl where
    by : (o : Option Span) → sign_bytes 93 ls ≡ o → Has (AreListed n ls) (list_by inner ls o)
    by (Some s) e = (sign_front 93 ls s e, omega arith)
    by None e = as_more (AreSome n ls) (AreListed n ls) (values_by inner (more_at inner) ls) (values_has (more_at inner) more_has ls) (λ vs rest h. as_listed n ls vs rest h)

  given_has : (colon : Bool) (ls : List Lexeme) → Has (IsBare n colon ls) (given_at inner colon ls)
  given_has colon ls = by (sign_bytes 91 ls) refl where
    by : (o : Option Span) → sign_bytes 91 ls ≡ o → Has (IsBare n colon ls) (given_by inner colon ls o)
    by (Some s) e =
        then_has (AreListed n (behind ls)) (IsBare n colon ls) (list_at inner (behind ls)) (λ vs rest. Some (listed vs, rest)) (list_has (behind ls))
        (λ vs rest h. (joined (sign 91 ∷ []) (values_tokens vs ++ sign 93 ∷ []) ls (behind ls) rest (sign_front 91 ls s e) h.0, h.1, tt))
    by None e =
        then_has (IsValue n ls) (IsBare n colon ls) (value_at inner ls) (λ v rest. Some (alone colon v, rest)) (value_has ls) (λ v rest h. bare_alone n colon ls v rest h)

  field_has : (ls : List Lexeme) → Has (IsField n ls) (field_at inner ls)
  field_has ls =
      then_has (λ (m : FieldName × Span) rest. Front (name_tokens m.0) ls rest) (IsField n ls) (untold (name_at ls)) (named_field) (name_has ls)
      (λ name named h.
      then_has (Parts named) (IsField n ls) (untold (separator_at named)) (parted_field name named) (colon_has named)
      (λ colon parted k.
      then_has (IsBare n (sees 58 named) parted) (IsField n ls) (given_at inner (sees 58 named) parted) (given_field name) (given_has (sees 58 named) parted)
      (λ given rest l.
      let g = behind_colon n named given parted rest colon k l in (
        joined (name_tokens name.0) (given_tokens given ++ separator_tokens (end_at rest).0) ls named (end_at rest).1 h
            (joined (given_tokens given) (separator_tokens (end_at rest).0) named rest (end_at rest).1 g.0 (end_front rest)),
        g.1,
      )))) where
        given_field : FieldName × Span → Given → List Lexeme → Read OneField
        given_field name given rest = Some (record { name = name.0; given = given; separator = (end_at rest).0 }, (end_at rest).1)

        parted_field : FieldName × Span → List Lexeme → Unit {0} → List Lexeme → Read OneField
        parted_field name named colon parted = then (given_at inner (sees 58 named) parted) (given_field name)

        named_field : FieldName × Span → List Lexeme → Read OneField
        named_field name named = then (untold (separator_at named)) (parted_field name named)

  module _ (ends : List Lexeme → Option (List Lexeme)) where
    fields_step : (more : List Lexeme → Read Fields) → ((ls : List Lexeme) → Has (AreFields ends n ls) (more ls))
        → (ls : List Lexeme) (o : Option (List Lexeme)) → ends ls ≡ o → Has (AreFields ends n ls) (fields_by inner more ls o)
    fields_step more all ls (Some end) e = (ls, refl, e, omega arith)
    fields_step more all ls None e =
        then_has (IsField n ls) (AreFields ends n ls) (field_at inner ls) (λ f rest. then (more rest) (λ fs last. Some (more_fields f.name f.given f.separator fs, last))) (field_has ls)
        (λ f rest h.
        then_has (AreFields ends n rest) (AreFields ends n ls) (more rest) (λ fs last. Some (more_fields f.name f.given f.separator fs, last)) (all rest)
        (λ fs last k. (
          k.0,
          grouped (name_tokens f.name) (given_tokens f.given) (separator_tokens f.separator) (fields_tokens fs) ls rest k.0 h.0 k.1,
          k.2,
          max-le h.1 k.3,
        )))

    fields_within_has : (k : ℕ) (ls : List Lexeme) → Has (AreFields ends n ls) (fields_within k ends inner ls)
    unfolding fields_within
    fields_within_has zero ls = tt
    fields_within_has (suc k) ls = fields_step (fields_within k ends inner) (fields_within_has k) ls (ends ls) refl

    pub fields_has : (ls : List Lexeme) → Has (AreFields ends n ls) (fields_at ends inner ls)
    unfolding fields_at
    fields_has ls = fields_within_has (suc (length ls)) ls

-- ---- messages and texts

closing_is : (b : code.Brace) → sign (closing b) ≡ tokens.closing (brace_of b)
closing_is braces.Curly = refl
closing_is braces.Angle = refl

sign_ends : (k : ℕ) (ls rest : List Lexeme) → at_sign k ls ≡ Some rest → Front (sign k ∷ []) ls rest
sign_ends k ls rest e = by (sign_bytes k ls) refl e where
  by : (o : Option Span) → sign_bytes k ls ≡ o → option_map (λ s. behind ls) o ≡ Some rest → Front (sign k ∷ []) ls rest
  by (Some s) f e =
      let h : behind ls ≡ rest = ap (λ o. elim o [ Some r ↦ r | None ↦ rest ]) e in
      subst (λ r. Front (sign k ∷ []) ls r) h (sign_front k ls s f)
  by None f e = absurd (cc e)

message_step : (n : ℕ) (inner : Inner) → ((ls : List Lexeme) → Has (IsMessage n ls) (inner ls))
    → (ls : List Lexeme) (o : Option (Span × code.Brace)) → opening_brace ls ≡ o → Has (IsMessage (suc n) ls) (message_by inner ls o)
message_step n inner sound ls None e = tt
message_step n inner sound ls (Some b) e =
    then_has (AreFields (at_sign (closing b.1)) n (behind ls)) (IsMessage (suc n) ls) (fields_at (at_sign (closing b.1)) inner (behind ls)) (λ fs rest. Some ((brace_of b.1, fs), rest))
    (fields_has n inner sound (at_sign (closing b.1)) (behind ls))
    (λ fs rest h. (
      joined (opening (brace_of b.1) ∷ []) (fields_tokens fs ++ tokens.closing (brace_of b.1) ∷ []) ls (behind ls) rest (brace_front ls b e)
          (joined (fields_tokens fs) (tokens.closing (brace_of b.1) ∷ []) (behind ls) h.0 rest h.1
          (subst (λ t. Front (t ∷ []) h.0 rest) (closing_is b.1) (sign_ends (closing b.1) h.0 rest h.2))),
      omega (arith, h.3),
    ))

pub message_has : (n : ℕ) (ls : List Lexeme) → Has (IsMessage n ls) (message_at n ls)
unfolding message_at
message_has zero ls = tt
message_has (suc n) ls = message_step n (message_at n) (message_has n) ls (opening_brace ls) refl

all_ends : (ls rest : List Lexeme) → at_end ls ≡ Some rest → ls ≡ []
all_ends [] rest e = refl
all_ends (l ∷ ls) rest e = absurd (cc e)

-- a text that is read has the tokens of its tree
pub text_sound : (ls : List Lexeme) (fs : Fields) → text_at ls ≡ Some fs → AreTokens ls (fields_tokens fs) × (open_braces fs ≤ 100)
unfolding text_at
text_sound ls fs e = by (fields_at at_end (message_at 100) ls) (fields_has 100 (message_at 100) (message_has 100) at_end ls) e where
  by : (r : Read Fields) → Has (AreFields at_end 100 ls) r → option_map (λ p. p.0) r ≡ Some fs → AreTokens ls (fields_tokens fs) × (open_braces fs ≤ 100)
  by None h e = absurd (cc e)
  by (Some p) h e =
      let same : p.0 ≡ fs = ap (λ o. elim o [ Some g ↦ g | None ↦ fs ]) e in
      subst (λ g. AreTokens ls (fields_tokens g) × (open_braces g ≤ 100)) same
      (are_tokens (fields_tokens p.0) ls (subst (λ m. Front (fields_tokens p.0) ls m) (all_ends h.0 p.1 h.2) h.1), h.3)
