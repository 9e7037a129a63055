-- Each reading takes a lexeme at least, so values and fields are read one after the other, with no
-- word of how many there are at most.
use Rattle.std.proofs.Common.{◌≡◌, ℕ, zero, suc, ◌+◌, ◌<◌, ◌≤◌, Bool, true, false, ◌||◌, cond, codes, option_map, List, [], ◌∷◌, length, Option, Some, None, Ok, Err, is_some, refl, ap, arith}
use Rattle.protox_lex.specs.Class.{Text}
use Rattle.protox_lex.specs.declared.span.Span.{Span}
use Rattle.text_lex.specs.Token.{Token, Lexeme, token_at, fault}
use Rattle.text_model.specs.Tree.{FieldName, braced, Values, more_values, Given, listed, Fields, more_fields, ScalarValue, signed, strings, plain, extension, expansion, Brace}
use Rattle.text_model.specs.Tokens.{name_tokens, scalar_tokens}
use Rattle.text_scalars.specs.declared.tokens.Brace as code
use Rattle.text_scalars.specs.Braces.{closing, opening_brace}
use Rattle.text_scalars.specs.Front.{begins_name, behind, next, sees, sign_bytes, word_in}
use Rattle.text_scalars.specs.Names.{bracketed_at, full_name_at, name_at, separator_at}
use Rattle.text_scalars.specs.Reading.{Reading, and_then}
use Rattle.text_scalars.specs.Scalars.{Found, scalar_at}
use Rattle.text_scalars.specs.Spelled.{Begin}
use Rattle.text_scalars.proofs.Finding.{scalars}
use Rattle.text_scalars.proofs.Named.{names}
use Rattle.text_syntax.specs.Syntax.{Read, then, untold, Inner, OneField, alone, brace_of, scalar_of, value_by, value_at, values_by, more_by, more_within, more_at, list_by, list_at, given_by, given_at, end_by, end_at, field_at, fields_by, fields_within, fields_at, at_sign, at_end, message_by, message_at, text_at}

-- what is read leaves fewer lexemes than so many
abbrev pub Shorter : {A : Type 0} → ℕ → Read A → Type 0
Shorter n (Some p) = length p.1 < n
Shorter n None = Unit {0}

pub within : {A : Type 0} (n m : ℕ) (r : Read A) → n ≤ m → Shorter n r → Shorter m r
within n m (Some p) le h = omega (arith, le, h)
within n m None le h = tt

pub then_shorter : {A B : Type 0} (n m : ℕ) (r : Read A) (f : A → List Lexeme → Read B) → Shorter n r
    → ((x : A) (rest : List Lexeme) → length rest < n → Shorter m (f x rest)) → Shorter m (then r f)
then_shorter n m (Some p) f h k = k p.0 p.1 h
then_shorter n m None f h k = tt

-- two ways on that are alike where fewer lexemes are left
pub then_alike : {A B : Type 0} (n : ℕ) (r : Read A) (f g : A → List Lexeme → Read B) → Shorter n r
    → ((x : A) (rest : List Lexeme) → length rest < n → f x rest ≡ g x rest) → then r f ≡ then r g
then_alike n (Some p) f g h k = k p.0 p.1 h
then_alike n None f g h k = refl

-- ---- signs, scalar values and names

pub behind_sign : (k : ℕ) (ls : List Lexeme) (s : Span) → sign_bytes k ls ≡ Some s
    → length (behind ls) < length ls
behind_sign k [] s e = absurd (cc e)
behind_sign k (fault x ∷ ls) s e = absurd (cc e)
behind_sign k (token_at a b t ∷ ls) s e = omega arith

pub behind_at_most : (ls : List Lexeme) → length (behind ls) ≤ length ls
behind_at_most [] = omega arith
behind_at_most (fault x ∷ ls) = omega arith
behind_at_most (token_at a b t ∷ ls) = omega arith

begin_length : (ts : List Token) (place : ℕ) (ls : List Lexeme) (stop : ℕ) (rest : List Lexeme)
    → Begin ts place ls stop rest → length rest + length ts ≡ length ls
begin_length [] place ls stop rest h = omega (arith, ap length h.1)
begin_length (t ∷ ts) place [] stop rest h = absurd h
begin_length (t ∷ ts) place (fault x ∷ ls) stop rest h = absurd h
begin_length (t ∷ ts) place (token_at a b u ∷ ls) stop rest h =
    omega (arith, begin_length ts b ls stop rest h.1)

scalar_some : (v : ScalarValue) → 0 < length (scalar_tokens v)
scalar_some (signed true w) = omega arith
scalar_some (signed false w) = omega arith
scalar_some (strings s ss) = omega arith

name_some : (n : FieldName) → 0 < length (name_tokens n)
name_some (plain w) = omega arith
name_some (extension n) = omega arith
name_some (expansion d n) = omega arith

pub scalar_shorter : (ls : List Lexeme) → Shorter (length ls) (scalar_of (scalar_at ls))
scalar_shorter ls = by (scalar_at ls) refl where
  by : (o : Option Found) → scalar_at ls ≡ o → Shorter (length ls) (scalar_of o)
  by None e = tt
  by (Some f) e =
      let h = (scalars ls f).0 e in
      omega (arith, begin_length (scalar_tokens f.value) 0 ls f.span.end f.rest h.begin, scalar_some f.value)

pub name_shorter : (ls : List Lexeme) → Shorter (length ls) (untold (name_at ls))
name_shorter ls = by (name_at ls) refl where
  by : (r : Reading (FieldName × Span)) → name_at ls ≡ r → Shorter (length ls) (untold r)
  by (Err stop) e = tt
  by (Ok p) e =
      let h = (names ls p.0.0 p.0.1 p.1).0 e in
      omega (arith, begin_length (name_tokens p.0.0) 0 ls p.0.1.end p.1 h.begin, name_some p.0.0)

pub colon_shorter : (ls : List Lexeme) → Shorter (suc (length ls)) (untold (separator_at ls))
colon_shorter ls = by (sees 123 ls || sees 60 ls) (sign_bytes 58 ls) where
  by : (v : Bool) (o : Option Span) → Shorter (suc (length ls))
      (untold (cond v (Ok (tt {0}, ls)) (elim o [
        | Some s ↦ Ok (tt {0}, behind ls)
        | None ↦ Err (codes "':' or a message value", ls)
      ])))
  by true o = omega arith
  by false None = tt
  by false (Some s) = omega (arith, behind_at_most ls)

pub end_at_most : (ls : List Lexeme) → length (end_at ls).1 ≤ length ls
end_at_most ls = by (sign_bytes 44 ls) (sign_bytes 59 ls) where
  by : (o p : Option Span) → length (end_by ls o p).1 ≤ length ls
  by (Some s) p = behind_at_most ls
  by None (Some s) = behind_at_most ls
  by None None = omega arith

-- ---- with what takes a lexeme at least of a message in braces

module _ (inner : Inner) (takes : (ls : List Lexeme) → Shorter (length ls) (inner ls)) where
  pub value_shorter : (ls : List Lexeme) → Shorter (length ls) (value_at inner ls)
  value_shorter ls = by (opening_brace ls) where
    by : (o : Option (Span × code.Brace)) → Shorter (length ls) (value_by inner ls o)
    by (Some b) = then_shorter (length ls) (length ls) (inner ls) (λ m rest. Some (braced m.0 m.1, rest)) (takes ls) (λ m rest h. h)
    by None = scalar_shorter ls

  values_shorter : (more : List Lexeme → Read Values) → ((ls : List Lexeme) → Shorter (length ls) (more ls))
      → (ls : List Lexeme) → Shorter (length ls) (values_by inner more ls)
  values_shorter more all ls =
      then_shorter (length ls) (length ls) (value_at inner ls) (λ v rest. then (more rest) (λ vs last. Some (more_values v vs, last))) (value_shorter ls)
      (λ v rest h.
      then_shorter (length rest) (length ls) (more rest) (λ vs last. Some (more_values v vs, last)) (all rest) (λ vs last k. omega (arith, h, k)))

  more_step : (more : List Lexeme → Read Values) → ((ls : List Lexeme) → Shorter (length ls) (more ls))
      → (ls : List Lexeme) (o p : Option Span) → sign_bytes 93 ls ≡ o → Shorter (length ls) (more_by inner more ls o p)
  more_step more all ls (Some s) p e = behind_sign 93 ls s e
  more_step more all ls None (Some s) e =
      within (length (behind ls)) (length ls) (values_by inner more (behind ls)) (behind_at_most ls) (values_shorter more all (behind ls))
  more_step more all ls None None e = tt

  more_within_shorter : (n : ℕ) (ls : List Lexeme) → Shorter (length ls) (more_within n inner ls)
  unfolding more_within
  more_within_shorter zero ls = tt
  more_within_shorter (suc n) ls =
      more_step (more_within n inner) (more_within_shorter n) ls (sign_bytes 93 ls) (sign_bytes 44 ls) refl

  pub more_shorter : (ls : List Lexeme) → Shorter (length ls) (more_at inner ls)
  unfolding more_at
  more_shorter ls = more_within_shorter (suc (length ls)) ls

  pub list_shorter : (ls : List Lexeme) → Shorter (length ls) (list_at inner ls)
  list_shorter ls = by (sign_bytes 93 ls) refl where
    by : (o : Option Span) → sign_bytes 93 ls ≡ o → Shorter (length ls) (list_by inner ls o)
    by (Some s) e = behind_sign 93 ls s e
    by None e = values_shorter (more_at inner) more_shorter ls

  pub given_shorter : (colon : Bool) (ls : List Lexeme) → Shorter (length ls) (given_at inner colon ls)
  given_shorter colon ls = by (sign_bytes 91 ls) where
    by : (o : Option Span) → Shorter (length ls) (given_by inner colon ls o)
    by (Some s) =
        then_shorter (length (behind ls)) (length ls) (list_at inner (behind ls)) (λ vs rest. Some (listed vs, rest)) (list_shorter (behind ls))
        (λ vs rest h. omega (arith, h, behind_at_most ls))
    by None = then_shorter (length ls) (length ls) (value_at inner ls) (λ v rest. Some (alone colon v, rest)) (value_shorter ls) (λ v rest h. h)

  pub field_shorter : (ls : List Lexeme) → Shorter (length ls) (field_at inner ls)
  field_shorter ls =
      then_shorter (length ls) (length ls) (untold (name_at ls)) (named_field) (name_shorter ls)
      (λ name named h.
      then_shorter (suc (length named)) (length ls) (untold (separator_at named)) (parted_field name named) (colon_shorter named)
      (λ colon parted k.
      then_shorter (length parted) (length ls) (given_at inner (sees 58 named) parted) (given_field name) (given_shorter (sees 58 named) parted)
      (λ given rest l. omega (arith, h, k, l, end_at_most rest)))) where
        given_field : FieldName × Span → Given → List Lexeme → Read OneField
        given_field name given rest = Some (record { name = name.0; given = given; separator = (end_at rest).0 }, (end_at rest).1)

        parted_field : FieldName × Span → List Lexeme → Unit {0} → List Lexeme → Read OneField
        parted_field name named colon parted = then (given_at inner (sees 58 named) parted) (given_field name)

        named_field : FieldName × Span → List Lexeme → Read OneField
        named_field name named = then (untold (separator_at named)) (parted_field name named)

  -- ---- what the values behind one are, and fields

  values_alike : (more others : List Lexeme → Read Values) (ls : List Lexeme)
      → ((rest : List Lexeme) → length rest < length ls → more rest ≡ others rest)
      → values_by inner more ls ≡ values_by inner others ls
  values_alike more others ls same =
      then_alike (length ls) (value_at inner ls) (λ v rest. then (more rest) (λ vs last. Some (more_values v vs, last)))
      (λ v rest. then (others rest) (λ vs last. Some (more_values v vs, last))) (value_shorter ls)
      (λ v rest h. ap (λ r. then r (λ vs last. Some (more_values v vs, last))) (same rest h))

  more_alike : (more others : List Lexeme → Read Values) (ls : List Lexeme) (o p : Option Span)
      → ((rest : List Lexeme) → length rest < length ls → more rest ≡ others rest)
      → more_by inner more ls o p ≡ more_by inner others ls o p
  more_alike more others ls (Some s) p same = refl
  more_alike more others ls None (Some s) same =
      values_alike more others (behind ls) (λ rest h. same rest (omega (arith, h, behind_at_most ls)))
  more_alike more others ls None None same = refl

  -- each bound above the lexemes will do
  more_enough : (n m : ℕ) (ls : List Lexeme) → length ls < n → length ls < m
      → more_within n inner ls ≡ more_within m inner ls
  unfolding more_within
  more_enough zero m ls h k = absurd (omega (arith, h))
  more_enough (suc n) zero ls h k = absurd (omega (arith, k))
  more_enough (suc n) (suc m) ls h k =
      more_alike (more_within n inner) (more_within m inner) ls (sign_bytes 93 ls) (sign_bytes 44 ls)
      (λ rest l. more_enough n m rest (omega (arith, h, l)) (omega (arith, k, l)))

  pub more_is : (ls : List Lexeme)
      → more_at inner ls ≡ more_by inner (more_at inner) ls (sign_bytes 93 ls) (sign_bytes 44 ls)
  unfolding more_at more_within
  more_is ls =
      more_alike (more_within (length ls) inner) (λ rest. more_within (suc (length rest)) inner rest) ls (sign_bytes 93 ls) (sign_bytes 44 ls)
      (λ rest h. more_enough (length ls) (suc (length rest)) rest h (omega arith))

  module _ (ends : List Lexeme → Option (List Lexeme)) where
    fields_alike : (more others : List Lexeme → Read Fields) (ls : List Lexeme) (o : Option (List Lexeme))
        → ((rest : List Lexeme) → length rest < length ls → more rest ≡ others rest)
        → fields_by inner more ls o ≡ fields_by inner others ls o
    fields_alike more others ls (Some end) same = refl
    fields_alike more others ls None same =
        then_alike (length ls) (field_at inner ls) (λ f rest. then (more rest) (λ fs last. Some (more_fields f.name f.given f.separator fs, last)))
        (λ f rest. then (others rest) (λ fs last. Some (more_fields f.name f.given f.separator fs, last))) (field_shorter ls)
        (λ f rest h. ap (λ r. then r (λ fs last. Some (more_fields f.name f.given f.separator fs, last))) (same rest h))

    fields_enough : (n m : ℕ) (ls : List Lexeme) → length ls < n → length ls < m
        → fields_within n ends inner ls ≡ fields_within m ends inner ls
    unfolding fields_within
    fields_enough zero m ls h k = absurd (omega (arith, h))
    fields_enough (suc n) zero ls h k = absurd (omega (arith, k))
    fields_enough (suc n) (suc m) ls h k =
        fields_alike (fields_within n ends inner) (fields_within m ends inner) ls (ends ls)
        (λ rest l. fields_enough n m rest (omega (arith, h, l)) (omega (arith, k, l)))

    pub fields_is : (ls : List Lexeme)
        → fields_at ends inner ls ≡ fields_by inner (fields_at ends inner) ls (ends ls)
    unfolding fields_at fields_within
    fields_is ls =
        fields_alike (fields_within (length ls) ends inner) (λ rest. fields_within (suc (length rest)) ends inner rest) ls (ends ls)
        (λ rest h. fields_enough (length ls) (suc (length rest)) rest h (omega arith))

    -- what ends fields may take lexemes, and leaves no more than there were
    module _ (leaves : (ls rest : List Lexeme) → ends ls ≡ Some rest → length rest ≤ length ls) where
      fields_step : (more : List Lexeme → Read Fields) → ((ls : List Lexeme) → Shorter (suc (length ls)) (more ls))
          → (ls : List Lexeme) (o : Option (List Lexeme)) → ends ls ≡ o → Shorter (suc (length ls)) (fields_by inner more ls o)
      fields_step more all ls (Some end) e = omega (arith, leaves ls end e)
      fields_step more all ls None e =
          then_shorter (length ls) (suc (length ls)) (field_at inner ls) (λ f rest. then (more rest) (λ fs last. Some (more_fields f.name f.given f.separator fs, last))) (field_shorter ls)
          (λ f rest h.
          then_shorter (suc (length rest)) (suc (length ls)) (more rest) (λ fs last. Some (more_fields f.name f.given f.separator fs, last)) (all rest) (λ fs last k. omega (arith, h, k)))

      fields_within_shorter : (n : ℕ) (ls : List Lexeme) → Shorter (suc (length ls)) (fields_within n ends inner ls)
      unfolding fields_within
      fields_within_shorter zero ls = tt
      fields_within_shorter (suc n) ls = fields_step (fields_within n ends inner) (fields_within_shorter n) ls (ends ls) refl

      pub fields_shorter : (ls : List Lexeme) → Shorter (suc (length ls)) (fields_at ends inner ls)
      unfolding fields_at
      fields_shorter ls = fields_within_shorter (suc (length ls)) ls

-- ---- messages

pub sign_leaves : (k : ℕ) (ls rest : List Lexeme) → at_sign k ls ≡ Some rest → length rest ≤ length ls
sign_leaves k ls rest e = by (sign_bytes k ls) e where
  by : (o : Option Span) → option_map (λ s. behind ls) o ≡ Some rest → length rest ≤ length ls
  by (Some s) e = let h : behind ls ≡ rest = ap (λ o. elim o [ Some r ↦ r | None ↦ rest ]) e in omega (arith, behind_at_most ls, ap length h)
  by None e = absurd (cc e)

pub brace_behind : (ls : List Lexeme) (b : Span × code.Brace) → opening_brace ls ≡ Some b → length (behind ls) < length ls
brace_behind [] b e = absurd (cc e)
brace_behind (fault x ∷ ls) b e = absurd (cc e)
brace_behind (token_at x y t ∷ ls) b e = omega arith

message_step : (inner : Inner) → ((ls : List Lexeme) → Shorter (length ls) (inner ls)) → (ls : List Lexeme) (o : Option (Span × code.Brace))
    → opening_brace ls ≡ o → Shorter (length ls) (message_by inner ls o)
message_step inner takes ls None e = tt
message_step inner takes ls (Some b) e =
    then_shorter (suc (length (behind ls))) (length ls) (fields_at (at_sign (closing b.1)) inner (behind ls)) (λ fs rest. Some ((brace_of b.1, fs), rest))
    (fields_shorter inner takes (at_sign (closing b.1)) (sign_leaves (closing b.1)) (behind ls))
    (λ fs rest h. omega (arith, h, brace_behind ls b e))

-- a message takes its braces
pub message_shorter : (n : ℕ) (ls : List Lexeme) → Shorter (length ls) (message_at n ls)
unfolding message_at
message_shorter zero ls = tt
message_shorter (suc n) ls = message_step (message_at n) (message_shorter n) ls (opening_brace ls) refl

pub message_is : (n : ℕ) (ls : List Lexeme) → message_at (suc n) ls ≡ message_by (message_at n) ls (opening_brace ls)
unfolding message_at
message_is n ls = refl

pub text_is : (ls : List Lexeme)
    → text_at ls ≡ option_map (λ p. p.0) (fields_at at_end (message_at 100) ls)
unfolding text_at
text_is ls = refl

-- ---- how much is taken, where something is read

-- ---- where no name begins

pub unnamed : (inner : Inner) (ls : List Lexeme) → begins_name ls ≡ false → field_at inner ls ≡ None
unnamed inner ls none =
    ap (λ r. then r (λ name named.
    then (untold (separator_at named)) (λ colon parted.
    then (given_at inner (sees 58 named) parted) (λ given rest. Some (
      record {
        name = name.0;
        given = given;
        separator = (end_at rest).0;
      },
      (end_at rest).1,
    ))))) (by (next word_in ls) (sign_bytes 91 ls) none) where
      by : (o : Option (Text × Span)) (p : Option Span) → (is_some o || is_some p) ≡ false
          → untold (elim o [
            | Some w ↦ Ok ((plain w.0, w.1), behind ls)
            | None ↦ elim p [
              | Some opened ↦ and_then (full_name_at (behind ls)) (bracketed_at opened)
              | None ↦ Err (codes "a field name", ls)
            ]
          ]) ≡ None
      by (Some w) p e = absurd (cc e)
      by None (Some s) e = absurd (cc e)
      by None None e = refl
