-- What trees at the front of lexemes are made of, part by part, for who reads them as they stand.
use Rattle.std.proofs.Common.{◌≡◌, ℕ, zero, suc, option_map, List, [], ◌∷◌, Bool, true, false, Option, Some, None, is_some, Ok, Err, refl, sym, ap, ◌∙◌}
use Rattle.std.specs.Option.{unwrap_or}
use Rattle.protox_lex.specs.Class.{Text}
use Rattle.protox_lex.specs.declared.span.Span.{Span}
use Rattle.text_lex.specs.Token.{sign, Lexeme, token_at, fault}
use Rattle.text_model.specs.Tree.{FieldName, Brace, ScalarValue, Value, scalar, braced, Values, no_values, Given, listed, Fields}
use Rattle.text_scalars.proofs.Named.{is_this}
use Rattle.text_scalars.specs.declared.tokens.Brace as code
use Rattle.text_scalars.specs.Braces.{closing, opening_brace}
use Rattle.text_scalars.specs.Front.{behind, is_over, is_sign, rest_of, sees, sign_bytes}
use Rattle.text_scalars.specs.Names.{Written, name_at, separator_at, text_and_bytes, text_of}
use Rattle.text_scalars.specs.Reading.{Reading, seen_as}
use Rattle.text_scalars.specs.Scalars.{Found, scalar_at}
use Rattle.text_syntax.specs.Syntax.{Inner, OneField, Read, alone, at_end, at_sign, brace_of, end_at, end_by, field_at, fields_at, given_at, list_at, list_by, message_at, message_by, more_at, text_at, value_at, values_by}
use Rattle.text_syntax.proofs.Unfolding.{message_is, text_is}

-- ---- names

rest_or : {A : Type 0} → List Lexeme → Reading A → List Lexeme
rest_or ls (Ok p) = p.1
rest_or ls (Err stop) = ls

value_or : {A : Type 0} → A → Reading A → A
value_or x (Ok p) = p.0
value_or x (Err stop) = x

-- the name that is told stands there
pub record FoundName (ls rest : List Lexeme) (told : Written) : Type 0 where
  pub name : FieldName
  pub span : Span
  pub there : name_at ls ≡ Ok ((name, span), rest)
  pub same : text_of name ≡ told

pub name_found : (ls rest : List Lexeme) (v : Written × Span)
    → seen_as text_and_bytes (name_at ls) ≡ Ok (v, rest) → FoundName ls rest v.0
unfolding rest_or value_or
name_found ls rest v h = by (name_at ls) refl where
  by : (r : Reading (FieldName × Span)) → name_at ls ≡ r → FoundName ls rest v.0
  by (Err stop) e = absurd (cc (rw e at h))
  by (Ok p) e =
      let k : ◌≡◌ {A = Reading (Written × Span)} (Ok (text_and_bytes p.0, p.1)) (Ok (v, rest)) = rw e at h in
      record {
        name = p.0.0;
        span = p.0.1;
        there =
            e ∙ ap (λ r. let it : Reading (FieldName × Span) = Ok (p.0, r) in it) (ap (rest_or ls) k);
        same = ap (λ w. w.0) (ap (value_or v) k);
      }

-- ---- fields

module _ (inner : Inner) where
  pub field_read : (ls named parted last : List Lexeme) (n : FieldName) (s : Span) (g : Given)
      → name_at ls ≡ Ok ((n, s), named) → separator_at named ≡ Ok (tt, parted)
      → given_at inner (sees 58 named) parted ≡ Some (g, last)
      → field_at inner ls
      ≡ Some (record { name = n; given = g; separator = (end_at last).0 }, (end_at last).1)
  field_read ls named parted last n s g name parts given = rw (name, parts, given) refl

  pub no_name : (ls : List Lexeme) (stop : Text × List Lexeme) → name_at ls ≡ Err stop
      → field_at inner ls ≡ None
  no_name ls stop e = rw e refl

  pub no_colon : (ls named : List Lexeme) (p : FieldName × Span) (stop : Text × List Lexeme)
      → name_at ls ≡ Ok (p, named) → separator_at named ≡ Err stop → field_at inner ls ≡ None
  no_colon ls named p stop e f = rw (e, f) refl

  pub record FieldParts (f : OneField) (n : FieldName) (named parted : List Lexeme) : Type 0 where
    pub last : List Lexeme
    pub name : n ≡ f.name
    pub given : given_at inner (sees 58 named) parted ≡ Some (f.given, last)

  pub field_parts : (ls named parted rest : List Lexeme) (n : FieldName) (s : Span) (f : OneField)
      → name_at ls ≡ Ok ((n, s), named) → separator_at named ≡ Ok (tt, parted)
      → field_at inner ls ≡ Some (f, rest) → FieldParts f n named parted
  field_parts ls named parted rest n s f name parts h =
      by (given_at inner (sees 58 named) parted) refl where
        by : (r : Read Given) → given_at inner (sees 58 named) parted ≡ r → FieldParts f n named parted
        by None e = absurd (cc (rw (name, parts, e) at h))
        by (Some p) e =
            let q = ap (λ o. unwrap_or o (f, rest)) (sym (field_read ls named parted p.1 n s p.0 name parts e) ∙ h) in
            record {
              last = p.1;
              name = ap (λ x. x.0.name) q;
              given = e ∙ ap (λ g. let it : Read Given = Some (g, p.1) in it) (ap (λ x. x.0.given) q);
            }

-- ---- what is given

-- a sign that is at the front
pub at_front : (P : List Lexeme → Type 0) (k : ℕ) (ls : List Lexeme) (s : Span)
    → sign_bytes k ls ≡ Some s
    → ((a b : ℕ) (more : List Lexeme) → P (token_at a b (sign k) ∷ more)) → P ls
at_front P k [] s h p = absurd (cc h)
at_front P k (fault e ∷ ls) s h p = absurd (cc h)
at_front P k (token_at a b t ∷ ls) s h p = by (is_sign k t) refl where
  by : (v : Bool) → is_sign k t ≡ v → P (token_at a b t ∷ ls)
  by true e = rw (is_this k t e) (p a b ls)
  by false e = absurd (cc (rw e at h))

pub bracket_no_value : (inner : Inner) (ls : List Lexeme) (s : Span) → sign_bytes 91 ls ≡ Some s
    → value_at inner ls ≡ None
bracket_no_value inner ls s h = at_front (λ ls. value_at inner ls ≡ None) 91 ls s h (λ a b more. refl)

module _ (inner : Inner) (colon : Bool) (ls rest : List Lexeme) where
  pub given_alone : (v : Value) → value_at inner ls ≡ Some (v, rest)
      → given_at inner colon ls ≡ Some (alone colon v, rest)
  given_alone v h = by (sign_bytes 91 ls) refl where
    by : (o : Option Span) → sign_bytes 91 ls ≡ o
        → given_at inner colon ls ≡ Some (alone colon v, rest)
    by (Some s) e = absurd (cc (sym (bracket_no_value inner ls s e) ∙ h))
    by None e = rw (e, h) refl

  pub given_listed : (s : Span) (vs : Values) → sign_bytes 91 ls ≡ Some s
      → list_at inner (behind ls) ≡ Some (vs, rest)
      → given_at inner colon ls ≡ Some (listed vs, rest)
  given_listed s vs e h = rw (e, h) refl

  pub record OfValue (g : Given) : Type 0 where
    pub value : Value
    pub there : value_at inner ls ≡ Some (value, rest)
    pub same : alone colon value ≡ g

  pub of_value : (g : Given) → sign_bytes 91 ls ≡ None → given_at inner colon ls ≡ Some (g, rest)
      → OfValue g
  of_value g e h = by (value_at inner ls) refl where
    by : (r : Read Value) → value_at inner ls ≡ r → OfValue g
    by None f = absurd (cc (rw (e, f) at h))
    by (Some p) f =
        let k : ◌≡◌ {A = Read Given} (Some (alone colon p.0, p.1)) (Some (g, rest)) = rw (e, f) at h in
        let q = ap (λ o. unwrap_or o (g, rest)) k in
        record {
          value = p.0;
          there = f ∙ ap (λ r. let it : Read Value = Some (p.0, r) in it) (ap (λ x. x.1) q);
          same = ap (λ x. x.0) q;
        }

  pub record OfList (g : Given) : Type 0 where
    pub values : Values
    pub there : list_at inner (behind ls) ≡ Some (values, rest)
    pub same : listed values ≡ g

  pub of_list : (g : Given) (s : Span) → sign_bytes 91 ls ≡ Some s
      → given_at inner colon ls ≡ Some (g, rest) → OfList g
  of_list g s e h = by (list_at inner (behind ls)) refl where
    by : (r : Read Values) → list_at inner (behind ls) ≡ r → OfList g
    by None f = absurd (cc (rw (e, f) at h))
    by (Some p) f =
        let k : ◌≡◌ {A = Read Given} (Some (listed p.0, p.1)) (Some (g, rest)) = rw (e, f) at h in
        let q = ap (λ o. unwrap_or o (g, rest)) k in
        record {
          values = p.0;
          there = f ∙ ap (λ r. let it : Read Values = Some (p.0, r) in it) (ap (λ x. x.1) q);
          same = ap (λ x. x.0) q;
        }

-- ---- values

opening_none : (ls : List Lexeme) → sign_bytes 123 ls ≡ None → sign_bytes 60 ls ≡ None
    → opening_brace ls ≡ None
opening_none ls e f = rw (e, f, opening_brace) refl

brace_no_scalar : (ls : List Lexeme) (b : Span × code.Brace) → opening_brace ls ≡ Some b
    → scalar_at ls ≡ None
brace_no_scalar ls b h = by (sign_bytes 123 ls) refl (sign_bytes 60 ls) refl where
  by : (o : Option Span) → sign_bytes 123 ls ≡ o → (p : Option Span) → sign_bytes 60 ls ≡ p
      → scalar_at ls ≡ None
  by (Some s) e p f = at_front (λ ls. scalar_at ls ≡ None) 123 ls s e (λ a b more. refl)
  by None e (Some s) f = at_front (λ ls. scalar_at ls ≡ None) 60 ls s f (λ a b more. refl)
  by None e None f = absurd (cc (sym h ∙ opening_none ls e f))

pub scalar_read : (inner : Inner) (ls : List Lexeme) (f : Found) → scalar_at ls ≡ Some f
    → value_at inner ls ≡ Some (scalar f.value, f.rest)
scalar_read inner ls f h = by (opening_brace ls) refl where
  by : (o : Option (Span × code.Brace)) → opening_brace ls ≡ o
      → value_at inner ls ≡ Some (scalar f.value, f.rest)
  by (Some b) e = absurd (cc (sym (brace_no_scalar ls b e) ∙ h))
  by None e = rw (e, h) refl

pub no_brace : (n : ℕ) (ls : List Lexeme) → opening_brace ls ≡ None → message_at n ls ≡ None
unfolding message_at
no_brace zero ls h = refl
no_brace (suc n) ls h = rw h refl

pub message_read : (n : ℕ) (ls rest : List Lexeme) (m : Brace × Fields)
    → message_at n ls ≡ Some (m, rest)
    → value_at (message_at n) ls ≡ Some (braced m.0 m.1, rest)
message_read n ls rest m h = by (opening_brace ls) refl where
  by : (o : Option (Span × code.Brace)) → opening_brace ls ≡ o
      → value_at (message_at n) ls ≡ Some (braced m.0 m.1, rest)
  by None e = absurd (cc (sym (no_brace n ls e) ∙ h))
  by (Some b) e = rw (e, h) refl

-- the scalar value that was read
pub record OfScalar (ls : List Lexeme) (s : ScalarValue) : Type 0 where
  pub found : Found
  pub there : scalar_at ls ≡ Some found
  pub same : found.value ≡ s

scalar_or : ScalarValue → Value → ScalarValue
scalar_or s (scalar t) = t
scalar_or s (braced b fs) = s

pub of_scalar : (inner : Inner) (ls rest : List Lexeme) (s : ScalarValue)
    → value_at inner ls ≡ Some (scalar s, rest) → OfScalar ls s
unfolding scalar_or
of_scalar inner ls rest s h = by (opening_brace ls) refl (scalar_at ls) refl where
  by : (o : Option (Span × code.Brace)) → opening_brace ls ≡ o → (f : Option Found) → scalar_at ls ≡ f → OfScalar ls s
  by (Some b) e f k = in_braces (inner ls) refl where
    in_braces : (r : Read (Brace × Fields)) → inner ls ≡ r → OfScalar ls s
    in_braces None i = absurd (cc (rw (e, i) at h))
    in_braces (Some p) i =
        let q : ◌≡◌ {A = Read Value} (Some (braced p.0.0 p.0.1, p.1)) (Some (scalar s, rest)) = rw (e, i) at h in
        absurd (cc (ap (λ (o : Read Value). (unwrap_or o (scalar s, rest)).0) q))
  by None e None k = absurd (cc (rw (e, k) at h))
  by None e (Some f) k =
      let q : ◌≡◌ {A = Read Value} (Some (scalar f.value, f.rest)) (Some (scalar s, rest)) = rw (e, k) at h in
      record { found = f; there = k; same = ap (λ (o : Read Value). scalar_or s (unwrap_or o (scalar s, rest)).0) q }

fields_or : Fields → Value → Fields
fields_or fs (scalar t) = fs
fields_or fs (braced b gs) = gs

brace_or : Brace → Value → Brace
brace_or b (scalar t) = b
brace_or b (braced c gs) = c

pub of_braces : (inner : Inner) (ls rest : List Lexeme) (b : Brace) (fs : Fields)
    → value_at inner ls ≡ Some (braced b fs, rest) → inner ls ≡ Some ((b, fs), rest)
unfolding fields_or brace_or
of_braces inner ls rest b fs h = by (opening_brace ls) refl where
  by : (o : Option (Span × code.Brace)) → opening_brace ls ≡ o → inner ls ≡ Some ((b, fs), rest)
  by None e = no_scalar (scalar_at ls) refl where
    no_scalar : (f : Option Found) → scalar_at ls ≡ f → inner ls ≡ Some ((b, fs), rest)
    no_scalar None k = absurd (cc (rw (e, k) at h))
    no_scalar (Some f) k =
        let q : ◌≡◌ {A = Read Value} (Some (scalar f.value, f.rest)) (Some (braced b fs, rest)) = rw (e, k) at h in
        absurd (cc (ap (λ (o : Read Value). (unwrap_or o (braced b fs, rest)).0) q))
  by (Some c) e = in_braces (inner ls) refl where
    in_braces : (r : Read (Brace × Fields)) → inner ls ≡ r → inner ls ≡ Some ((b, fs), rest)
    in_braces None i = absurd (cc (rw (e, i) at h))
    in_braces (Some p) i =
        let q : ◌≡◌ {A = Read Value} (Some (braced p.0.0 p.0.1, p.1)) (Some (braced b fs, rest)) = rw (e, i) at h in
        let r = ap (λ (o : Read Value). unwrap_or o (braced b fs, rest)) q in
        i ∙ ap (λ x. let it : Read (Brace × Fields) = Some ((x, p.0.1), p.1) in it) (ap (λ v. brace_or b v.0) r)
        ∙ ap (λ x. let it : Read (Brace × Fields) = Some ((b, x), p.1) in it) (ap (λ v. fields_or fs v.0) r)
        ∙ ap (λ x. let it : Read (Brace × Fields) = Some ((b, fs), x) in it) (ap (λ v. v.1) r)

-- ---- messages

pub none_open : (ls : List Lexeme) → message_at 0 ls ≡ None
unfolding message_at
none_open ls = refl

module _ (n m : ℕ) (ls : List Lexeme) (b : Span × code.Brace) where
  pub message_opened : n ≡ suc m → opening_brace ls ≡ Some b
      → message_at n ls ≡ message_by (message_at m) ls (Some b)
  message_opened count brace =
      ap (λ k. message_at k ls) count ∙ message_is m ls ∙ ap (message_by (message_at m) ls) brace

  -- the fields in the braces
  pub message_made : (rest : List Lexeme) (fs : Fields) → n ≡ suc m → opening_brace ls ≡ Some b
      → fields_at (at_sign (closing b.1)) (message_at m) (behind ls) ≡ Some (fs, rest)
      → message_at n ls ≡ Some ((brace_of b.1, fs), rest)
  message_made rest fs count brace h = message_opened count brace ∙ rw h refl

  pub message_fields : (rest : List Lexeme) (x : Brace × Fields) → n ≡ suc m
      → opening_brace ls ≡ Some b → message_at n ls ≡ Some (x, rest)
      → fields_at (at_sign (closing b.1)) (message_at m) (behind ls) ≡ Some (x.1, rest)
  message_fields rest x count brace h =
      by (fields_at (at_sign (closing b.1)) (message_at m) (behind ls)) refl where
        by : (r : Read Fields)
            → fields_at (at_sign (closing b.1)) (message_at m) (behind ls) ≡ r
            → fields_at (at_sign (closing b.1)) (message_at m) (behind ls) ≡ Some (x.1, rest)
        by None e =
            let none : message_by (message_at m) ls (Some b) ≡ None = rw e refl in
            absurd (cc (sym h ∙ message_opened count brace ∙ none))
        by (Some p) e =
            let q : ◌≡◌ {A = Read (Brace × Fields)} (Some ((brace_of b.1, p.0), p.1)) (Some (x, rest)) =
            sym (message_made p.1 p.0 count brace e) ∙ h in
            let r = ap (λ (o : Read (Brace × Fields)). unwrap_or o (x, rest)) q in
            e ∙ ap (λ fs. let it : Read Fields = Some (fs, p.1) in it) (ap (λ t. t.0.1) r)
            ∙ ap (λ l. let it : Read Fields = Some (x.1, l) in it) (ap (λ t. t.1) r)

-- ---- signs

pub sign_ends : (k : ℕ) (ls rest : List Lexeme) (s : Span) → sign_bytes k ls ≡ Some s
    → rest ≡ behind ls → at_sign k ls ≡ Some rest
sign_ends k ls rest s e same =
    ap (option_map (λ s. behind ls)) e ∙ ap (λ l. let it : Option (List Lexeme) = Some l in it) (sym same)

pub sign_misses : (k : ℕ) (ls : List Lexeme) → sign_bytes k ls ≡ None → at_sign k ls ≡ None
sign_misses k ls e = ap (option_map (λ s. behind ls)) e

pub over_ends : (ls : List Lexeme) → is_over ls ≡ true → at_end ls ≡ Some ls
over_ends [] h = refl
over_ends (l ∷ ls) h = absurd (cc h)

pub more_goes_on : (ls : List Lexeme) → is_over ls ≡ false → at_end ls ≡ None
more_goes_on [] h = absurd (cc h)
more_goes_on (l ∷ ls) h = refl

-- what was taken, or not
pub record IsTaken (k : ℕ) (ls mid : List Lexeme) : Type 0 where
  pub span : Span
  pub there : sign_bytes k ls ≡ Some span
  pub rest : mid ≡ behind ls

pub taken_sign : (k : ℕ) (ls mid : List Lexeme) (o : Option Span) → o ≡ sign_bytes k ls
    → is_some o ≡ true → mid ≡ rest_of o ls → IsTaken k ls mid
taken_sign k ls mid (Some s) e some rest = record { span = s; there = sym e; rest = rest }
taken_sign k ls mid None e some rest = absurd (cc some)

pub record IsLeft (k : ℕ) (ls mid : List Lexeme) : Type 0 where
  pub none : sign_bytes k ls ≡ None
  pub same : mid ≡ ls

pub untaken_sign : (k : ℕ) (ls mid : List Lexeme) (o : Option Span) → o ≡ sign_bytes k ls
    → is_some o ≡ false → mid ≡ rest_of o ls → IsLeft k ls mid
untaken_sign k ls mid (Some s) e none rest = absurd (cc none)
untaken_sign k ls mid None e none rest = record { none = sym e; same = rest }

pub end_comma : (ls mid : List Lexeme) → IsTaken 44 ls mid → (end_at ls).1 ≡ mid
end_comma ls mid t = ap (λ o. (end_by ls o (sign_bytes 59 ls)).1) t.there ∙ sym t.rest

pub end_semicolon : (ls mid last : List Lexeme) (o : Option Span) → IsLeft 44 ls mid
    → o ≡ sign_bytes 59 mid → last ≡ rest_of o mid → (end_at ls).1 ≡ last
end_semicolon ls mid last o left e rest =
    ap (λ o. (end_by ls o (sign_bytes 59 ls)).1) left.none
    ∙ ap (λ l. (end_by ls None (sign_bytes 59 l)).1) (sym left.same)
    ∙ ap (λ o. (end_by ls None o).1) (sym e) ∙ either o ∙ ap (rest_of o) (sym left.same)
    ∙ sym rest where
      either : (o : Option Span) → (end_by ls None o).1 ≡ rest_of o ls
      either (Some s) = refl
      either None = refl

-- ---- lists

pub list_closed : (inner : Inner) (ls mid : List Lexeme) → IsTaken 93 ls mid
    → list_at inner ls ≡ Some (no_values, mid)
list_closed inner ls mid t =
    ap (list_by inner ls) t.there
    ∙ ap (λ l. let it : Read Values = Some (no_values, l) in it) (sym t.rest)

pub list_opened : (inner : Inner) (ls : List Lexeme) → sign_bytes 93 ls ≡ None
    → list_at inner ls ≡ values_by inner (more_at inner) ls
list_opened inner ls e = ap (list_by inner ls) e

-- ---- texts

pub record TextFields (ls : List Lexeme) (fs : Fields) : Type 0 where
  pub rest : List Lexeme
  pub there : fields_at at_end (message_at 100) ls ≡ Some (fs, rest)

abbrev first_text : Read Fields → Option Fields
first_text r = option_map (λ p. p.0) r

pub text_fields : (ls : List Lexeme) (fs : Fields) → text_at ls ≡ Some fs → TextFields ls fs
text_fields ls fs h = by (fields_at at_end (message_at 100) ls) refl where
  by : (r : Read Fields) → fields_at at_end (message_at 100) ls ≡ r → TextFields ls fs
  by None e = absurd (cc (sym h ∙ text_is ls ∙ ap first_text e))
  by (Some p) e =
      let q : ◌≡◌ {A = Option Fields} (Some p.0) (Some fs) = sym (text_is ls ∙ ap first_text e) ∙ h in
      record {
        rest = p.1;
        there =
            e ∙ ap (λ x. let it : Read Fields = Some (x, p.1) in it)
            (ap (λ (o : Option Fields). unwrap_or o fs) q);
      }
