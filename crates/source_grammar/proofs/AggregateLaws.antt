-- What the rules of a value in braces take.
use Rattle.std.proofs.Common.{[], ◌≡◌, ℕ, zero, suc, Bool, true, false, ◌∷◌, Option, Some, None, Ok, Err, refl, ap, sym, subst, ◌∙◌, inl, inr, ◌⊎◌}
use Rattle.std.specs.Prelude.{if◌then◌else◌, is_some, not}
use Rattle.protox_aggregates.specs.AggregateGrammar as rules
use Rattle.protox_aggregates.specs.AggregateGrammar.{Passes, passes, must, is_ident, is_literal, is_plain, an_ident_as, bracketed_if, dotted_if, semicolon_unless, elements_unless, list_or_value, behind_colon, opens, open_by, opening}
use Rattle.protox_aggregates.specs.BraceTexts.{text_by, text_up_to, text_of}
use Rattle.protox_aggregates.proofs.AggregateLaws.{dotted_turns, literals_turns, list_turns, fields_turns, Local-braces}
use Rattle.protox_lex.specs.Class.{Text}
use Rattle.protox_lex.specs.Token.{Token, ident, int, float, str, sign, comment}
use Rattle.protox_lex.specs.declared.span.Span.{Span}
use Rattle.protox_lex.specs.declared.token.Sign.{Sign}
use Rattle.protox_lex.specs.declared.token.Sign.TheVariants as s
use Rattle.protox_tokens.specs.Stream.{Stream, Seen, look, text}
use Rattle.protox_tokens.specs.Parser.{Outcome, Parser, and_then, ◌>>=◌, ◌>>◌, pure, same, sees_in, is_str, is_string_of, is_string_in, expect_in, done, behind_in, many as many_steps}
use Rattle.protox_tokens.specs.Refusal.{Expected}
use Rattle.protox_tokens.specs.Refusal as expects
use Rattle.protox_tokens.specs.Span.{across}
use Rattle.protox_tokens.specs.Marks.{IsAny}
use Rattle.protox_tokens.proofs.Local.{Local, good, same_ok, bound}
use Rattle.protox_tokens.proofs.Both.{IsNamed, Always, then_ok}
use Rattle.protox_tokens.proofs.Both as both
use Rattle.source_grammar.specs.Languages.{Language, nothing, begins, ends, ◌▸◌, ◌∪◌, perhaps, many}
use Rattle.source_grammar.specs.Aggregates.{SeesToken, in_text, a_sign, an_ident, a_literal, a_plain, dotted, field_name, scalar, separator, a_value, a_list, a_field, message, between, fields_as, an_aggregate}
use Rattle.source_grammar.proofs.Rules.{Rule, rule_token}
use Rattle.source_grammar.proofs.Ahead.{one_seen, seen_no_string}
use Rattle.source_grammar.proofs.Takes.{Takes, Free, takes_as, takes_one, takes_must, takes_branch, takes_done, takes_then, takes_choose, takes_while, takes_behind, text_first, sees_more, expect_sound, expect_some}

-- ---- what comes next

abbrev Not : Sign → Stream → Type 0
Not k r = sees_in text (sign k) r ≡ false

abbrev NoText : Stream → Type 0
NoText r = is_string_in text r ≡ false

sign_not : (k l : Sign) → same (sign l) (sign k) ≡ false → (ts r : Stream) → a_sign l ts r → Not k ts
sign_not k l e ts r h = text_first (sign k) false (λ t at i. ap (λ t. same t (sign k)) i ∙ e) ts r h

ident_not : (k : Sign) (ts r : Stream) → an_ident ts r → Not k ts
ident_not k ts r h = text_first (sign k) false (λ t at i. ap (λ t. same t (sign k)) i.1) ts r h

literal_not : (k : Sign) (ts r : Stream) → a_literal ts r → Not k ts
literal_not k ts r h = text_first (sign k) false (λ t at i. ap (λ t. same t (sign k)) i.1) ts r h

plain_not : (k : Sign) (ts r : Stream) → a_plain ts r → Not k ts
plain_not k ts r (inl h) = ident_not k ts r h
plain_not k ts r (inr (inl h)) = text_first (sign k) false (λ t at i. ap (λ t. same t (sign k)) i.1) ts r h
plain_not k ts r (inr (inr h)) = text_first (sign k) false (λ t at i. ap (λ t. same t (sign k)) i.1) ts r h

string_first : {P : Token → Span → Type 0} (b : Bool) → ((t : Token) (at : Span) → P t at → is_str t ≡ b) → (ts r : Stream) → in_text P ts r → is_string_in text ts ≡ b
string_first {P = P} b f [] r h = absurd h
string_first {P = P} b f (l ∷ ts) r h = by (look text l) h.0 where
  by : (x : Seen) → SeesToken P x → is_string_of x ≡ b
  by None h = absurd h
  by (Some x) h = f x.0 x.1 h

plain_no_text : (ts r : Stream) → a_plain ts r → NoText ts
plain_no_text ts r (inl h) = string_first false (λ t at i. ap is_str i.1) ts r h
plain_no_text ts r (inr (inl h)) = string_first false (λ t at i. ap is_str i.1) ts r h
plain_no_text ts r (inr (inr h)) = string_first false (λ t at i. ap is_str i.1) ts r h

sign_no_text : (k : Sign) (ts r : Stream) → a_sign k ts r → NoText ts
sign_no_text k ts r h = string_first false (λ t at i. ap is_str i) ts r h

-- ---- tokens

ident_to : (t : Token) (at : Span) (u : Unit {0}) → is_ident t at ≡ Some u → (x : Text) × (t ≡ ident x)
ident_to (ident x) at u e = (x, refl)
ident_to (int x) at u e = absurd cc
ident_to (float x) at u e = absurd cc
ident_to (str x) at u e = absurd cc
ident_to (sign x) at u e = absurd cc
ident_to comment at u e = absurd cc

takes_ident : (e : Expected) {H : Stream → Type 0} → Takes H (an_ident_as e) an_ident Free
unfolding an_ident_as
takes_ident e = takes_one e is_ident (λ t at. (x : Text) × (t ≡ ident x)) ident_to (λ t at i. ap (λ t. is_ident t at) i.1)

literal_to : (t : Token) (at : Span) (u : Unit {0}) → is_literal t at ≡ Some u → (x : Text) × (t ≡ str x)
literal_to (str x) at u e = (x, refl)
literal_to (int x) at u e = absurd cc
literal_to (float x) at u e = absurd cc
literal_to (ident x) at u e = absurd cc
literal_to (sign x) at u e = absurd cc
literal_to comment at u e = absurd cc

takes_literal : {H : Stream → Type 0} → Takes H rules.a_literal a_literal Free
unfolding rules.a_literal
takes_literal = takes_one expects.a_string is_literal (λ t at. (x : Text) × (t ≡ str x)) literal_to (λ t at i. ap (λ t. is_literal t at) i.1)

abbrev IsPlain : Token → Span → Type 0
IsPlain t at = ((x : Text) × (t ≡ ident x)) ⊎ (((n : ℕ) × (t ≡ int n)) ⊎ ((x : Text) × (t ≡ float x)))

plain_to : (t : Token) (at : Span) (u : Unit {0}) → is_plain t at ≡ Some u → IsPlain t at
plain_to (ident x) at u e = inl (x, refl)
plain_to (int n) at u e = inr (inl (n, refl))
plain_to (float x) at u e = inr (inr (x, refl))
plain_to (str x) at u e = absurd cc
plain_to (sign x) at u e = absurd cc
plain_to comment at u e = absurd cc

plain_from : (t : Token) (at : Span) → IsPlain t at → is_plain t at ≡ Some tt
plain_from t at (inl i) = ap (λ t. is_plain t at) i.1
plain_from t at (inr (inl i)) = ap (λ t. is_plain t at) i.1
plain_from t at (inr (inr i)) = ap (λ t. is_plain t at) i.1

takes_plain : {H : Stream → Type 0} → Takes H rules.a_plain a_plain Free
unfolding rules.a_plain
takes_plain = takes_as (takes_one expects.a_field_value is_plain IsPlain plain_to plain_from) to from where
  to : (ts r : Stream) → in_text IsPlain ts r → a_plain ts r
  to [] r h = absurd h
  to (l ∷ ts) r h = by (look text l) refl h.0 where
    by : (x : Seen) → look text l ≡ x → SeesToken IsPlain x → a_plain (l ∷ ts) r
    by None e i = absurd i
    by (Some x) e (inl i) = inl (subst (SeesToken (λ t at. (x : Text) × (t ≡ ident x))) (sym e) i, h.1)
    by (Some x) e (inr (inl i)) = inr (inl (subst (SeesToken (λ t at. (n : ℕ) × (t ≡ int n))) (sym e) i, h.1))
    by (Some x) e (inr (inr i)) = inr (inr (subst (SeesToken (λ t at. (x : Text) × (t ≡ float x))) (sym e) i, h.1))

  one_of : (ts r : Stream) → a_plain ts r → in_text IsPlain ts r
  one_of ts r (inl h) = sees_more (λ t at i. inl i) ts r h
  one_of ts r (inr (inl h)) = sees_more (λ t at i. inr (inl i)) ts r h
  one_of ts r (inr (inr h)) = sees_more (λ t at i. inr (inr i)) ts r h

  from : (ts r : Stream) → a_plain ts r → Unit {0} → in_text IsPlain ts r × Unit {0}
  from ts r h g = (one_of ts r h, tt)

-- ---- names

takes_dotted : {H : Stream → Type 0} → Takes H rules.dotted dotted (Not s.Dot)
unfolding rules.dotted
takes_dotted = takes_then (takes_ident expects.an_ident) (λ ts r h g. tt) (takes_behind s.Dot refl (takes_ident expects.an_ident) dotted_turns (λ r h. tt) (λ r h. (h, tt)))

abbrev Slashed : Language
Slashed = perhaps (a_sign s.ForwardSlash ▸ dotted)

abbrev NoSlash : Stream → Type 0
NoSlash r = Not s.ForwardSlash r × Not s.Dot r

takes_slash : {H : Stream → Type 0} → Takes H rules.behind_slash Slashed NoSlash
unfolding rules.behind_slash
takes_slash = takes_branch s.ForwardSlash refl dotted_if (takes_as takes_dotted (λ ts r h. h) (λ ts r h g. (h, g.1))) takes_done (λ ts r h g. subst (Not s.ForwardSlash) (sym h) g.0)

dot_then : (ts r : Stream) → Slashed ts r → NoSlash r → Not s.Dot ts
dot_then ts r (inl h) g = sign_not s.Dot s.ForwardSlash refl ts h.0 h.1
dot_then ts r (inr h) g = subst (Not s.Dot) (sym h) g.1

no_slash : (ts r : Stream) → a_sign s.RightBracket ts r → NoSlash ts
no_slash ts r h = (sign_not s.ForwardSlash s.RightBracket refl ts r h, sign_not s.Dot s.RightBracket refl ts r h)

abbrev Bracketed : Language
Bracketed = dotted ▸ (Slashed ▸ a_sign s.RightBracket)

takes_bracketed : {H : Stream → Type 0} → Takes H (bracketed_if true) Bracketed Free
takes_bracketed = takes_as (takes_then (takes_then takes_dotted dot_then takes_slash) (λ ts r h g. no_slash ts r h) (takes_must s.RightBracket refl))
    (λ ts r h. (h.1.0, h.1.1, (h.0, h.1.2, h.2))) (λ ts r h g. ((h.2.0, (h.0, h.1, h.2.1), h.2.2), tt))

takes_name : {H : Stream → Type 0} → Takes H rules.field_name field_name Free
unfolding rules.field_name
takes_name = takes_branch s.LeftBracket refl bracketed_if takes_bracketed (takes_ident expects.a_field_name) (λ ts r h g. ident_not s.LeftBracket ts r h)

-- ---- scalars

takes_literals : {H : Stream → Type 0} → Takes H rules.literals (a_literal ▸ many a_literal) NoText
unfolding rules.literals
takes_literals = takes_then takes_literal (λ ts r h g. tt) (takes_while (is_string_in text) takes_literal literals_turns (string_first true (λ t at i. ap is_str i.1)) (λ ts r h. tt) (λ r h. (h, tt)))

abbrev Signed : Language
Signed = perhaps (a_sign s.Minus) ▸ a_plain

takes_signed : {H : Stream → Type 0} → Takes H (passes s.Minus >> rules.a_plain) Signed NoText
takes_signed = takes_as (takes_branch s.Minus refl (λ b. rules.a_plain) takes_plain takes_plain (λ ts r h g. plain_not s.Minus ts r h)) to (λ ts r h g. (from ts r h, tt)) where
  to : (ts r : Stream) → ((a_sign s.Minus ▸ a_plain) ∪ a_plain) ts r → Signed ts r
  to ts r (inl h) = (h.0, inl h.1, h.2)
  to ts r (inr h) = (ts, inr refl, h)

  from : (ts r : Stream) → Signed ts r → ((a_sign s.Minus ▸ a_plain) ∪ a_plain) ts r
  from ts r (u, inl h, p) = inl (u, h, p)
  from ts r (u, inr h, p) = inr (subst (λ v. a_plain v r) (sym h) p)

signed_no_text : (ts r : Stream) → Signed ts r → NoText ts
signed_no_text ts r (u, inl h, p) = sign_no_text s.Minus ts u h
signed_no_text ts r (u, inr h, p) = subst NoText (sym h) (plain_no_text u r p)

takes_scalar : {H : Stream → Type 0} → Takes H rules.scalar scalar NoText
unfolding rules.scalar
takes_scalar = takes_choose (is_string_in text) takes_literals takes_signed (λ ts r h. string_first true (λ t at i. ap is_str i.1) ts h.0 h.1) signed_no_text

scalar_not : (k : Sign) → same (sign s.Minus) (sign k) ≡ false → (ts r : Stream) → scalar ts r → Not k ts
scalar_not k e ts r (inl h) = literal_not k ts h.0 h.1
scalar_not k e ts r (inr (u, inl h, p)) = sign_not k s.Minus e ts u h
scalar_not k e ts r (inr (u, inr h, p)) = subst (Not k) (sym h) (plain_not k u r p)

-- ---- separators

abbrev NoMark : Stream → Type 0
NoMark r = Not s.Comma r × Not s.Semicolon r

takes_semicolon : {H : Stream → Type 0} → Takes H (passes s.Semicolon >> done) (perhaps (a_sign s.Semicolon)) NoMark
takes_semicolon = takes_as (takes_branch s.Semicolon refl (λ b. done) {F = NoMark} takes_done takes_done (λ ts r h g. subst (Not s.Semicolon) (sym h) g.1)) to (λ ts r h g. (from ts r h, g)) where
  to : (ts r : Stream) → ((a_sign s.Semicolon ▸ nothing) ∪ nothing) ts r → perhaps (a_sign s.Semicolon) ts r
  to ts r (inl h) = inl (subst (a_sign s.Semicolon ts) h.2 h.1)
  to ts r (inr h) = inr h

  from : (ts r : Stream) → perhaps (a_sign s.Semicolon) ts r → ((a_sign s.Semicolon ▸ nothing) ∪ nothing) ts r
  from ts r (inl h) = inl (r, h, refl)
  from ts r (inr h) = inr h

semicolon_not : (ts r : Stream) → perhaps (a_sign s.Semicolon) ts r → NoMark r → Not s.Comma ts
semicolon_not ts r (inl h) g = sign_not s.Comma s.Semicolon refl ts r h
semicolon_not ts r (inr h) g = subst (Not s.Comma) (sym h) g.0

takes_separator : {H : Stream → Type 0} → Takes H rules.separator separator NoMark
unfolding rules.separator
takes_separator = takes_as (takes_branch s.Comma refl semicolon_unless {F = NoMark} takes_done takes_semicolon semicolon_not) to (λ ts r h g. (from ts r h, g)) where
  to : (ts r : Stream) → ((a_sign s.Comma ▸ nothing) ∪ perhaps (a_sign s.Semicolon)) ts r → separator ts r
  to ts r (inl h) = inl (subst (a_sign s.Comma ts) h.2 h.1)
  to ts r (inr h) = inr h

  from : (ts r : Stream) → separator ts r → ((a_sign s.Comma ▸ nothing) ∪ perhaps (a_sign s.Semicolon)) ts r
  from ts r (inl h) = inl (r, h, refl)
  from ts r (inr h) = inr h

-- ---- fields

-- what follows a field
abbrev FieldEnds : Stream → Type 0
FieldEnds r = NoText r × NoMark r

separator_no_text : (ts r : Stream) → separator ts r → FieldEnds r → NoText ts
separator_no_text ts r (inl h) g = sign_no_text s.Comma ts r h
separator_no_text ts r (inr (inl h)) g = sign_no_text s.Semicolon ts r h
separator_no_text ts r (inr (inr h)) g = subst NoText (sym h) g.0

name_not : (k : Sign) → same (sign s.LeftBracket) (sign k) ≡ false → (ts r : Stream) → field_name ts r → Not k ts
name_not k e ts r (inl h) = sign_not k s.LeftBracket e ts h.0 h.1
name_not k e ts r (inr h) = ident_not k ts r h

name_no_text : (ts r : Stream) → field_name ts r → NoText ts
name_no_text ts r (inl h) = sign_no_text s.LeftBracket ts h.0 h.1
name_no_text ts r (inr h) = string_first false (λ t at i. ap is_str i.1) ts r h

-- braces open here
abbrev Opens : Stream → Type 0
Opens ts = (sees_in text (sign s.LeftBrace) ts ≡ true) ⊎ (sees_in text (sign s.LeftAngleBracket) ts ≡ true)

opens_not : (k : Sign) → same (sign s.LeftBrace) (sign k) ≡ false → same (sign s.LeftAngleBracket) (sign k) ≡ false → (ts : Stream) → Opens ts → Not k ts
opens_not k e f ts (inl h) = one_seen text (sign s.LeftBrace) (sign k) ts e h
opens_not k e f ts (inr h) = one_seen text (sign s.LeftAngleBracket) (sign k) ts f h

abbrev pair_by : Bool → Bool → Option (Sign × Sign)
pair_by b c = if b then Some (s.LeftBrace, s.RightBrace) else if c then Some (s.LeftAngleBracket, s.RightAngleBracket) else None

opens_true : (ts : Stream) → Opens ts → opens ts ≡ true
opens_true ts (inl h) = ap (λ b. is_some (pair_by b (sees_in text (sign s.LeftAngleBracket) ts))) h
opens_true ts (inr h) = by (sees_in text (sign s.LeftBrace) ts) ∙ ap (λ c. is_some (pair_by false c)) h where
  by : (b : Bool) → is_some (pair_by b (sees_in text (sign s.LeftAngleBracket) ts)) ≡ is_some (pair_by false (sees_in text (sign s.LeftAngleBracket) ts))
  by true = sym (ap (λ c. is_some (pair_by false c)) h)
  by false = refl

opens_false : (ts : Stream) → Not s.LeftBrace ts → Not s.LeftAngleBracket ts → opens ts ≡ false
opens_false ts h g = ap (λ b. is_some (pair_by b (sees_in text (sign s.LeftAngleBracket) ts))) h ∙ ap (λ c. is_some (pair_by false c)) g

module _ (inner : Passes) (local : Local inner) (I : Language) (law : Takes Always inner I Free) (starts : (ts r : Stream) → I ts r → Opens ts) where
  takes_value : {H : Stream → Type 0} → Takes H (rules.value_with inner) (a_value I) NoText
  unfolding rules.value_with
  takes_value = takes_choose opens (takes_as law (λ ts r h. h) (λ ts r h g. (h, tt))) takes_scalar (λ ts r h. opens_true ts (starts ts r h))
      (λ ts r h. opens_false ts (scalar_not s.LeftBrace refl ts r h) (scalar_not s.LeftAngleBracket refl ts r h))

  value_not : (k : Sign) → same (sign s.Minus) (sign k) ≡ false → same (sign s.LeftBrace) (sign k) ≡ false → same (sign s.LeftAngleBracket) (sign k) ≡ false → (ts r : Stream) → a_value I ts r → Not k ts
  value_not k d e f ts r (inl h) = opens_not k e f ts (starts ts r h)
  value_not k d e f ts r (inr h) = scalar_not k d ts r h

  abbrev Elements : Language
  Elements = a_value I ▸ many (a_sign s.Comma ▸ a_value I)

  abbrev ListEnds : Stream → Type 0
  ListEnds r = Not s.Comma r × NoText r

  more_no_text : (ts r : Stream) → many (a_sign s.Comma ▸ a_value I) ts r → ListEnds r → NoText ts
  more_no_text ts r (zero, h) g = subst NoText (sym h) g.1
  more_no_text ts r (suc n, h) g = sign_no_text s.Comma ts h.1.0 h.1.1

  takes_more : {H : Stream → Type 0} → Takes H (rules.value_with inner >> many_steps (behind_in text (sign s.Comma) (rules.value_with inner))) Elements ListEnds
  takes_more = takes_then takes_value more_no_text (takes_behind s.Comma refl takes_value (list_turns inner local) (λ r h. seen_no_string text (sign s.Comma) r refl h) (λ r h. h))

  bracket_ends : (ts r : Stream) → a_sign s.RightBracket ts r → ListEnds ts
  bracket_ends ts r h = (sign_not s.Comma s.RightBracket refl ts r h, sign_no_text s.RightBracket ts r h)

  takes_elements : {H : Stream → Type 0} → Takes H (elements_unless inner false) (Elements ▸ a_sign s.RightBracket) Free
  takes_elements = takes_then takes_more (λ ts r h g. bracket_ends ts r h) (takes_must s.RightBracket refl)

  -- a list behind its opening bracket
  abbrev Inside : Language
  Inside = perhaps Elements ▸ a_sign s.RightBracket

  takes_list : {H : Stream → Type 0} → Takes H (rules.list_with inner) Inside Free
  unfolding rules.list_with
  takes_list = takes_as (takes_branch s.RightBracket refl (elements_unless inner) {F = Free} takes_done takes_elements (λ ts r h g. value_not s.RightBracket refl refl refl ts h.1.0 h.1.1)) to (λ ts r h g. (from ts r h, tt)) where
    to : (ts r : Stream) → ((a_sign s.RightBracket ▸ nothing) ∪ (Elements ▸ a_sign s.RightBracket)) ts r → Inside ts r
    to ts r (inl h) = (ts, inr refl, subst (a_sign s.RightBracket ts) h.2 h.1)
    to ts r (inr h) = (h.0, inl h.1, h.2)

    from : (ts r : Stream) → Inside ts r → ((a_sign s.RightBracket ▸ nothing) ∪ (Elements ▸ a_sign s.RightBracket)) ts r
    from ts r (u, inl h, c) = inr (u, h, c)
    from ts r (u, inr h, c) = inl (r, subst (λ v. a_sign s.RightBracket v r) (sym h) c, refl)

  takes_listed : {H : Stream → Type 0} → Takes H (passes s.LeftBracket >>= list_or_value inner) (a_list I ∪ a_value I) NoText
  takes_listed = takes_branch s.LeftBracket refl (list_or_value inner) (takes_as takes_list (λ ts r h. h) (λ ts r h g. (h, tt))) takes_value (λ ts r h g. value_not s.LeftBracket refl refl refl ts r h)

  takes_field_value : {H : Stream → Type 0} → Takes H (rules.field_value_with inner) ((a_sign s.Colon ▸ (a_list I ∪ a_value I)) ∪ I) NoText
  unfolding rules.field_value_with
  takes_field_value = takes_branch s.Colon refl (behind_colon inner) takes_listed (takes_as {H = λ ts. sees_in text (sign s.Colon) ts ≡ false} inner_rule (λ ts r h. h) (λ ts r h g. (h, tt))) (λ ts r h g. opens_not s.Colon refl refl ts (starts ts r h)) where
    inner_rule : Takes (λ ts. sees_in text (sign s.Colon) ts ≡ false) inner I Free
    inner_rule = record { sound = λ ts r u h e. law.sound ts r u tt e; complete = law.complete }

  takes_field : {H : Stream → Type 0} → Takes H (rules.field_with inner) (a_field I) FieldEnds
  unfolding rules.field_with
  takes_field = takes_as (takes_then (takes_then takes_name (λ ts r h g. tt) takes_field_value) separator_no_text (takes_as takes_separator (λ ts r h. h) (λ ts r h g. (h, g.1))))
      (λ ts r h. (h.1.0, h.1.1, (h.0, h.1.2, h.2))) (λ ts r h g. ((h.2.0, (h.0, h.1, h.2.1), h.2.2), g))

  -- fields up to a brace, which begins no field
  module _ (close : Sign) (named : IsNamed (sign close)) (no_comma : same (sign close) (sign s.Comma) ≡ false) (no_semicolon : same (sign close) (sign s.Semicolon) ≡ false) (no_bracket : same (sign s.LeftBracket) (sign close) ≡ false) where
    field_goes : (ts r : Stream) → a_field I ts r → not (sees_in text (sign close) ts) ≡ true
    field_goes ts r h = ap not (name_not close no_bracket ts h.0 h.1)

    field_next : (ts r : Stream) → a_field I ts r → FieldEnds ts
    field_next ts r h = (name_no_text ts h.0 h.1, (name_not s.Comma refl ts h.0 h.1, name_not s.Semicolon refl ts h.0 h.1))

    close_ends : (r : Stream) → sees_in text (sign close) r ≡ true → (not (sees_in text (sign close) r) ≡ false) × FieldEnds r
    close_ends r h = (ap not h, (seen_no_string text (sign close) r refl h, (one_seen text (sign close) (sign s.Comma) r no_comma h, one_seen text (sign close) (sign s.Semicolon) r no_semicolon h)))

    pub takes_fields : {H : Stream → Type 0} → Takes H (rules.fields_with inner close) (many (a_field I)) (λ r. sees_in text (sign close) r ≡ true)
    unfolding rules.fields_with
    takes_fields = takes_while (λ ts. not (sees_in text (sign close) ts)) takes_field (fields_turns inner local close) field_goes field_next close_ends

    -- behind the brace that opens them
    abbrev closed_from : Sign × Span → Passes
    closed_from first = rules.fields_with inner first.0 >> must first.0

    abbrev Closed : Language
    Closed = many (a_field I) ▸ a_sign close

    takes_closed : {H : Stream → Type 0} → Takes H (rules.fields_with inner close >> must close) Closed Free
    takes_closed = takes_then takes_fields (λ ts r h g. text_first (sign close) true (λ t at i. ap (λ t. same t (sign close)) i ∙ named) ts r h) (takes_must close named)

    module _ (open_sign : Sign) (open_named : IsNamed (sign open_sign)) where
      abbrev opened : Passes
      opened = open_by (Some (open_sign, close)) >>= (λ first. rules.fields_with inner first.0 >> must first.0)

      takes_pair : {H : Stream → Type 0} → Takes H opened (a_sign open_sign ▸ Closed) Free
      takes_pair = record { sound = λ ts r u h e. forth ts r u e; complete = λ ts r h g. back ts r h } where
        forth : (ts r : Stream) (u : Unit {0}) → opened ts ≡ Ok (u, r) → (a_sign open_sign ▸ Closed) ts r
        forth ts r u e =
            let x = bound (open_by (Some (open_sign, close)) ts) closed_from (u, r) e in
            let y = bound (expect_in text (sign open_sign) ts) (λ at. pure (close, at)) (x.0.0, x.0.1) x.1 in
            let z = same_ok ((close, y.0.0), y.0.1) (x.0.0, x.0.1) y.2 in
            let f = subst (λ (y : (Sign × Span) × Stream). closed_from y.0 y.1 ≡ Ok (u, r)) (sym z) x.2 in
            (y.0.1, sees_more (λ t at i. i.0) ts y.0.1 (expect_sound (sign open_sign) ts y.0.1 y.0.0 y.1), (takes_closed {H = Always}).sound y.0.1 r u tt f)

        back : (ts r : Stream) → (a_sign open_sign ▸ Closed) ts r → opened ts ≡ Ok (tt, r)
        back ts r h =
            let x = expect_some (sign open_sign) open_named (λ at. Unit {0}) ts h.0 (sees_more (λ t at i. (i, tt)) ts h.0 h.1) in
            then_ok closed_from (then_ok (λ at. pure (close, at)) x.1 refl) ((takes_closed {H = Always}).complete h.0 r h.2 tt)

-- ---- braces

pub message_opens : (n : ℕ) (ts r : Stream) → message n ts r → Opens ts
message_opens zero ts r h = absurd h
message_opens (suc n) ts r (inl h) = inl (text_first (sign s.LeftBrace) true (λ t at i. ap (λ t. same t (sign s.LeftBrace)) i) ts h.0 h.1)
message_opens (suc n) ts r (inr h) = inr (text_first (sign s.LeftAngleBracket) true (λ t at i. ap (λ t. same t (sign s.LeftAngleBracket)) i) ts h.0 h.1)

module _ (n : ℕ) (law : Takes Always (rules.braces n) (message n) Free) where
  abbrev Curly : Takes Always (opened (rules.braces n) (Local-braces n) (message n) law (message_opens n) s.RightBrace refl refl refl refl s.LeftBrace refl) (a_sign s.LeftBrace ▸ (many (a_field (message n)) ▸ a_sign s.RightBrace)) Free
  Curly = takes_pair (rules.braces n) (Local-braces n) (message n) law (message_opens n) s.RightBrace refl refl refl refl s.LeftBrace refl

  abbrev Angled : Takes Always (opened (rules.braces n) (Local-braces n) (message n) law (message_opens n) s.RightAngleBracket refl refl refl refl s.LeftAngleBracket refl) (a_sign s.LeftAngleBracket ▸ (many (a_field (message n)) ▸ a_sign s.RightAngleBracket)) Free
  Angled = takes_pair (rules.braces n) (Local-braces n) (message n) law (message_opens n) s.RightAngleBracket refl refl refl refl s.LeftAngleBracket refl

  abbrev Rest : Sign × Span → Passes
  Rest first = rules.fields_with (rules.braces n) first.0 >> must first.0

  one_level : Takes Always (opening >>= Rest) (message (suc n)) Free
  one_level = record { sound = λ ts r u h e. by ts r u (sees_in text (sign s.LeftBrace) ts) (sees_in text (sign s.LeftAngleBracket) ts) e; complete = λ ts r h g. back ts r h } where
    by : (ts r : Stream) (u : Unit {0}) (b c : Bool) → and_then (open_by (pair_by b c) ts) Rest ≡ Ok (u, r) → message (suc n) ts r
    by ts r u true c e = inl (Curly.sound ts r u tt e)
    by ts r u false true e = inr (Angled.sound ts r u tt e)
    by ts r u false false e = absurd cc

    back : (ts r : Stream) → message (suc n) ts r → (opening >>= Rest) ts ≡ Ok (tt, r)
    back ts r (inl h) = ap (λ b. and_then (open_by (pair_by b (sees_in text (sign s.LeftAngleBracket) ts)) ts) Rest) (text_first (sign s.LeftBrace) true (λ t at i. ap (λ t. same t (sign s.LeftBrace)) i) ts h.0 h.1)
        ∙ Curly.complete ts r h tt
    back ts r (inr h) = ap (λ b. and_then (open_by (pair_by b (sees_in text (sign s.LeftAngleBracket) ts)) ts) Rest) (sign_not s.LeftBrace s.LeftAngleBracket refl ts h.0 h.1)
        ∙ ap (λ c. and_then (open_by (pair_by false c) ts) Rest) (text_first (sign s.LeftAngleBracket) true (λ t at i. ap (λ t. same t (sign s.LeftAngleBracket)) i) ts h.0 h.1) ∙ Angled.complete ts r h tt

pub takes_braces : (n : ℕ) → Takes Always (rules.braces n) (message n) Free
unfolding rules.braces
takes_braces zero = record { sound = λ ts r u h e. never_opens (bound (opening ts) (λ first. (λ (ts : Stream). Err (expects.too_deep first.1))) (u, r) e).2; complete = λ ts r h g. absurd h } where
  never_opens : {X : Type 0} {f : expects.Fault} {y : Unit {0} × Stream} → Err f ≡ good y → X
  never_opens e = absurd cc
takes_braces (suc n) = one_level n (takes_braces n)

-- ---- values

abbrev Fields : Passes
Fields = rules.fields_with (rules.braces 100) s.RightBrace

law_fields : Takes Always Fields (many (a_field (message 100))) (λ r. sees_in text (sign s.RightBrace) r ≡ true)
law_fields = takes_fields (rules.braces 100) (Local-braces 100) (message 100) (takes_braces 100) (message_opens 100) s.RightBrace refl refl refl refl

up_to : (ts v : Stream) (x : Text) (o : Outcome (Unit {0})) → text_up_to ts o ≡ Ok (x, v) → (o ≡ Ok (tt, v)) × (x ≡ text_of (between ts v))
up_to ts v x (Err f) e = absurd cc
up_to ts v x (Ok (u, w)) e = let z = same_ok (text_of (between ts w), w) (x, v) e in
    let rest : w ≡ v = ap (λ (y : Text × Stream). y.1) z in
    (ap (λ s. Ok (tt, s)) rest, sym (ap (λ (y : Text × Stream). y.0) z) ∙ ap (λ s. text_of (between ts s)) rest)

abbrev aggregate_end : Span → Parser (Text × Span)
aggregate_end first = text_by Fields >>= (λ inside. expect_in text (sign s.RightBrace) >>= (λ close. pure (inside, across first close)))

abbrev Ended : Text × Span → Language
Ended x = fields_as x.0 ▸ in_text (λ t at. (t ≡ sign s.RightBrace) × ends x.1 at)

made : (inside : Text) (p q : Span) (x : Text × Span) → x.0 ≡ inside → begins x.1 p → ends x.1 q → (inside, across p q) ≡ x
made inside p q x e f g = rw (← e, ← f, ← g) refl

rule_end : (first : Span) → Rule Always (aggregate_end first) Ended (λ x. begins x.1 first × IsAny x) both.Free
rule_end first = record { sound = λ ts r x h e. forth ts r x e; complete = λ ts r x h k g. back ts r x h k.0 } where
  forth : (ts r : Stream) (x : Text × Span) → aggregate_end first ts ≡ Ok (x, r) → Ended x ts r × (begins x.1 first × IsAny x) × Unit {0}
  forth ts r x e =
      let a = bound (text_by Fields ts) (λ inside. expect_in text (sign s.RightBrace) >>= (λ close. pure (inside, across first close))) (x, r) e in
      let b = bound (expect_in text (sign s.RightBrace) a.0.1) (λ close. pure (a.0.0, across first close)) (x, r) a.2 in
      let w = up_to ts a.0.1 a.0.0 (Fields ts) a.1 in
      subst (λ (y : (Text × Span) × Stream). Ended y.0 ts y.1 × (begins y.0.1 first × IsAny y.0) × Unit {0}) (same_ok ((a.0.0, across first b.0.0), b.0.1) (x, r) b.2)
      ((a.0.1, (law_fields.sound ts a.0.1 tt tt w.0, w.1), sees_more (λ t at i. (i.0, ap (λ q. q.end) (sym i.1))) a.0.1 b.0.1 (expect_sound (sign s.RightBrace) a.0.1 b.0.1 b.0.0 b.1)), (refl, tt), tt)

  back : (ts r : Stream) (x : Text × Span) → Ended x ts r → begins x.1 first → aggregate_end first ts ≡ Ok (x, r)
  back ts r x h k =
      let c = expect_some (sign s.RightBrace) refl (ends x.1) h.0 r h.2 in
      let f = law_fields.complete ts h.0 h.1.0 (text_first (sign s.RightBrace) true (λ t at i. ap (λ t. same t (sign s.RightBrace)) i.0) h.0 r h.2) in
      then_ok (λ inside. expect_in text (sign s.RightBrace) >>= (λ close. pure (inside, across first close))) (ap (text_up_to ts) f)
      (then_ok (λ close. pure (text_of (between ts h.0), across first close)) c.1 (ap (λ x. Ok (x, r)) (made (text_of (between ts h.0)) first c.0 x h.1.1 k c.2)))

pub rule_aggregate : {H : Stream → Type 0} → Rule H rules.aggregate (λ x. an_aggregate x.0 x.1) IsAny both.Free
unfolding rules.aggregate
rule_aggregate = rule_token (sign s.LeftBrace) refl (λ (x : Text × Span). begins x.1) rule_end
