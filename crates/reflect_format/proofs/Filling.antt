-- Fields and values behind others, and what is refused behind them.
use Rattle.std.proofs.Common.{◌≡◌, inr, ℕ, List, [], ◌∷◌, ◌++◌, Bool, Option, Some, None, Result, Ok, Err, IfErr, IsErrAnd, refl, sym, ap, subst, ◌∙◌}
use Rattle.std.proofs.lemmas.Result.{err_from_is_err_and}
use Rattle.protox_lex.specs.Class.{Text}
use Rattle.protox_lex.specs.declared.span.Span.{Span}
use Rattle.text_lex.specs.Token.{Lexeme}
use Rattle.text_error.specs.declared.error.ParseErrorKind.{ParseErrorKind}
use Rattle.text_error.specs.declared.error.ParseErrorKind.TheVariants as kinds
use Rattle.text_model.specs.Tree.{FieldName, plain, extension, expansion, FullName, Brace, one_message, Value, scalar, braced, Values, no_values, more_values, Given, Fields, no_fields, more_fields, append}
use Rattle.text_model.specs.Value.{written}
use Rattle.text_scalars.specs.Names.{Written, of_field, of_extension, of_any, name_at, separator_at, text_and_bytes, text_of, view_and_bytes}
use Rattle.text_scalars.specs.Reading as told
use Rattle.text_scalars.specs.Reading.{Reading, seen_as}
use Rattle.text_scalars.specs.Front.{sign_bytes}
use Rattle.text_syntax.specs.Syntax.{Inner, OneField, Read, alone, field_at, given_at, list_at, message_at, value_at}
use Rattle.text_syntax.proofs.Continuing.{joined, one}
use Rattle.text_syntax.proofs.Parts.{IsLeft, IsTaken, given_alone, message_read, no_name, no_colon, of_braces, of_list, of_value}
use Rattle.reflect_pool.specs.declared.kind.Kind.{Kind}
use Rattle.reflect_pool.specs.declared.kind.Kind.TheVariants as values
use Rattle.reflect_pool.specs.declared.message.MessageDescriptor.{MessageDescriptor}
use Rattle.reflect_message.specs.Names.{DynamicMessage}
use Rattle.reflect_message.specs.Names as held
use Rattle.reflect_format.specs.Filled.{AreGiven, AreValues, Fills, FillsField, IsGiven, IsValue}
use Rattle.reflect_format.specs.Reads.{IsCause}
use Rattle.reflect_format.specs.Unfit.{AreUnfitGiven, AreUnfitValues, CannotMake, IsUnfitBody, IsUnfitGiven, IsUnfitValue, Unfit}

-- ---- causes

pub cause : (P : Type 0) (k : ParseErrorKind) → P → IsCause P k
cause P kinds.Memory p = tt
cause P _ p = p

pub cause_of : (P Q : Type 0) (k : ParseErrorKind) → (P → Q) → IsCause P k → IsCause Q k
cause_of P Q kinds.Memory f h = tt
cause_of P Q _ f h = f h

-- a cause is passed on
pub caused : {T : Type 0} (P : Type 0) (r : Result T ParseErrorKind) (k : ParseErrorKind)
    → IsErrAnd r (λ e. e ≡ k) → IsCause P k → IfErr r (IsCause P)
caused P r k is h = let p = err_from_is_err_and r is in rw (p.1, p.2) h

-- what follows from a cause is passed on
pub passes : {T : Type 0} (P Q : Type 0) (r : Result T ParseErrorKind) (k : ParseErrorKind)
    → IsErrAnd r (λ e. e ≡ k) → (P → Q) → IsCause P k → IfErr r (IsCause Q)
passes P Q r k is f h = caused Q r k is (cause_of P Q k f h)

-- a refusal that is told of a reading
told_cause : {A B : Type 0} (view : B → A) (r : Reading A) (k : ParseErrorKind) (rest : List Lexeme)
    (P : Type 0) → ((stop : Text × List Lexeme) → r ≡ Err stop → P)
    → told.ReadsLexemes view r (Err k) rest → IsCause P k
told_cause view (Ok p) kinds.Memory rest P f h = tt
told_cause view (Ok p) _ rest P f h = absurd h
told_cause view (Err stop) kinds.Memory rest P f h = tt
told_cause view (Err stop) _ rest P f h = f stop refl

unseen : (ls : List Lexeme) (stop : Text × List Lexeme)
    → seen_as text_and_bytes (name_at ls) ≡ Err stop → name_at ls ≡ Err stop
unseen ls stop h = by (name_at ls) refl where
  by : (r : Reading (FieldName × Span)) → name_at ls ≡ r → name_at ls ≡ Err stop
  by (Ok p) e = absurd (cc (rw e at h))
  by (Err t) e = let k : ◌≡◌ {A = Reading (Written × Span)} (Err t) (Err stop) = rw e at h in e ∙ ap again k where
    again : Reading (Written × Span) → Reading (FieldName × Span)
    again (Ok p) = Err t
    again (Err u) = Err u

pub name_told : (inner : Inner) (ls rest : List Lexeme) (k : ParseErrorKind)
    → told.ReadsLexemes view_and_bytes (seen_as text_and_bytes (name_at ls)) (Err k) rest
    → IsCause (field_at inner ls ≡ None) k
name_told inner ls rest k h =
    told_cause view_and_bytes (seen_as text_and_bytes (name_at ls)) k rest (field_at inner ls ≡ None)
    (λ stop e. no_name inner ls stop (unseen ls stop e)) h

pub colon_told : (inner : Inner) (ls named rest : List Lexeme) (p : FieldName × Span)
    (k : ParseErrorKind) → name_at ls ≡ Ok (p, named)
    → told.ReadsLexemes (λ x. x) (separator_at named) (Err k) rest → IsCause (field_at inner ls ≡ None) k
colon_told inner ls named rest p k e h =
    told_cause (λ x. x) (separator_at named) k rest (field_at inner ls ≡ None)
    (λ stop f. no_colon inner ls named p stop e f) h

-- where no tree is read nothing is owed of one
pub unread : {A : Type 0} (r : Read A) (P : A → Type 0) → r ≡ None → (x : A) (rest : List Lexeme)
    → r ≡ Some (x, rest) → P x
unread r P e x rest h = absurd (cc (sym e ∙ h))

-- ---- names

pub plain_only : (P : FieldName → Type 0) (n : FieldName) (w : Text) → text_of n ≡ of_field w
    → P (plain w) → P n
plain_only P (plain v) w h p = subst (λ x. P (plain x)) (sym (ap (text_or v) h)) p where
  text_or : Text → Written → Text
  text_or t (of_field u) = u
  text_or t _ = t
plain_only P (extension e) w h p = absurd (cc h)
plain_only P (expansion d e) w h p = absurd (cc h)

pub extension_only : (P : FieldName → Type 0) (n : FieldName) (w : Text)
    → text_of n ≡ of_extension w → ((e : FullName) → written e ≡ w → P (extension e)) → P n
extension_only P (plain v) w h p = absurd (cc h)
extension_only P (extension e) w h p = p e (ap (text_or w) h) where
  text_or : Text → Written → Text
  text_or t (of_extension u) = u
  text_or t _ = t
extension_only P (expansion d e) w h p = absurd (cc h)

pub expansion_only : (P : FieldName → Type 0) (n : FieldName) (v w : Text)
    → text_of n ≡ of_any v w
    → ((d e : FullName) → written d ≡ v → written e ≡ w → P (expansion d e)) → P n
expansion_only P (plain u) v w h p = absurd (cc h)
expansion_only P (extension e) v w h p = absurd (cc h)
expansion_only P (expansion d e) v w h p = p d e (ap (domain_or v) h) (ap (text_or w) h) where
  domain_or : Text → Written → Text
  domain_or t (of_any a b) = a
  domain_or t _ = t

  text_or : Text → Written → Text
  text_or t (of_any a b) = b
  text_or t _ = t

-- ---- fields

pub fills_on : (done : Fields) (f : OneField) (old mid new : DynamicMessage) → Fills done old mid
    → FillsField f.name f.given mid new → Fills (append done (one f)) old new
fills_on no_fields f old mid new h s =
    subst (λ m. Fills (one f) m new) h (new, s.0, s.1, refl)
fills_on (more_fields name given s fs) f old mid new h k =
    (h.0, h.1, h.2, fills_on fs f h.0 mid new h.3 k)

pub unfit_on : (done more : Fields) (old mid : DynamicMessage) → Fills done old mid
    → Unfit more mid → Unfit (append done more) old
unfit_on no_fields more old mid h u = subst (Unfit more) h u
unfit_on (more_fields name given s fs) more old mid h u =
    inr (h.0, (h.1, h.2), unfit_on fs more h.0 mid h.3 u)

-- ---- values

pub values_on : (done : Values) (v : Value) (k : Kind) (xs : List held.Value) (x : held.Value)
    → AreValues done k xs → IsValue v k x
    → AreValues (joined done (more_values v no_values)) k (xs ++ x ∷ [])
values_on no_values v k xs x h is = (x, [], ap (λ l. l ++ x ∷ []) h, is, refl)
values_on (more_values w ws) v k xs x h is =
    (h.0, h.1 ++ x ∷ [], ap (λ l. l ++ x ∷ []) h.2, h.3, values_on ws v k h.1 x h.4 is)

pub unfit_values_on : (done more : Values) (k : Kind) → AreUnfitValues more k
    → AreUnfitValues (joined done more) k
unfit_values_on no_values more k u = u
unfit_values_on (more_values v vs) more k u = inr (unfit_values_on vs more k u)

-- a value alone
pub alone_is : (colon : Bool) (v : Value) (k : Kind) (x : held.Value) → IsValue v k x
    → IsGiven (alone colon v) k x
alone_is colon (scalar s) k x h = h
alone_is colon (braced b fs) k x h = h

pub alone_are : (colon : Bool) (v : Value) (k : Kind) (x : held.Value) → IsValue v k x
    → AreGiven (alone colon v) k (x ∷ [])
alone_are colon (scalar s) k x h = (x, h, refl)
alone_are colon (braced b fs) k x h = (x, h, refl)

pub alone_unfit : (colon : Bool) (v : Value) (k : Kind) → IsUnfitValue v k
    → IsUnfitGiven (alone colon v) k
alone_unfit colon (scalar s) k h = h
alone_unfit colon (braced b fs) k h = h

pub alone_all_unfit : (colon : Bool) (v : Value) (k : Kind) → IsUnfitValue v k
    → AreUnfitGiven (alone colon v) k
alone_all_unfit colon (scalar s) k h = h
alone_all_unfit colon (braced b fs) k h = h

-- ---- expansions

pub given_message : (n : ℕ) (colon : Bool) (ls rest : List Lexeme) (m : Brace × Fields)
    → message_at n ls ≡ Some (m, rest)
    → given_at (message_at n) colon ls ≡ Some (one_message colon m.0 m.1, rest)
given_message n colon ls rest m h =
    given_alone (message_at n) colon ls rest (braced m.0 m.1) (message_read n ls rest m h)

pub unfit_body : (n : ℕ) (colon : Bool) (ls rest : List Lexeme) (g : Given) (d : MessageDescriptor)
    → given_at (message_at n) colon ls ≡ Some (g, rest)
    → ((m : Brace × Fields) (last : List Lexeme) → message_at n ls ≡ Some (m, last)
    → CannotMake d (Unfit m.1)) → IsUnfitBody g d
unfit_body n colon ls rest g d h u = by (sign_bytes 91 ls) refl where
  body : (v : Value) → value_at (message_at n) ls ≡ Some (v, rest) → IsUnfitBody (alone colon v) d
  body (scalar s) e = tt
  body (braced b fs) e = u (b, fs) rest (of_braces (message_at n) ls rest b fs e)

  by : (o : Option Span) → sign_bytes 91 ls ≡ o → IsUnfitBody g d
  by (Some s) e =
      let l = of_list (message_at n) colon ls rest g s e h in
      subst (λ g. IsUnfitBody g d) l.same tt
  by None e =
      let v = of_value (message_at n) colon ls rest g e h in
      subst (λ g. IsUnfitBody g d) v.same (body v.value v.there)

-- a value of a message's kind
pub unfit_message : (n : ℕ) (ls rest : List Lexeme) (k : Kind) (d : MessageDescriptor) (v : Value)
    → k ≡ values.Message d → value_at (message_at n) ls ≡ Some (v, rest)
    → ((m : Brace × Fields) (last : List Lexeme) → message_at n ls ≡ Some (m, last)
    → CannotMake d (Unfit m.1)) → IsUnfitValue v k
unfit_message n ls rest k d (scalar s) is h u =
    subst (λ k. IsUnfitValue (scalar s) k) (sym is) refl
unfit_message n ls rest k d (braced b fs) is h u =
    subst (λ k. IsUnfitValue (braced b fs) k) (sym is)
    (u (b, fs) rest (of_braces (message_at n) ls rest b fs h))

-- ---- one value, or a list

-- a list is refused
pub unfit_listed : (n : ℕ) (colon : Bool) (ls mid rest : List Lexeme) (g : Given) (k : Kind)
    → IsTaken 91 ls mid → given_at (message_at n) colon ls ≡ Some (g, rest)
    → ((vs : Values) (last : List Lexeme) → list_at (message_at n) mid ≡ Some (vs, last)
    → AreUnfitValues vs k) → AreUnfitGiven g k
unfit_listed n colon ls mid rest g k t h u =
    let l = of_list (message_at n) colon ls rest g t.span t.there h in
    subst (λ g. AreUnfitGiven g k) l.same
    (u l.values rest (ap (list_at (message_at n)) t.rest ∙ l.there))

-- one value is, for a list or a map
pub unfit_all : (n : ℕ) (colon : Bool) (ls mid rest : List Lexeme) (g : Given) (k : Kind)
    → IsLeft 91 ls mid → given_at (message_at n) colon ls ≡ Some (g, rest)
    → ((v : Value) (last : List Lexeme) → value_at (message_at n) mid ≡ Some (v, last)
    → IsUnfitValue v k) → AreUnfitGiven g k
unfit_all n colon ls mid rest g k t h u =
    let v = of_value (message_at n) colon ls rest g t.none h in
    subst (λ g. AreUnfitGiven g k) v.same (alone_all_unfit colon v.value k
    (u v.value rest (ap (value_at (message_at n)) t.same ∙ v.there)))

-- and for a field of one, which takes no list
pub unfit_one : (n : ℕ) (colon : Bool) (ls rest : List Lexeme) (g : Given) (k : Kind)
    → given_at (message_at n) colon ls ≡ Some (g, rest)
    → ((v : Value) (last : List Lexeme) → value_at (message_at n) ls ≡ Some (v, last)
    → IsUnfitValue v k) → IsUnfitGiven g k
unfit_one n colon ls rest g k h u = by (sign_bytes 91 ls) refl where
  by : (o : Option Span) → sign_bytes 91 ls ≡ o → IsUnfitGiven g k
  by (Some s) e =
      let l = of_list (message_at n) colon ls rest g s e h in
      subst (λ g. IsUnfitGiven g k) l.same tt
  by None e =
      let v = of_value (message_at n) colon ls rest g e h in
      subst (λ g. IsUnfitGiven g k) v.same (alone_unfit colon v.value k (u v.value rest v.there))
