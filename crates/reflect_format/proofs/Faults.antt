-- What refusals tell, from what is read before them.
use Rattle.std.proofs.Common.{◌≡◌, ◌∙◌, inl, inr, ℕ, zero, suc, true, false, List, Option, Some, None, option_map, Result, Ok, Err, IfErr, IfOk, IsErrAnd, refl, sym, ap, subst}
use Rattle.protobuf_model.specs.Types.{Scalar}
use Rattle.protobuf_model.specs.Values.{Single}
use Rattle.protox_lex.specs.Class.{Text}
use Rattle.protox_lex.specs.declared.span.Span.{Span}
use Rattle.reflect_message.specs.Names.{DynamicMessage}
use Rattle.reflect_message.specs.Names as held
use Rattle.reflect_pool.specs.declared.kind.Kind.{Kind}
use Rattle.reflect_pool.specs.declared.kind.Kind.TheVariants as values
use Rattle.reflect_pool.specs.declared.message.MessageDescriptor.{MessageDescriptor}
use Rattle.reflect_pool.specs.declared.oneof.OneofDescriptor.{OneofDescriptor}
use Rattle.std.specs.Prelude.{ℤ, codes}
use Rattle.text_error.specs.Places.{place_of}
use Rattle.text_error.specs.declared.error.ParseErrorKind.{ParseErrorKind}
use Rattle.text_error.specs.declared.error.ParseErrorKind.TheVariants as kinds
use Rattle.text_lex.specs.Token.{Lexeme}
use Rattle.text_model.specs.Scalars.{scalar_in}
use Rattle.text_model.specs.Tree.{FieldName, Value, Values, no_values, more_values}
use Rattle.text_scalars.specs.Braces.{opening_brace}
use Rattle.text_scalars.specs.Front.{behind, sign_bytes}
use Rattle.text_scalars.specs.Names.{Written, name_at, text_and_bytes, text_of}
use Rattle.text_scalars.specs.Reading as told
use Rattle.text_scalars.specs.Reading.{Reading, seen_as}
use Rattle.text_scalars.specs.Refusals.{IsUnexpected}
use Rattle.text_scalars.specs.Scalars.{Found, meaning, scalar_at}
use Rattle.text_scalars.specs.declared.tokens.Brace.{Brace}
use Rattle.text_syntax.specs.Syntax.{Inner, value_at}
use Rattle.text_syntax.proofs.Continuing.{joined}
use Rattle.reflect_format.specs.Kinds.{IsReadSingle, ReadsSingle, RefusesKind, kind_value_at, names_of, scalar_of, single_of, value_by}
use Rattle.reflect_format.specs.Refusals.{HoldsMember, IsTextName, Shares, TellsOneof, TellsSet}
use Rattle.reflect_format.specs.Steps.{is_set}
use Rattle.reflect_format.specs.Told.{BodyFault, ListBegins, MessageFault, MessageFaults, SecondFault, Told, ValueBytes, ValueFault}
use Rattle.reflect_format.specs.Unfit.{CannotMake}
use Rattle.reflect_format.specs.declared.target.Target.{Target}
use Rattle.reflect_format.proofs.Filling.{cause_of}
use Rattle.reflect_format.proofs.Telling.{passed}

-- ---- what is passed on

pub told_on : {T : Type 0} (P Q : ParseErrorKind → Type 0) (r : Result T ParseErrorKind)
    (k : ParseErrorKind) → IsErrAnd r (λ e. e ≡ k) → (P k → Q k) → Told P k → IfErr r (Told Q)
told_on P Q r k is f h = passed r (Told Q) k is (cause_of (P k) (Q k) k f h)

pub told_memory : {T : Type 0} (Q : ParseErrorKind → Type 0) (r : Result T ParseErrorKind)
    → IsErrAnd r (λ e. e ≡ kinds.Memory) → IfErr r (Told Q)
told_memory Q r is = passed r (Told Q) kinds.Memory is tt

pub both_told : (P Q : ParseErrorKind → Type 0) (k : ParseErrorKind) → Told P k → Told Q k
    → Told (λ e. P e × Q e) k
both_told P Q kinds.Memory p q = tt
both_told P Q _ p q = (p, q)

-- ---- names

pub reading_told : {A B : Type 0} (view : B → A) (r : Reading A) (k : ParseErrorKind)
    (rest : List Lexeme) → told.ReadsLexemes view r (Err k) rest → Told (told.TellsStop r) k
reading_told view (Ok p) kinds.Memory rest h = tt
reading_told view (Ok p) _ rest h = absurd h
reading_told view (Err stop) kinds.Memory rest h = tt
reading_told view (Err stop) _ rest h = h

pub tells_unseen : {A B : Type 0} (f : A → B) (r : Reading A) (k : ParseErrorKind)
    → told.TellsStop (seen_as f r) k → told.TellsStop r k
tells_unseen f (Ok p) k h = absurd h
tells_unseen f (Err stop) k h = h

rest_or : List Lexeme → Reading (Written × Span) → List Lexeme
rest_or d (Ok p) = p.1
rest_or d (Err stop) = d

read_or : Written × Span → Reading (Written × Span) → Written × Span
read_or d (Ok p) = p.0
read_or d (Err stop) = d

-- a name that is read stands there, with its bytes
pub name_there : (ls rest : List Lexeme) (v : Written × Span)
    → seen_as text_and_bytes (name_at ls) ≡ Ok (v, rest)
    → (n : FieldName) × (name_at ls ≡ Ok ((n, v.1), rest)) × (text_of n ≡ v.0)
unfolding rest_or read_or
name_there ls rest v h = by (name_at ls) refl where
  by : (r : Reading (FieldName × Span)) → name_at ls ≡ r
      → (n : FieldName) × (name_at ls ≡ Ok ((n, v.1), rest)) × (text_of n ≡ v.0)
  by (Err stop) e = absurd (cc (rw e at h))
  by (Ok p) e =
      let k : ◌≡◌ {A = Reading (Written × Span)} (Ok (text_and_bytes p.0, p.1)) (Ok (v, rest)) = rw e at h in
      let read : (text_of p.0.0, p.0.1) ≡ v = ap (read_or v) k in (
        p.0.0,
        e
            ∙ ap (λ r. let it : Reading (FieldName × Span) = Ok (p.0, r) in it) (ap (rest_or ls) k)
            ∙ ap (λ s. let it : Reading (FieldName × Span) = Ok ((p.0.0, s), rest) in it) (ap (λ w. w.1) read),
        ap (λ w. w.0) read,
      )

-- ---- values

scalar_fault : (inner : MessageFaults) (kind : Kind) (ls : List Lexeme) (k : ParseErrorKind)
    → ((d : MessageDescriptor) → kind ≡ values.Message d → ⊥) → kind_value_at kind ls ≡ None
    → RefusesKind kind ls k → ValueFault inner kind ls k
scalar_fault inner (values.Message d) ls k not none h = absurd (not d refl)
scalar_fault inner _ ls k not none h = (none, h)

-- what is told of a value that is no message
pub scalar_told : (inner : MessageFaults) (kind : Kind) (ls rest : List Lexeme)
    (r : Result (held.Value × Span) ParseErrorKind)
    → ((d : MessageDescriptor) → kind ≡ values.Message d → ⊥)
    → ReadsSingle (kind_value_at kind ls) r rest → IfErr r (RefusesKind kind ls)
    → IfErr r (Told (ValueFault inner kind ls))
scalar_told inner kind ls rest (Ok p) not none h = tt
scalar_told inner kind ls rest (Err kinds.Memory) not none h = tt
scalar_told inner kind ls rest (Err k) not none h = scalar_fault inner kind ls k not none h

bytes_found : (enum : Text → Option ℤ) (s : Scalar) (o : Option Found) (v : Single) (bytes : Span)
    (rest : List Lexeme) → meaning enum s o ≡ Some (v, bytes, rest)
    → option_map (λ f. f.span) o ≡ Some bytes
bytes_found enum s None v bytes rest h = absurd (cc h)
bytes_found enum s (Some f) v bytes rest h = by (scalar_in enum s f.value) h where
  by : (x : Option Single)
      → option_map {U = Single × Span × List Lexeme} (λ v. (v, f.span, f.rest)) x
      ≡ Some (v, bytes, rest)
      → option_map (λ f. f.span) (Some f) ≡ Some bytes
  by None e = absurd (cc e)
  by (Some x) e = ap (λ o. option_map (λ p. p.1) o) e

bytes_by : (enum : Text → Option ℤ) (o : Option Scalar) (ls : List Lexeme) (v : Single)
    (bytes : Span) (rest : List Lexeme) → value_by enum o ls ≡ Some (v, bytes, rest)
    → option_map (λ f. f.span) (scalar_at ls) ≡ Some bytes
bytes_by enum None ls v bytes rest h = absurd (cc h)
bytes_by enum (Some s) ls v bytes rest h = bytes_found enum s (scalar_at ls) v bytes rest h

-- the bytes of one that is read
pub scalar_bytes : (n : ℕ) (kind : Kind) (ls rest : List Lexeme)
    (r : Result (held.Value × Span) ParseErrorKind)
    → ((d : MessageDescriptor) → kind ≡ values.Message d → ⊥)
    → ReadsSingle (kind_value_at kind ls) r rest → IfOk r (λ p. ValueBytes n kind ls p.1)
scalar_bytes n kind ls rest (Err k) not h = tt
scalar_bytes n kind ls rest (Ok p) not h = of kind not (by (single_of p.0) h) where
  by : (o : Option Single) → IsReadSingle o p.1 (kind_value_at kind ls) rest
      → option_map (λ f. f.span) (scalar_at ls) ≡ Some p.1
  by None e = absurd e
  by (Some v) e = bytes_by (names_of kind) (scalar_of kind) ls v p.1 rest e

  of : (x : Kind) → ((d : MessageDescriptor) → x ≡ values.Message d → ⊥)
      → option_map (λ f. f.span) (scalar_at ls) ≡ Some p.1 → ValueBytes n x ls p.1
  of (values.Message d) not e = absurd (not d refl)
  of _ not e = e

-- the field or the extension is set already
pub set_told : (m : DynamicMessage) (t : Target) (name : Text) (k : ParseErrorKind) (bytes : Span)
    → is_set m t ≡ true → IsTextName t name → TellsSet name k → place_of k ≡ Some bytes
    → SecondFault m t k × (place_of k ≡ Some bytes)
set_told m t name (kinds.FieldAlreadySet field span) bytes set text told place =
    ((set, subst (IsTextName t) (sym told) text), place)
set_told m t name _ bytes set text told place = absurd told

-- or another member of its oneof
pub rival_told : (m : DynamicMessage) (t : Target) (o : OneofDescriptor) (k : ParseErrorKind)
    (bytes : Span) → is_set m t ≡ false → Shares t o → HoldsMember m o → TellsOneof o k
    → place_of k ≡ Some bytes → SecondFault m t k × (place_of k ≡ Some bytes)
rival_told m t o (kinds.OneofAlreadySet oneof span) bytes unset shares holds told place =
    ((unset, o, shares, holds, told), place)
rival_told m t o _ bytes unset shares holds told place = absurd told

-- ---- lists

-- a further value, and the comma behind it
pub list_on : (inner : Inner) (ls : List Lexeme) (done : Values) (here mid : List Lexeme)
    (v : Value) (comma : Span) → ListBegins inner ls done here → value_at inner here ≡ Some (v, mid)
    → sign_bytes 44 mid ≡ Some comma
    → ListBegins inner ls (joined done (more_values v no_values)) (behind mid)
list_on inner ls no_values here mid v comma h read sign =
    (mid, subst (λ l. value_at inner l ≡ Some (v, mid)) h read, comma, sign, refl)
list_on inner ls (more_values w ws) here mid v comma h read sign =
    (h.0, h.1, h.2, h.3, list_on inner (behind h.0) ws here mid v comma h.4 read sign)

-- ---- messages in braces

pub brace_told : (n : ℕ) (d : MessageDescriptor) (ls : List Lexeme) (k : ParseErrorKind)
    → opening_brace ls ≡ None → IsUnexpected (codes "'{' or '<'") ls k → MessageFault n d ls k
unfolding MessageFault
brace_told zero d ls k none h = inl (none, h)
brace_told (suc n) d ls k none h = inl (none, h)

pub depth_told : (n : ℕ) (d : MessageDescriptor) (ls : List Lexeme) (opening : Span × Brace) → n ≡ zero
    → opening_brace ls ≡ Some opening → MessageFault n d ls (kinds.NestingTooDeep opening.0)
unfolding MessageFault
depth_told zero d ls opening none is = inr (opening, is, refl)
depth_told (suc n) d ls opening none is = absurd (cc none)

pub body_told : (n m : ℕ) (d : MessageDescriptor) (ls : List Lexeme) (opening : Span × Brace)
    (k : ParseErrorKind) → n ≡ suc m → opening_brace ls ≡ Some opening
    → CannotMake d (λ blank. BodyFault m (MessageFault m) opening.1 blank (behind ls) k)
    → MessageFault n d ls k
unfolding MessageFault
body_told n m d ls opening k count is h =
    subst (λ x. MessageFault x d ls k) (sym count) (inr (opening, is, h))
