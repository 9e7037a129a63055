-- Scalar values of a text, and what they stand for in fields of each kind.
use Rattle.std.proofs.Common.{◌≡◌, ℤ, List, Option, Some, None, Result, Ok, Err, IfErr, IfOk, refl, ap, subst, ◌∙◌}
use Rattle.std.specs.Option.{unwrap_or}
use Rattle.protox_lex.specs.Class.{Text}
use Rattle.protox_lex.specs.declared.span.Span.{Span}
use Rattle.text_lex.specs.Token.{Lexeme}
use Rattle.text_error.specs.declared.error.ParseErrorKind.{ParseErrorKind}
use Rattle.text_error.specs.declared.error.ParseErrorKind.TheVariants as kinds
use Rattle.protobuf_model.specs.Types.{Scalar}
use Rattle.protobuf_model.specs.Values.{Single}
use Rattle.text_model.specs.Scalars.{scalar_in}
use Rattle.text_model.specs.Tree.{Value, scalar, braced}
use Rattle.text_scalars.specs.Scalars.{Found, scalar_at}
use Rattle.text_syntax.specs.Syntax.{Inner, Read, value_at}
use Rattle.text_syntax.proofs.Parts.{of_scalar, scalar_read}
use Rattle.reflect_pool.specs.declared.kind.Kind.{Kind}
use Rattle.reflect_pool.specs.declared.kind.Kind.TheVariants as values
use Rattle.reflect_pool.specs.declared.message.MessageDescriptor.{MessageDescriptor}
use Rattle.reflect_message.specs.Names as held
use Rattle.reflect_format.specs.Filled.{IsValue}
use Rattle.reflect_format.specs.Kinds.{IsReadSingle, ReadsSingle, given_by, kind_value_at, names_of, scalar_given, scalar_of, single_of, value_by}
use Rattle.reflect_format.specs.Reads.{ReadsTree, Refutes}
use Rattle.reflect_format.specs.Unfit.{IsUnfitValue, NoMessage, Refusal, Unfit}

record Given (enum : Text → Option ℤ) (o : Option Scalar) (ls : List Lexeme) (x : Single)
    (rest : List Lexeme) : Type 0 where
  found : Found
  there : scalar_at ls ≡ Some found
  given : given_by enum o found.value ≡ Some x
  same : found.rest ≡ rest

found_of : (enum : Text → Option ℤ) (o : Option Scalar) (ls : List Lexeme) (x : Single) (s : Span)
    (rest : List Lexeme) → value_by enum o ls ≡ Some (x, s, rest) → Given enum o ls x rest
found_of enum None ls x s rest h = absurd (cc h)
found_of enum (Some k) ls x s rest h = by (scalar_at ls) refl where
  by : (p : Option Found) → scalar_at ls ≡ p → Given enum (Some k) ls x rest
  by None f = absurd (cc (rw f at h))
  by (Some g) f = on (scalar_in enum k g.value) refl where
    on : (p : Option Single) → scalar_in enum k g.value ≡ p → Given enum (Some k) ls x rest
    on None i = absurd (cc (rw (f, i) at h))
    on (Some y) i =
        let q : ◌≡◌ {A = Option (Single × Span × List Lexeme)} (Some (y, g.span, g.rest)) (Some (x, s, rest)) =
        rw (f, i) at h in
        let r = ap (λ (o : Option (Single × Span × List Lexeme)). unwrap_or o (x, s, rest)) q in
        record {
          found = g;
          there = f;
          given = i ∙ ap (λ v. let it : Option Single = Some v in it) (ap (λ t. t.0) r);
          same = ap (λ t. t.2) r;
        }

missing : (enum : Text → Option ℤ) (o : Option Scalar) (ls : List Lexeme)
    → value_by enum o ls ≡ None → (f : Found) → scalar_at ls ≡ Some f
    → given_by enum o f.value ≡ None
missing enum None ls h f e = refl
missing enum (Some k) ls h f e = on (scalar_in enum k f.value) refl where
  on : (p : Option Single) → scalar_in enum k f.value ≡ p → scalar_in enum k f.value ≡ None
  on None i = i
  on (Some y) i = absurd (cc (rw (e, i) at h))

pub scalar_reads : (k : Kind) (ls rest : List Lexeme) (inner : Inner)
    (r : Result (held.Value × Span) ParseErrorKind) → ReadsSingle (kind_value_at k ls) r rest
    → IfOk r (λ p. ReadsTree (value_at inner ls) (λ v. IsValue v k p.0) rest)
scalar_reads k ls rest inner (Err e) h = tt
scalar_reads k ls rest inner (Ok p) h = by (single_of p.0) refl where
  by : (o : Option Single) → single_of p.0 ≡ o
      → ReadsTree (value_at inner ls) (λ v. IsValue v k p.0) rest
  by None e = absurd (subst (λ o. IsReadSingle o p.1 (kind_value_at k ls) rest) e h)
  by (Some x) e =
      let g = found_of (names_of k) (scalar_of k) ls x p.1 rest
      (subst (λ o. IsReadSingle o p.1 (kind_value_at k ls) rest) e h) in (
        scalar g.found.value,
        scalar_read inner ls g.found g.there
            ∙ ap (λ r. let it : Read Value = Some (scalar g.found.value, r) in it) g.same,
        (x, g.given, e),
      )

other_kind : (k : Kind) (refuses : Refusal)
    → ((d : MessageDescriptor) → k ≡ values.Message d → ⊥) → NoMessage k refuses
other_kind (values.Message d) refuses not = absurd (not d refl)
other_kind _ refuses not = tt

unfit_value : (k : Kind) (ls rest : List Lexeme) (inner : Inner) (v : Value)
    → ((d : MessageDescriptor) → k ≡ values.Message d → ⊥) → kind_value_at k ls ≡ None
    → value_at inner ls ≡ Some (v, rest) → IsUnfitValue v k
unfit_value k ls rest inner (scalar s) not h e =
    let g = of_scalar inner ls rest s e in
    subst (λ s. scalar_given k s ≡ None) g.same (missing (names_of k) (scalar_of k) ls h g.found g.there)
unfit_value k ls rest inner (braced b fs) not h e = other_kind k (Unfit fs) not

pub scalar_refutes : (k : Kind) (ls rest : List Lexeme) (inner : Inner)
    (r : Result (held.Value × Span) ParseErrorKind)
    → ((d : MessageDescriptor) → k ≡ values.Message d → ⊥) → ReadsSingle (kind_value_at k ls) r rest
    → IfErr r (Refutes (value_at inner ls) (λ v. IsUnfitValue v k))
scalar_refutes k ls rest inner (Ok p) not h = tt
scalar_refutes k ls rest inner (Err kinds.Memory) not h = tt
scalar_refutes k ls rest inner (Err _) not h = λ v last e. unfit_value k ls last inner v not h e
