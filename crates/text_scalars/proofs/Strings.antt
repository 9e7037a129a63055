-- Strings as bytes and as text.
use Rattle.std.proofs.Common.{◌≡◌, List, ◌++◌, Bool, true, false, cond, Option, Some, None, option_map, refl, ap, ◌∙◌, IsUtf8}
use Rattle.std.specs.List.{flat_map}
use Rattle.std.specs.Str.{is_utf8}
use Rattle.std.proofs.lemmas.Str.{IsUtf8-from_is_utf8, is_utf8-from_IsUtf8}
use Rattle.protox_lex.specs.Class.{Text}
use Rattle.protox_lex.specs.Lex.{unescaped}
use Rattle.protox_lex.specs.declared.span.Span.{Span}
use Rattle.text_lex.specs.Token.{Lexeme}
use Rattle.protobuf_model.specs.Types as kinds
use Rattle.protobuf_model.specs.Values.{Single, blob, text}
use Rattle.text_model.specs.Tree.{ScalarValue, signed, strings, integer, floating, identifier}
use Rattle.text_scalars.specs.Number.{nameless}
use Rattle.text_scalars.specs.Scalars.{Found, meaning}

blob_in : Text → Single → Text
blob_in b (blob c) = c
blob_in b _ = b

blob_or : Text → Option (Single × Span × List Lexeme) → Text
blob_or b (Some p) = blob_in b p.0
blob_or b None = b

span_or : Span → Option (Single × Span × List Lexeme) → Span
span_or s (Some p) = p.1
span_or s None = s

rest_or : List Lexeme → Option (Single × Span × List Lexeme) → List Lexeme
rest_or r (Some p) = p.2
rest_or r None = r

-- text, where the bytes are UTF-8
abbrev pub text_if : Text → Span → List Lexeme → Option (Single × Span × List Lexeme)
text_if b s r = cond (is_utf8 b) (Some (text b, s, r)) None

abbrev found : ScalarValue → Span → List Lexeme → Option Found
found v s r = Some (record { value = v; span = s; rest = r })

chosen : (b : Text) (s : Span) (r : List Lexeme) (v : Bool)
    → option_map (λ x. let it : Single × Span × List Lexeme = (x, s, r) in it) (cond v (Some (text b)) None) ≡ cond v (Some (text b, s, r)) None
chosen b s r true = refl
chosen b s r false = refl

as_text_by : (v : ScalarValue) (s : Span) (r : List Lexeme) (b : Text) (span : Span) (rest : List Lexeme)
    → meaning nameless kinds.bytes (found v s r) ≡ Some (blob b, span, rest)
    → meaning nameless kinds.string (found v s r) ≡ text_if b span rest
unfolding blob_in blob_or span_or rest_or
as_text_by (signed true (integer x d)) s r b span rest h = absurd (cc h)
as_text_by (signed false (integer x d)) s r b span rest h = absurd (cc h)
as_text_by (signed true (floating w)) s r b span rest h = absurd (cc h)
as_text_by (signed false (floating w)) s r b span rest h = absurd (cc h)
as_text_by (signed true (identifier w)) s r b span rest h = absurd (cc h)
as_text_by (signed false (identifier w)) s r b span rest h = absurd (cc h)
as_text_by (strings x xs) s r b span rest h =
    let c = unescaped x ++ flat_map unescaped xs in
    let e : c ≡ b = ap (blob_or b) h in
    let f : s ≡ span = ap (span_or s) h in
    let g : r ≡ rest = ap (rest_or r) h in
    chosen c s r (is_utf8 c) ∙ ap (λ y. text_if y s r) e ∙ ap (λ y. text_if b y r) f ∙ ap (text_if b span) g

pub as_text : (o : Option Found) (b : Text) (span : Span) (rest : List Lexeme)
    → meaning nameless kinds.bytes o ≡ Some (blob b, span, rest)
    → meaning nameless kinds.string o ≡ text_if b span rest
as_text None b span rest h = absurd (cc h)
as_text (Some f) b span rest h = as_text_by f.value f.span f.rest b span rest h

pub is_text : (b : Text) (s : Span) (r : List Lexeme) → IsUtf8 b → text_if b s r ≡ Some (text b, s, r)
is_text b s r h = rw (is_utf8-from_IsUtf8 b h) refl

no_text_by : (b : Text) (s : Span) (r : List Lexeme) → (IsUtf8 b → ⊥) → (v : Bool) → is_utf8 b ≡ v → text_if b s r ≡ None
no_text_by b s r h true e = absurd (h (IsUtf8-from_is_utf8 b e))
no_text_by b s r h false e = rw e refl

pub no_text : (b : Text) (s : Span) (r : List Lexeme) → (IsUtf8 b → ⊥) → text_if b s r ≡ None
no_text b s r h = no_text_by b s r h (is_utf8 b) refl
