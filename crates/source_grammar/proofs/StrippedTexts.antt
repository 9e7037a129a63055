-- Values in braces as tokens alone: these are of the same language, and have the same text.
use Rattle.std.proofs.Common.{[], ◌≡◌, ℕ, zero, suc, ◌-◌, ◌++◌, ◌∷◌, None, length, take, refl, ap, sym, ◌∙◌, inl, inr, arith, append_assoc, length-append}
use Rattle.std.proofs.Math.Seq.{take-append_seam}
use Rattle.std.specs.List.{flat_map, fold}
use Rattle.protox_aggregates.specs.BraceTexts.{token_in, with_token, text_of}
use Rattle.protox_laws.specs.Unplaced.{nowhere}
use Rattle.protox_lex.specs.Class.{Text}
use Rattle.protox_lex.specs.Token.{Token, ident, int, float, str, sign, token_at, fault_at}
use Rattle.protox_lex.specs.declared.span.Span.{Span}
use Rattle.protox_lex.specs.declared.token.Sign.{Sign}
use Rattle.protox_lex.specs.declared.token.Sign.TheVariants as s
use Rattle.protox_tokens.specs.Stream.{piece, last, Stream}
use Rattle.source_grammar.proofs.Stripped.{stripped, Strips, strips_token, strips_nothing, strips_never, strips_then, strips_or, strips_many}
use Rattle.source_grammar.specs.Aggregates.{in_text, a_sign, an_ident, a_literal, a_plain, dotted, field_name, scalar, separator, a_value, a_list, a_field, message, between, fields_as, an_aggregate}
use Rattle.source_grammar.specs.Languages.{Language, nothing, never, ends, ◌▸◌, ◌∪◌, perhaps, times, many}

-- ---- tokens of text format

module _ (P Q : Token → Span → Type 0) (holds : (t : Token) (at : Span) → P t at → Q t nowhere) where
  text_kept : (ts r : Stream) → in_text P ts r → in_text Q (stripped ts) (stripped r)
  text_kept [] r g = absurd g
  text_kept (last s ∷ ts) r g = absurd g.0
  text_kept (piece h (fault_at k a b) ∷ ts) r g = absurd g.0
  text_kept (piece h (token_at a b t) ∷ ts) r g = (holds t (record { start = a; end = b }) g.0, ap stripped g.1)

  strips_text : Strips (in_text P) (in_text Q)
  strips_text = record { keeps = text_kept }

-- A language without places, which takes tokens from the front alone.
record Fronts (L : Language) : Type 0 where
  strips : Strips L L
  front : (ts r : Stream) → L ts r → (xs : Stream) × (ts ≡ xs ++ r)

module _ (P : Token → Type 0) where
  abbrev Sort : Language
  Sort = in_text (λ t at. P t)

  first_of_text : (ts r : Stream) → Sort ts r → (xs : Stream) × (ts ≡ xs ++ r)
  first_of_text [] r g = absurd g
  first_of_text (p ∷ ts) r g = (p ∷ [], ap (λ u. p ∷ u) g.1)

  fronts_text : Fronts Sort
  fronts_text = record { strips = strips_text (λ t at. P t) (λ t at. P t) (λ t at g. g); front = first_of_text }

fronts_nothing : Fronts nothing
fronts_nothing = record { strips = strips_nothing; front = λ ts r h. ([], h) }

fronts_never : Fronts never
fronts_never = record { strips = strips_never; front = λ ts r h. absurd h }

fronts_then : {L M : Language} → Fronts L → Fronts M → Fronts (L ▸ M)
fronts_then first later = record {
  strips = strips_then first.strips later.strips;
  front = λ ts r h.
      let x = first.front ts h.0 h.1 in
      let y = later.front h.0 r h.2 in
      (x.0 ++ y.0, x.1 ∙ ap (λ u. x.0 ++ u) y.1 ∙ sym (append_assoc x.0 y.0 r));
}

fronts_or : {L M : Language} → Fronts L → Fronts M → Fronts (L ∪ M)
fronts_or {L = L} {M = M} first second = record { strips = strips_or first.strips second.strips; front = either } where
  either : (ts r : Stream) → (L ∪ M) ts r → (xs : Stream) × (ts ≡ xs ++ r)
  either ts r (inl h) = first.front ts r h
  either ts r (inr h) = second.front ts r h

fronts_perhaps : {L : Language} → Fronts L → Fronts (perhaps L)
fronts_perhaps part = fronts_or part fronts_nothing

fronts_times : {L : Language} → Fronts L → (n : ℕ) → Fronts (times L n)
fronts_times part zero = fronts_nothing
fronts_times part (suc n) = fronts_then part (fronts_times part n)

fronts_many : {L : Language} → Fronts L → Fronts (many L)
fronts_many part = record { strips = strips_many part.strips; front = λ ts r h. (fronts_times part h.0).front ts r h.1 }

-- ---- names and scalars

fronts_sign : (k : Sign) → Fronts (a_sign k)
fronts_sign k = fronts_text (λ t. t ≡ sign k)

fronts_ident : Fronts an_ident
fronts_ident = fronts_text (λ t. (x : Text) × (t ≡ ident x))

fronts_literal : Fronts a_literal
fronts_literal = fronts_text (λ t. (x : Text) × (t ≡ str x))

fronts_plain : Fronts a_plain
fronts_plain = fronts_or fronts_ident (fronts_or (fronts_text (λ t. (n : ℕ) × (t ≡ int n))) (fronts_text (λ t. (x : Text) × (t ≡ float x))))

fronts_dotted : Fronts dotted
fronts_dotted = fronts_then fronts_ident (fronts_many (fronts_then (fronts_sign s.Dot) fronts_ident))

fronts_name : Fronts field_name
fronts_name = fronts_or
    (fronts_then (fronts_sign s.LeftBracket) (fronts_then fronts_dotted (fronts_then (fronts_perhaps (fronts_then (fronts_sign s.ForwardSlash) fronts_dotted)) (fronts_sign s.RightBracket))))
    fronts_ident

fronts_scalar : Fronts scalar
fronts_scalar = fronts_or (fronts_then fronts_literal (fronts_many fronts_literal)) (fronts_then (fronts_perhaps (fronts_sign s.Minus)) fronts_plain)

fronts_separator : Fronts separator
fronts_separator = fronts_or (fronts_sign s.Comma) (fronts_perhaps (fronts_sign s.Semicolon))

-- ---- fields

module _ (I : Language) (inner : Fronts I) where
  fronts_value : Fronts (a_value I)
  fronts_value = fronts_or inner fronts_scalar

  fronts_list : Fronts (a_list I)
  fronts_list = fronts_then (fronts_sign s.LeftBracket)
      (fronts_then (fronts_perhaps (fronts_then fronts_value (fronts_many (fronts_then (fronts_sign s.Comma) fronts_value)))) (fronts_sign s.RightBracket))

  fronts_field : Fronts (a_field I)
  fronts_field = fronts_then fronts_name
      (fronts_then (fronts_or (fronts_then (fronts_sign s.Colon) (fronts_or fronts_list fronts_value)) inner) fronts_separator)

fronts_message : (n : ℕ) → Fronts (message n)
fronts_message zero = fronts_never
fronts_message (suc n) = fronts_or
    (fronts_then (fronts_sign s.LeftBrace) (fronts_then (fronts_many (fronts_field (message n) (fronts_message n))) (fronts_sign s.RightBrace)))
    (fronts_then (fronts_sign s.LeftAngleBracket) (fronts_then (fronts_many (fronts_field (message n) (fronts_message n))) (fronts_sign s.RightAngleBracket)))

-- ---- the text of tokens

stripped-append : (xs ys : Stream) → stripped (xs ++ ys) ≡ stripped xs ++ stripped ys
stripped-append [] ys = refl
stripped-append (last s ∷ xs) ys = stripped-append xs ys
stripped-append (piece h (fault_at k a b) ∷ xs) ys = stripped-append xs ys
stripped-append (piece h (token_at a b t) ∷ xs) ys = ap (λ u. piece None (token_at 0 0 t) ∷ u) (stripped-append xs ys)

same_tokens : (xs : Stream) → flat_map token_in (stripped xs) ≡ flat_map token_in xs
same_tokens [] = refl
same_tokens (last s ∷ xs) = same_tokens xs
same_tokens (piece h (fault_at k a b) ∷ xs) = same_tokens xs
same_tokens (piece h (token_at a b t) ∷ xs) = ap (λ u. t ∷ u) (same_tokens xs)

same_text : (xs : Stream) → text_of (stripped xs) ≡ text_of xs
same_text xs = ap (fold with_token []) (same_tokens xs)

front_of : (xs r : Stream) → take (length (xs ++ r) - length r) (xs ++ r) ≡ xs
front_of xs r =
    let count : length (xs ++ r) - length r ≡ length xs = omega (arith, length-append xs r) in
    rw count (take-append_seam xs r)

fields_kept : (n : ℕ) (x : Text) (ts r : Stream) → many (a_field (message n)) ts r × (x ≡ text_of (between ts r))
    → many (a_field (message n)) (stripped ts) (stripped r) × (x ≡ text_of (between (stripped ts) (stripped r)))
fields_kept n x ts r h =
    let fields = fronts_many (fronts_field (message n) (fronts_message n)) in
    let f = fields.front ts r h.0 in
    let before : between ts r ≡ f.0 = ap (λ u. between u r) f.1 ∙ front_of f.0 r in
    let after : between (stripped ts) (stripped r) ≡ stripped f.0 =
    ap (λ u. between (stripped u) (stripped r)) f.1 ∙ ap (λ u. between u (stripped r)) (stripped-append f.0 r) ∙ front_of (stripped f.0) (stripped r) in
    (fields.strips.keeps ts r h.0, h.1 ∙ ap text_of before ∙ sym (same_text f.0) ∙ ap text_of (sym after))

-- ---- values

strips_fields : (x : Text) → Strips (fields_as x) (fields_as x)
strips_fields x = record { keeps = fields_kept 100 x }

pub strips_aggregate : (x : Text) (at : Span) → Strips (an_aggregate x at) (an_aggregate x nowhere)
strips_aggregate x at = strips_then (strips_token (sign s.LeftBrace) refl)
    (strips_then (strips_fields x) (strips_text (λ t p. (t ≡ sign s.RightBrace) × ends at p) (λ t p. (t ≡ sign s.RightBrace) × ends nowhere p) (λ t p g. (g.0, refl))))
