-- Types, labels and fields tell their faults at the first token with which nothing goes on.
use Rattle.std.proofs.Common.{[], ◌≡◌, Bool, true, false, ◌∷◌, Option, Some, None, Ok, refl, ap}
use Rattle.std.specs.Prelude.{codes}
use Rattle.descriptor_records.specs.declared.field.FieldType.{FieldType}
use Rattle.descriptor_records.specs.declared.field.Label.TheVariants as labels
use Rattle.protox_fields.specs.FieldGrammar.{named_type, ty_of, ty, map_type, map_by, map_or_name, field_type, extensions, Labelled, repeated_if, required_if, optional_if, label, plain_field}
use Rattle.protox_lex.specs.Token.{ident, sign}
use Rattle.protox_lex.specs.declared.span.Span.{Span}
use Rattle.protox_lex.specs.declared.token.Sign.TheVariants as signs
use Rattle.protox_tokens.specs.Stream.{Piece, Stream, source, peek, span_of}
use Rattle.protox_tokens.specs.Parser.{sees, here}
use Rattle.protox_tokens.proofs.Both.{Always}
use Rattle.protox_tree.specs.Nest.{normal, map_kind}
use Rattle.protox_tree.specs.Scalar.{scalar_of}
use Rattle.protox_tree.specs.Tree.{Word, scalar}
use Rattle.source_grammar.proofs.ViableTokens.{extensions_written, map_written, sign_written}
use Rattle.source_grammar.proofs.Viable.{Viable, viable_then, viable_pure, Any, viable_end, viable_map}
use Rattle.source_grammar.proofs.ViableForms.{If, Else, viable_choose}
use Rattle.source_grammar.proofs.ViableSteps.{Heads, made_at, made, viable_expect, viable_branch}
use Rattle.source_grammar.proofs.ViableNames.{some_word, start, viable_word_as, viable_word, any_word, viable_int, NoPart, viable_parts_in, viable_parts, May, Unless, may_heads, may_start}
use Rattle.source_grammar.proofs.ViableRanges.{goes_to, viable_ranges, ranges_heads, ranges_start}
use Rattle.source_grammar.proofs.ViableOptions.{Bare, bare_heads, bare_start, viable_options}

-- ---- types

abbrev dots : Stream → Bool
dots s = sees (sign signs.Dot) s

viable_ty_of : {W : Piece → Type 0} → (w : Word) (o : Option FieldType) → Viable W Always (ty_of w o) (Unless dots)
viable_ty_of w (Some t) = viable_pure false (scalar t w.span) (λ s h. tt) (λ s h. tt)
viable_ty_of w None = viable_map (named_type None) (λ i a. true) (λ i a s h. h) (λ i a s h. h) (viable_parts w)

-- A type's name goes on behind a dot.
viable_ty : {W : Piece → Type 0} (H : Stream → Type 0) → Heads H → (at : Span) → ((s : Stream) → H (made_at at some_word ∷ s)) → Viable W H ty (Unless dots)
unfolding ty
viable_ty H heads at starts = viable_branch _ source (sign signs.Dot) H heads _
    (λ p. viable_then any_word (λ i w. viable_map (named_type (Some p)) (λ i a. true) (λ i a s h. h) (λ i a s h. h) (viable_parts w)))
    (viable_then (viable_word (Else H (sees (sign signs.Dot))) (λ x t u h. (heads x t u h.0, h.1)) at (λ s. (starts s, refl))) (λ i w. viable_ty_of w (scalar_of w.text)))

dots_heads : (i : Bool) → Heads (May dots i)
dots_heads i = may_heads dots (λ x t u. refl) i

viable_map_type : {W : Piece → Type 0} → (first : Span) → Viable W Always (map_type first) Any
unfolding map_type
viable_map_type first =
    viable_then (viable_ty Always (λ x t u h. h) start (λ s. tt)) (λ i k. viable_then (viable_expect (sign signs.Comma) (sign_written signs.Comma) (May dots i) (dots_heads i) refl (may_start dots (made (sign signs.Comma)) (λ s. refl) i)) (λ j q.
    viable_then (viable_ty Always (λ x t u h. h) start (λ s. tt)) (λ k v. viable_then (viable_expect (sign signs.RightAngleBracket) (sign_written signs.RightAngleBracket) (May dots k) (dots_heads k) refl (may_start dots (made (sign signs.RightAngleBracket)) (λ s. refl) k)) (λ l q. viable_end _))))

-- where a name `map` goes on no more
abbrev NoMap : Stream → Type 0
NoMap s = Unit {0} × (sees (sign signs.LeftAngleBracket) s ≡ false)

-- behind maps and scalar types, behind the name `map`, and behind other names
abbrev Kinds : Option Bool → Stream → Type 0
Kinds None = λ s. Unit {0}
Kinds (Some true) = λ s. NoMap s × (dots s ≡ false)
Kinds (Some false) = λ s. Unit {0} × (dots s ≡ false)

abbrev Kinded : {A : Type 0} → Option Bool → A → Stream → Type 0
Kinded i a = Kinds i

kinds_heads : (i : Option Bool) → Heads (Kinds i)
kinds_heads None = λ x t u h. tt
kinds_heads (Some true) = λ x t u h. h
kinds_heads (Some false) = λ x t u h. h

kinds_start : (i : Option Bool) (s : Stream) → Kinds i (made some_word ∷ s)
kinds_start None s = tt
kinds_start (Some true) s = ((tt, refl), refl)
kinds_start (Some false) s = (tt, refl)

mapped : {A : Type 0} (i : Bool) (a : A) (s : Stream) → NoPart NoMap i a s → Kinds (Some i) s
mapped true a s h = h
mapped false a s h = h

unmapped : {A : Type 0} (i : Bool) (a : A) (s : Stream) → Kinds (Some i) s → NoPart NoMap i a s
unmapped true a s h = h
unmapped false a s h = h

abbrev kind_of : Bool → Option Bool
kind_of true = Some false
kind_of false = None

typed : (i : Bool) (s : Stream) → May dots i s → Kinds (kind_of i) s
typed true s h = (tt, h)
typed false s h = tt

untyped : (i : Bool) (s : Stream) → Kinds (kind_of i) s → May dots i s
untyped true s h = h.1
untyped false s h = tt

module _ (H : Stream → Type 0) (heads : Heads H) (at : Span) where
  viable_map_or_name : {W : Piece → Type 0} → ((s : Stream) → H (made_at at (ident (codes "map")) ∷ s)) → Viable W H map_or_name Kinded
  unfolding map_or_name
  viable_map_or_name starts = viable_then (viable_word_as H heads (codes "map") map_written at starts) (λ i w. viable_branch _ source (sign signs.LeftAngleBracket) Always (λ x t u h. h) (map_by w)
      (λ p. viable_map map_kind (λ i a. None) (λ i a s h. tt) (λ i a s h. tt) (viable_map_type w.span))
      (viable_map (λ parts. normal (named_type None parts)) (λ i a. Some i) mapped unmapped (viable_parts_in NoMap (λ x t u h. h) w)))

module _ (H : Stream → Type 0) (heads : Heads H) (at : Span) where
  viable_field_type : {W : Piece → Type 0} → ((s : Stream) → H (made_at at (ident (codes "map")) ∷ s)) → ((s : Stream) → H (made_at at some_word ∷ s)) → Viable W H field_type Kinded
  unfolding field_type
  viable_field_type map_starts starts = viable_choose (sees (ident (codes "map")))
      (viable_map_or_name (If H (sees (ident (codes "map")))) (λ x t u h. (heads x t u h.0, h.1)) at (λ s. (map_starts s, refl))).held
      (viable_map normal (λ i a. kind_of i) (λ i a s h. typed i s h) (λ i a s h. untyped i s h)
      (viable_ty (Else H (sees (ident (codes "map")))) (λ x t u h. (heads x t u h.0, h.1)) at (λ s. (starts s, refl))))

-- behind ranges
abbrev Behind : Bool → Stream → Type 0
Behind i s = May goes_to i s × (sees (sign signs.Comma) s ≡ false)

pub viable_extensions : {W : Piece → Type 0} (H : Stream → Type 0) → Heads H → ((s : Stream) → H (made (ident (codes "extensions")) ∷ s)) → Viable W H extensions Any
unfolding extensions
viable_extensions H heads starts =
    viable_then (viable_expect (ident (codes "extensions")) extensions_written H heads refl starts) (λ i p. viable_then (viable_ranges Always (λ x t u h. h) (λ s. tt)) (λ j rs.
    viable_then (viable_options (Behind j.0) (ranges_heads j.0)) (λ k os.
    viable_then (viable_expect (sign signs.Semicolon) (sign_written signs.Semicolon) (Bare (Behind j.0) k) (bare_heads (Behind j.0) (ranges_heads j.0) k) refl
    (bare_start (Behind j.0) (made (sign signs.Semicolon)) (ranges_start (made (sign signs.Semicolon)) (λ s. refl) (λ s. refl) j.0) (λ s. refl) k)) (λ l q. viable_end _))))

-- ---- labels

-- Where no label stands, none of its words comes next.
abbrev pub NoLabel : (Stream → Type 0) → Bool → Stream → Type 0
NoLabel H true = λ s. ((H s × (sees (ident (codes "optional")) s ≡ false)) × (sees (ident (codes "required")) s ≡ false)) × (sees (ident (codes "repeated")) s ≡ false)
NoLabel H false = λ s. Unit {0}

abbrev pub Labels : {A : Type 0} → (Stream → Type 0) → Bool → A → Stream → Type 0
Labels H i a = NoLabel H i

pub label_heads : (H : Stream → Type 0) → Heads H → (i : Bool) → Heads (NoLabel H i)
label_heads H heads true = λ x t u h. (((heads x t u h.0.0.0, h.0.0.1), h.0.1), h.1)
label_heads H heads false = λ x t u h. tt

pub viable_label : {W : Piece → Type 0} (H : Stream → Type 0) → Heads H → Viable W H label (Labels H)
unfolding label
viable_label H heads =
    viable_branch _ source (ident (codes "optional")) H heads optional_if (λ at. viable_pure false _ (λ s h. tt) (λ s h. tt))
    (viable_branch _ source (ident (codes "required")) (Else H (sees (ident (codes "optional")))) (λ x t u h. (heads x t u h.0, h.1)) required_if (λ at. viable_pure false _ (λ s h. tt) (λ s h. tt))
    (viable_branch _ source (ident (codes "repeated")) (Else (Else H (sees (ident (codes "optional")))) (sees (ident (codes "required")))) (λ x t u h. ((heads x t u h.0.0, h.0.1), h.1)) repeated_if (λ at. viable_pure false _ (λ s h. tt) (λ s h. tt))
    (viable_pure true None (λ s h. h) (λ s h. h))))

-- ---- fields

-- what stands there begins here
abbrev pub From : (Stream → Type 0) → Span → Stream → Type 0
From H at s = H s × (span_of (peek source s) ≡ at)

abbrev pub Placed : (Stream → Type 0) → Unit {0} → Span → Stream → Type 0
Placed H i at = From H at

pub viable_here : {W : Piece → Type 0} (H : Stream → Type 0) → Viable W H here (Placed H)
viable_here H = record {
  begin = record { more = []; stand = tt; kind = tt; value = start; reads = λ s g. (g.0, ap (λ at. Ok (at, s)) g.1) };
  held = record { at = λ ts h. record { front = []; whole = refl; kind = tt; told = (h, refl); reads = λ s g. (g.0, ap (λ at. Ok (at, s)) g.1) } };
}

-- A field behind its label; the word that is put there where its type is missing stands at this place.
pub viable_plain_field : {W : Piece → Type 0} (H : Stream → Type 0) → Heads H → (at : Span) → ((s : Stream) → H (made_at at (ident (codes "map")) ∷ s)) → ((s : Stream) → H (made_at at some_word ∷ s)) → (first : Span) (l : Labelled) → Viable W H (plain_field first l) Any
unfolding plain_field
viable_plain_field H heads at map_starts starts first l =
    viable_then (viable_field_type H heads at map_starts starts) (λ i k. viable_then (viable_word (Kinds i) (kinds_heads i) start (kinds_start i)) (λ j name.
    viable_then (viable_expect (sign signs.Equals) (sign_written signs.Equals) Always (λ x t u h. h) refl (λ s. tt)) (λ k e. viable_then (viable_int Always (λ x t u h. h) (λ s. tt)) (λ l n.
    viable_then (viable_options Always (λ x t u h. h)) (λ m os. viable_then (viable_expect (sign signs.Semicolon) (sign_written signs.Semicolon) (Bare Always m) (bare_heads Always (λ x t u h. h) m) refl
    (bare_start Always (made (sign signs.Semicolon)) (λ s. tt) (λ s. refl) m)) (λ n q. viable_end _))))))
