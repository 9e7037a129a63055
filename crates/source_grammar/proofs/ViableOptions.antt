-- Options tell their faults at the first token with which nothing goes on.
use Rattle.std.proofs.Common.{[], ◌≡◌, ◌^◌, nat_le, Bool, true, false, ◌∷◌, Some, None, Err, refl}
use Rattle.std.specs.Prelude.{codes, if◌then◌else◌}
use Rattle.protox_lex.specs.Token.{ident, sign}
use Rattle.protox_lex.specs.declared.error.LexErrorKind.TheVariants as kinds
use Rattle.protox_lex.specs.declared.literal.Int.{Int}
use Rattle.protox_lex.specs.declared.span.Span.{Span}
use Rattle.protox_lex.specs.declared.token.Sign.TheVariants as signs
use Rattle.protox_options.specs.OptionGrammar.{in_parens, part_after, name_part, name, plain_of, negative_of, in_range, negative, plain_value, signed_or_plain, value, body, option, bodies, in_brackets, options_after, options}
use Rattle.protox_options.proofs.OptionLaws.{name_turns, body_turns}
use Rattle.protox_tokens.specs.Stream.{Piece, Stream, source}
use Rattle.protox_tokens.specs.Parser.{Parser, sees, is_string, pure}
use Rattle.protox_tokens.specs.Refusal.{an_option_value, a_number, lex_fault}
use Rattle.protox_tokens.specs.Span.{across}
use Rattle.protox_tokens.proofs.Both.{Always}
use Rattle.protox_tree.specs.Tree.{plain, Value, word_value, minus_word, int_value, float_value, strings_value, braces_value}
use Rattle.source_grammar.proofs.ViableTokens.{int_written, option_written, sign_written}
use Rattle.source_grammar.proofs.Viable.{Went, Viable, viable_then, viable_pure, Any, viable_end, viable_map, viable_made}
use Rattle.source_grammar.proofs.ViableForms.{viable_kind, viable_choose}
use Rattle.source_grammar.proofs.ViableSteps.{Heads, made, viable_one, viable_checked, viable_expect, viable_branch}
use Rattle.source_grammar.proofs.ViableLoops.{Listed, viable_some_by}
use Rattle.source_grammar.proofs.ViableNames.{some_int, start, viable_word, viable_type_name, viable_strings, May, Unless, may_heads, may_start}
use Rattle.source_grammar.proofs.ViableAggregates.{viable_aggregate}

-- ---- names

viable_in_parens : {W : Piece → Type 0} → (p : Span) → Viable W Always (in_parens p) Any
unfolding in_parens
viable_in_parens p = viable_then (viable_type_name Always (λ x t u h. h) (λ s. tt)) (λ i n.
    viable_then (viable_expect (sign signs.RightParen) (sign_written signs.RightParen) (λ s. sees (sign signs.Dot) s ≡ false) (λ x t u h. h) refl (λ s. refl)) (λ j q. viable_end _))

viable_name_part : {W : Piece → Type 0} → Viable W Always name_part Any
unfolding name_part
viable_name_part = viable_branch _ source (sign signs.LeftParen) Always (λ x t u h. h) part_after
    (λ p. viable_made _ (viable_in_parens p)) (viable_made plain (viable_word (λ s. Unit {0} × (sees (sign signs.LeftParen) s ≡ false)) (λ x t u h. h) start (λ s. (tt, refl))))

viable_name : {W : Piece → Type 0} → Viable W Always name (Listed (sign signs.Dot) Any)
unfolding name
viable_name = viable_some_by (sign signs.Dot) (λ j a x t u h. h) name_turns viable_name_part viable_name_part

-- ---- values

-- the integer 1 behind a minus
abbrev minus_one : Span → Int
minus_one minus = record { negative = true; value = 1; span = across minus start }

abbrev in_range_if : Int → Bool → Parser Value
in_range_if n small = if small then pure (int_value n) else (λ ts. Err (lex_fault kinds.IntegerOutOfRange n.span))

-- A value behind a minus is refused only for what it is, and the one that is put there is small.
ranged_by : (W : Piece → Type 0) (n : Int) (small : Bool) (r : Stream) → Went W Always (in_range_if n small) (Unless is_string) r (in_range_if n small r)
ranged_by W n true r = (viable_pure {W = W} {H = Always} {G = Unless is_string} false (int_value n) (λ s h. tt) (λ s h. tt)).held.at r tt
ranged_by W n false r = tt

ranged : (W : Piece → Type 0) (v : Value) (r : Stream) → Went W Always (in_range v) (Unless is_string) r (in_range v r)
ranged W (int_value n) r = ranged_by W n (nat_le n.value (2 ^ 63)) r
ranged W (word_value w) r = (viable_pure {W = W} {H = Always} {G = Unless is_string} false (word_value w) (λ s h. tt) (λ s h. tt)).held.at r tt
ranged W (minus_word w) r = (viable_pure {W = W} {H = Always} {G = Unless is_string} false (minus_word w) (λ s h. tt) (λ s h. tt)).held.at r tt
ranged W (float_value n w) r = (viable_pure {W = W} {H = Always} {G = Unless is_string} false (float_value n w) (λ s h. tt) (λ s h. tt)).held.at r tt
ranged W (strings_value w) r = (viable_pure {W = W} {H = Always} {G = Unless is_string} false (strings_value w) (λ s h. tt) (λ s h. tt)).held.at r tt
ranged W (braces_value w at) r = (viable_pure {W = W} {H = Always} {G = Unless is_string} false (braces_value w at) (λ s h. tt) (λ s h. tt)).held.at r tt

viable_negative : {W : Piece → Type 0} → (minus : Span) → Viable W Always (negative minus) (Unless is_string)
unfolding negative
viable_negative minus = viable_checked _ source a_number (λ t at. negative_of t (across minus at)) Always (λ x t u h. h) (made some_int) (int_value (minus_one minus)) refl int_written (λ s. tt) in_range (Unless is_string)
    (record { more = []; stand = tt; kind = false; value = int_value (minus_one minus); reads = λ s g. (tt, refl) }) (ranged _)

viable_plain_value : {W : Piece → Type 0} (H : Stream → Type 0) → Heads H → ((s : Stream) → H (made some_int ∷ s)) → Viable W H plain_value (Unless is_string)
unfolding plain_value
viable_plain_value H heads starts = viable_kind (λ i a. false) (λ i a s h. tt) (λ i a s h. tt)
    (viable_one _ source an_option_value plain_of H heads (made some_int) (int_value (record { negative = false; value = 1; span = start })) refl int_written starts)

abbrev Unsigned : Stream → Type 0
Unsigned s = (Unit {0} × (is_string s ≡ false)) × (sees (sign signs.Minus) s ≡ false)

viable_value : {W : Piece → Type 0} → Viable W Always value (Unless is_string)
unfolding value
viable_value = viable_choose is_string
    (viable_map strings_value (λ i a. true) (λ i a s h. h) (λ i a s h. h) (viable_strings (λ s. Unit {0} × (is_string s ≡ true)) (λ x t u h. h) (λ s. (tt, refl)))).held
    (viable_branch _ source (sign signs.Minus) (λ s. Unit {0} × (is_string s ≡ false)) (λ x t u h. h) signed_or_plain viable_negative
    (viable_choose (sees (sign signs.LeftBrace))
    (viable_map _ (λ i a. false) (λ i a s h. tt) (λ i a s h. tt) (viable_aggregate (λ s. Unsigned s × (sees (sign signs.LeftBrace) s ≡ true)) (λ x t u h. h) (λ s. (((tt, refl), refl), refl)))).held
    (viable_plain_value (λ s. Unsigned s × (sees (sign signs.LeftBrace) s ≡ false)) (λ x t u h. h) (λ s. (((tt, refl), refl), refl)))))

-- ---- options

viable_body : {W : Piece → Type 0} → Viable W Always body (Unless is_string)
unfolding body
viable_body = viable_then viable_name (λ i n.
    viable_then (viable_expect (sign signs.Equals) (sign_written signs.Equals) (λ s. Unit {0} × (sees (sign signs.Dot) s ≡ false)) (λ x t u h. h) refl (λ s. (tt, refl))) (λ j q.
    viable_then viable_value (λ k v. viable_pure k _ (λ s h. h) (λ s h. h))))

pub viable_option : {W : Piece → Type 0} (H : Stream → Type 0) → Heads H → ((s : Stream) → H (made (ident (codes "option")) ∷ s)) → Viable W H option Any
unfolding option
viable_option H heads starts = viable_then (viable_expect (ident (codes "option")) option_written H heads refl starts) (λ i p. viable_then viable_body (λ j b.
    viable_then (viable_expect (sign signs.Semicolon) (sign_written signs.Semicolon) (May is_string j) (may_heads is_string (λ x t u. refl) j) refl (may_start is_string (made (sign signs.Semicolon)) (λ s. refl) j)) (λ k q. viable_end _)))

viable_bodies : {W : Piece → Type 0} → Viable W Always bodies (Listed (sign signs.Comma) (Unless is_string))
unfolding bodies
viable_bodies = viable_some_by (sign signs.Comma) (λ j a. may_heads is_string (λ x t u. refl) j) body_turns viable_body viable_body

listed_heads : (i : Bool) → Heads (λ s. May is_string i s × (sees (sign signs.Comma) s ≡ false))
listed_heads true = λ x t u h. h
listed_heads false = λ x t u h. h

viable_in_brackets : {W : Piece → Type 0} → (p : Span) → Viable W Always (in_brackets p) Any
unfolding in_brackets
viable_in_brackets p = viable_then viable_bodies (λ i bs.
    viable_then (viable_expect (sign signs.RightBracket) (sign_written signs.RightBracket) (λ s. May is_string i.0 s × (sees (sign signs.Comma) s ≡ false)) (listed_heads i.0) refl (λ s. (may_start is_string (made (sign signs.RightBracket)) (λ s. refl) i.0 s, refl))) (λ j q. viable_end _))

-- Where no options stand, no bracket follows.
abbrev pub Bare : (Stream → Type 0) → Bool → Stream → Type 0
Bare H true = λ s. H s × (sees (sign signs.LeftBracket) s ≡ false)
Bare H false = λ s. Unit {0}

abbrev pub Optional : {A : Type 0} → (Stream → Type 0) → Bool → A → Stream → Type 0
Optional H i a = Bare H i

pub bare_heads : (H : Stream → Type 0) → Heads H → (i : Bool) → Heads (Bare H i)
bare_heads H heads true = λ x t u h. (heads x t u h.0, h.1)
bare_heads H heads false = λ x t u h. tt

pub bare_start : (H : Stream → Type 0) (k : Piece) → ((s : Stream) → H (k ∷ s)) → ((s : Stream) → sees (sign signs.LeftBracket) (k ∷ s) ≡ false) → (i : Bool) (s : Stream) → Bare H i (k ∷ s)
bare_start H k starts none true s = (starts s, none s)
bare_start H k starts none false s = tt

pub viable_options : {W : Piece → Type 0} (H : Stream → Type 0) → Heads H → Viable W H options (Optional H)
unfolding options
viable_options H heads = viable_branch _ source (sign signs.LeftBracket) H heads options_after
    (λ p. viable_map Some (λ i a. false) (λ i a s h. tt) (λ i a s h. tt) (viable_in_brackets p)) (viable_pure true None (λ s h. h) (λ s h. h))
