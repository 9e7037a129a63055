-- Names and scalars in braces tell their faults at the first token with which nothing goes on.
use Rattle.std.proofs.Common.{◌≡◌, Bool, true, false, ◌∷◌, Some, refl}
use Rattle.protox_aggregates.specs.AggregateGrammar.{must, is_ident, is_literal, is_plain, an_ident_as, dotted, dotted_if, behind_slash, bracketed_if, field_name, a_literal, literals, a_plain, scalar}
use Rattle.protox_aggregates.proofs.AggregateLaws.{dotted_turns, literals_turns}
use Rattle.protox_lex.specs.Token.{Token, sign}
use Rattle.protox_lex.specs.declared.token.Sign.{Sign}
use Rattle.protox_lex.specs.declared.token.Sign.TheVariants as signs
use Rattle.protox_tokens.specs.Stream.{Piece, Stream, text, look}
use Rattle.protox_tokens.specs.Parser.{is, value_of, sees_in, is_string_in, behind_in, when}
use Rattle.protox_tokens.specs.Refusal.{Expected, an_ident, a_string, a_field_name, a_field_value}
use Rattle.protox_tokens.proofs.Both.{Always}
use Rattle.source_grammar.proofs.ViableTokens.{a_written, int_written, sign_written, string_written}
use Rattle.source_grammar.proofs.Viable.{Viable, viable_then, viable_pure, Any, viable_end}
use Rattle.source_grammar.proofs.ViableForms.{viable_kind, viable_choose}
use Rattle.source_grammar.proofs.ViableSteps.{Heads, made, viable_one, viable_expect_in, viable_fork}
use Rattle.source_grammar.proofs.ViableLoops.{Free, viable_loop, viable_behind, viable_when, stops_behind, stops_when}
use Rattle.source_grammar.proofs.ViableNames.{some_word, some_int, some_string, start, May, Unless, may_heads, may_start}

abbrev pub Not : Sign → Stream → Type 0
Not k s = sees_in text (sign k) s ≡ false

abbrev pub strings_on : Stream → Bool
strings_on s = is_string_in text s

pub strings_start : (t : Token) → ((s : Stream) → strings_on (made t ∷ s) ≡ false) → (i : Bool) (s : Stream) → May strings_on i (made t ∷ s)
strings_start t differs i s = may_start strings_on (made t) differs i s

pub strings_heads : (i : Bool) → Heads (May strings_on i)
strings_heads i = may_heads strings_on (λ x t u. refl) i

-- ---- tokens

pub viable_must : {W : Piece → Type 0} → (k : Sign) (H : Stream → Type 0) → Heads H → value_of (is (sign k)) (look text (made (sign k))) ≡ Some start → ((s : Stream) → H (made (sign k) ∷ s)) → Viable W H (must k) Any
viable_must k H heads seen starts = viable_then (viable_expect_in text (sign k) (sign_written k) H heads seen starts) (λ i at. viable_end tt)

viable_ident_as : {W : Piece → Type 0} → (e : Expected) (H : Stream → Type 0) → Heads H → ((s : Stream) → H (made some_word ∷ s)) → Viable W H (an_ident_as e) Any
unfolding an_ident_as
viable_ident_as e H heads starts = viable_one _ text e is_ident H heads (made some_word) tt refl a_written starts

-- ---- names and scalars

abbrev Undotted : Unit {0} → Unit {0} → Stream → Type 0
Undotted i a = λ s. Not signs.Dot s

viable_dotted : {W : Piece → Type 0} → Viable W Always dotted Undotted
unfolding dotted
viable_dotted = viable_then (viable_ident_as an_ident Always (λ x t u h. h) (λ s. tt)) (λ i x. viable_then
    (viable_loop Free (λ s. Not signs.Dot s) _ (behind_in text (sign signs.Dot) (an_ident_as an_ident)) dotted_turns
    (λ i. viable_behind text (sign signs.Dot) Free (λ j a. tt) (λ j a s h. tt) (λ j a s h. tt) (viable_ident_as an_ident Always (λ x t u h. h) (λ s. tt)) i (λ x t u h. h)) (λ i s h e. stops_behind text (sign signs.Dot) (an_ident_as an_ident) s e) tt)
    (λ i xs. viable_pure tt tt (λ s h. h.1) (λ s h. (tt, h))))

-- behind a slash and a name, and where there is none
abbrev Slashed : Bool → Stream → Type 0
Slashed true = λ s. Not signs.Dot s
Slashed false = λ s. Not signs.Dot s × Not signs.ForwardSlash s

abbrev Named : Bool → Unit {0} → Stream → Type 0
Named i a = Slashed i

slashed_heads : (i : Bool) → Heads (Slashed i)
slashed_heads true = λ x t u h. h
slashed_heads false = λ x t u h. h

slashed_start : (i : Bool) (s : Stream) → Slashed i (made (sign signs.RightBracket) ∷ s)
slashed_start true s = refl
slashed_start false s = (refl, refl)

viable_slash : {W : Piece → Type 0} → Viable W (λ s. Not signs.Dot s) behind_slash Named
unfolding behind_slash
viable_slash = viable_fork _ text (sign signs.ForwardSlash) (λ s. Not signs.Dot s) (λ x t u h. h) dotted_if
    (viable_kind (λ i a. true) (λ i a s h. h) (λ i a s h. h) viable_dotted) (viable_pure false tt (λ s h. h) (λ s h. h))

viable_bracketed : {W : Piece → Type 0} → Viable W Always (bracketed_if true) Any
viable_bracketed = viable_then (viable_then viable_dotted (λ i x. viable_slash)) (λ i x. viable_must signs.RightBracket (Slashed i) (slashed_heads i) refl (slashed_start i))

pub viable_field_name : {W : Piece → Type 0} (H : Stream → Type 0) → Heads H → ((s : Stream) → H (made some_word ∷ s)) → Viable W H field_name Any
unfolding field_name
viable_field_name H heads starts = viable_fork _ text (sign signs.LeftBracket) H heads bracketed_if
    viable_bracketed (viable_ident_as a_field_name (λ s. H s × Not signs.LeftBracket s) (λ x t u h. (heads x t u h.0, h.1)) (λ s. (starts s, refl)))

viable_literal : {W : Piece → Type 0} (H : Stream → Type 0) → Heads H → ((s : Stream) → H (made some_string ∷ s)) → Viable W H a_literal Any
unfolding a_literal
viable_literal H heads starts = viable_one _ text a_string is_literal H heads (made some_string) tt refl string_written starts

viable_literals : {W : Piece → Type 0} (H : Stream → Type 0) → Heads H → ((s : Stream) → H (made some_string ∷ s)) → Viable W H literals (Unless strings_on)
unfolding literals
viable_literals H heads starts = viable_then (viable_literal H heads starts) (λ i x. viable_then
    (viable_loop Free (λ s. strings_on s ≡ false) _ (when strings_on a_literal) literals_turns
    (λ i. viable_when strings_on Free (λ j a. tt) (λ j a s h. tt) (λ j a s h. tt) i (viable_literal (λ s. Unit {0} × (strings_on s ≡ true)) (λ x t u h. h) (λ s. (tt, refl)))) (λ i s h e. stops_when strings_on a_literal s e) tt)
    (λ i xs. viable_pure true tt (λ s h. h.1) (λ s h. (tt, h))))

viable_plain : {W : Piece → Type 0} (H : Stream → Type 0) → Heads H → ((s : Stream) → H (made some_int ∷ s)) → Viable W H a_plain (Unless strings_on)
unfolding a_plain
viable_plain H heads starts = viable_kind (λ i a. false) (λ i a s h. tt) (λ i a s h. tt) (viable_one _ text a_field_value is_plain H heads (made some_int) tt refl int_written starts)

-- A scalar that is a string goes on with a literal.
pub viable_scalar : {W : Piece → Type 0} (H : Stream → Type 0) → Heads H → ((s : Stream) → H (made some_string ∷ s)) → ((s : Stream) → H (made some_int ∷ s)) → Viable W H scalar (Unless strings_on)
unfolding scalar
viable_scalar H heads text_starts starts = viable_choose strings_on
    (viable_literals (λ s. H s × (strings_on s ≡ true)) (λ x t u h. (heads x t u h.0, h.1)) (λ s. (text_starts s, refl))).held
    (viable_fork _ text (sign signs.Minus) (λ s. H s × (strings_on s ≡ false)) (λ x t u h. (heads x t u h.0, h.1)) (λ b. a_plain)
    (viable_plain Always (λ x t u h. h) (λ s. tt))
    (viable_plain (λ s. (H s × (strings_on s ≡ false)) × Not signs.Minus s) (λ x t u h. ((heads x t u h.0.0, h.0.1), h.1)) (λ s. ((starts s, refl), refl))))
