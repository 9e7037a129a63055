-- What stands in braces tells its faults at the first token with which nothing goes on, where braces in it do.
use Rattle.std.proofs.Common.{[], ◌≡◌, Bool, true, false, not, List, ◌∷◌, Option, Some, None, Ok, Err, refl, ap, sym, subst, ◌∙◌}
use Rattle.std.specs.Prelude.{if◌then◌else◌, is_some}
use Rattle.protox_aggregates.specs.AggregateGrammar.{Passes, passes, opens, semicolon_unless, separator, value_with, elements_unless, list_with, list_or_value, behind_colon, field_value_with, field_with, fields_with}
use Rattle.protox_aggregates.proofs.AggregateLaws.{list_turns, fields_turns}
use Rattle.protox_lex.specs.Token.{Token, sign}
use Rattle.protox_lex.specs.declared.span.Span.{Span}
use Rattle.protox_lex.specs.declared.token.Sign.{Sign}
use Rattle.protox_lex.specs.declared.token.Sign.TheVariants as signs
use Rattle.protox_tokens.specs.Stream.{Piece, Stream, text, look}
use Rattle.protox_tokens.specs.Parser.{◌>>=◌, ◌>>◌, pure, same, is, value_of, saw, sees_in, eaten, eat_in, behind_in, until_in, done}
use Rattle.protox_tokens.specs.Refusal.{a_message_value, refusal}
use Rattle.protox_tokens.proofs.Local.{Local, SameHead, same_start, of_head-sees_in}
use Rattle.protox_tokens.proofs.Both.{Always, then_ok}
use Rattle.source_grammar.proofs.Ahead.{one_seen, seen_no_string}
use Rattle.source_grammar.proofs.ViableTokens.{sign_written}
use Rattle.source_grammar.proofs.Viable.{Goes, Went, Held, Viable, goes_then, then_at, viable_then, viable_pure, Any, viable_end}
use Rattle.source_grammar.proofs.ViableForms.{viable_kind, held_kind, went_as, viable_choose}
use Rattle.source_grammar.proofs.ViableSteps.{Heads, made, went_refused, eats_none, viable_fork}
use Rattle.source_grammar.proofs.ViableLoops.{viable_loop, viable_behind, viable_when, stops_behind, stops_when}
use Rattle.source_grammar.proofs.ViableNames.{some_word, some_int, some_string, start, May, Unless}
use Rattle.source_grammar.proofs.ViableScalars.{Not, strings_on, strings_start, strings_heads, viable_must, viable_field_name, viable_scalar}

-- none of these signs comes next
abbrev pub Without : List Sign → Stream → Type 0
Without [] = λ s. Unit {0}
Without (k ∷ ks) = λ s. Without ks s × Not k s

pub without_heads : (ks : List Sign) → Heads (Without ks)
without_heads [] = λ x t u h. tt
without_heads (k ∷ ks) = λ x t u h. (without_heads ks x t u h.0, h.1)

without_start : (t : Token) → ((k : Sign) → same t (sign k) ≡ false) → (ks : List Sign) (s : Stream) → Without ks (made t ∷ s)
without_start t differs [] s = tt
without_start t differs (k ∷ ks) s = (without_start t differs ks s, ap (λ b. is_some (if b then Some start else None)) (differs k))

-- Braces are refused at once where none opens, and else behind the one that does.
pub record Inner (W : Piece → Type 0) (inner : Passes) : Type 0 where
  pub opened : (ks : List Sign) → Held W (λ s. Without ks s × (opens s ≡ true)) inner Any
  pub closed : (ts : Stream) → opens ts ≡ false → inner ts ≡ Err (refusal text a_message_value ts)

-- what follows a field with a separator, and one without, whose value is a string or is none
abbrev Apart : Option Bool → Stream → Type 0
Apart None = λ s. Unit {0}
Apart (Some i) = λ s. (May strings_on i s × Not signs.Comma s) × Not signs.Semicolon s

abbrev Separated : Option Bool → Unit {0} → Stream → Type 0
Separated i a = Apart i

viable_separator : {W : Piece → Type 0} → (i : Bool) → Viable W (May strings_on i) separator Separated
unfolding separator
viable_separator i = viable_fork _ text (sign signs.Comma) (May strings_on i) (strings_heads i) semicolon_unless
    (viable_pure None tt (λ s h. tt) (λ s h. tt))
    (viable_fork _ text (sign signs.Semicolon) (λ s. May strings_on i s × Not signs.Comma s) (λ x t u h. (strings_heads i x t u h.0, h.1)) (λ b. done)
    (viable_pure None tt (λ s h. tt) (λ s h. tt)) (viable_pure (Some i) tt (λ s h. h) (λ s h. h)))

apart_heads : (i : Option Bool) → Heads (Apart i)
apart_heads None = λ x t u h. tt
apart_heads (Some i) = λ x t u h. ((strings_heads i x t u h.0.0, h.0.1), h.1)

apart_start : (i : Option Bool) (s : Stream) → Apart i (made some_word ∷ s)
apart_start None s = tt
apart_start (Some i) s = ((strings_start some_word (λ s. refl) i s, refl), refl)

not_false : (b : Bool) → not b ≡ false → b ≡ true
not_false true e = refl
not_false false e = absurd cc

module _ (W : Piece → Type 0) (inner : Passes) (local : Local inner) (rule : Inner W inner) where
  viable_value : (ks : List Sign) → Viable W (Without ks) (value_with inner) (Unless strings_on)
  unfolding value_with
  viable_value ks = viable_choose opens (held_kind (λ i a. false) (λ i a s h. tt) (λ i a s h. tt) (rule.opened ks))
      (viable_scalar (λ s. Without ks s × (opens s ≡ false)) (λ x t u h. (without_heads ks x t u h.0, h.1)) (λ s. (without_start some_string (λ k. refl) ks s, refl)) (λ s. (without_start some_int (λ k. refl) ks s, refl)))

  element_turn : (i : Bool) → Heads (λ s. May strings_on i s × Not signs.Comma s)
  element_turn i = λ x t u h. (strings_heads i x t u h.0, h.1)

  viable_elements : Viable W (Without (signs.RightBracket ∷ [])) (elements_unless inner false) Any
  viable_elements = viable_then
      (viable_then (viable_value (signs.RightBracket ∷ [])) (λ i x. viable_then
      (viable_loop (May strings_on) (λ s. Not signs.Comma s) _ (behind_in text (sign signs.Comma) (value_with inner)) (list_turns inner local)
      (λ i. viable_behind text (sign signs.Comma) (May strings_on) (λ j a. j) (λ j a s h. h) (λ j a s h. h) (viable_value []) i (strings_heads i)) (λ i s h e. stops_behind text (sign signs.Comma) (value_with inner) s e) i)
      (λ j xs. viable_pure {G = λ (j : Bool) (a : Unit {0}) s. May strings_on j s × Not signs.Comma s} j tt (λ s h. h) (λ s h. h))))
      (λ j x. viable_must signs.RightBracket (λ s. May strings_on j s × Not signs.Comma s) (element_turn j) refl (λ s. (strings_start (sign signs.RightBracket) (λ s. refl) j s, refl)))

  viable_list : Viable W Always (list_with inner) Any
  unfolding list_with
  viable_list = viable_fork _ text (sign signs.RightBracket) Always (λ x t u h. h) (elements_unless inner) (viable_end tt) viable_elements

  viable_colon : Viable W Always (behind_colon inner true) (Unless strings_on)
  viable_colon = viable_fork _ text (sign signs.LeftBracket) Always (λ x t u h. h) (list_or_value inner)
      (viable_kind (λ i a. false) (λ i a s h. tt) (λ i a s h. tt) viable_list) (viable_value (signs.LeftBracket ∷ []))

  -- Where neither a colon nor a brace stands behind a field's name, a colon may.

  colon_read : (l : Piece) (at : Span) → value_of (is (sign signs.Colon)) (look text l) ≡ Some at → (s : Stream) → passes signs.Colon (l ∷ s) ≡ Ok (true, s)
  unfolding eat_in
  colon_read l at e s = then_ok (λ o. pure (is_some o)) (ap (λ o. eaten o (l ∷ s)) e) refl

  no_colon : (s : Stream) → Not signs.Colon s → (passes signs.Colon >>= behind_colon inner) s ≡ inner s
  no_colon s e = then_ok (behind_colon inner) (then_ok (λ o. pure (is_some o)) (eats_none text (sign signs.Colon) s e) refl) refl

  abbrev Colon : Unit {0} → Bool → Stream → Type 0
  Colon i b = λ s. Unit {0}

  colon_goes : Goes Always (passes signs.Colon >>= behind_colon inner) (Unless strings_on) []
  colon_goes = goes_then W Always (passes signs.Colon) Colon (behind_colon inner) (Unless strings_on) []
      (record { more = made (sign signs.Colon) ∷ []; stand = (sign_written signs.Colon, tt); kind = tt; value = true; reads = λ s g. (tt, colon_read (made (sign signs.Colon)) start refl s) }) viable_colon.begin

  behind_it : (l : Piece) (ts : Stream) (at : Span) → value_of (is (sign signs.Colon)) (look text l) ≡ Some at → Went W Always (passes signs.Colon >>= behind_colon inner) (Unless strings_on) (l ∷ ts) ((passes signs.Colon >>= behind_colon inner) (l ∷ ts))
  behind_it l ts at e = subst (Went W Always (passes signs.Colon >>= behind_colon inner) (Unless strings_on) (l ∷ ts)) (sym (then_ok (behind_colon inner) (colon_read l at e ts) refl))
      (then_at W Always (passes signs.Colon) Colon (behind_colon inner) (Unless strings_on) (l ∷ ts) ts true
      (record { front = l ∷ []; whole = refl; kind = tt; told = tt; reads = λ s g. (tt, colon_read l at e s) }) (behind_colon inner true ts) (viable_colon.held.at ts tt))

  refused : (ts s : Stream) → SameHead ts s → Not signs.Colon ts → opens ts ≡ false → (passes signs.Colon >>= behind_colon inner) s ≡ Err (refusal text a_message_value s)
  refused ts s h e o = no_colon s (sym ((of_head-sees_in text (sign signs.Colon)).at ts s h) ∙ e) ∙ rule.closed s (sym (same_start opens ts s (λ x t u. refl) h) ∙ o)

  without_it : (ts : Stream) → Not signs.Colon ts → (b : Bool) → opens ts ≡ b → Went W Always (passes signs.Colon >>= behind_colon inner) (Unless strings_on) ts (inner ts)
  without_it ts e true o = went_as W (Unless strings_on) (λ s h. (tt, no_colon s h.0.1)) ts (inner ts) ((held_kind (λ i a. false) (λ i a s h. tt) (λ i a s h. tt) (rule.opened (signs.Colon ∷ []))).at ts ((tt, e), o))
  without_it ts e false o = subst (Went W Always (passes signs.Colon >>= behind_colon inner) (Unless strings_on) ts) (sym (rule.closed ts o)) (went_refused W text a_message_value ts (λ s h. (tt, refused ts s h e o)) colon_goes)

  colon_at : (ts : Stream) (o : Option Span) → saw text (sign signs.Colon) ts ≡ o → Went W Always (passes signs.Colon >>= behind_colon inner) (Unless strings_on) ts ((passes signs.Colon >>= behind_colon inner) ts)
  colon_at ts None e = subst (Went W Always (passes signs.Colon >>= behind_colon inner) (Unless strings_on) ts) (sym (no_colon ts (ap is_some e))) (without_it ts (ap is_some e) (opens ts) refl)
  colon_at [] (Some at) e = absurd cc
  colon_at (l ∷ ts) (Some at) e = behind_it l ts at e

  viable_field_value : Viable W Always (field_value_with inner) (Unless strings_on)
  unfolding field_value_with
  viable_field_value = record { begin = colon_goes; held = record { at = λ ts h. colon_at ts (saw text (sign signs.Colon) ts) refl } }

  viable_field : (H : Stream → Type 0) → Heads H → ((s : Stream) → H (made some_word ∷ s)) → Viable W H (field_with inner) Separated
  unfolding field_with
  viable_field H heads starts = viable_then (viable_then (viable_field_name H heads starts) (λ i x. viable_field_value)) (λ i x. viable_separator i)

  -- fields up to a brace that is no separator
  module _ (close : Sign) (no_comma : same (sign close) (sign signs.Comma) ≡ false) (no_semicolon : same (sign close) (sign signs.Semicolon) ≡ false) where
    abbrev goes_on_here : Stream → Bool
    goes_on_here ts = not (sees_in text (sign close) ts)

    abbrev pub Shut : Stream → Type 0
    Shut s = goes_on_here s ≡ false

    shut_apart : (i : Option Bool) (s : Stream) → Shut s → Apart i s
    shut_apart None s h = tt
    shut_apart (Some i) s h = let there = not_false (sees_in text (sign close) s) h in
        ((no_text i s there, one_seen text (sign close) (sign signs.Comma) s no_comma there), one_seen text (sign close) (sign signs.Semicolon) s no_semicolon there) where
          no_text : (i : Bool) (s : Stream) → sees_in text (sign close) s ≡ true → May strings_on i s
          no_text true s there = seen_no_string text (sign close) s refl there
          no_text false s there = tt

    abbrev pub Ended : Unit {0} → Unit {0} → Stream → Type 0
    Ended i a = λ s. Shut s

    pub viable_fields : Viable W Always (fields_with inner close) Ended
    unfolding fields_with
    viable_fields = viable_then
        (viable_loop Apart Shut _ (until_in text (sign close) (field_with inner)) (fields_turns inner local close)
        (λ i. viable_when goes_on_here Apart (λ j a. j) (λ j a s h. h) (λ j a s h. h) i (viable_field (λ s. Apart i s × (goes_on_here s ≡ true)) (λ x t u h. (apart_heads i x t u h.0, h.1)) (λ s. (apart_start i s, refl))))
        (λ i s h e. stops_when goes_on_here (field_with inner) s e) None)
        (λ i xs. viable_pure tt tt (λ s h. h.1) (λ s h. (shut_apart i s h, h)))
