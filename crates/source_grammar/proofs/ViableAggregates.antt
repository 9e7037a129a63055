-- Values in braces tell their faults at the first token with which nothing goes on.
use Rattle.std.proofs.Common.{[], ◌≡◌, ℕ, zero, suc, Bool, true, false, not, List, ◌∷◌, Option, Some, None, Ok, Err, refl, ap, sym, subst, ◌∙◌}
use Rattle.std.specs.Prelude.{if◌then◌else◌, is_some}
use Rattle.protox_aggregates.specs.AggregateGrammar.{Passes, must, braces_at, opens, fields_with, open_by, opening, braces, aggregate}
use Rattle.protox_aggregates.proofs.AggregateLaws.{Local-braces}
use Rattle.protox_lex.specs.Token.{sign}
use Rattle.protox_lex.specs.declared.span.Span.{Span}
use Rattle.protox_lex.specs.declared.token.Sign.{Sign}
use Rattle.protox_lex.specs.declared.token.Sign.TheVariants as signs
use Rattle.protox_tokens.specs.Stream.{Piece, Stream, text, look}
use Rattle.protox_tokens.specs.Parser.{and_then, ◌>>=◌, ◌>>◌, pure, is, value_of, saw, sees_in, taken, expect_in}
use Rattle.protox_tokens.specs.Refusal.{this, a_message_value, too_deep, refusal}
use Rattle.protox_tokens.proofs.Local.{Local}
use Rattle.protox_tokens.proofs.Both.{Always, then_ok}
use Rattle.source_grammar.proofs.Ahead.{one_seen}
use Rattle.source_grammar.proofs.ViableTokens.{sign_written}
use Rattle.source_grammar.proofs.Viable.{Went, Viable, then_at, viable_then, Any, viable_end}
use Rattle.source_grammar.proofs.ViableSteps.{Heads, made, viable_expect, viable_expect_in}
use Rattle.source_grammar.proofs.ViableTexts.{viable_text}
use Rattle.source_grammar.proofs.ViableScalars.{viable_must}
use Rattle.source_grammar.proofs.ViableElements.{Without, without_heads, Inner, viable_fields, Shut}

closed_by : (o : Option (Sign × Sign)) (ts : Stream) → is_some o ≡ false → open_by o ts ≡ Err (refusal text a_message_value ts)
closed_by None ts e = refl
closed_by (Some pair) ts e = absurd cc

-- Behind an opening brace what is read is said by its other one.
module _ (W : Piece → Type 0) (q : Sign × Span → Passes) (ks : List Sign) where
  abbrev Opened : Stream → Type 0
  Opened s = Without ks s × (opens s ≡ true)

  module _ (k close : Sign) (pair : (s : Stream) → sees_in text (sign k) s ≡ true → braces_at s ≡ Some (k, close)) where
    brace_read : (l : Piece) (at : Span) → value_of (is (sign k)) (look text l) ≡ Some at → (s : Stream) → opening (l ∷ s) ≡ Ok ((close, at), s)
    unfolding expect_in
    brace_read l at e s = ap (λ o. open_by o (l ∷ s)) (pair (l ∷ s) (ap is_some e)) ∙ then_ok (λ at. pure (close, at)) (ap (λ o. taken text (this (sign k)) o (l ∷ s)) e) refl

    brace_at : (ts : Stream) (o : Option Span) → saw text (sign k) ts ≡ o → is_some o ≡ true → Without ks ts → ((at : Span) (r : Stream) → Went W Always (q (close, at)) Any r (q (close, at) r)) → Went W Opened (opening >>= q) Any ts ((opening >>= q) ts)
    brace_at ts None e i h later = absurd cc
    brace_at [] (Some at) e i h later = absurd cc
    brace_at (l ∷ ts) (Some at) e i h later = subst (Went W Opened (opening >>= q) Any (l ∷ ts)) (sym (then_ok q (brace_read l at e ts) refl))
        (then_at W Opened opening Any q Any (l ∷ ts) ts (close, at)
        (record { front = l ∷ []; whole = refl; kind = tt; told = tt; reads = λ s g. ((without_heads ks l ts s h, ap is_some (pair (l ∷ s) (ap is_some e))), brace_read l at e s) }) (q (close, at) ts) (later at ts))

    brace_went : (ts : Stream) → sees_in text (sign k) ts ≡ true → Without ks ts → ((at : Span) (r : Stream) → Went W Always (q (close, at)) Any r (q (close, at) r)) → Went W Opened (opening >>= q) Any ts ((opening >>= q) ts)
    brace_went ts i h later = brace_at ts (saw text (sign k) ts) refl i h later

braces_if : Bool → Bool → Option (Sign × Sign)
braces_if curly angle = if curly then Some (signs.LeftBrace, signs.RightBrace) else if angle then Some (signs.LeftAngleBracket, signs.RightAngleBracket) else None

curly_pair : (s : Stream) → sees_in text (sign signs.LeftBrace) s ≡ true → braces_at s ≡ Some (signs.LeftBrace, signs.RightBrace)
unfolding braces_if
curly_pair s e = ap (λ b. braces_if b (sees_in text (sign signs.LeftAngleBracket) s)) e

angle_pair : (s : Stream) → sees_in text (sign signs.LeftAngleBracket) s ≡ true → braces_at s ≡ Some (signs.LeftAngleBracket, signs.RightAngleBracket)
unfolding braces_if
angle_pair s e = ap (λ b. braces_if b (sees_in text (sign signs.LeftAngleBracket) s)) (one_seen text (sign signs.LeftAngleBracket) (sign signs.LeftBrace) s refl e) ∙ ap (braces_if false) e

no_pair : (s : Stream) → sees_in text (sign signs.LeftBrace) s ≡ false → sees_in text (sign signs.LeftAngleBracket) s ≡ false → opens s ≡ false
unfolding braces_if
no_pair s e f = ap (λ b. is_some (braces_if b (sees_in text (sign signs.LeftAngleBracket) s))) e ∙ ap (λ b. is_some (braces_if false b)) f

module _ (W : Piece → Type 0) (q : Sign × Span → Passes) (curly : (at : Span) (r : Stream) → Went W Always (q (signs.RightBrace, at)) Any r (q (signs.RightBrace, at) r)) (angle : (at : Span) (r : Stream) → Went W Always (q (signs.RightAngleBracket, at)) Any r (q (signs.RightAngleBracket, at) r)) where
  opened_by : (ks : List Sign) (ts : Stream) → Without ks ts → opens ts ≡ true → (b c : Bool) → sees_in text (sign signs.LeftBrace) ts ≡ b → sees_in text (sign signs.LeftAngleBracket) ts ≡ c → Went W (Opened W q ks) (opening >>= q) Any ts ((opening >>= q) ts)
  opened_by ks ts h o true c e f = brace_went W q ks signs.LeftBrace signs.RightBrace curly_pair ts e h curly
  opened_by ks ts h o false true e f = brace_went W q ks signs.LeftAngleBracket signs.RightAngleBracket angle_pair ts f h angle
  opened_by ks ts h o false false e f = let wrong : true ≡ false = sym o ∙ no_pair ts e f in absurd cc

  inner_by : Inner W (opening >>= q)
  inner_by = record {
    opened = λ ks. record { at = λ ts h. opened_by ks ts h.0 h.1 (sees_in text (sign signs.LeftBrace) ts) (sees_in text (sign signs.LeftAngleBracket) ts) refl refl };
    closed = λ ts e. ap (λ o. and_then o q) (closed_by (braces_at ts) ts e);
  }

-- Fields and the brace behind them.
module _ (W : Piece → Type 0) (inner : Passes) (local : Local inner) (rule : Inner W inner) where
  in_curly : Viable W Always (fields_with inner signs.RightBrace >> must signs.RightBrace) Any
  in_curly = viable_then (viable_fields W inner local rule signs.RightBrace refl refl) (λ i x. viable_must signs.RightBrace (Shut W inner local rule signs.RightBrace refl refl) (λ x t u h. h) refl (λ s. refl))

  in_angle : Viable W Always (fields_with inner signs.RightAngleBracket >> must signs.RightAngleBracket) Any
  in_angle = viable_then (viable_fields W inner local rule signs.RightAngleBracket refl refl) (λ i x. viable_must signs.RightAngleBracket (Shut W inner local rule signs.RightAngleBracket refl refl) (λ x t u h. h) refl (λ s. refl))

inner_braces : (W : Piece → Type 0) (levels : ℕ) → Inner W (braces levels)
unfolding braces
inner_braces W zero = inner_by W (λ first. (λ ts. Err (too_deep first.1))) (λ at r. tt) (λ at r. tt)
inner_braces W (suc levels) = inner_by W (λ first. fields_with (braces levels) first.0 >> must first.0)
    (λ at r. (in_curly W (braces levels) (Local-braces levels) (inner_braces W levels)).held.at r tt) (λ at r. (in_angle W (braces levels) (Local-braces levels) (inner_braces W levels)).held.at r tt)

pub viable_aggregate : {W : Piece → Type 0} (H : Stream → Type 0) → Heads H → ((s : Stream) → H (made (sign signs.LeftBrace) ∷ s)) → Viable W H aggregate Any
unfolding aggregate
viable_aggregate {W = W} H heads starts = viable_then (viable_expect (sign signs.LeftBrace) (sign_written signs.LeftBrace) H heads refl starts) (λ i first.
    viable_then (viable_text (λ (i : Unit {0}) s. not (sees_in text (sign signs.RightBrace) s) ≡ false) (viable_fields W (braces 100) (Local-braces 100) (inner_braces W 100) signs.RightBrace refl refl)) (λ j inside.
    viable_then (viable_expect_in text (sign signs.RightBrace) (sign_written signs.RightBrace) (λ s. not (sees_in text (sign signs.RightBrace) s) ≡ false) (λ x t u h. h) refl (λ s. refl)) (λ k close. viable_end _)))
