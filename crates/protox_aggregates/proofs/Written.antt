-- Texts behind which tokens are put.
use Rattle.std.proofs.Common.{◌≡◌, ◌∙◌, ◌-◌, ◌++◌, Bool, true, false, [], ◌∷◌, Option, Some, None, Ok, Err, length, take, refl, ap, sym, append_assoc, arith}
use Rattle.std.proofs.lemmas.Grind.{flat_map-append}
use Rattle.std.proofs.lemmas.List.Sums.{fold-append}
use Rattle.std.proofs.Math.Seq.{take-append_seam}
use Rattle.std.proofs.lemmas.List.{length-append}
use Rattle.std.proofs.lemmas.Result.{on_ok_weaker}
use Rattle.std.specs.List.{flat_map, fold}
use Rattle.std.specs.Prelude.{if◌then◌else◌, is_some, OnOk, Result}
use Rattle.protox_aggregates.specs.BraceTexts.{WritesTokens, text_by, text_of, text_up_to, token_in, with_token, with_tokens}
use Rattle.protox_lex.specs.Class.{Text}
use Rattle.protox_lex.specs.Token.{Token, ident, int, float, str, sign, comment, token_at, fault_at}
use Rattle.protox_lex.specs.contracts.token.Sign.{the_type}
use Rattle.protox_lex.specs.declared.span.Span.{Span}
use Rattle.protox_lex.specs.declared.token.Sign.{Sign}
use Rattle.protox_tokens.proofs.Local.{Cut, Local, LocalAt}
use Rattle.protox_tokens.specs.Parser.{Outcome, Parser, and_then, eat_in, eaten, expect_in, is, pass_in, pure, same, saw, taken, value_of}
use Rattle.protox_tokens.specs.Refusal.{this}
use Rattle.protox_tokens.specs.Stream.{Piece, piece, last, Seen, Stream, look, peek, tail, text}
use denote.Enum.Bare.{same_true}

pub writes_none : (s : Stream) (t : Text) → WritesTokens s t s t
writes_none s t = record { tokens = []; passed = refl; written = refl }

with_tokens-append : (t : Text) (xs ys : Stream) → with_tokens t (xs ++ ys) ≡ with_tokens (with_tokens t xs) ys
with_tokens-append t xs ys = ap (fold with_token t) (flat_map-append token_in xs ys) ∙ fold-append with_token t (flat_map token_in xs) (flat_map token_in ys)

pub writes_then : {a b c : Stream} {t u v : Text} → WritesTokens a t b u → WritesTokens b u c v → WritesTokens a t c v
writes_then {c = c} {t = t} x y = record {
  tokens = x.tokens ++ y.tokens;
  passed = x.passed ∙ ap (λ s. x.tokens ++ s) y.passed ∙ sym (append_assoc x.tokens y.tokens c);
  written = y.written ∙ ap (λ o. with_tokens o y.tokens) x.written ∙ sym (with_tokens-append t x.tokens y.tokens);
}

-- the same, where the second may be refused
pub then_ok : {E : Type 0} {a b : Stream} {t u : Text} (c : Stream) (v : Text) (r : Result (Unit {0}) E) → WritesTokens a t b u → OnOk r (WritesTokens b u c v) → OnOk r (WritesTokens a t c v)
then_ok c v r x h = on_ok_weaker r (writes_then x) h

-- ---- one token

abbrev token_seen : Token → Seen → Token
token_seen t None = t
token_seen t (Some x) = x.0

abbrev pair_of : {A : Type 0} → A × Stream → Outcome A → A × Stream
pair_of d (Ok x) = x
pair_of d (Err f) = d

by_piece : (p : Piece) (r : Stream) (t : Text) (k : Token) (at : Span) → look text p ≡ Some (k, at) → WritesTokens (p ∷ r) t r (with_token t k)
by_piece (last s) r t k at e = absurd (cc)
by_piece (piece h (fault_at f a b)) r t k at e = absurd (cc)
by_piece (piece h (token_at a b j)) r t k at e =
    let is : j ≡ k = ap (token_seen j) e in
    record { tokens = piece h (token_at a b j) ∷ []; passed = refl; written = ap (with_token t) (sym is) }

pub writes_seen : (ts : Stream) (t : Text) (k : Token) (at : Span) → peek text ts ≡ Some (k, at) → WritesTokens ts t (tail ts) (with_token t k)
writes_seen [] t k at e = absurd (cc)
writes_seen (p ∷ r) t k at e = by_piece p r t k at e

-- what is seen is the sign that is wanted
same_sign : (j : Token) (k : Sign) → same j (sign k) ≡ true → j ≡ sign k
same_sign (ident t) k e = absurd (cc)
same_sign (int n) k e = absurd (cc)
same_sign (float t) k e = absurd (cc)
same_sign (str t) k e = absurd (cc)
same_sign comment k e = absurd (cc)
same_sign (sign j) k e = ap sign (same_true the_type tt j k e)

saw_sign : (o : Seen) (k : Sign) (at : Span) → value_of (is (sign k)) o ≡ Some at → (at_ : Span) × (o ≡ Some (sign k, at_))
saw_sign None k at e = absurd (cc)
saw_sign (Some x) k at e = by (same x.0 (sign k)) refl e where
  by : (b : Bool) → same x.0 (sign k) ≡ b → (if b then Some x.1 else None) ≡ Some at → (at_ : Span) × (Some x ≡ Some (sign k, at_))
  by true h e = (x.1, ap (λ j. Some (j, x.1)) (same_sign x.0 k h))
  by false h e = absurd (cc)

writes_saw : (ts : Stream) (t : Text) (k : Sign) (o : Option Span) (at : Span) → saw text (sign k) ts ≡ o → o ≡ Some at → WritesTokens ts t (tail ts) (with_token t (sign k))
writes_saw ts t k o at e h = let found = saw_sign (peek text ts) k at (e ∙ h) in writes_seen ts t (sign k) found.0 found.1

-- a sign that was passed, or not
passed_by : (ts r : Stream) (t : Text) (k : Sign) (o : Option Span) → saw text (sign k) ts ≡ o → and_then (eaten o ts) (λ x. pure (is_some x)) ≡ Ok (true, r) → WritesTokens ts t r (with_token t (sign k))
passed_by ts r t k None e h =
    let no : false ≡ true = ap (λ o. (pair_of {A = Bool} (true, r) o).0) h in
    absurd (cc)
passed_by ts r t k (Some at) e h =
    let rest : tail ts ≡ r = ap (λ o. (pair_of {A = Bool} (true, r) o).1) h in
    rw (← rest) (writes_saw ts t k (Some at) at e refl)

pub writes_passed : (ts r : Stream) (t : Text) (k : Sign) → pass_in text (sign k) ts ≡ Ok (true, r) → WritesTokens ts t r (with_token t (sign k))
unfolding eat_in
writes_passed ts r t k e = passed_by ts r t k (saw text (sign k) ts) refl e

unpassed_by : (ts r : Stream) (t : Text) (o : Option Span) → and_then (eaten o ts) (λ x. pure (is_some x)) ≡ Ok (false, r) → WritesTokens ts t r t
unpassed_by ts r t None h =
    let rest : ts ≡ r = ap (λ o. (pair_of {A = Bool} (false, r) o).1) h in
    rw (← rest) (writes_none ts t)
unpassed_by ts r t (Some at) h =
    let no : true ≡ false = ap (λ o. (pair_of {A = Bool} (false, r) o).0) h in
    absurd (cc)

pub writes_unpassed : (ts r : Stream) (t : Text) (k : Sign) → pass_in text (sign k) ts ≡ Ok (false, r) → WritesTokens ts t r t
unfolding eat_in
writes_unpassed ts r t k e = unpassed_by ts r t (saw text (sign k) ts) e

-- a sign that was expected
expected_by : (ts r : Stream) (t : Text) (k : Sign) (at : Span) (o : Option Span) → saw text (sign k) ts ≡ o → taken text (this (sign k)) o ts ≡ Ok (at, r) → WritesTokens ts t r (with_token t (sign k))
expected_by ts r t k at None e h = absurd (cc)
expected_by ts r t k at (Some x) e h =
    let rest : tail ts ≡ r = ap (λ o. (pair_of {A = Span} (at, r) o).1) h in
    rw (← rest) (writes_saw ts t k (Some x) x e refl)

pub writes_expected : (ts r : Stream) (t : Text) (k : Sign) (at : Span) → expect_in text (sign k) ts ≡ Ok (at, r) → WritesTokens ts t r (with_token t (sign k))
unfolding expect_in
writes_expected ts r t k at e = expected_by ts r t k at (saw text (sign k) ts) refl e

-- ---- the text of a rule

front_of : (xs r : Stream) → take (length (xs ++ r) - length r) (xs ++ r) ≡ xs
front_of xs r =
    let count : length (xs ++ r) - length r ≡ length xs = omega (arith, length-append xs r) in
    rw count (take-append_seam xs r)

text_of_front : (ts xs r : Stream) → ts ≡ xs ++ r → text_of (take (length ts - length r) ts) ≡ text_of xs
text_of_front ts xs r e = rw e (ap text_of (front_of xs r))

module _ (p : Parser (Unit {0})) where
  cut_text : (ts r : Stream) → Cut p ts r (λ s. Ok (tt, s)) → Cut (text_by p) ts r (λ s. Ok (text_of (take (length ts - length r) ts), s))
  cut_text ts r c = record {
    front = c.front;
    whole = c.whole;
    stable = λ s h. ap (text_up_to (c.front ++ s)) (c.stable s h)
        ∙ ap (λ o. Ok (o, s)) (text_of_front (c.front ++ s) c.front s refl ∙ sym (text_of_front ts c.front r c.whole));
  }

  text_at : (ts : Stream) (o : Outcome (Unit {0})) → LocalAt p ts o → LocalAt (text_by p) ts (text_up_to ts o)
  text_at ts (Ok x) c = cut_text ts x.1 c
  text_at ts (Err f) c = (c.0, c.1, record { front = c.2.front; whole = c.2.whole; stable = λ s h. ap (text_up_to (c.2.front ++ s)) (c.2.stable s h) })

pub Local-text_by : {p : Parser (Unit {0})} → Local p → Local (text_by p)
Local-text_by {p = p} l = record { at = λ ts. text_at p ts (p ts) (l.at ts) }
