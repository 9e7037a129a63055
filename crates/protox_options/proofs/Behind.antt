-- What a rule reads, step by step: what holds behind a step holds of the whole, and so does that a step is refused.
use Rattle.protox_lex.specs.Token.{Token}
use Rattle.protox_lex.specs.declared.span.Span.{Span}
use Rattle.protox_tokens.proofs.Local.{Moves}
use Rattle.protox_tokens.specs.Left.{left}
use Rattle.protox_tokens.specs.Parser.{Outcome, Parser, and_then, ◌>>=◌, pure, value_of, taken, one}
use Rattle.protox_tokens.specs.Reads.{IsFault, Fails, Reads}
use Rattle.protox_tokens.specs.Refusal.{Expected, Fault, refusal}
use Rattle.protox_tokens.specs.Stream.{Stream, stream, Mode, peek, tail}
use Rattle.protox_tokens.specs.declared.fault.Stop.{Stop}
use Rattle.protox_tokens.specs.declared.fault.Stop.TheVariants.{Memory, Refused}
use Rattle.protox_tokens.specs.declared.tokens.Tokens.{Tokens}
use Rattle.std.proofs.Common.{◌≡◌, ◌∙◌, ◌<◌, length, Option, Some, None, Result, Ok, Err, OnOk, ap, sym, subst}

-- P is so of what the rule answers here
pub record Answers {A : Type 0} (P : Outcome A → Type 0) (p : Parser A) (ts : Stream) : Type 0 where
  pub so : P (p ts)

pub behind : {A B : Type 0} {P : Outcome B → Type 0} (p : Parser A) (f : A → Parser B) {ts s : Stream} {a : A} → p ts ≡ Ok (a, s) → Answers P (f a) s → Answers P (p >>= f) ts
behind {P = P} p f e h = record { so = subst (λ o. P (and_then o f)) (sym e) h.so }

fails : {A B : Type 0} (o : Outcome A) (f : A → Parser B) (e : Stop) → Fails e o → Fails e (and_then o f)
fails o f Memory h = tt
fails o f (Refused g) h = ap (λ o. and_then o f) h

pub refused : {A B : Type 0} (p : Parser A) (f : A → Parser B) {ts : Stream} (e : Stop) → Fails e (p ts) → Answers (Fails e) (p >>= f) ts
refused p f {ts = ts} e h = record { so = fails (p ts) f e h }

-- a fault that is told as it is
pub told : {A : Type 0} {o : Outcome A} (f : Fault) (e : Stop) → IsFault f e → o ≡ Err f → Fails e o
told f Memory is h = absurd is
told f (Refused g) is h = h ∙ ap (λ x. Err x) (sym is)

pub last : {A : Type 0} {P : Outcome A → Type 0} (a : A) {s : Stream} → P (Ok (a, s)) → Answers P (pure a) s
last a h = record { so = h }

-- where a rule takes a token, what reads it does
pub moved : {X A : Type 0} (view : X → A) {p : Parser A} → Moves p → (ts : Stream) (r : Result X Stop) (t : Tokens) → Reads view (p ts) r t → OnOk r (left t < length ts)
moved view moves ts (Ok x) t h = moves.at ts (stream t) (view x) h
moved view moves ts (Err e) t h = tt

-- a token that has no value, and one that has one
module _ {A : Type 0} (m : Mode) (e : Expected) (f : Token → Span → Option A) (ts : Stream) where
  pub one_refused : value_of f (peek m ts) ≡ None → one m e f ts ≡ Err (refusal m e ts)
  one_refused h = ap (λ o. taken m e o ts) h

  pub one_read : (a : A) (t : Tokens) → value_of f (peek m ts) ≡ Some a → stream t ≡ tail ts → one m e f ts ≡ Ok (a, stream t)
  one_read a t h passes = ap (λ o. taken m e o ts) h ∙ ap (λ r. Ok (a, r)) (sym passes)
