-- What a parser answers depends on nothing behind the first token that it doesn't take.
use Rattle.std.proofs.Common.{◌≡◌, ◌⊎◌, inl, inr, ℕ, zero, suc, ◌≤◌, ◌<◌, Bool, true, false, not, List, [], ◌∷◌, ◌++◌, length, Option, Some, None, Ok, Err, refl, ap, sym, subst, ◌∙◌, arith, append_assoc}
use Rattle.std.specs.Prelude.{if◌then◌else◌}
use Rattle.std.proofs.lemmas.List.{length-append}
use Rattle.protox_lex.specs.Token.{Token}
use Rattle.protox_lex.specs.declared.error.LexError.{LexError}
use Rattle.protox_lex.specs.declared.error.LexErrorKind.TheVariants as kinds
use Rattle.protox_lex.specs.declared.span.Span.{Span}
use Rattle.protox_tokens.specs.Stream.{Piece, piece, last, Mode, source, text, Stream, look}
use Rattle.protox_tokens.specs.Refusal.{Expected, Fault, unexpected, eof, lexical, unknown_syntax, too_deep, refusal, this, an_ident, an_int, a_string}
use Rattle.protox_tokens.specs.Parser.{sees_in, is_string_in, pass_in, behind_in, until_in, Outcome, Parser, and_then, ◌>>=◌, ◌<$>◌, pure, is, sees, value_of, eaten, eat_in, eat, taken, one, expect_in, expect, word_of, word, literal_of, digits_of, digits, goes_on, loop}
use Rattle.std.specs.Prelude.{is_some}
use Rattle.protox_tokens.specs.Parser.{literal}
use Rattle.protox_tokens.specs.Parser.{behind, when, until, choose, some_by, is_string}
use Rattle.protox_tokens.proofs.Loops.{Shortens, loop-is}

-- what is ahead is the same token, or the end
abbrev pub SameHead : Stream → Stream → Type 0
SameHead [] [] = Unit {0}
SameHead [] (y ∷ s) = ⊥
SameHead (x ∷ r) [] = ⊥
SameHead (x ∷ r) (y ∷ s) = x ≡ y

same_head-append : (front r s : Stream) → SameHead r s → SameHead (front ++ r) (front ++ s)
same_head-append [] r s h = h
same_head-append (x ∷ front) r s h = refl

-- What is told is what is ahead.
abbrev pub IsAhead : Fault → Stream → Type 0
IsAhead f r = (m : Mode) × (e : Expected) × (refusal m e r ≡ f)

-- A token that was not expected, the end, or what is no token there is ahead. An integer that is out
-- of range may stand before that.
abbrev pub IsAt : Fault → Stream → Type 0
IsAt (unexpected e t s) r = IsAhead (unexpected e t s) r
IsAt (eof e) r = IsAhead (eof e) r
IsAt (lexical e) r = IsAhead (lexical e) r ⊎ (e.kind ≡ kinds.IntegerOutOfRange)
IsAt (unknown_syntax s) r = Unit {0}
IsAt (too_deep s) r = Unit {0}

is_at_by : (m : Mode) (e : Expected) (r : Stream) (f : Fault) → refusal m e r ≡ f → IsAt f r
is_at_by m e r (unexpected x t s) h = (m, e, h)
is_at_by m e r (eof x) h = (m, e, h)
is_at_by m e r (lexical x) h = inl (m, e, h)
is_at_by m e r (unknown_syntax s) h = tt
is_at_by m e r (too_deep s) h = tt

is_at : (m : Mode) (e : Expected) (r : Stream) → IsAt (refusal m e r) r
is_at m e r = is_at_by m e r (refusal m e r) refl

-- up to r, and whatever follows the token ahead there, the outcome is o
pub record Cut {A : Type 0} (p : Parser A) (ts r : Stream) (o : Stream → Outcome A) : Type 0 where
  pub front : Stream
  pub whole : ts ≡ front ++ r
  pub stable : (s : Stream) → SameHead r s → p (front ++ s) ≡ o s

abbrev pub LocalAt : {A : Type 0} → Parser A → Stream → Outcome A → Type 0
LocalAt p ts (Ok x) = Cut p ts x.1 (λ s. Ok (x.0, s))
LocalAt p ts (Err f) = (r : Stream) × IsAt f r × Cut p ts r (λ s. Err f)

pub record Local {A : Type 0} (p : Parser A) : Type 0 where
  pub at : (ts : Stream) → LocalAt p ts (p ts)

-- ---- one after the other

module _ {A B : Type 0} (p : Parser A) (f : A → Parser B) where
  joined : (ts r u : Stream) (a : A) (o : Stream → Outcome B) → Cut p ts r (λ s. Ok (a, s)) → Cut (f a) r u o → Cut (p >>= f) ts u o
  joined ts r u a o c d = record {
    front = c.front ++ d.front;
    whole = c.whole ∙ ap (λ x. c.front ++ x) d.whole ∙ sym (append_assoc c.front d.front u);
    stable = λ s h.
        let before : p ((c.front ++ d.front) ++ s) ≡ Ok (a, d.front ++ s) =
        ap p (append_assoc c.front d.front s) ∙ c.stable (d.front ++ s) (subst (λ x. SameHead x (d.front ++ s)) (sym d.whole) (same_head-append d.front u s h)) in
        ap (λ x. and_then x f) before ∙ d.stable s h;
  }

  then_at : (ts r : Stream) (a : A) (o : Outcome B) → Cut p ts r (λ s. Ok (a, s)) → LocalAt (f a) r o → LocalAt (p >>= f) ts o
  then_at ts r a (Ok x) c d = joined ts r x.1 a _ c d
  then_at ts r a (Err e) c d = (d.0, d.1, joined ts r d.0 a _ c d.2)

  fail_at : (ts : Stream) (e : Fault) → LocalAt p ts (Err e) → LocalAt (p >>= f) ts (Err e)
  fail_at ts e c = (c.0, c.1, record { front = c.2.front; whole = c.2.whole; stable = λ s h. ap (λ x. and_then x f) (c.2.stable s h) })

  bind_at : ((a : A) → Local (f a)) → (ts : Stream) (o : Outcome A) → LocalAt p ts o → LocalAt (p >>= f) ts (and_then o f)
  bind_at later ts (Ok x) c = then_at ts x.1 x.0 (f x.0 x.1) c ((later x.0).at x.1)
  bind_at later ts (Err e) c = fail_at ts e c

pub Local-bind : {A B : Type 0} {p : Parser A} {f : A → Parser B} → Local p → ((a : A) → Local (f a)) → Local (p >>= f)
Local-bind {p = p} {f = f} first later = record { at = λ ts. bind_at p f later ts (p ts) (first.at ts) }

pub Local-pure : {A : Type 0} (a : A) → Local (pure a)
Local-pure a = record { at = λ ts. record { front = []; whole = refl; stable = λ s h. refl } }

pub Local-if : {A : Type 0} (b : Bool) {p q : Parser A} → Local p → Local q → Local (if b then p else q)
Local-if true l m = l
Local-if false l m = m

-- ---- a choice by what is ahead

pub record IsOfHead (f : Stream → Bool) : Type 0 where
  pub at : (r s : Stream) → SameHead r s → f r ≡ f s

pub of_head-not : {f : Stream → Bool} → IsOfHead f → IsOfHead (λ ts. not (f ts))
of_head-not h = record { at = λ r s x. ap not (h.at r s x) }

pub same_start : {A : Type 0} (f : Stream → A) (r s : Stream) → ((x : Piece) (t u : Stream) → f (x ∷ t) ≡ f (x ∷ u)) → SameHead r s → f r ≡ f s
same_start f [] [] e h = refl
same_start f [] (y ∷ s) e h = absurd h
same_start f (x ∷ r) [] e h = absurd h
same_start f (x ∷ r) (y ∷ s) e h = e x r s ∙ ap (λ z. f (z ∷ s)) h

pub of_head-sees_in : (m : Mode) (k : Token) → IsOfHead (sees_in m k)
of_head-sees_in m k = record { at = λ r s h. same_start (sees_in m k) r s (λ x t u. refl) h }

pub of_head-sees : (k : Token) → IsOfHead (sees k)
of_head-sees k = of_head-sees_in source k

pub of_head-string_in : (m : Mode) → IsOfHead (is_string_in m)
of_head-string_in m = record { at = λ r s h. same_start (is_string_in m) r s (λ x t u. refl) h }

pub of_head-string : IsOfHead is_string
of_head-string = of_head-string_in source

same_parser : {A : Type 0} (p q : Parser A) (ts : Stream) → ((front r s : Stream) → ts ≡ front ++ r → SameHead r s → p (front ++ s) ≡ q (front ++ s)) → (o : Outcome A) → LocalAt q ts o → LocalAt p ts o
same_parser p q ts e (Ok x) c = record { front = c.front; whole = c.whole; stable = λ s h. e c.front x.1 s c.whole h ∙ c.stable s h }
same_parser p q ts e (Err f) c = (c.0, c.1, record { front = c.2.front; whole = c.2.whole; stable = λ s h. e c.2.front c.0 s c.2.whole h ∙ c.2.stable s h })

module _ {A : Type 0} (f : Stream → Bool) (h : IsOfHead f) (p q : Parser A) (first : Local p) (second : Local q) where
  ahead : (ts front r s : Stream) → ts ≡ front ++ r → SameHead r s → f ts ≡ f (front ++ s)
  ahead ts front r s e x = ap f e ∙ h.at (front ++ r) (front ++ s) (same_head-append front r s x)

  choose_at : (ts : Stream) (b : Bool) → f ts ≡ b → LocalAt (choose f p q) ts (if b then p ts else q ts)
  choose_at ts true e = same_parser (choose f p q) p ts (λ front r s w x. ap (λ b. if b then p (front ++ s) else q (front ++ s)) (sym (ahead ts front r s w x) ∙ e)) (p ts) (first.at ts)
  choose_at ts false e = same_parser (choose f p q) q ts (λ front r s w x. ap (λ b. if b then p (front ++ s) else q (front ++ s)) (sym (ahead ts front r s w x) ∙ e)) (q ts) (second.at ts)

  pub Local-choose : Local (choose f p q)
  Local-choose = record { at = λ ts. choose_at ts (f ts) refl }

pub Local-when : {A : Type 0} (f : Stream → Bool) → IsOfHead f → {p : Parser A} → Local p → Local (when f p)
Local-when {A = A} f h {p = p} l = Local-choose f h (Some <$> p) (pure None) (Local-bind l (λ x. Local-pure (Some x))) (Local-pure {A = Option A} None)

pub Local-until_in : {A : Type 0} (m : Mode) (k : Token) {p : Parser A} → Local p → Local (until_in m k p)
Local-until_in m k l = Local-when (λ ts. not (sees_in m k ts)) (of_head-not (of_head-sees_in m k)) l

pub Local-until : {A : Type 0} (k : Token) {p : Parser A} → Local p → Local (until k p)
Local-until k l = Local-until_in source k l

-- ---- one token

module _ {A : Type 0} (m : Mode) (e : Expected) (f : Token → Span → Option A) where
  one_stable : (l : Piece) (ts s : Stream) → value_of f (look m l) ≡ None → SameHead (l ∷ ts) s → one m e f s ≡ Err (refusal m e (l ∷ ts))
  one_stable l ts [] h x = absurd x
  one_stable l ts (y ∷ s) h x = ap (λ z. one m e f (z ∷ s)) (sym x) ∙ ap (λ o. taken m e o (l ∷ s)) h ∙ ap (λ g. Err g) (refusal-head l s ts) where
    refusal-head : (l : Piece) (s t : Stream) → refusal m e (l ∷ s) ≡ refusal m e (l ∷ t)
    refusal-head (piece h l) s t = refl
    refusal-head (last h) s t = by m where
      by : (m : Mode) → refusal m e (last h ∷ s) ≡ refusal m e (last h ∷ t)
      by source = refl
      by text = refl

  one_at : (l : Piece) (ts : Stream) (o : Option A) → value_of f (look m l) ≡ o → LocalAt (one m e f) (l ∷ ts) (taken m e o (l ∷ ts))
  one_at l ts (Some a) h = record { front = l ∷ []; whole = refl; stable = λ s x. ap (λ o. taken m e o (l ∷ s)) h }
  one_at l ts None h = (l ∷ ts, is_at m e (l ∷ ts), record { front = []; whole = refl; stable = λ s x. one_stable l ts s h x })

  ended : (s : Stream) → SameHead [] s → one m e f s ≡ Err (eof e)
  ended [] h = refl
  ended (y ∷ s) h = absurd h

  local_one : (ts : Stream) → LocalAt (one m e f) ts (one m e f ts)
  local_one [] = ([], (m, e, refl), record { front = []; whole = refl; stable = ended })
  local_one (l ∷ ts) = one_at l ts (value_of f (look m l)) refl

  pub Local-one : Local (one m e f)
  Local-one = record { at = local_one }

pub Local-expect_in : (m : Mode) (k : Token) → Local (expect_in m k)
unfolding expect_in
Local-expect_in m k = Local-one m (this k) (is k)

pub Local-expect : (k : Token) → Local (expect k)
Local-expect k = Local-expect_in source k

pub Local-word : Local word
unfolding word
Local-word = Local-one source an_ident word_of

pub Local-literal : Local literal
unfolding literal
Local-literal = Local-one source a_string literal_of

pub Local-digits : Local digits
unfolding digits
Local-digits = Local-one source an_int digits_of

eat_none : (m : Mode) (k : Token) (s : Stream) → SameHead [] s → eat_in m k s ≡ Ok (None, s)
unfolding eat_in
eat_none m k [] h = refl
eat_none m k (y ∷ s) h = absurd h

module _ (m : Mode) (k : Token) (l : Piece) (ts : Stream) where
  left : value_of (is k) (look m l) ≡ None → (s : Stream) → SameHead (l ∷ ts) s → eat_in m k s ≡ Ok (None, s)
  unfolding eat_in
  left e [] h = absurd h
  left e (y ∷ s) h = ap (λ o. eaten o (y ∷ s)) (ap (λ z. value_of (is k) (look m z)) (sym h) ∙ e)

  was : (at : Span) → value_of (is k) (look m l) ≡ Some at → (s : Stream) → eat_in m k (l ∷ s) ≡ Ok (Some at, s)
  unfolding eat_in
  was at e s = ap (λ o. eaten o (l ∷ s)) e

  eat_at : (o : Option Span) → value_of (is k) (look m l) ≡ o → LocalAt (eat_in m k) (l ∷ ts) (eaten o (l ∷ ts))
  eat_at (Some at) e = record { front = l ∷ []; whole = refl; stable = λ s h. was at e s }
  eat_at None e = record { front = []; whole = refl; stable = λ s h. left e s h }

local_eat : (m : Mode) (k : Token) (ts : Stream) → LocalAt (eat_in m k) ts (eat_in m k ts)
unfolding eat_in
local_eat m k [] = record { front = []; whole = refl; stable = eat_none m k }
local_eat m k (l ∷ ts) = eat_at m k l ts (value_of (is k) (look m l)) refl

pub Local-eat_in : (m : Mode) (k : Token) → Local (eat_in m k)
Local-eat_in m k = record { at = local_eat m k }

pub Local-eat : (k : Token) → Local (eat k)
Local-eat k = Local-eat_in source k

pub Local-pass_in : (m : Mode) (k : Token) → Local (pass_in m k)
Local-pass_in m k = Local-bind (Local-eat_in m k) (λ o. Local-pure (is_some o))

pub Local-behind_in : {A : Type 0} (m : Mode) (k : Token) {p : Parser A} → Local p → Local (behind_in m k p)
Local-behind_in {A = A} m k l = Local-bind (Local-pass_in m k) (λ b. Local-if b (Local-bind l (λ x. Local-pure (Some x))) (Local-pure {A = Option A} None))

pub Local-behind : {A : Type 0} (k : Token) {p : Parser A} → Local p → Local (behind k p)
Local-behind k l = Local-behind_in source k l

-- ---- loops

local_same : {A : Type 0} (p q : Parser A) → ((s : Stream) → p s ≡ q s) → (ts : Stream) (o : Outcome A) → LocalAt q ts o → LocalAt p ts o
local_same p q e ts (Ok x) c = record { front = c.front; whole = c.whole; stable = λ s h. e (c.front ++ s) ∙ c.stable s h }
local_same p q e ts (Err f) c = (c.0, c.1, record { front = c.2.front; whole = c.2.whole; stable = λ s h. e (c.2.front ++ s) ∙ c.2.stable s h })

pub Local-same : {A : Type 0} {p q : Parser A} → ((s : Stream) → p s ≡ q s) → Local q → Local p
Local-same {p = p} {q = q} e l = record { at = λ ts. subst (LocalAt p ts) (sym (e ts)) (local_same p q e ts (q ts) (l.at ts)) }

module _ {A : Type 0} (step : Parser (Option A)) (local : Local step) (shortens : Shortens step) where
  abbrev rest : Option A → Parser (List A)
  rest o = goes_on o (loop step)

  turn : (n : ℕ) (ts : Stream) → length ts < suc n → ((us : Stream) → length us < n → LocalAt (loop step) us (loop step us)) → (o : Outcome (Option A)) → step ts ≡ o → LocalAt step ts o
      → LocalAt (step >>= rest) ts (and_then o rest)
  turn n ts lt later (Err e) is c = fail_at step rest ts e c
  turn n ts lt later (Ok (None, r)) is c = then_at step rest ts r None (Ok ([], r)) c ((Local-pure []).at r)
  turn n ts lt later (Ok (Some x, r)) is c =
      let less = shortens ts r x is in
      then_at step rest ts r (Some x) (rest (Some x) r) c (bind_at (loop step) (λ xs. pure (x ∷ xs)) (λ xs. Local-pure (x ∷ xs)) r (loop step r) (later r (omega arith)))

  loops : (n : ℕ) (ts : Stream) → length ts < n → LocalAt (loop step) ts (loop step ts)
  loops zero ts lt = absurd (omega arith)
  loops (suc n) ts lt =
      subst (LocalAt (loop step) ts) (sym (loop-is step shortens ts)) (local_same (loop step) (step >>= rest) (loop-is step shortens) ts _ (turn n ts lt (loops n) (step ts) refl (local.at ts)))

  pub Local-loop : Local (loop step)
  Local-loop = record { at = λ ts. loops (suc (length ts)) ts (omega arith) }

-- ---- what is left is no longer

pub record Keeps {A : Type 0} (p : Parser A) : Type 0 where
  pub at : (ts r : Stream) (a : A) → p ts ≡ Ok (a, r) → length r ≤ length ts

pub record Moves {A : Type 0} (p : Parser A) : Type 0 where
  pub at : (ts r : Stream) (a : A) → p ts ≡ Ok (a, r) → length r < length ts

pub Keeps-local : {A : Type 0} {p : Parser A} → Local p → Keeps p
Keeps-local {p = p} local = record { at = λ ts r a e. let c = subst (LocalAt p ts) e (local.at ts) in omega (arith, ap length c.whole, length-append c.front r) }

-- the value of the first step
pub bound : {A B : Type 0} (o : Outcome A) (f : A → Parser B) (y : B × Stream) → and_then o f ≡ Ok y → (x : A × Stream) × (o ≡ Ok x) × (f x.0 x.1 ≡ Ok y)
bound (Ok x) f y e = (x, refl, e)
bound (Err e) f y h = absurd cc

pub Moves-first : {A B : Type 0} {p : Parser A} {f : A → Parser B} → Moves p → ((a : A) → Keeps (f a)) → Moves (p >>= f)
Moves-first {p = p} {f = f} m k = record { at = λ ts r b e. let x = bound (p ts) f (b, r) e in omega (arith, m.at ts x.0.1 x.0.0 x.1, (k x.0.0).at x.0.1 r b x.2) }

pub Moves-later : {A B : Type 0} {p : Parser A} {f : A → Parser B} → Keeps p → ((a : A) → Moves (f a)) → Moves (p >>= f)
Moves-later {p = p} {f = f} k m = record { at = λ ts r b e. let x = bound (p ts) f (b, r) e in omega (arith, k.at ts x.0.1 x.0.0 x.1, (m x.0.0).at x.0.1 r b x.2) }

abbrev pub good : {A : Type 0} → A × Stream → Outcome A
good x = Ok x

pub same_ok : {A : Type 0} (x y : A × Stream) → good x ≡ good y → x ≡ y
same_ok x y e = cc

moves_one : {A : Type 0} (m : Mode) (e : Expected) (f : Token → Span → Option A) (ts r : Stream) (a : A) → one m e f ts ≡ Ok (a, r) → length r < length ts
moves_one m e f [] r a h = absurd cc
moves_one {A = A} m e f (l ∷ ts) r a h = by (value_of f (look m l)) h where
  by : (o : Option A) → taken m e o (l ∷ ts) ≡ Ok (a, r) → length r < length (l ∷ ts)
  by (Some x) h = let same : ts ≡ r = ap (λ (x : A × Stream). x.1) (same_ok (x, ts) (a, r) h) in omega (arith, ap length same)
  by None h = absurd cc

pub Moves-one : {A : Type 0} (m : Mode) (e : Expected) (f : Token → Span → Option A) → Moves (one m e f)
Moves-one m e f = record { at = moves_one m e f }

pub Moves-expect : (k : Token) → Moves (expect k)
unfolding expect_in
Moves-expect k = Moves-one source (this k) (is k)

pub Moves-word : Moves word
unfolding word
Moves-word = Moves-one source an_ident word_of

pub Moves-literal : Moves literal
unfolding literal
Moves-literal = Moves-one source a_string literal_of

pub Moves-digits : Moves digits
unfolding digits
Moves-digits = Moves-one source an_int digits_of

eat_moves : (m : Mode) (k : Token) (ts r : Stream) (at : Span) → eat_in m k ts ≡ Ok (Some at, r) → length r < length ts
unfolding eat_in
eat_moves m k [] r at h = let wrong : ◌≡◌ {A = Option Span} None (Some at) = ap (λ (x : Option Span × Stream). x.0) (same_ok (None, []) (Some at, r) h) in absurd cc
eat_moves m k (l ∷ ts) r at h = by (value_of (is k) (look m l)) h where
  by : (o : Option Span) → eaten o (l ∷ ts) ≡ Ok (Some at, r) → length r < length (l ∷ ts)
  by (Some x) h = let same : ts ≡ r = ap (λ (x : Option Span × Stream). x.1) (same_ok (Some x, ts) (Some at, r) h) in omega (arith, ap length same)
  by None h = let wrong : ◌≡◌ {A = Option Span} None (Some at) = ap (λ (x : Option Span × Stream). x.0) (same_ok (None, l ∷ ts) (Some at, r) h) in absurd cc

-- a token that was taken, or what comes in its place
pub Moves-eat : {A : Type 0} (k : Token) (f : Option Span → Parser A) → ((at : Span) → Keeps (f (Some at))) → Moves (f None) → Moves (eat k >>= f)
Moves-eat {A = A} k f m n = record { at = λ ts r a e. let x = bound (eat k ts) f (a, r) e in by ts r a x.0.0 x.0.1 x.1 x.2 } where
  by : (ts r : Stream) (a : A) (o : Option Span) (u : Stream) → eat k ts ≡ Ok (o, u) → f o u ≡ Ok (a, r) → length r < length ts
  by ts r a (Some at) u e h = omega (arith, eat_moves source k ts u at e, (m at).at u r a h)
  by ts r a None u e h = omega (arith, (Keeps-local (Local-eat k)).at ts u None e, n.at u r a h)

pub Moves-choose : {A : Type 0} (f : Stream → Bool) {p q : Parser A} → Moves p → Moves q → Moves (choose f p q)
Moves-choose {A = A} f {p = p} {q = q} m n = record { at = λ ts r a e. by ts r a (f ts) e } where
  by : (ts r : Stream) (a : A) (b : Bool) → (if b then p ts else q ts) ≡ Ok (a, r) → length r < length ts
  by ts r a true e = m.at ts r a e
  by ts r a false e = n.at ts r a e

pub Moves-map : {A B : Type 0} (f : A → B) {p : Parser A} → Moves p → Moves (f <$> p)
Moves-map f m = Moves-first m (λ x. Keeps-local (Local-pure (f x)))

-- ---- steps of loops take a token

pub some_of : {A : Type 0} (p : Parser A) (ts r : Stream) (x : A) → (Some <$> p) ts ≡ Ok (Some x, r) → p ts ≡ Ok (x, r)
some_of {A = A} p ts r x e =
    let b = bound (p ts) (λ x. pure (Some x)) (Some x, r) e in
    let y = same_ok (Some b.0.0, b.0.1) (Some x, r) b.2 in
    let first : b.0.0 ≡ x = let z : Some b.0.0 ≡ Some x = ap (λ (y : Option A × Stream). y.0) y in cc in
    b.1 ∙ ap (λ x. Ok (x, b.0.1)) first ∙ ap (λ s. Ok (x, s)) (ap (λ (y : Option A × Stream). y.1) y)

pub some_not : {A : Type 0} {X : Type 0} (p : Parser A) (ts r : Stream) → (Some <$> p) ts ≡ Ok (None, r) → X
some_not {A = A} p ts r e = let b = bound (p ts) (λ x. pure (Some x)) (None, r) e in absurd (let wrong : ◌≡◌ {A = Option A} (Some b.0.0) None = ap (λ (y : Option A × Stream). y.0) (same_ok (Some b.0.0, b.0.1) (None, r) b.2) in cc)

pub none_is : {A : Type 0} (ts r : Stream) → pure {A = Option A} None ts ≡ Ok (None, r) → ts ≡ r
none_is {A = A} ts r e = ap (λ (y : Option A × Stream). y.1) (same_ok (None, ts) (None, r) e)

pub none_not : {A : Type 0} {P : Type 0} (ts r : Stream) (x : A) → pure {A = Option A} None ts ≡ Ok (Some x, r) → P
none_not {A = A} ts r x e = absurd (let wrong : ◌≡◌ {A = Option A} None (Some x) = ap (λ (y : Option A × Stream). y.0) (same_ok (None, ts) (Some x, r) e) in cc)

pub Shortens-when : {A : Type 0} (f : Stream → Bool) {p : Parser A} → Moves p → Shortens (when f p)
Shortens-when {A = A} f {p = p} m ts r x e = by (f ts) e where
  by : (b : Bool) → (if b then (Some <$> p) ts else Ok (None, ts)) ≡ Ok (Some x, r) → length r < length ts
  by true h = m.at ts r x (some_of p ts r x h)
  by false h = none_not ts r x h

pass_moves : (m : Mode) (k : Token) (ts r : Stream) → pass_in m k ts ≡ Ok (true, r) → length r < length ts
pass_moves m k ts r e = let x = bound (eat_in m k ts) (λ o. pure (is_some o)) (true, r) e in by x.0.0 x.0.1 x.1 x.2 where
  by : (o : Option Span) (u : Stream) → eat_in m k ts ≡ Ok (o, u) → good (is_some o, u) ≡ good (true, r) → length r < length ts
  by (Some at) u h g = let same : u ≡ r = ap (λ (x : Bool × Stream). x.1) (same_ok (true, u) (true, r) g) in omega (arith, ap length same, eat_moves m k ts u at h)
  by None u h g = let wrong : false ≡ true = ap (λ (x : Bool × Stream). x.0) (same_ok (false, u) (true, r) g) in absurd cc

-- a token that was passed, or what comes in its place
pub Moves-pass_in : {A : Type 0} (m : Mode) (k : Token) (f : Bool → Parser A) → Keeps (f true) → Moves (f false) → Moves (pass_in m k >>= f)
Moves-pass_in {A = A} m k f keeps moves = record { at = λ ts r a e. let x = bound (pass_in m k ts) f (a, r) e in by ts r a x.0.0 x.0.1 x.1 x.2 } where
  by : (ts r : Stream) (a : A) (b : Bool) (u : Stream) → pass_in m k ts ≡ Ok (b, u) → f b u ≡ Ok (a, r) → length r < length ts
  by ts r a true u h g = omega (arith, pass_moves m k ts u h, keeps.at u r a g)
  by ts r a false u h g = omega (arith, (Keeps-local (Local-pass_in m k)).at ts u false h, moves.at u r a g)

pub Shortens-behind_in : {A : Type 0} (m : Mode) (k : Token) {p : Parser A} → Keeps p → Shortens (behind_in m k p)
Shortens-behind_in {A = A} m k {p = p} keeps ts r x e = let b = bound (pass_in m k ts) (λ o. if o then Some <$> p else pure None) (Some x, r) e in by b.0.0 b.0.1 b.1 b.2 where
  by : (o : Bool) (u : Stream) → pass_in m k ts ≡ Ok (o, u) → (if o then Some <$> p else pure None) u ≡ Ok (Some x, r) → length r < length ts
  by true u h g = omega (arith, pass_moves m k ts u h, keeps.at u r x (some_of p u r x g))
  by false u h g = none_not u r x g

pub Shortens-behind : {A : Type 0} (k : Token) {p : Parser A} → Keeps p → Shortens (behind k p)
Shortens-behind k keeps = Shortens-behind_in source k keeps

pub Local-some_by : {A : Type 0} (k : Token) {p : Parser A} → Local p → Local (some_by k p)
Local-some_by k l = Local-bind l (λ x. Local-bind (Local-loop (behind k _) (Local-behind k l) (Shortens-behind k (Keeps-local l))) (λ xs. Local-pure (x ∷ xs)))

pub Moves-some_by : {A : Type 0} (k : Token) {p : Parser A} → Local p → Moves p → Moves (some_by k p)
Moves-some_by k l m = Moves-first m (λ x. Keeps-local (Local-bind (Local-loop (behind k _) (Local-behind k l) (Shortens-behind k (Keeps-local l))) (λ xs. Local-pure (x ∷ xs))))

-- ---- refusals without a step

abbrev pub refuses : {A : Type 0} → Mode → Expected → Parser A
refuses m e ts = Err (refusal m e ts)

same_refusal : (m : Mode) (e : Expected) (r s : Stream) → SameHead r s → refusal m e r ≡ refusal m e s
same_refusal m e r s h = same_start (refusal m e) r s (heads m) h where
  heads : (m : Mode) (x : Piece) (t u : Stream) → refusal m e (x ∷ t) ≡ refusal m e (x ∷ u)
  heads m (piece c l) t u = refl
  heads source (last c) t u = refl
  heads text (last c) t u = refl

pub Local-refused : {A : Type 0} (m : Mode) (e : Expected) → Local (refuses {A = A} m e)
Local-refused m e = record { at = λ ts. (ts, is_at m e ts, record { front = []; whole = refl; stable = λ s h. ap (λ f. Err f) (sym (same_refusal m e ts s h)) }) }

pub Moves-refused : {A : Type 0} (m : Mode) (e : Expected) → Moves (refuses {A = A} m e)
Moves-refused m e = record { at = λ ts r a h. absurd cc }

abbrev pub lexical_at : {A : Type 0} → LexError → Parser A
lexical_at e ts = Err (lexical e)

pub Local-lexical : {A : Type 0} (e : LexError) → e.kind ≡ kinds.IntegerOutOfRange → Local (lexical_at {A = A} e)
Local-lexical e out = record { at = λ ts. (ts, inr out, record { front = []; whole = refl; stable = λ s h. refl }) }

pub Local-too_deep : {A : Type 0} (p : Span) → Local {A = A} (λ ts. Err (too_deep p))
Local-too_deep p = record { at = λ ts. (ts, tt, record { front = []; whole = refl; stable = λ s h. refl }) }
