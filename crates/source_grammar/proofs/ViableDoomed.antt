-- Rules behind whose first word nothing goes on, told at a later token: where another rule may stand, that word is the
-- first with which nothing goes on.
use Rattle.std.proofs.Common.{[], ◌≡◌, ◌++◌, ◌∷◌, Bool, true, false, Option, Some, None, Ok, Err, refl, ap, sym, ◌∙◌, subst, inr}
use Rattle.std.specs.Prelude.{if◌then◌else◌, is_some}
use Rattle.protox_lex.specs.Token.{Token}
use Rattle.protox_lex.specs.declared.span.Span.{Span}
use Rattle.protox_tokens.specs.Stream.{Piece, Stream, source, look}
use Rattle.protox_tokens.specs.Parser.{Outcome, Parser, and_then, ◌>>=◌, ◌<$>◌, pure, is, value_of, sees, eaten, eat_in, eat, taken, expect_in, expect, choose}
use Rattle.protox_tokens.specs.Refusal.{Fault, unexpected, eof, lexical, unknown_syntax, too_deep, this}
use Rattle.protox_tokens.proofs.Local.{IsAhead, Cut, LocalAt, Local, Local-bind, Local-pure, bound}
use Rattle.protox_tokens.proofs.Both.{Always, then_ok}
use Rattle.source_grammar.proofs.Viable.{Goes, Doomed, Stops, Went, Viable}
use Rattle.source_grammar.proofs.ViableForms.{goes_as, went_as, viable_equal, Else, chosen, not_chosen}
use Rattle.source_grammar.proofs.ViableSteps.{Heads, eats_none}

-- a rule that reads nothing
pub record Never {A : Type 0} (p : Parser A) : Type 0 where
  pub at : (ts : Stream) (x : A × Stream) → p ts ≡ Ok x → ⊥

pub never_first : {A B : Type 0} {p : Parser A} (f : A → Parser B) → Never p → Never (p >>= f)
never_first {p = p} f n = record { at = λ ts x e. let b = bound (p ts) f x e in n.at ts b.0 b.1 }

pub never_later : {A B : Type 0} (p : Parser A) {f : A → Parser B} → ((a : A) → Never (f a)) → Never (p >>= f)
never_later p {f = f} n = record { at = λ ts x e. let b = bound (p ts) f x e in (n b.0.0).at b.0.1 x b.2 }

-- behind its first token the rule reads nothing
pub record Behind {B : Type 0} (p : Parser B) (l : Piece) : Type 0 where
  pub rule : Parser B
  pub local : Local rule
  pub never : Never rule
  pub same : (s : Stream) → p (l ∷ s) ≡ rule s

module _ {B J : Type 0} (W : Piece → Type 0) (k : Token) (H : Stream → Type 0) (heads : Heads H) (p q : Parser B) (G : J → B → Stream → Type 0)
    (behind : (l : Piece) → sees k (l ∷ []) ≡ true → Behind p l) (words : (l : Piece) → sees k (l ∷ []) ≡ true → W l) (other : Viable W (Else H (sees k)) q G) where
  begin : Goes H (choose (sees k) p q) G []
  begin = goes_as W G (not_chosen (sees k) H p q) [] other.begin

  behind_read : (l : Piece) (seen : sees k (l ∷ []) ≡ true) (s : Stream) → choose (sees k) p q (l ∷ s) ≡ (behind l seen).rule s
  behind_read l seen s = (chosen (sees k) Always p q (l ∷ s) (tt, seen)).1 ∙ (behind l seen).same s

  module _ (l : Piece) (seen : sees k (l ∷ []) ≡ true) (starts : (s : Stream) → H (l ∷ s)) (ts : Stream) where
    doomed : (front : Stream) → Doomed W H (choose (sees k) p q) G (l ∷ front)
    doomed front = record { before = []; word = l; between = front; whole = refl; is_word = words l seen; alive = begin; dead = λ s. (starts s, λ x e. (behind l seen).never.at s x (sym (behind_read l seen s) ∙ e)) }

    stops : (f : Fault) (r : Stream) → IsAhead f r → Cut (behind l seen).rule ts r (λ s. Err f) → Stops W H (choose (sees k) p q) G (l ∷ ts) f
    stops f r ahead c = record {
      front = l ∷ c.front;
      rest = r;
      whole = ap (λ x. l ∷ x) c.whole;
      ahead = ahead;
      dead = λ s h. (starts (c.front ++ s), behind_read l seen (c.front ++ s) ∙ c.stable s h);
      alive = inr (doomed c.front);
    }

    went : (o : Outcome B) → (behind l seen).rule ts ≡ o → LocalAt (behind l seen).rule ts o → Went W H (choose (sees k) p q) G (l ∷ ts) o
    went (Ok x) e c = absurd ((behind l seen).never.at ts x e)
    went (Err (unexpected x t at)) e c = stops (unexpected x t at) c.0 c.1 c.2
    went (Err (eof x)) e c = stops (eof x) c.0 c.1 c.2
    went (Err (lexical x)) e c = tt
    went (Err (unknown_syntax at)) e c = tt
    went (Err (too_deep at)) e c = tt

  by : (ts : Stream) → H ts → (c : Bool) → sees k ts ≡ c → Went W H (choose (sees k) p q) G ts (if c then p ts else q ts)
  by [] h true e = absurd cc
  by (l ∷ ts) h true e = subst (Went W H (choose (sees k) p q) G (l ∷ ts)) (sym ((behind l e).same ts)) (went l e (λ s. heads l ts s h) ts ((behind l e).rule ts) refl ((behind l e).local.at ts))
  by ts h false e = went_as W G (not_chosen (sees k) H p q) ts (q ts) (other.held.at ts (h, e))

  pub viable_doomed : Viable W H (choose (sees k) p q) G
  viable_doomed = record { begin = begin; held = record { at = λ ts h. by ts h (sees k ts) refl } }

-- ---- a token that may come, behind which nothing goes on

module _ {B : Type 0} (k : Token) (f : Option Span → Parser B) where
  behind_eat : ((at : Span) → Local (f (Some at))) → ((at : Span) → Never (f (Some at))) → (l : Piece) → sees k (l ∷ []) ≡ true → Behind (eat k >>= f) l
  unfolding eat_in
  behind_eat locals nevers l seen = by (value_of (is k) (look source l)) refl seen where
    by : (o : Option Span) → value_of (is k) (look source l) ≡ o → is_some o ≡ true → Behind (eat k >>= f) l
    by None e i = absurd cc
    by (Some at) e i = record { rule = f (Some at); local = locals at; never = nevers at; same = λ s. then_ok f (ap (λ o. eaten o (l ∷ s)) e) refl }

  eat_chosen : (s : Stream) → (eat k >>= f) s ≡ choose (sees k) (eat k >>= f) (f None) s
  eat_chosen s = by (sees k s) refl where
    by : (b : Bool) → sees k s ≡ b → (eat k >>= f) s ≡ (if b then (eat k >>= f) s else f None s)
    by true e = refl
    by false e = then_ok f (eats_none source k s e) refl

  pub doomed_eat : {J : Type 0} (W : Piece → Type 0) (H : Stream → Type 0) → Heads H → {G : J → B → Stream → Type 0} → ((at : Span) → Local (f (Some at))) → ((at : Span) → Never (f (Some at))) → ((l : Piece) → sees k (l ∷ []) ≡ true → W l)
      → Viable W (Else H (sees k)) (f None) G → Viable W H (eat k >>= f) G
  doomed_eat W H heads {G = G} locals nevers words other = viable_equal eat_chosen (viable_doomed W k H heads (eat k >>= f) (f None) G (behind_eat locals nevers) words other)

-- ---- a value that begins with this token, behind which nothing goes on

module _ {A B : Type 0} (k : Token) (c : A → B) (f : Span → Parser A) where
  behind_expect : ((at : Span) → Local (f at)) → ((at : Span) → Never (f at)) → (l : Piece) → sees k (l ∷ []) ≡ true → Behind (c <$> (expect k >>= f)) l
  unfolding expect_in
  behind_expect locals nevers l seen = by (value_of (is k) (look source l)) refl seen where
    by : (o : Option Span) → value_of (is k) (look source l) ≡ o → is_some o ≡ true → Behind (c <$> (expect k >>= f)) l
    by None e i = absurd cc
    by (Some at) e i = record {
      rule = f at >>= (λ x. pure (c x));
      local = Local-bind (locals at) (λ x. Local-pure (c x));
      never = never_first (λ x. pure (c x)) (nevers at);
      same = λ s. ap (λ o. and_then (and_then (taken source (this k) o (l ∷ s)) f) (λ x. pure (c x))) e;
    }

  pub doomed_expect : {J : Type 0} (W : Piece → Type 0) (H : Stream → Type 0) → Heads H → {q : Parser B} {G : J → B → Stream → Type 0} → ((at : Span) → Local (f at)) → ((at : Span) → Never (f at)) → ((l : Piece) → sees k (l ∷ []) ≡ true → W l)
      → Viable W (Else H (sees k)) q G → Viable W H (choose (sees k) (c <$> (expect k >>= f)) q) G
  doomed_expect W H heads {q = q} {G = G} locals nevers words other = viable_doomed W k H heads (c <$> (expect k >>= f)) q G (behind_expect locals nevers) words other
