-- Loops tell their faults at the first token with which nothing goes on, where each of their turns does.
use Rattle.std.proofs.Common.{[], ◌≡◌, ℕ, zero, suc, ◌<◌, Bool, true, false, not, List, ◌∷◌, length, Option, Some, None, Ok, Err, refl, ap, sym, subst, ◌∙◌, arith}
use Rattle.std.specs.Prelude.{if◌then◌else◌, is_some}
use Rattle.protox_lex.specs.Token.{Token, sign}
use Rattle.protox_lex.specs.declared.token.Sign.TheVariants as signs
use Rattle.protox_tokens.specs.Stream.{Piece, Mode, source, Stream}
use Rattle.protox_tokens.specs.Parser.{Outcome, Parser, and_then, ◌>>=◌, ◌<$>◌, pure, sees_in, sees, goes_on, loop, expect, behind_in, behind, when, until, some_by}
use Rattle.protox_tokens.proofs.Loops.{Shortens, loop-is}
use Rattle.protox_tokens.proofs.Both.{Always, then_ok}
use Rattle.source_grammar.proofs.ViableTokens.{sign_written}
use Rattle.source_grammar.proofs.Viable.{Goes, Went, Viable, then_at, fail_at, bind_at, viable_then, viable_pure, Any, viable_map}
use Rattle.source_grammar.proofs.ViableForms.{went_as, viable_choose}
use Rattle.source_grammar.proofs.ViableSteps.{Heads, viable_expect, eats_none, Passed, viable_pass}

module _ {A I : Type 0} (H : I → Stream → Type 0) (Stop : Stream → Type 0) where
  -- what follows a turn: another turn, or what ends them
  abbrev pub Turned : I → Option A → Stream → Type 0
  Turned i None = λ s. H i s × Stop s
  Turned i (Some x) = λ s. H i s

  abbrev pub Over : I → List A → Stream → Type 0
  Over i xs = λ s. H i s × Stop s

  module _ (W : Piece → Type 0) (step : Parser (Option A)) (short : Shortens step) (turn : (i : I) → Viable W (H i) step Turned) (stop : (i : I) (s : Stream) → H i s → Stop s → step s ≡ Ok (None, s)) where
    abbrev rest : Option A → Parser (List A)
    rest o = goes_on o (loop step)

    ended : (i : I) (s : Stream) → H i s → Stop s → loop step s ≡ Ok ([], s)
    ended i s h e = loop-is step short s ∙ then_ok rest (stop i s h e) refl

    afterwards : (i : I) (o : Option A) → Goes (Turned i o) (rest o) Over []
    afterwards i None = record { more = []; stand = tt; kind = i; value = []; reads = λ s g. (g, refl) }
    afterwards i (Some x) = record { more = []; stand = tt; kind = i; value = x ∷ []; reads = λ s g. (g.0, then_ok (λ xs. pure (x ∷ xs)) (ended i s g.0 g.1) refl) }

    turned : (n : ℕ) (i : I) (ts : Stream) → length ts < suc n → ((j : I) (us : Stream) → length us < n → H j us → Went W (H j) (loop step) Over us (loop step us)) → (o : Outcome (Option A)) → step ts ≡ o → Went W (H i) step Turned ts o
        → Went W (H i) (step >>= rest) Over ts (and_then o rest)
    turned n i ts lt later (Err f) is c = fail_at W (H i) step Turned rest Over afterwards ts f c
    turned n i ts lt later (Ok (None, r)) is c = then_at W (H i) step Turned rest Over ts r None c (Ok ([], r)) (record { front = []; whole = refl; kind = c.kind; told = c.told; reads = λ s g. (g, refl) })
    turned n i ts lt later (Ok (Some x, r)) is c =
        let less = short ts r x is in
        then_at W (H i) step Turned rest Over ts r (Some x) c (rest (Some x) r)
        (bind_at W (H c.kind) (loop step) Over (λ xs. pure (x ∷ xs)) Over (λ j xs. viable_pure j (x ∷ xs) (λ s g. g) (λ s g. g)) r (loop step r) (later c.kind r (omega arith) c.told))

    loops : (n : ℕ) (i : I) (ts : Stream) → length ts < n → H i ts → Went W (H i) (loop step) Over ts (loop step ts)
    loops zero i ts lt h = absurd (omega arith)
    loops (suc n) i ts lt h =
        subst (Went W (H i) (loop step) Over ts) (sym (loop-is step short ts))
        (went_as W {H = H i} {K = H i} {p = step >>= rest} {q = loop step} Over (λ s g. (g, loop-is step short s)) ts (and_then (step ts) rest) (turned n i ts lt (loops n) (step ts) refl ((turn i).held.at ts h)))

    pub viable_loop : (i : I) → Viable W (H i) (loop step) Over
    viable_loop i = record { begin = record { more = []; stand = tt; kind = i; value = []; reads = λ s g. (g.0, ended i s g.0 g.1) }; held = record { at = λ ts h. loops (suc (length ts)) i ts (omega arith) h } }

-- ---- the two kinds of turns

-- Nothing is asked of where a turn begins.
abbrev pub Free : Unit {0} → Stream → Type 0
Free i = λ s. Unit {0}

pub stops_behind : {A : Type 0} (m : Mode) (k : Token) (p : Parser A) (s : Stream) → sees_in m k s ≡ false → behind_in m k p s ≡ Ok (None, s)
stops_behind m k p s e = then_ok (λ b. if b then Some <$> p else pure None) (then_ok (λ o. pure (is_some o)) (eats_none m k s e) refl) refl

-- behind a token
pub viable_behind : {A I J : Type 0} {W : Piece → Type 0} (m : Mode) (k : Token) {p : Parser A} {F : J → A → Stream → Type 0} (K : I → Stream → Type 0) (to : J → A → I) → ((j : J) (a : A) (s : Stream) → F j a s → K (to j a) s) → ((j : J) (a : A) (s : Stream) → K (to j a) s → F j a s)
    → Viable W Always p F → (i : I) → Heads (K i) → Viable W (K i) (behind_in m k p) (Turned K (λ s. sees_in m k s ≡ false))
viable_behind {A = A} {W = W} m k {p = p} K to forth back rule i heads = viable_then (viable_pass _ m k (K i) heads) by where
  by : (u : Unit {0}) (b : Bool) → Viable W (Passed (K i) m k u b) (if b then Some <$> p else pure None) (Turned {A = A} K (λ s. sees_in m k s ≡ false))
  by u true = viable_map Some to forth back rule
  by u false = viable_pure i None (λ s h. h) (λ s h. h)

-- where what is ahead is so
pub viable_when : {A I J : Type 0} {W : Piece → Type 0} (f : Stream → Bool) {p : Parser A} {F : J → A → Stream → Type 0} (K : I → Stream → Type 0) (to : J → A → I) → ((j : J) (a : A) (s : Stream) → F j a s → K (to j a) s) → ((j : J) (a : A) (s : Stream) → K (to j a) s → F j a s)
    → (i : I) → Viable W (λ s. K i s × (f s ≡ true)) p F → Viable W (K i) (when f p) (Turned K (λ s. f s ≡ false))
viable_when {A = A} f K to forth back i rule = viable_choose f (viable_map Some to forth back rule).held (viable_pure i None (λ s h. h) (λ s h. h))

pub stops_when : {A : Type 0} (f : Stream → Bool) (p : Parser A) (s : Stream) → f s ≡ false → when f p s ≡ Ok (None, s)
stops_when f p s e = ap (λ b. if b then (Some <$> p) s else Ok (None, s)) e

-- statements up to a closing brace

abbrev pub Open : Stream → Type 0
Open s = Unit {0} × (not (sees (sign signs.RightBrace) s) ≡ true)

abbrev pub Closed : {A : Type 0} → Unit {0} → List A → Stream → Type 0
Closed i xs = λ s. Unit {0} × (not (sees (sign signs.RightBrace) s) ≡ false)

pub viable_items : {A : Type 0} {W : Piece → Type 0} {p : Parser A} → Shortens (until (sign signs.RightBrace) p) → Viable W Open p Any → Viable W Always (loop (until (sign signs.RightBrace) p)) Closed
viable_items {A = A} {p = p} short rule =
    viable_loop Free (λ s. not (sees (sign signs.RightBrace) s) ≡ false) _ (until (sign signs.RightBrace) p) short
    (λ i. viable_when (λ ts. not (sees (sign signs.RightBrace) ts)) Free (λ j a. tt) (λ j a s h. tt) (λ j a s h. tt) i rule) (λ i s h e. stops_when (λ ts. not (sees (sign signs.RightBrace) ts)) p s e) tt

-- ---- one or more, with a token between them

-- what follows the value before
abbrev pub Each : {A J : Type 0} → (J → A → Stream → Type 0) → J × A → Stream → Type 0
Each F i = λ s. F i.0 i.1 s

abbrev pub Listed : {A J : Type 0} → Token → (J → A → Stream → Type 0) → J × A → List A → Stream → Type 0
Listed k F i xs = λ s. F i.0 i.1 s × (sees k s ≡ false)

pub viable_some_by : {A J : Type 0} {W : Piece → Type 0} (k : Token) {p : Parser A} {F : J → A → Stream → Type 0} → ((j : J) (a : A) → Heads (F j a)) → Shortens (behind k p) → {H : Stream → Type 0} → Viable W H p F → Viable W Always p F → Viable W H (some_by k p) (Listed k F)
viable_some_by {A = A} {J = J} {W = W} k {p = p} {F = F} heads short first rule = viable_then first (λ j a. viable_then (others j a) (λ i xs. viable_pure i (a ∷ xs) (λ s h. h) (λ s h. h))) where
  others : (j : J) (a : A) → Viable W (F j a) (loop (behind k p)) (Listed k F)
  others j a = viable_loop (Each F) (λ s. sees k s ≡ false) _ (behind k p) short
      (λ i. viable_behind source k (Each F) (λ j a. (j, a)) (λ j a s h. h) (λ j a s h. h) rule i (heads i.0 i.1)) (λ i s h e. stops_behind source k p s e) (j, a)

-- the brace that closes them
abbrev pub Closing : Stream → Type 0
Closing s = Unit {0} × (not (sees (sign signs.RightBrace) s) ≡ false)

pub viable_close : {W : Piece → Type 0} → Viable W Closing (expect (sign signs.RightBrace)) Any
viable_close = viable_expect (sign signs.RightBrace) (sign_written signs.RightBrace) Closing (λ x t u h. h) refl (λ s. (tt, refl))
