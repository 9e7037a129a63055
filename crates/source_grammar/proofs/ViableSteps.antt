-- The steps of which rules are made tell their faults at the first token with which nothing goes on.
use Rattle.std.proofs.Common.{[], ◌≡◌, Bool, true, false, ◌++◌, ◌∷◌, Option, Some, None, Ok, Err, refl, ap, sym, subst, ◌∙◌, inl}
use Rattle.std.specs.Prelude.{if◌then◌else◌, is_some}
use Rattle.protox_lex.specs.Token.{Token, token_at}
use Rattle.protox_lex.specs.declared.span.Span.{Span}
use Rattle.protox_tokens.specs.Stream.{Piece, piece, last, Mode, source, text, Stream, look, peek}
use Rattle.protox_tokens.specs.Parser.{Parser, and_then, ◌>>=◌, pure, is, value_of, saw, sees_in, eaten, eat_in, pass_in, taken, one, expect_in, expect, choose}
use Rattle.protox_tokens.specs.Refusal.{Expected, this, refusal}
use Rattle.protox_tokens.proofs.Local.{SameHead, IsOfHead, same_start, refuses}
use Rattle.protox_tokens.proofs.Both.{Always, then_ok}
use Rattle.source_grammar.specs.Refusals.{IsWritten, MayStand}
use Rattle.source_grammar.proofs.Viable.{Goes, Stops, Went, if_token, Held, Viable, goes_then, then_at, viable_then, viable_pure, Any}
use Rattle.source_grammar.proofs.ViableForms.{goes_as, went_as, If, chosen}

-- Whether it holds depends on the first piece alone.
abbrev pub Heads : (Stream → Type 0) → Type 0
Heads H = (x : Piece) (t u : Stream) → H (x ∷ t) → H (x ∷ u)

by_head : (H : Stream → Type 0) → Heads H → (r s : Stream) → SameHead r s → H r → H s
by_head H heads [] [] e h = h
by_head H heads [] (y ∷ s) e h = absurd e
by_head H heads (x ∷ r) [] e h = absurd e
by_head H heads (x ∷ r) (y ∷ s) e h = subst (λ z. H (z ∷ s)) e (heads x r s h)

-- a token, at a place, with no comment before it
abbrev pub made_at : Span → Token → Piece
made_at at k = piece None (token_at at.start at.end k)

-- the same at the start of a source
abbrev pub made : Token → Piece
made k = piece None (token_at 0 0 k)

-- ---- refusals

same_refusal : (m : Mode) (e : Expected) (r s : Stream) → SameHead r s → refusal m e r ≡ refusal m e s
same_refusal m e r s h = same_start (refusal m e) r s (heads m) h where
  heads : (m : Mode) (x : Piece) (t u : Stream) → refusal m e (x ∷ t) ≡ refusal m e (x ∷ u)
  heads m (piece c l) t u = refl
  heads source (last c) t u = refl
  heads text (last c) t u = refl

-- A rule that is refused at the first token goes on as it may begin.
pub went_refused : {A I : Type 0} (W : Piece → Type 0) {H : Stream → Type 0} {q : Parser A} {F : I → A → Stream → Type 0} (m : Mode) (e : Expected) (ts : Stream)
    → ((s : Stream) → SameHead ts s → H s × (q s ≡ Err (refusal m e s))) → Goes H q F [] → Went W H q F ts (Err (refusal m e ts))
went_refused W {H = H} {q = q} {F = F} m e ts refused alive = if_token (refusal m e ts) {X = Stops W H q F ts (refusal m e ts)} (record {
  front = [];
  rest = ts;
  whole = refl;
  ahead = (m, e, refl);
  dead = λ s h. let x = refused s h in (x.0, x.1 ∙ ap (λ g. Err g) (sym (same_refusal m e ts s h)));
  alive = inl alive;
})

-- ---- one token

module _ {A : Type 0} (W : Piece → Type 0) (m : Mode) (e : Expected) (f : Token → Span → Option A) (H : Stream → Type 0) (heads : Heads H) (sample : Piece) (a : A) (seen : value_of f (look m sample) ≡ Some a) (stands : MayStand sample) (starts : (s : Stream) → H (sample ∷ s)) where
  one_goes : Goes H (one m e f) Any []
  one_goes = record { more = sample ∷ []; stand = (stands, tt); kind = tt; value = a; reads = λ s g. (starts s, ap (λ o. taken m e o (sample ∷ s)) seen) }

  none_taken : (ts s : Stream) → SameHead ts s → value_of f (peek m ts) ≡ None → one m e f s ≡ Err (refusal m e s)
  none_taken ts s h eq = ap (λ o. taken m e o s) (ap (value_of f) (sym (same_start (peek m) ts s (λ x t u. refl) h)) ∙ eq)

  one_by : (ts : Stream) (o : Option A) → H ts → value_of f (peek m ts) ≡ o → Went W H (one m e f) Any ts (taken m e o ts)
  one_by ts None h eq = went_refused W m e ts (λ s same. (by_head H heads ts s same h, none_taken ts s same eq)) one_goes
  one_by [] (Some b) h eq = absurd cc
  one_by (l ∷ ts) (Some b) h eq = record { front = l ∷ []; whole = refl; kind = tt; told = tt; reads = λ s g. (heads l ts s h, ap (λ o. taken m e o (l ∷ s)) eq) }

  pub viable_one : Viable W H (one m e f) Any
  viable_one = record { begin = one_goes; held = record { at = λ ts h. one_by ts (value_of f (peek m ts)) h refl } }

  -- A token after which a value may be refused for what it is, as the sample is not.
  module _ {B J : Type 0} (q : A → Parser B) (G : J → B → Stream → Type 0) (after : Goes Always (q a) G []) (later : (b : A) (r : Stream) → Went W Always (q b) G r (q b r)) where
    checked_goes : Goes H (one m e f >>= q) G []
    checked_goes = record {
      more = sample ∷ after.more;
      stand = (stands, after.stand);
      kind = after.kind;
      value = after.value;
      reads = λ s g. let x = after.reads s g in (starts (after.more ++ s), then_ok q (ap (λ o. taken m e o (sample ∷ (after.more ++ s))) seen) x.1);
    }

    checked_by : (ts : Stream) (o : Option A) → H ts → value_of f (peek m ts) ≡ o → Went W H (one m e f >>= q) G ts (and_then (taken m e o ts) q)
    checked_by ts None h eq = went_refused W m e ts (λ s same. (by_head H heads ts s same h, ap (λ o. and_then o q) (none_taken ts s same eq))) checked_goes
    checked_by [] (Some b) h eq = absurd cc
    checked_by (l ∷ ts) (Some b) h eq = then_at W H (one m e f) Any q G (l ∷ ts) ts b
        (record { front = l ∷ []; whole = refl; kind = tt; told = tt; reads = λ s g. (heads l ts s h, ap (λ o. taken m e o (l ∷ s)) eq) }) (q b ts) (later b ts)

    pub viable_checked : Viable W H (one m e f >>= q) G
    viable_checked = record { begin = checked_goes; held = record { at = λ ts h. checked_by ts (value_of f (peek m ts)) h refl } }

pub viable_expect_in : {W : Piece → Type 0} (m : Mode) (k : Token) → IsWritten k → (H : Stream → Type 0) → Heads H → value_of (is k) (look m (made k)) ≡ Some (record { start = 0; end = 0 }) → ((s : Stream) → H (made k ∷ s)) → Viable W H (expect_in m k) Any
unfolding expect_in
viable_expect_in m k written H heads seen starts = viable_one _ m (this k) (is k) H heads (made k) (record { start = 0; end = 0 }) seen written starts

pub viable_expect : {W : Piece → Type 0} (k : Token) → IsWritten k → (H : Stream → Type 0) → Heads H → value_of (is k) (look source (made k)) ≡ Some (record { start = 0; end = 0 }) → ((s : Stream) → H (made k ∷ s)) → Viable W H (expect k) Any
viable_expect k written H heads seen starts = viable_expect_in source k written H heads seen starts

-- ---- a token that may come

pub eats_none : (m : Mode) (k : Token) (s : Stream) → sees_in m k s ≡ false → eat_in m k s ≡ Ok (None, s)
unfolding eat_in
eats_none m k s e = by (saw m k s) e where
  by : (o : Option Span) → is_some o ≡ false → eaten o s ≡ Ok (None, s)
  by None h = refl
  by (Some at) h = absurd cc

abbrev pub Ate : (Stream → Type 0) → Mode → Token → Unit {0} → Option Span → Stream → Type 0
Ate H m k i None = λ s. H s × (sees_in m k s ≡ false)
Ate H m k i (Some at) = λ s. Unit {0}

-- whether it came
abbrev pub Passed : (Stream → Type 0) → Mode → Token → Unit {0} → Bool → Stream → Type 0
Passed H m k i true = λ s. Unit {0}
Passed H m k i false = λ s. H s × (sees_in m k s ≡ false)

module _ (W : Piece → Type 0) (m : Mode) (k : Token) (H : Stream → Type 0) (heads : Heads H) where
  eat_by : (ts : Stream) (o : Option Span) → H ts → saw m k ts ≡ o → Went W H (eat_in m k) (Ate H m k) ts (eaten o ts)
  unfolding eat_in
  eat_by ts None h eq = record { front = []; whole = refl; kind = tt; told = (h, ap is_some eq); reads = λ s g. (g.0, eats_none m k s g.1) }
  eat_by [] (Some at) h eq = absurd cc
  eat_by (l ∷ ts) (Some at) h eq = record { front = l ∷ []; whole = refl; kind = tt; told = tt; reads = λ s g. (heads l ts s h, ap (λ o. eaten o (l ∷ s)) eq) }

  pub viable_eat : Viable W H (eat_in m k) (Ate H m k)
  unfolding eat_in
  viable_eat = record { begin = record { more = []; stand = tt; kind = tt; value = None; reads = λ s g. (g.0, eats_none m k s g.1) }; held = record { at = λ ts h. eat_by ts (saw m k ts) h refl } }

  branch_by : {B J : Type 0} (f : Option Span → Parser B) {G : J → B → Stream → Type 0} → ((at : Span) → Held W Always (f (Some at)) G) → Viable W (λ s. H s × (sees_in m k s ≡ false)) (f None) G
      → (ts : Stream) (o : Option Span) → H ts → saw m k ts ≡ o → Went W H (eat_in m k >>= f) G ts (and_then (eaten o ts) f)
  branch_by f {G = G} some none ts None h eq = then_at W H (eat_in m k) (Ate H m k) f G ts ts None (eat_by ts None h eq) (f None ts) (none.held.at ts (h, ap is_some eq))
  branch_by f {G = G} some none [] (Some at) h eq = absurd cc
  branch_by f {G = G} some none (l ∷ ts) (Some at) h eq = then_at W H (eat_in m k) (Ate H m k) f G (l ∷ ts) ts (Some at) (eat_by (l ∷ ts) (Some at) h eq) (f (Some at) ts) ((some at).at ts tt)

  -- one thing behind the token, and another one without it
  pub viable_fault : {B J : Type 0} (f : Option Span → Parser B) {G : J → B → Stream → Type 0} → ((at : Span) → Held W Always (f (Some at)) G) → Viable W (λ s. H s × (sees_in m k s ≡ false)) (f None) G
      → Viable W H (eat_in m k >>= f) G
  unfolding eat_in
  viable_fault f {G = G} some none = record {
    begin = goes_then W H (eat_in m k) (Ate H m k) f G [] (record { more = []; stand = tt; kind = tt; value = None; reads = λ s g. (g.0, eats_none m k s g.1) }) none.begin;
    held = record { at = λ ts h. branch_by f some none ts (saw m k ts) h refl };
  }

  pub viable_branch : {B J : Type 0} (f : Option Span → Parser B) {G : J → B → Stream → Type 0} → ((at : Span) → Viable W Always (f (Some at)) G) → Viable W (λ s. H s × (sees_in m k s ≡ false)) (f None) G
      → Viable W H (eat_in m k >>= f) G
  viable_branch f some none = viable_fault f (λ at. (some at).held) none

  pub viable_pass : Viable W H (pass_in m k) (Passed H m k)
  viable_pass = viable_then viable_eat by where
    by : (i : Unit {0}) (o : Option Span) → Viable W (Ate H m k i o) (pure (is_some o)) (Passed H m k)
    by i None = viable_pure tt false (λ s h. h) (λ s h. h)
    by i (Some at) = viable_pure tt true (λ s h. tt) (λ s h. tt)

  pub viable_fork : {B J : Type 0} (f : Bool → Parser B) {G : J → B → Stream → Type 0} → Viable W Always (f true) G → Viable W (λ s. H s × (sees_in m k s ≡ false)) (f false) G
      → Viable W H (pass_in m k >>= f) G
  viable_fork f {G = G} there not_there = viable_then viable_pass by where
    by : (i : Unit {0}) (b : Bool) → Viable W (Passed H m k i b) (f b) G
    by i true = there
    by i false = not_there

-- ---- the last of some choices, besides which nothing may stand

pub viable_only : {B J : Type 0} {W : Piece → Type 0} (f : Stream → Bool) → IsOfHead f → (m : Mode) (e : Expected) (H : Stream → Type 0) → Heads H → {p : Parser B} {G : J → B → Stream → Type 0} → Viable W (If H f) p G → Viable W H (choose f p (refuses m e)) G
viable_only {W = W} f of_head m e H heads {p = p} {G = G} first = record { begin = begin; held = record { at = λ ts h. by ts h (f ts) refl } } where
  begin : Goes H (choose f p (refuses m e)) G []
  begin = goes_as W G (chosen f H p (refuses m e)) [] first.begin

  by : (ts : Stream) → H ts → (c : Bool) → f ts ≡ c → Went W H (choose f p (refuses m e)) G ts (if c then p ts else refuses m e ts)
  by ts h true eq = went_as W G (chosen f H p (refuses m e)) ts (p ts) (first.held.at ts (h, eq))
  by ts h false eq = went_refused W m e ts (λ s same. (by_head H heads ts s same h, ap (λ c. if c then p s else refuses m e s) (sym (of_head.at ts s same) ∙ eq))) begin
