-- Rules of text format that take tokens of a language, in both directions.
use Rattle.std.proofs.Common.{[], ◌≡◌, ℕ, zero, suc, Bool, true, false, List, ◌∷◌, length, Option, Some, None, Ok, refl, ap, sym, subst, ◌∙◌, inl, inr, ◌⊎◌}
use Rattle.std.specs.Prelude.{if◌then◌else◌, is_some}
use Rattle.protox_aggregates.specs.AggregateGrammar.{Passes, passes, must}
use Rattle.protox_lex.specs.Token.{Token, sign}
use Rattle.protox_lex.specs.declared.span.Span.{Span}
use Rattle.protox_lex.specs.declared.token.Sign.{Sign}
use Rattle.protox_tokens.specs.Stream.{Stream, Piece, Seen, look, tail, text}
use Rattle.protox_tokens.specs.Parser.{Outcome, Parser, and_then, ◌>>=◌, ◌>>◌, ◌<$>◌, pure, same, is, value_of, saw, sees_in, eaten, eat_in, taken, one, expect_in, loop, when, behind_in, many as many_steps, done, choose}
use Rattle.protox_tokens.specs.Refusal.{Expected, this}
use Rattle.protox_tokens.proofs.Loops.{Shortens}
use Rattle.protox_tokens.proofs.Local.{same_ok, bound, some_of, some_not, none_is, none_not}
use Rattle.protox_tokens.proofs.Both.{IsNamed, Always, then_ok}
use Rattle.protox_tokens.proofs.Steps.{same_is, seen_is}
use Rattle.protox_tokens.proofs.Lists.{lastly_all}
use Rattle.source_grammar.specs.Aggregates.{SeesToken, in_text, a_sign}
use Rattle.source_grammar.specs.Languages.{Language, nothing, ◌▸◌, ◌∪◌, each, times, many}
use Rattle.source_grammar.proofs.Rules.{Turn, loop_sound, loop_complete}

-- What p takes of an input that has H is of the language, and what is, with F of what follows, is taken.
pub record Takes (H : Stream → Type 0) (p : Passes) (L : Language) (F : Stream → Type 0) : Type 0 where
  pub sound : (ts r : Stream) (u : Unit {0}) → H ts → p ts ≡ Ok (u, r) → L ts r
  pub complete : (ts r : Stream) → L ts r → F r → p ts ≡ Ok (tt, r)

abbrev pub Free : Stream → Type 0
Free r = Unit {0}

pub takes_as : {H : Stream → Type 0} {p : Passes} {L M : Language} {F G : Stream → Type 0} → Takes H p L F → ((ts r : Stream) → L ts r → M ts r) → ((ts r : Stream) → M ts r → G r → L ts r × F r) → Takes H p M G
takes_as rule to from = record { sound = λ ts r u h e. to ts r (rule.sound ts r u h e); complete = λ ts r h g. let x = from ts r h g in rule.complete ts r x.0 x.1 }

-- ---- one token

pub sees_more : {P Q : Token → Span → Type 0} → ((t : Token) (at : Span) → P t at → Q t at) → (ts r : Stream) → in_text P ts r → in_text Q ts r
sees_more {P = P} {Q = Q} f [] r h = absurd h
sees_more {P = P} {Q = Q} f (l ∷ ts) r h = (by (look text l) h.0, h.1) where
  by : (x : Seen) → SeesToken P x → SeesToken Q x
  by None h = absurd h
  by (Some x) h = f x.0 x.1 h

-- whether a token comes is told by what is known of the first
pub text_first : {P : Token → Span → Type 0} (k : Token) (b : Bool) → ((t : Token) (at : Span) → P t at → same t k ≡ b) → (ts r : Stream) → in_text P ts r → sees_in text k ts ≡ b
text_first {P = P} k b f [] r h = absurd h
text_first {P = P} k b f (l ∷ ts) r h = by (look text l) h.0 where
  by : (x : Seen) → SeesToken P x → is_some (value_of (is k) x) ≡ b
  by None h = absurd h
  by (Some x) h = seen_is k x.0 x.1 ∙ f x.0 x.1 h

pub text_rest : (P : Token → Span → Type 0) (ts r : Stream) → in_text P ts r → tail ts ≡ r
text_rest P [] r h = absurd h
text_rest P (l ∷ ts) r h = h.1

module _ {A : Type 0} (e : Expected) (f : Token → Span → Option A) where
  leaf_at : (l : Piece) (ts r : Stream) (a : A) (x : Seen) → taken text e (value_of f x) (l ∷ ts) ≡ Ok (a, r) → SeesToken (λ t at. f t at ≡ Some a) x × (ts ≡ r)
  leaf_at l ts r a None g = absurd cc
  leaf_at l ts r a (Some x) g = by (f x.0 x.1) refl g where
    by : (o : Option A) → f x.0 x.1 ≡ o → taken text e o (l ∷ ts) ≡ Ok (a, r) → (f x.0 x.1 ≡ Some a) × (ts ≡ r)
    by None i g = absurd cc
    by (Some b) i g = let y = same_ok (b, ts) (a, r) g in (i ∙ ap (λ (z : A × Stream). Some z.0) y, ap (λ (z : A × Stream). z.1) y)

  pub leaf_sound : (ts r : Stream) (a : A) → one text e f ts ≡ Ok (a, r) → in_text (λ t at. f t at ≡ Some a) ts r
  leaf_sound [] r a g = absurd cc
  leaf_sound (l ∷ ts) r a g = leaf_at l ts r a (look text l) g

  pub leaf_complete : (ts r : Stream) (a : A) → in_text (λ t at. f t at ≡ Some a) ts r → one text e f ts ≡ Ok (a, r)
  leaf_complete [] r a h = absurd h
  leaf_complete (l ∷ ts) r a h = by (look text l) h.0 where
    by : (x : Seen) → SeesToken (λ t at. f t at ≡ Some a) x → taken text e (value_of f x) (l ∷ ts) ≡ Ok (a, r)
    by None i = absurd i
    by (Some x) i = ap (λ o. taken text e o (l ∷ ts)) i ∙ ap (λ s. Ok (a, s)) h.1

pub takes_one : (e : Expected) (f : Token → Span → Option (Unit {0})) (P : Token → Span → Type 0) {H : Stream → Type 0} → ((t : Token) (at : Span) (u : Unit {0}) → f t at ≡ Some u → P t at) → ((t : Token) (at : Span) → P t at → f t at ≡ Some tt) → Takes H (one text e f) (in_text P) Free
takes_one e f P to from = record { sound = λ ts r u h g. sees_more (λ t at i. to t at u i) ts r (leaf_sound e f ts r u g); complete = λ ts r h g. leaf_complete e f ts r tt (sees_more from ts r h) }

-- the place of a token
placed : (P : Token → Span → Type 0) (ts r : Stream) → in_text P ts r → (q : Span) × in_text (λ t at. P t at × (at ≡ q)) ts r
placed P [] r h = absurd h
placed P (l ∷ ts) r h = by (look text l) refl h.0 where
  by : (x : Seen) → look text l ≡ x → SeesToken P x → (q : Span) × (SeesToken (λ t at. P t at × (at ≡ q)) (look text l) × (ts ≡ r))
  by None e i = absurd i
  by (Some x) e i = (x.1, (subst (SeesToken (λ t at. P t at × (at ≡ x.1))) (sym e) (i, refl), h.1))

is_at : (k t : Token) (p q : Span) (b : Bool) → same t k ≡ b → (if b then Some p else None) ≡ Some q → (t ≡ k) × (p ≡ q)
is_at k t p q true e h = (same_is t k e, let is : p ≡ q = cc in is)
is_at k t p q false e h = absurd (let wrong : ◌≡◌ {A = Option Span} None (Some q) = h in cc)

pub expect_sound : (k : Token) (ts r : Stream) (q : Span) → expect_in text k ts ≡ Ok (q, r) → in_text (λ t at. (t ≡ k) × (at ≡ q)) ts r
unfolding expect_in
expect_sound k ts r q g = sees_more (λ t at i. is_at k t at q (same t k) refl i) ts r (leaf_sound (this k) (is k) ts r q g)

pub expect_complete : (k : Token) → IsNamed k → (ts r : Stream) (q : Span) → in_text (λ t at. (t ≡ k) × (at ≡ q)) ts r → expect_in text k ts ≡ Ok (q, r)
unfolding expect_in
expect_complete k named ts r q h = leaf_complete (this k) (is k) ts r q (sees_more (λ t at i. ap (λ t. is k t at) i.0 ∙ ap (λ b. if b then Some at else None) named ∙ ap Some i.1) ts r h)

pub expect_some : (k : Token) → IsNamed k → (P : Span → Type 0) (ts r : Stream) → in_text (λ t at. (t ≡ k) × P at) ts r → (q : Span) × (expect_in text k ts ≡ Ok (q, r)) × P q
expect_some k named P ts r h = let x = placed (λ t at. (t ≡ k) × P at) ts r h in (x.0, expect_complete k named ts r x.0 (sees_more (λ t at i. (i.0.0, i.1)) ts r x.1), held ts x.1) where
  held : (ts : Stream) {q : Span} → in_text (λ t at. ((t ≡ k) × P at) × (at ≡ q)) ts r → P q
  held [] {q} h = absurd h
  held (l ∷ ts) {q} h = by (look text l) h.0 where
    by : (x : Seen) → SeesToken (λ t at. ((t ≡ k) × P at) × (at ≡ q)) x → P q
    by None i = absurd i
    by (Some x) i = subst P i.1 i.0.1

pub takes_must : (k : Sign) → IsNamed (sign k) → {H : Stream → Type 0} → Takes H (must k) (a_sign k) Free
takes_must k named = record {
  sound = λ ts r u h e. let x = bound (expect_in text (sign k) ts) (λ at. done) (u, r) e in
      subst (a_sign k ts) (ap (λ (y : Unit {0} × Stream). y.1) (same_ok (tt, x.0.1) (u, r) x.2)) (sees_more (λ t at i. i.0) ts x.0.1 (expect_sound (sign k) ts x.0.1 x.0.0 x.1));
  complete = λ ts r h g. let x = expect_some (sign k) named (λ at. Unit {0}) ts r (sees_more (λ t at i. (i, tt)) ts r h) in then_ok (λ at. done) x.1 refl;
}

-- ---- a sign that may come

left_of : Option Span → Stream → Stream
left_of None ts = ts
left_of (Some s) ts = tail ts

sign_seen : (k : Sign) (ts : Stream) → sees_in text (sign k) ts ≡ true → a_sign k ts (tail ts)
sign_seen k [] h = absurd cc
sign_seen k (l ∷ ts) h = (by (look text l) h, refl) where
  by : (x : Seen) → is_some (value_of (is (sign k)) x) ≡ true → SeesToken (λ t at. t ≡ sign k) x
  by None h = absurd cc
  by (Some x) h = same_is x.0 (sign k) (sym (seen_is (sign k) x.0 x.1) ∙ h)

module _ {A : Type 0} (k : Sign) (f : Bool → Parser A) where
  pass_at : (ts : Stream) (o : Option Span) → and_then (and_then (eaten o ts) (λ o. pure (is_some o))) f ≡ f (is_some o) (left_of o ts)
  unfolding left_of
  pass_at ts None = refl
  pass_at ts (Some s) = refl

  pub pass_cases : (ts : Stream) (o : Outcome A) → (passes k >>= f) ts ≡ o → (a_sign k ts (tail ts) × (f true (tail ts) ≡ o)) ⊎ ((sees_in text (sign k) ts ≡ false) × (f false ts ≡ o))
  unfolding eat_in left_of
  pass_cases ts o e = by (saw text (sign k) ts) refl (sym (pass_at ts (saw text (sign k) ts)) ∙ e) where
    by : (s : Option Span) → saw text (sign k) ts ≡ s → f (is_some s) (left_of s ts) ≡ o → (a_sign k ts (tail ts) × (f true (tail ts) ≡ o)) ⊎ ((sees_in text (sign k) ts ≡ false) × (f false ts ≡ o))
    by None i g = inr (ap is_some i, g)
    by (Some at) i g = inl (sign_seen k ts (ap is_some i), g)

  pub pass_there : IsNamed (sign k) → (ts u : Stream) → a_sign k ts u → (passes k >>= f) ts ≡ f true u
  unfolding eat_in left_of
  pass_there named ts u h = pass_at ts (saw text (sign k) ts) ∙ by (saw text (sign k) ts) (text_first (sign k) true (λ t at i. ap (λ t. same t (sign k)) i ∙ named) ts u h) ∙ ap (f true) (text_rest (λ t at. t ≡ sign k) ts u h) where
    by : (s : Option Span) → is_some s ≡ true → f (is_some s) (left_of s ts) ≡ f true (tail ts)
    by None i = absurd cc
    by (Some at) i = refl

  pub pass_none : (ts : Stream) → sees_in text (sign k) ts ≡ false → (passes k >>= f) ts ≡ f false ts
  unfolding eat_in left_of
  pass_none ts h = pass_at ts (saw text (sign k) ts) ∙ by (saw text (sign k) ts) h where
    by : (s : Option Span) → is_some s ≡ false → f (is_some s) (left_of s ts) ≡ f false ts
    by None i = refl
    by (Some at) i = absurd cc

pub takes_branch : (k : Sign) → IsNamed (sign k) → (f : Bool → Passes) {H : Stream → Type 0} {L M : Language} {F : Stream → Type 0} → Takes Always (f true) L F → Takes (λ ts. sees_in text (sign k) ts ≡ false) (f false) M F
    → ((ts r : Stream) → M ts r → F r → sees_in text (sign k) ts ≡ false) → Takes H (passes k >>= f) ((a_sign k ▸ L) ∪ M) F
takes_branch k named f {L = L} {M = M} {F = F} first second tails = record { sound = λ ts r u h e. by ts r u (pass_cases k f ts (Ok (u, r)) e); complete = λ ts r h g. back ts r h g } where
  by : (ts r : Stream) (u : Unit {0}) → (a_sign k ts (tail ts) × (f true (tail ts) ≡ Ok (u, r))) ⊎ ((sees_in text (sign k) ts ≡ false) × (f false ts ≡ Ok (u, r))) → ((a_sign k ▸ L) ∪ M) ts r
  by ts r u (inl x) = inl (tail ts, x.0, first.sound (tail ts) r u tt x.1)
  by ts r u (inr x) = inr (second.sound ts r u x.0 x.1)

  back : (ts r : Stream) → ((a_sign k ▸ L) ∪ M) ts r → F r → (passes k >>= f) ts ≡ Ok (tt, r)
  back ts r (inl h) g = pass_there k f named ts h.0 h.1 ∙ first.complete h.0 r h.2 g
  back ts r (inr h) g = pass_none k f ts (tails ts r h g) ∙ second.complete ts r h g

-- ---- steps

pub takes_done : {H : Stream → Type 0} {F : Stream → Type 0} → Takes H done nothing F
takes_done = record { sound = λ ts r u h e. ap (λ (y : Unit {0} × Stream). y.1) (same_ok (tt, ts) (u, r) e); complete = λ ts r h g. ap (λ s. Ok (tt, s)) h }

pub takes_then : {H : Stream → Type 0} {p q : Passes} {L M : Language} {E F : Stream → Type 0} → Takes H p L E → ((ts r : Stream) → M ts r → F r → E ts) → Takes Always q M F → Takes H (p >> q) (L ▸ M) F
takes_then {p = p} {q = q} first follow second = record {
  sound = λ ts r u h e. let x = bound (p ts) (λ v. q) (u, r) e in (x.0.1, first.sound ts x.0.1 x.0.0 h x.1, second.sound x.0.1 r u tt x.2);
  complete = λ ts r h g. then_ok (λ v. q) (first.complete ts h.0 h.1 (follow h.0 r h.2 g)) (second.complete h.0 r h.2 g);
}

pub takes_choose : (f : Stream → Bool) {H : Stream → Type 0} {p q : Passes} {L M : Language} {F : Stream → Type 0} → Takes Always p L F → Takes Always q M F → ((ts r : Stream) → L ts r → f ts ≡ true) → ((ts r : Stream) → M ts r → f ts ≡ false) → Takes H (choose f p q) (L ∪ M) F
takes_choose f {p = p} {q = q} {L = L} {M = M} {F = F} first second heads tails = record { sound = λ ts r u h e. by ts r u (f ts) e; complete = λ ts r h g. back ts r h g } where
  by : (ts r : Stream) (u : Unit {0}) (c : Bool) → (if c then p ts else q ts) ≡ Ok (u, r) → (L ∪ M) ts r
  by ts r u true e = inl (first.sound ts r u tt e)
  by ts r u false e = inr (second.sound ts r u tt e)

  back : (ts r : Stream) → (L ∪ M) ts r → F r → choose f p q ts ≡ Ok (tt, r)
  back ts r (inl h) g = ap (λ c. if c then p ts else q ts) (heads ts r h) ∙ first.complete ts r h g
  back ts r (inr h) g = ap (λ c. if c then p ts else q ts) (tails ts r h) ∙ second.complete ts r h g

-- ---- loops

units : ℕ → List (Unit {0})
units zero = []
units (suc n) = tt ∷ units n

times_to : (L : Language) (us : List (Unit {0})) (ts r : Stream) → each (λ u. L) us ts r → times L (length us) ts r
times_to L [] ts r h = h
times_to L (u ∷ us) ts r h = (h.0, h.1, times_to L us h.0 r h.2)

times_from : (L : Language) (n : ℕ) (ts r : Stream) → times L n ts r → each (λ u. L) (units n) ts r
unfolding units
times_from L zero ts r h = h
times_from L (suc n) ts r h = (h.0, h.1, times_from L n h.0 r h.2)

module _ (step : Parser (Option (Unit {0}))) (short : Shortens step) (L : Language) (F E G : Stream → Type 0)
    (turn : (ts r : Stream) (o : Option (Unit {0})) → step ts ≡ Ok (o, r) → Turn (λ u. L) (λ u r. Unit {0}) (λ r. Unit {0}) ts (o, r)) (more : (ts r : Stream) → L ts r → F r → step ts ≡ Ok (Some tt, r)) (stop : (ts : Stream) → E ts → step ts ≡ Ok (None, ts))
    (next : (ts r : Stream) → L ts r → F ts) (told : (r : Stream) → G r → E r × F r) where
  pub takes_many : {H : Stream → Type 0} → Takes H (many_steps step) (many L) G
  takes_many = record { sound = λ ts r u h e. forth ts r u e; complete = λ ts r h g. back ts r h g } where
    forth : (ts r : Stream) (u : Unit {0}) → many_steps step ts ≡ Ok (u, r) → many L ts r
    forth ts r u e =
        let x = bound (loop step ts) (λ us. done) (u, r) e in
        let y = loop_sound (λ u. L) (λ u r. Unit {0}) (λ r. Unit {0}) step short turn ts x.0.1 x.0.0 x.1 in
        subst (many L ts) (ap (λ (y : Unit {0} × Stream). y.1) (same_ok (tt, x.0.1) (u, r) x.2)) (length x.0.0, times_to L x.0.0 ts x.0.1 y.0)

    back : (ts r : Stream) → many L ts r → G r → many_steps step ts ≡ Ok (tt, r)
    back ts r h g =
        then_ok (λ us. done) (loop_complete (λ u. L) (λ u. F) E step short (λ ts r u h f. more ts r h f) stop (λ u v ts r h. next ts r h)
        (units h.0) ts r (times_from L h.0 ts r h.1) (told r g).0 (lastly_all (λ u. F) (units h.0) r (λ u. (told r g).1))) refl

-- as long as what is ahead is so
pub takes_while : (f : Stream → Bool) {p : Passes} {L : Language} {F G : Stream → Type 0} → Takes Always p L F → Shortens (when f p) → ((ts r : Stream) → L ts r → f ts ≡ true) → ((ts r : Stream) → L ts r → F ts) → ((r : Stream) → G r → (f r ≡ false) × F r)
    → {H : Stream → Type 0} → Takes H (many_steps (when f p)) (many L) G
takes_while f {p = p} {L = L} {F = F} {G = G} rule short starts next told = takes_many (when f p) short L F (λ r. f r ≡ false) G turn more stop next told where
  turn : (ts r : Stream) (o : Option (Unit {0})) → when f p ts ≡ Ok (o, r) → Turn (λ u. L) (λ u r. Unit {0}) (λ r. Unit {0}) ts (o, r)
  turn ts r o e = by (f ts) o e where
    by : (b : Bool) (o : Option (Unit {0})) → (if b then (Some <$> p) ts else Ok (None, ts)) ≡ Ok (o, r) → Turn (λ u. L) (λ u r. Unit {0}) (λ r. Unit {0}) ts (o, r)
    by true (Some x) e = (rule.sound ts r x tt (some_of p ts r x e), tt)
    by true None e = some_not p ts r e
    by false (Some x) e = none_not ts r x e
    by false None e = (none_is {A = Unit {0}} ts r e, tt)

  more : (ts r : Stream) → L ts r → F r → when f p ts ≡ Ok (Some tt, r)
  more ts r h g = ap (λ b. if b then (Some <$> p) ts else Ok (None, ts)) (starts ts r h) ∙ then_ok (λ x. pure (Some x)) (rule.complete ts r h g) refl

  stop : (ts : Stream) → f ts ≡ false → when f p ts ≡ Ok (None, ts)
  stop ts e = ap (λ b. if b then (Some <$> p) ts else Ok (None, ts)) e

abbrev if_found : Passes → Bool → Parser (Option (Unit {0}))
if_found p b = if b then Some <$> p else pure None

-- behind a sign
pub takes_behind : (k : Sign) → IsNamed (sign k) → {p : Passes} {L : Language} {F G : Stream → Type 0} → Takes Always p L F → Shortens (behind_in text (sign k) p) → ((r : Stream) → sees_in text (sign k) r ≡ true → F r) → ((r : Stream) → G r → (sees_in text (sign k) r ≡ false) × F r)
    → {H : Stream → Type 0} → Takes H (many_steps (behind_in text (sign k) p)) (many (a_sign k ▸ L)) G
takes_behind k named {p = p} {L = L} {F = F} {G = G} rule short next told = takes_many (behind_in text (sign k) p) short (a_sign k ▸ L) F (λ r. sees_in text (sign k) r ≡ false) G turn more stop follows told where
  turn : (ts r : Stream) (o : Option (Unit {0})) → behind_in text (sign k) p ts ≡ Ok (o, r) → Turn (λ u. a_sign k ▸ L) (λ u r. Unit {0}) (λ r. Unit {0}) ts (o, r)
  turn ts r o e = by o (pass_cases k (if_found p) ts (Ok (o, r)) e) where
    by : (o : Option (Unit {0})) → (a_sign k ts (tail ts) × (if_found p true (tail ts) ≡ Ok (o, r))) ⊎ ((sees_in text (sign k) ts ≡ false) × (if_found p false ts ≡ Ok (o, r))) → Turn (λ u. a_sign k ▸ L) (λ u r. Unit {0}) (λ r. Unit {0}) ts (o, r)
    by (Some x) (inl h) = ((tail ts, h.0, rule.sound (tail ts) r x tt (some_of p (tail ts) r x h.1)), tt)
    by None (inl h) = some_not p (tail ts) r h.1
    by (Some x) (inr h) = none_not ts r x h.1
    by None (inr h) = (none_is {A = Unit {0}} ts r h.1, tt)

  more : (ts r : Stream) → (a_sign k ▸ L) ts r → F r → behind_in text (sign k) p ts ≡ Ok (Some tt, r)
  more ts r h g = pass_there k (if_found p) named ts h.0 h.1 ∙ then_ok (λ x. pure (Some x)) (rule.complete h.0 r h.2 g) refl

  stop : (ts : Stream) → sees_in text (sign k) ts ≡ false → behind_in text (sign k) p ts ≡ Ok (None, ts)
  stop ts e = pass_none k (if_found p) ts e

  follows : (ts r : Stream) → (a_sign k ▸ L) ts r → F ts
  follows ts r h = next ts (text_first (sign k) true (λ t at i. ap (λ t. same t (sign k)) i ∙ named) ts h.0 h.1)
