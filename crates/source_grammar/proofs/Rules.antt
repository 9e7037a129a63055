-- Rules that read a language, in both directions, and the steps that they are made of.
use Rattle.std.proofs.Common.{[], ◌≡◌, ℕ, zero, suc, ◌<◌, Bool, true, false, List, ◌∷◌, length, Option, Some, None, Ok, Err, refl, ap, sym, subst, ◌∙◌, inl, inr, ◌⊎◌, arith}
use Rattle.std.specs.Prelude.{if◌then◌else◌, is_some}
use Rattle.protox_lex.specs.Token.{Token}
use Rattle.protox_lex.specs.declared.span.Span.{Span}
use Rattle.protox_tokens.specs.Stream.{Stream}
use Rattle.protox_tokens.specs.Parser.{Outcome, Parser, and_then, ◌>>=◌, ◌<$>◌, pure, same, is, sees, eat, pass, expect_in, expect, goes_on, loop, when, behind, choose, some_by}
use Rattle.protox_tokens.specs.Refusal.{this}
use Rattle.protox_tokens.specs.Marks.{Mark, SpellsMarks, FitsToken, spot, IsAny}
use Rattle.protox_tokens.specs.Marks as marks
use Rattle.protox_tokens.proofs.Loops.{Shortens, loop-is}
use Rattle.protox_tokens.proofs.Local.{bound, none_is, none_not, same_ok, some_not, some_of}
use Rattle.protox_tokens.proofs.Both as both
use Rattle.protox_tokens.proofs.Both.{IsNamed, Always, Free, then_ok}
use Rattle.protox_tokens.proofs.Steps.{Absent, eat_none, both_eat, both_leaf, same_is, sees_first}
use Rattle.protox_tokens.proofs.Lists.{Lastly}
use Rattle.source_grammar.specs.Languages.{Language, nothing, one, token_at, the, ◌▸◌, if_there, each, ReadsExactly}
use Rattle.source_grammar.specs.Languages as languages

-- On an input that has H: what p reads is of the language of a value of which K is known, and F holds of what follows;
-- and what is of the language of such a value, with F of what follows, is read as it.
pub record Rule {A : Type 0} (H : Stream → Type 0) (p : Parser A) (L : A → Language) (K : A → Type 0) (F : A → Stream → Type 0) : Type 0 where
  pub sound : (ts r : Stream) (a : A) → H ts → p ts ≡ Ok (a, r) → L a ts r × K a × F a r
  pub complete : (ts r : Stream) (a : A) → L a ts r → K a → F a r → p ts ≡ Ok (a, r)

-- the rule, as a law says it
pub reads : {A : Type 0} {p : Parser A} {L : A → Language} {F : A → Stream → Type 0} → Rule Always p L IsAny F → ReadsExactly p L F
reads rule a ts r = (λ e. let x = rule.sound ts r a tt e in (x.0, x.2), λ h. rule.complete ts r a h.0 tt h.1)

-- the same language in other words
pub rule_as : {A : Type 0} {H : Stream → Type 0} {p : Parser A} {L M : A → Language} {K : A → Type 0} {F G : A → Stream → Type 0} → Rule H p L K F → ((a : A) (ts r : Stream) → L a ts r → F a r → M a ts r × G a r) → ((a : A) (ts r : Stream) → M a ts r → G a r → L a ts r × F a r) → Rule H p M K G
rule_as rule to from = record {
  sound = λ ts r a h e. let x = rule.sound ts r a h e in let y = to a ts r x.0 x.2 in (y.0, x.1, y.1);
  complete = λ ts r a h k g. let y = from a ts r h g in rule.complete ts r a y.0 k y.1;
}

-- a rule that is known by marks
pub of_both : {A : Type 0} {H : Stream → Type 0} {p : Parser A} {ms : A → List Mark} {K : A → Type 0} {F : A → Stream → Type 0} → both.Both H p ms K IsAny F → Rule H p (λ a ts r. SpellsMarks (ms a) ts r) K F
of_both b = record { sound = λ ts r a h e. let x = b.sound ts r a h e in (x.0, x.1.0, x.2); complete = λ ts r a h k f. b.complete ts r a h k tt f }

-- ---- steps

-- A step whose value is a part of the whole one.
pub rule_then : {A B : Type 0} (part : B → A) {H : Stream → Type 0} {p : Parser A} {L : A → Language} {F : A → Stream → Type 0} {q : A → Parser B} {M : B → Language} {K : B → Type 0} {G : B → Stream → Type 0}
    → Rule H p L IsAny F → ((b : B) (ts r : Stream) → M b ts r → G b r → F (part b) ts) → ((a : A) → Rule (F a) (q a) M (λ b. (part b ≡ a) × K b) G) → Rule H (p >>= q) (λ b. L (part b) ▸ M b) K G
rule_then part {p = p} {L = L} {q = q} first follow later = record {
  sound = λ ts r b h e.
      let x = bound (p ts) q (b, r) e in
      let f = first.sound ts x.0.1 x.0.0 h x.1 in
      let l = (later x.0.0).sound x.0.1 r b f.2 x.2 in
      ((x.0.1, subst (λ a. L a ts x.0.1) (sym l.1.0) f.0, l.0), l.1.1, l.2);
  complete = λ ts r b h k g.
      then_ok q (first.complete ts h.0 (part b) h.1 tt (follow b h.0 r h.2 g)) ((later (part b)).complete h.0 r b h.2 (refl, k) g);
}

-- The last step, from whose value the whole one is made.
pub rule_map : {A B : Type 0} (g : A → B) {H : Stream → Type 0} {p : Parser A} {L : A → Language} {F : A → Stream → Type 0} {M : B → Language} {K : B → Type 0} {G : B → Stream → Type 0}
    → Rule H p L IsAny F → ((a : A) (ts r : Stream) → L a ts r → F a r → M (g a) ts r × K (g a) × G (g a) r)
    → ((b : B) (ts r : Stream) → M b ts r → K b → G b r → (a : A) × (g a ≡ b) × L a ts r × F a r) → Rule H (p >>= (λ a. pure (g a))) M K G
rule_map {A = A} {B = B} g {p = p} {L = L} {F = F} {M = M} {K = K} {G = G} rule forth back = record {
  sound = λ ts r b h e.
      let x = bound (p ts) (λ a. pure (g a)) (b, r) e in
      let f = rule.sound ts x.0.1 x.0.0 h x.1 in
      subst (λ (y : B × Stream). M y.0 ts y.1 × K y.0 × G y.0 y.1) (same_ok (g x.0.0, x.0.1) (b, r) x.2) (forth x.0.0 ts x.0.1 f.0 f.2);
  complete = λ ts r b h k f. let x = back b ts r h k f in then_ok (λ a. pure (g a)) (rule.complete ts r x.0 x.2 tt x.3) (ap (λ b. Ok (b, r)) x.1);
}

-- the last part of a value, which is then made
pub rule_last : {A B : Type 0} (part : B → A) (g : A → B) {H : Stream → Type 0} {p : Parser A} {L : A → Language} {F : A → Stream → Type 0} {K : B → Type 0} {G : B → Stream → Type 0}
    → Rule H p L IsAny F → ((a : A) → (part (g a) ≡ a) × K (g a)) → ((b : B) → K b → g (part b) ≡ b) → ((b : B) (r : Stream) → F (part b) r → G b r) → ((b : B) (r : Stream) → G b r → F (part b) r)
    → Rule H (p >>= (λ a. pure (g a))) (λ b. L (part b)) K G
rule_last part g {L = L} {F = F} rule made again to back = rule_map g rule
    (λ a ts r h f. (subst (λ a. L a ts r) (sym (made a).0) h, (made a).1, to (g a) r (subst (λ a. F a r) (sym (made a).0) f)))
    (λ b ts r h k f. (part b, again b k, h, back b r f))

-- a value of one kind
pub rule_made : {A B : Type 0} (c : A → B) {H : Stream → Type 0} {p : Parser A} {L : A → Language} {F : A → Stream → Type 0} {K : B → Type 0} {G : B → Stream → Type 0}
    → Rule H p L IsAny F → ((a : A) → K (c a)) → ((a : A) (r : Stream) → F a r → G (c a) r) → ((a : A) (r : Stream) → G (c a) r → F a r) → Rule H (c <$> p) (λ b ts r. (a : A) × (b ≡ c a) × L a ts r) K G
rule_made c {G = G} rule known to from = rule_map c rule (λ a ts r h f. ((a, refl, h), known a, to a r f)) (λ b ts r h k f. (h.0, sym h.1, h.2, from h.0 r (subst (λ b. G b r) h.1 f)))

-- a value that takes nothing
pub rule_pure : {B : Type 0} {H : Stream → Type 0} (v : B) {K : B → Type 0} {G : B → Stream → Type 0} → K v → ((b : B) → K b → v ≡ b) → ((r : Stream) → H r → G v r) → Rule H (pure v) (λ b. nothing) K G
rule_pure {B = B} {H = H} v {K = K} {G = G} holds alone told = record {
  sound = λ ts r b h e. subst (λ (y : B × Stream). (ts ≡ y.1) × K y.0 × G y.0 y.1) (same_ok (v, ts) (b, r) e) (refl, holds, told ts h);
  complete = λ ts r b h k g. ap (λ x. Ok (x, ts)) (alone b k) ∙ ap (λ s. Ok (b, s)) h;
}

-- ---- tokens

expect_fits : (k t : Token) (p q : Span) (b : Bool) → same t k ≡ b → (if b then Some p else None) ≡ Some q → FitsToken (spot q k) t p × (Unit {0} × Unit {0})
expect_fits k t p q true e h = let is : p ≡ q = cc in ((sym is, sym (same_is t k e)), (tt, tt))
expect_fits k t p q false e h = absurd (let wrong : ◌≡◌ {A = Option Span} None (Some q) = h in cc)

expect_back : (k : Token) → IsNamed k → (t : Token) (p q : Span) → FitsToken (spot q k) t p → is k t p ≡ Some q
expect_back k named t p q h = ap (λ t. is k t p) (sym h.1) ∙ ap (λ b. if b then Some p else None) named ∙ ap Some (sym h.0)

pub rule_expect : (k : Token) → IsNamed k → {H : Stream → Type 0} → Rule H (expect k) (λ at. one (spot at k)) IsAny Free
unfolding expect_in
rule_expect k named = of_both (both_leaf (this k) (is k) (λ at. spot at k) IsAny IsAny (λ t p q e. expect_fits k t p q (same t k) refl e) (λ t p q h x y. expect_back k named t p q h))

-- a token that the rule names
pub rule_token : {B : Type 0} (k : Token) → IsNamed k → (P : B → Span → Type 0) → {H : Stream → Type 0} {q : Span → Parser B} {M : B → Language} {K : B → Type 0} {G : B → Stream → Type 0}
    → ((at : Span) → Rule Always (q at) M (λ b. P b at × K b) G) → Rule H (expect k >>= q) (λ b. token_at k (P b) ▸ M b) K G
rule_token k named P {H = H} {q = q} later = record {
  sound = λ ts r b h e.
      let x = bound (expect k ts) q (b, r) e in
      let f = (rule_expect k named {H = H}).sound ts x.0.1 x.0.0 h x.1 in
      let l = (later x.0.0).sound x.0.1 r b tt x.2 in
      ((x.0.1, (x.0.0, f.0, l.1.0), l.0), l.1.1, l.2);
  complete = λ ts r b h known g. then_ok q ((rule_expect k named {H = H}).complete ts h.0 h.1.0 h.1.1 tt tt) ((later h.1.0).complete h.0 r b h.2 (h.1.2, known) g);
}

-- the token that ends a value
pub rule_close : {B : Type 0} (k : Token) → IsNamed k → (g : Span → B) (P : B → Span → Type 0) {H : Stream → Type 0} {K : B → Type 0} → ((at : Span) → P (g at) at × K (g at)) → ((b : B) (at : Span) → P b at → K b → g at ≡ b)
    → Rule H (expect k >>= (λ at. pure (g at))) (λ b. token_at k (P b)) K Free
rule_close k named g P made alone = rule_map g (rule_expect k named) (λ at ts r h f. ((at, h, (made at).0), (made at).1, tt)) (λ b ts r h known f. (h.0, alone b h.0 h.2 known, h.1, tt))

there_to : (k : Token) (o : Option Span) (ts r : Stream) → SpellsMarks (marks.if_there o k) ts r → if_there k o ts r
there_to k None ts r h = h
there_to k (Some at) ts r h = h

there_from : (k : Token) (o : Option Span) (ts r : Stream) → if_there k o ts r → SpellsMarks (marks.if_there o k) ts r
there_from k None ts r h = h
there_from k (Some at) ts r h = h

pub rule_eat : (k : Token) → IsNamed k → {H : Stream → Type 0} → Rule H (eat k) (if_there k) IsAny (Absent k)
rule_eat k named = rule_as (of_both (both_eat k named)) (λ o ts r h f. (there_to k o ts r h, f)) (λ o ts r h f. (there_from k o ts r h, f))

-- ---- choices

-- by what is ahead
pub rule_choose : {B : Type 0} (f : Stream → Bool) {H : Stream → Type 0} {p q : Parser B} {L M : B → Language} {F : B → Stream → Type 0} → Rule (λ ts. H ts × (f ts ≡ true)) p L IsAny F → Rule (λ ts. H ts × (f ts ≡ false)) q M IsAny F
    → ((b : B) (ts r : Stream) → L b ts r → f ts ≡ true) → ((b : B) (ts r : Stream) → M b ts r → f ts ≡ false) → Rule H (choose f p q) (λ b ts r. L b ts r ⊎ M b ts r) IsAny F
rule_choose {B = B} f {H = H} {p = p} {q = q} {L = L} {M = M} {F = F} first second heads tails = record { sound = λ ts r b h e. by ts r b h (f ts) refl e; complete = λ ts r b h k g. back ts r b h g } where
  by : (ts r : Stream) (b : B) → H ts → (c : Bool) → f ts ≡ c → (if c then p ts else q ts) ≡ Ok (b, r) → (L b ts r ⊎ M b ts r) × Unit {0} × F b r
  by ts r b h true c e = let x = first.sound ts r b (h, c) e in (inl x.0, tt, x.2)
  by ts r b h false c e = let x = second.sound ts r b (h, c) e in (inr x.0, tt, x.2)

  back : (ts r : Stream) (b : B) → L b ts r ⊎ M b ts r → F b r → choose f p q ts ≡ Ok (b, r)
  back ts r b (inl h) g = ap (λ c. if c then p ts else q ts) (heads b ts r h) ∙ first.complete ts r b h tt g
  back ts r b (inr h) g = ap (λ c. if c then p ts else q ts) (tails b ts r h) ∙ second.complete ts r b h tt g

-- by a token that begins values of one kind
pub rule_branch : {B : Type 0} (k : Token) → IsNamed k → (f : Option Span → Parser B) (P : B → Span → Type 0) {H : Stream → Type 0} {L M : B → Language} {G : B → Stream → Type 0}
    → ((at : Span) → Rule Always (f (Some at)) L (λ b. P b at) G) → Rule (λ ts. sees k ts ≡ false) (f None) M IsAny G → ((b : B) (ts r : Stream) → M b ts r → G b r → sees k ts ≡ false)
    → Rule H (eat k >>= f) (λ b ts r. (token_at k (P b) ▸ L b) ts r ⊎ M b ts r) IsAny G
rule_branch {B = B} k named f P {H = H} {L = L} {M = M} {G = G} taken_rule other_rule tails = record {
  sound = λ ts r b h e. let x = bound (eat k ts) f (b, r) e in by ts r b x.0.0 x.0.1 ((rule_eat k named {H = H}).sound ts x.0.1 x.0.0 h x.1) x.2;
  complete = λ ts r b h known g. back ts r b h g;
} where
  by : (ts r : Stream) (b : B) (o : Option Span) (u : Stream) → if_there k o ts u × Unit {0} × Absent k o u → f o u ≡ Ok (b, r) → ((token_at k (P b) ▸ L b) ts r ⊎ M b ts r) × Unit {0} × G b r
  by ts r b (Some at) u x e = let y = (taken_rule at).sound u r b tt e in (inl (u, (at, x.0, y.1), y.0), tt, y.2)
  by ts r b None u x e = let y = other_rule.sound u r b x.2 e in (inr (subst (λ t. M b t r) (sym x.0) y.0), tt, y.2)

  back : (ts r : Stream) (b : B) → (token_at k (P b) ▸ L b) ts r ⊎ M b ts r → G b r → (eat k >>= f) ts ≡ Ok (b, r)
  back ts r b (inl h) g = then_ok f ((rule_eat k named {H = H}).complete ts h.0 (Some h.1.0) h.1.1 tt tt) ((taken_rule h.1.0).complete h.0 r b h.2 h.1.2 g)
  back ts r b (inr h) g = then_ok f (eat_none k ts (tails b ts r h g)) (other_rule.complete ts r b h tt g)

-- ---- loops

module _ {A : Type 0} (L : A → Language) (F : A → Stream → Type 0) (E : Stream → Type 0) where
  -- a turn: a value, or the end
  abbrev pub Turn : Stream → Option A × Stream → Type 0
  Turn ts (Some x, r) = L x ts r × F x r
  Turn ts (None, r) = (ts ≡ r) × E r

  -- values, and what comes behind them
  abbrev pub Turns : Stream → List A × Stream → Type 0
  Turns ts x = each L x.0 ts x.1 × E x.1 × Lastly F x.0 x.1

  module _ (step : Parser (Option A)) (short : Shortens step) (sound : (ts r : Stream) (o : Option A) → step ts ≡ Ok (o, r) → Turn ts (o, r)) where
    last_of : (x : A) (xs : List A) (u r : Stream) → F x u → each L xs u r → Lastly F xs r → Lastly F (x ∷ xs) r
    last_of x [] u r f h l = subst (F x) h f
    last_of x (y ∷ ys) u r f h l = l

    turns : (n : ℕ) (ts r : Stream) (xs : List A) → length ts < n → loop step ts ≡ Ok (xs, r) → Turns ts (xs, r)
    turns zero ts r xs lt e = absurd (omega arith)
    turns (suc n) ts r xs lt e = by (turns n) (step ts) refl (sym (loop-is step short ts) ∙ e) where
      by : ((us v : Stream) (ys : List A) → length us < n → loop step us ≡ Ok (ys, v) → Turns us (ys, v)) → (o : Outcome (Option A)) → step ts ≡ o → and_then o (λ o. goes_on o (loop step)) ≡ Ok (xs, r) → Turns ts (xs, r)
      by later (Err f) is e = absurd cc
      by later (Ok (None, u)) is e = subst (Turns ts) (same_ok ([], u) (xs, r) e) (let x = sound ts u None is in (x.0, x.1, tt))
      by later (Ok (Some x, u)) is e =
          let less = short ts u x is in
          let b = bound (loop step u) (λ xs. pure (x ∷ xs)) (xs, r) e in
          let first = sound ts u (Some x) is in
          let rest = later u b.0.1 b.0.0 (omega arith) b.1 in
          subst (Turns ts) (same_ok (x ∷ b.0.0, b.0.1) (xs, r) b.2) ((u, first.0, rest.0), rest.1, last_of x b.0.0 u b.0.1 first.1 rest.0 rest.2)

    pub loop_sound : (ts r : Stream) (xs : List A) → loop step ts ≡ Ok (xs, r) → Turns ts (xs, r)
    loop_sound ts r xs e = turns (suc (length ts)) ts r xs (omega arith) e

  module _ (step : Parser (Option A)) (short : Shortens step) (more : (ts r : Stream) (x : A) → L x ts r → F x r → step ts ≡ Ok (Some x, r)) (ends : (ts : Stream) → E ts → step ts ≡ Ok (None, ts))
      (next : (x y : A) (ts r : Stream) → L y ts r → F x ts) where
    follows : (x : A) (xs : List A) (ts r : Stream) → each L xs ts r → Lastly F (x ∷ xs) r → F x ts
    follows x [] ts r h l = subst (F x) (sym h) l
    follows x (y ∷ ys) ts r h l = next x y ts h.0 h.1

    rest_of : (x : A) (xs : List A) (r : Stream) → Lastly F (x ∷ xs) r → Lastly F xs r
    rest_of x [] r l = tt
    rest_of x (y ∷ ys) r l = l

    pub loop_complete : (xs : List A) (ts r : Stream) → each L xs ts r → E r → Lastly F xs r → loop step ts ≡ Ok (xs, r)
    loop_complete [] ts r h e l = loop-is step short ts ∙ then_ok (λ o. goes_on o (loop step)) (ends ts (subst E (sym h) e)) (ap (λ s. Ok ([], s)) h)
    loop_complete (x ∷ xs) ts r h e l =
        loop-is step short ts ∙ then_ok (λ o. goes_on o (loop step)) (more ts h.0 x h.1 (follows x xs h.0 r h.2 l))
        (then_ok (λ xs. pure (x ∷ xs)) (loop_complete xs h.0 r h.2 e (rest_of x xs r l)) refl)

-- values, as long as what is ahead is so
module _ {A : Type 0} (f : Stream → Bool) {p : Parser A} {L : A → Language} {F : A → Stream → Type 0} (rule : Rule (λ ts. f ts ≡ true) p L IsAny F) where
  abbrev Over : Stream → Type 0
  Over r = f r ≡ false

  turn_sound : (ts r : Stream) (o : Option A) → when f p ts ≡ Ok (o, r) → Turn L F Over ts (o, r)
  turn_sound ts r o e = by (f ts) refl o e where
    by : (b : Bool) → f ts ≡ b → (o : Option A) → (if b then (Some <$> p) ts else Ok (None, ts)) ≡ Ok (o, r) → Turn L F Over ts (o, r)
    by true h (Some x) e = let y = rule.sound ts r x h (some_of p ts r x e) in (y.0, y.2)
    by true h None e = some_not p ts r e
    by false h (Some x) e = none_not ts r x e
    by false h None e = let same = none_is {A = A} ts r e in (same, subst Over same h)

  pub rule_while : Shortens (when f p) → ((x : A) (ts r : Stream) → L x ts r → f ts ≡ true) → ((x y : A) (ts r : Stream) → L y ts r → F x ts) → {H : Stream → Type 0} → Rule H (loop (when f p)) (each L) IsAny (λ xs r. (f r ≡ false) × Lastly F xs r)
  rule_while short starts next = record {
    sound = λ ts r xs h e. let x = loop_sound L F Over (when f p) short turn_sound ts r xs e in (x.0, tt, (x.1, x.2));
    complete = λ ts r xs h k g. loop_complete L F Over (when f p) short more stop next xs ts r h g.0 g.1;
  } where
    more : (ts r : Stream) (x : A) → L x ts r → F x r → when f p ts ≡ Ok (Some x, r)
    more ts r x h g = ap (λ b. if b then (Some <$> p) ts else Ok (None, ts)) (starts x ts r h) ∙ then_ok (λ x. pure (Some x)) (rule.complete ts r x h tt g) refl

    stop : (ts : Stream) → f ts ≡ false → when f p ts ≡ Ok (None, ts)
    stop ts e = ap (λ b. if b then (Some <$> p) ts else Ok (None, ts)) e

-- whether a token comes is told by the first one
pub first_is : (k l : Token) (P : Span → Type 0) (ts r : Stream) → token_at l P ts r → sees k ts ≡ same l k
first_is k l P ts r h = sees_first k (spot h.0 l) [] ts r h.1

abbrev pub passed : Token → Bool → Language
passed k true = the k
passed k false = nothing

abbrev pub Missing : Token → Bool → Stream → Type 0
Missing k true r = Unit {0}
Missing k false r = sees k r ≡ false

pub rule_pass : (k : Token) → IsNamed k → {H : Stream → Type 0} → Rule H (pass k) (passed k) IsAny (Missing k)
rule_pass k named = rule_map is_some (rule_eat k named) forth back where
  forth : (o : Option Span) (ts r : Stream) → if_there k o ts r → Absent k o r → passed k (is_some o) ts r × Unit {0} × Missing k (is_some o) r
  forth None ts r h f = (h, tt, f)
  forth (Some at) ts r h f = ((at, h, tt), tt, tt)

  back : (b : Bool) (ts r : Stream) → passed k b ts r → Unit {0} → Missing k b r → (o : Option Span) × (is_some o ≡ b) × if_there k o ts r × Absent k o r
  back true ts r h x g = (Some h.0, refl, h.1, tt)
  back false ts r h x g = (None, refl, h, g)

-- one or more, with a token between them
module _ {A : Type 0} (k : Token) (named : IsNamed k) {p : Parser A} {L : A → Language} {F : A → Stream → Type 0} (rule : Rule Always p L IsAny F) where
  abbrev More : A → Language
  More x = the k ▸ L x

  abbrev Ended : Stream → Type 0
  Ended r = sees k r ≡ false

  abbrev if_found : Bool → Parser (Option A)
  if_found b = if b then Some <$> p else pure None

  behind_sound : (ts r : Stream) (o : Option A) → behind k p ts ≡ Ok (o, r) → Turn More F Ended ts (o, r)
  behind_sound ts r o e = let x = bound (pass k ts) if_found (o, r) e in by x.0.0 x.0.1 ((rule_pass k named {H = Always}).sound ts x.0.1 x.0.0 tt x.1) o x.2 where
    by : (b : Bool) (u : Stream) → passed k b ts u × Unit {0} × Missing k b u → (o : Option A) → if_found b u ≡ Ok (o, r) → Turn More F Ended ts (o, r)
    by true u h (Some x) g = let y = rule.sound u r x tt (some_of p u r x g) in ((u, h.0, y.0), y.2)
    by true u h None g = some_not p u r g
    by false u h (Some x) g = none_not u r x g
    by false u h None g = let same = none_is {A = A} u r g in (h.0 ∙ same, subst Ended same h.2)

  behind_more : (ts r : Stream) (x : A) → More x ts r → F x r → behind k p ts ≡ Ok (Some x, r)
  behind_more ts r x h g = then_ok if_found ((rule_pass k named {H = Always}).complete ts h.0 true h.1 tt tt) (then_ok (λ x. pure (Some x)) (rule.complete h.0 r x h.2 tt g) refl)

  behind_ends : (ts : Stream) → Ended ts → behind k p ts ≡ Ok (None, ts)
  behind_ends ts e = then_ok if_found ((rule_pass k named {H = Always}).complete ts ts false refl tt e) refl

  pub rule_some_by : Shortens (behind k p) → ((x : A) (r : Stream) → sees k r ≡ true → F x r) → {H : Stream → Type 0} → Rule H (some_by k p) (languages.some_by k L) IsAny (λ xs r. (sees k r ≡ false) × Lastly F xs r)
  rule_some_by short go_on {H} = record { sound = forth; complete = λ ts r xs h known g. back ts r xs h g } where
    next : (x y : A) (ts r : Stream) → More y ts r → F x ts
    next x y ts r h = go_on x ts (first_is k k (λ at. Unit {0}) ts h.0 h.1 ∙ named)

    forth : (ts r : Stream) (xs : List A) → H ts → some_by k p ts ≡ Ok (xs, r) → languages.some_by k L xs ts r × Unit {0} × ((sees k r ≡ false) × Lastly F xs r)
    forth ts r xs h e =
        let a = bound (p ts) (λ x. loop (behind k p) >>= (λ xs. pure (x ∷ xs))) (xs, r) e in
        let b = bound (loop (behind k p) a.0.1) (λ xs. pure (a.0.0 ∷ xs)) (xs, r) a.2 in
        let first = rule.sound ts a.0.1 a.0.0 tt a.1 in
        let others = loop_sound More F Ended (behind k p) short behind_sound a.0.1 b.0.1 b.0.0 b.1 in
        subst (λ (y : List A × Stream). languages.some_by k L y.0 ts y.1 × Unit {0} × ((sees k y.1 ≡ false) × Lastly F y.0 y.1)) (same_ok (a.0.0 ∷ b.0.0, b.0.1) (xs, r) b.2)
        ((a.0.1, first.0, others.0), tt, (others.1, last_of More F Ended (behind k p) short behind_sound a.0.0 b.0.0 a.0.1 b.0.1 first.2 others.0 others.2))

    back : (ts r : Stream) (xs : List A) → languages.some_by k L xs ts r → (sees k r ≡ false) × Lastly F xs r → some_by k p ts ≡ Ok (xs, r)
    back ts r [] h g = absurd h
    back ts r (x ∷ xs) h g =
        then_ok (λ x. loop (behind k p) >>= (λ xs. pure (x ∷ xs))) (rule.complete ts h.0 x h.1 tt (follows More F Ended (behind k p) short behind_more behind_ends next x xs h.0 r h.2 g.1))
        (then_ok (λ xs. pure (x ∷ xs)) (loop_complete More F Ended (behind k p) short behind_more behind_ends next xs h.0 r h.2 g.0 (rest_of More F Ended (behind k p) short behind_more behind_ends next x xs r g.1)) refl)
