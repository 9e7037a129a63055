-- Both directions of a rule at once, step by step.
use Rattle.std.proofs.Common.{◌≡◌, true, List, [], ◌∷◌, ◌++◌, Option, Some, None, Ok, refl, ap, sym, subst, ◌∙◌}
use Rattle.protox_lex.specs.Token.{Token}
use Rattle.protox_lex.specs.declared.span.Span.{Span}
use Rattle.protox_tokens.specs.Stream.{Piece, Stream, Seen, source, look}
use Rattle.protox_tokens.specs.Parser.{Outcome, Parser, and_then, ◌>>=◌, same, value_of, taken, one}
use Rattle.protox_tokens.specs.Refusal.{Expected}
use Rattle.protox_tokens.specs.Marks.{Mark, FitsToken, FitsMark, SpellsMarks, IsAny}
use Rattle.protox_tokens.proofs.Local.{good, same_ok, bound}

pub spells-append : (ms ns : List Mark) (ts s r : Stream) → SpellsMarks ms ts s → SpellsMarks ns s r → SpellsMarks (ms ++ ns) ts r
spells-append [] ns ts s r a b = subst (λ x. SpellsMarks ns x r) (sym a) b
spells-append (m ∷ ms) ns [] s r a b = absurd a
spells-append (m ∷ ms) ns (t ∷ ts) s r a b = (a.0, spells-append ms ns ts s r a.1 b)

pub spells-split : (ms ns : List Mark) (ts r : Stream) → SpellsMarks (ms ++ ns) ts r → (s : Stream) × SpellsMarks ms ts s × SpellsMarks ns s r
spells-split [] ns ts r a = (ts, refl, a)
spells-split (m ∷ ms) ns [] r a = absurd a
spells-split (m ∷ ms) ns (t ∷ ts) r a = let x = spells-split ms ns ts r a.1 in (x.0, (a.0, x.1), x.2)

pub then_ok : {A B : Type 0} {o : Outcome A} (f : A → Parser B) {x : A × Stream} {y : Outcome B} → o ≡ Ok x → f x.0 x.1 ≡ y → and_then o f ≡ y
then_ok f e h = ap (λ o. and_then o f) e ∙ h

arrive : {A : Type 0} (P : A × Stream → Type 0) (x y : A × Stream) → good x ≡ good y → P x → P y
arrive P x y e h = subst P (same_ok x y e) h

-- On an input that has H: what p reads is the tokens of a value with what is known of it (K) and asked of it (R), and F of what follows;
-- and the tokens of such a value, with F of what follows, are read as it.
pub record Both {A : Type 0} (H : Stream → Type 0) (p : Parser A) (marks : A → List Mark) (K R : A → Type 0) (F : A → Stream → Type 0) : Type 0 where
  pub sound : (ts r : Stream) (a : A) → H ts → p ts ≡ Ok (a, r) → SpellsMarks (marks a) ts r × (K a × R a) × F a r
  pub complete : (ts r : Stream) (a : A) → SpellsMarks (marks a) ts r → K a → R a → F a r → p ts ≡ Ok (a, r)

abbrev pub Always : Stream → Type 0
Always r = Unit {0}

abbrev pub Free : {A : Type 0} → A → Stream → Type 0
Free a r = Unit {0}

-- A step, whose value is a part of the whole one. What follows it is what the rest begins with.
module _ {A B : Type 0} (part : B → A) {H : Stream → Type 0} {p : Parser A} {marks : A → List Mark} {P : A → Type 0} {F : A → Stream → Type 0} {q : A → Parser B}
    {others : B → List Mark} {K W : B → Type 0} {G : B → Stream → Type 0} where
  pub both_then : Both H p marks IsAny P F → ((b : B) (ts r : Stream) → SpellsMarks (others b) ts r → W b → G b r → F (part b) ts)
      → ((a : A) → P a → Both (F a) (q a) others (λ b. (part b ≡ a) × K b) W G) → Both H (p >>= q) (λ b. marks (part b) ++ others b) K (λ b. P (part b) × W b) G
  both_then first follow later = record {
    sound = λ ts r b h e.
        let x = bound (p ts) q (b, r) e in
        let f = first.sound ts x.0.1 x.0.0 h x.1 in
        let l = (later x.0.0 f.1.1).sound x.0.1 r b f.2 x.2 in
        (spells-append (marks (part b)) (others b) ts x.0.1 r (subst (λ a. SpellsMarks (marks a) ts x.0.1) (sym l.1.0.0) f.0) l.0, (l.1.0.1, (subst P (sym l.1.0.0) f.1.1, l.1.1)), l.2);
    complete = λ ts r b h k has g.
        let s = spells-split (marks (part b)) (others b) ts r h in
        then_ok q (first.complete ts s.0 (part b) s.1 tt has.0 (follow b s.0 r s.2 has.1 g)) ((later (part b) has.0).complete s.0 r b s.2 (refl, k) has.1 g);
  }

-- nothing is asked of the part
module _ {A B : Type 0} (part : B → A) {H : Stream → Type 0} {p : Parser A} {marks : A → List Mark} {F : A → Stream → Type 0} {q : A → Parser B}
    {others : B → List Mark} {K W : B → Type 0} {G : B → Stream → Type 0} where
  pub both_plain : Both H p marks IsAny IsAny F → ((b : B) (ts r : Stream) → SpellsMarks (others b) ts r → W b → G b r → F (part b) ts)
      → ((a : A) → Both (F a) (q a) others (λ b. (part b ≡ a) × K b) W G) → Both H (p >>= q) (λ b. marks (part b) ++ others b) K W G
  both_plain first follow later = record {
    sound = λ ts r b h e.
        let x = bound (p ts) q (b, r) e in
        let f = first.sound ts x.0.1 x.0.0 h x.1 in
        let l = (later x.0.0).sound x.0.1 r b f.2 x.2 in
        (spells-append (marks (part b)) (others b) ts x.0.1 r (subst (λ a. SpellsMarks (marks a) ts x.0.1) (sym l.1.0.0) f.0) l.0, (l.1.0.1, l.1.1), l.2);
    complete = λ ts r b h k has g.
        let s = spells-split (marks (part b)) (others b) ts r h in
        then_ok q (first.complete ts s.0 (part b) s.1 tt tt (follow b s.0 r s.2 has g)) ((later (part b)).complete s.0 r b s.2 (refl, k) has g);
  }

-- ---- one token

module _ {A : Type 0} (e : Expected) (f : Token → Span → Option A) (mark : A → Mark) (fits : (t : Token) (p : Span) (a : A) → f t p ≡ Some a → FitsToken (mark a) t p) where
  taken_sound : (l : Piece) (ts r : Stream) (a : A) (x : Seen) → look source l ≡ x → taken source e (value_of f x) (l ∷ ts) ≡ Ok (a, r) → SpellsMarks (mark a ∷ []) (l ∷ ts) r
  taken_sound l ts r a None h g = absurd cc
  taken_sound l ts r a (Some x) h g = by (f x.0 x.1) refl g where
    by : (o : Option A) → f x.0 x.1 ≡ o → taken source e o (l ∷ ts) ≡ Ok (a, r) → SpellsMarks (mark a ∷ []) (l ∷ ts) r
    by None i g = absurd cc
    by (Some b) i g = arrive (λ (y : A × Stream). SpellsMarks (mark y.0 ∷ []) (l ∷ ts) y.1) (b, ts) (a, r) g (subst (FitsMark (mark b)) (sym h) (fits x.0 x.1 b i), refl)

  one_sound : (ts r : Stream) (a : A) → one source e f ts ≡ Ok (a, r) → SpellsMarks (mark a ∷ []) ts r
  one_sound [] r a g = absurd cc
  one_sound (l ∷ ts) r a g = taken_sound l ts r a (look source l) refl g

  module _ (back : (t : Token) (p : Span) (a : A) → FitsToken (mark a) t p → f t p ≡ Some a) where
    taken_complete : (l : Piece) (ts r : Stream) (a : A) (x : Seen) → FitsMark (mark a) x → ts ≡ r → taken source e (value_of f x) (l ∷ ts) ≡ Ok (a, r)
    taken_complete l ts r a None h g = absurd h
    taken_complete l ts r a (Some x) h g = ap (λ o. taken source e o (l ∷ ts)) (back x.0 x.1 a h) ∙ ap (λ s. Ok (a, s)) g

    one_complete : (ts r : Stream) (a : A) → SpellsMarks (mark a ∷ []) ts r → one source e f ts ≡ Ok (a, r)
    one_complete [] r a h = absurd h
    one_complete (l ∷ ts) r a h = taken_complete l ts r a (look source l) h.0 h.1

    pub both_one : {H : Stream → Type 0} → Both H (one source e f) (λ a. mark a ∷ []) IsAny IsAny Free
    both_one = record { sound = λ ts r a h g. (one_sound ts r a g, (tt, tt), tt); complete = λ ts r a h k s f. one_complete ts r a h }

-- a token that a rule names
abbrev pub IsNamed : Token → Type 0
IsNamed k = same k k ≡ true
