-- The steps that rules are made of, in both directions.
use Rattle.std.proofs.Common.{◌≡◌, Bool, true, false, List, [], ◌∷◌, Option, Some, None, Ok, refl, ap, sym, subst, ◌∙◌}
use Rattle.std.specs.Prelude.{if◌then◌else◌}
use Rattle.std.proofs.lemmas.Slice.Eq.{bytes_eq-Decides}
use denote.Enum.Bare.{same_true}
use Rattle.std.proofs.Common.{rules}
use Rattle.protox_lex.specs.contracts.token.Sign.{the_type}
use Rattle.protox_lex.specs.declared.span.Span.{Span}
use Rattle.protox_lex.specs.Token.{Token, ident, int, float, str, sign, comment}
use Rattle.protox_tree.specs.Tree.{Word}
use Rattle.protox_tokens.specs.Stream.{Piece, Stream, Seen, source, look}
use Rattle.protox_tokens.specs.Parser.{saw, sees, same, is, value_of, eaten, eat_in, eat, taken, one}
use Rattle.protox_tokens.specs.Refusal.{Expected}
use Rattle.std.specs.Prelude.{is_some}
use Rattle.protox_tokens.specs.Marks.{Place, within, Mark, token, literal, IsIn, IsLiteral, FitsToken, FitsMark, SpellsMarks, spot, if_there, IsAny}
use Rattle.protox_tokens.proofs.Local.{same_ok}
use Rattle.protox_tokens.proofs.Both.{Both, Free, IsNamed}

-- ---- a named token

pub same_is : (t k : Token) → same t k ≡ true → t ≡ k
same_is (ident s) (ident r) e = ap ident ((bytes_eq-Decides s r).0 e)
same_is (ident s) (int r) e = absurd cc
same_is (ident s) (float r) e = absurd cc
same_is (ident s) (str r) e = absurd cc
same_is (ident s) (sign r) e = absurd cc
same_is (ident s) comment e = absurd cc
same_is (int s) k e = absurd cc
same_is (float s) k e = absurd cc
same_is (str s) k e = absurd cc
same_is comment k e = absurd cc
same_is (sign s) (ident r) e = absurd cc
same_is (sign s) (int r) e = absurd cc
same_is (sign s) (float r) e = absurd cc
same_is (sign s) (str r) e = absurd cc
same_is (sign s) comment e = absurd cc
same_is (sign s) (sign r) e = ap sign (same_true the_type (search rules) s r e)

-- the token that a mark stands for, as far as a named token may be the same
abbrev pub mark_token : Mark → Token
mark_token (token p k) = k
mark_token (literal w) = str []

literal_token : (w : Word) (t : Token) (p : Span) → IsLiteral w t p → (k : Token) → same t k ≡ same (str []) k
literal_token w (ident t) p h k = absurd h
literal_token w (int t) p h k = absurd h
literal_token w (float t) p h k = absurd h
literal_token w (sign t) p h k = absurd h
literal_token w comment p h k = absurd h
literal_token w (str t) p h k = refl

fits_token : (m : Mark) (t : Token) (p : Span) → FitsToken m t p → (k : Token) → same t k ≡ same (mark_token m) k
fits_token (token q k) t p h l = ap (λ x. same x l) (sym h.1)
fits_token (literal w) t p h l = literal_token w t p h l

pub seen_is : (k : Token) (t : Token) (p : Span) → is_some (is k t p) ≡ same t k
seen_is k t p = by (same t k) where
  by : (b : Bool) → is_some (if b then Some p else None) ≡ b
  by true = refl
  by false = refl

-- whether a named token comes is told by the first mark
pub sees_first : (k : Token) (m : Mark) (ms : List Mark) (ts r : Stream) → SpellsMarks (m ∷ ms) ts r → sees k ts ≡ same (mark_token m) k
sees_first k m ms [] r h = absurd h
sees_first k m ms (l ∷ ts) r h = by (look source l) h.0 where
  by : (x : Seen) → FitsMark m x → is_some (value_of (is k) x) ≡ same (mark_token m) k
  by None f = absurd f
  by (Some x) f = seen_is k x.0 x.1 ∙ fits_token m x.0 x.1 f k

-- where this token stands, if it comes next
saw_is : (k : Token) (p : Span) (l : Piece) (ts : Stream) → value_of (is k) (look source l) ≡ Some p → SpellsMarks (spot p k ∷ []) (l ∷ ts) ts
saw_is k p l ts h = by (look source l) h where
  same_place : (p q : Span) → Some p ≡ Some q → q ≡ p
  same_place p q e = cc

  by_same : (x : Token × Span) (b : Bool) → same x.0 k ≡ b → (if b then Some x.1 else None) ≡ Some p → FitsToken (spot p k) x.0 x.1
  by_same x true e g = (same_place x.1 p g, sym (same_is x.0 k e))
  by_same x false e g = absurd (let wrong : ◌≡◌ {A = Option Span} None (Some p) = g in cc)

  by : (x : Seen) → value_of (is k) x ≡ Some p → FitsMark (spot p k) x × (ts ≡ ts)
  by None g = absurd (let wrong : ◌≡◌ {A = Option Span} None (Some p) = g in cc)
  by (Some x) g = (by_same x (same x.0 k) refl g, refl)

-- a token of this mark is seen, where it stands
place_of : (k : Token) → IsNamed k → (q : Place) (l : Piece) → FitsMark (token q k) (look source l) → (p : Span) × (value_of (is k) (look source l) ≡ Some p) × IsIn q p
place_of k named q l h = by (look source l) h where
  by : (x : Seen) → FitsMark (token q k) x → (p : Span) × (value_of (is k) x ≡ Some p) × IsIn q p
  by None f = absurd f
  by (Some x) f = (x.1, ap (λ t. is k t x.1) (sym f.1) ∙ ap (λ b. if b then Some x.1 else None) named, f.0)

-- a token read at a place stands where the tree says
pub placed : (k : Token) (p : Span) (q : Place) (ts r : Stream) → IsIn q p → SpellsMarks (spot p k ∷ []) ts r → SpellsMarks (token q k ∷ []) ts r
placed k p q [] r is h = absurd h
placed k p q (l ∷ ts) r is h = (by (look source l) h.0, h.1) where
  in_place : (s : Span) → p ≡ s → IsIn q s
  in_place s e = subst (IsIn q) e is

  by : (x : Seen) → FitsMark (spot p k) x → FitsMark (token q k) x
  by None f = absurd f
  by (Some x) f = (in_place x.1 f.0, f.1)

-- ---- a token that may come

abbrev pub Absent : Token → Option Span → Stream → Type 0
Absent k (Some p) r = Unit {0}
Absent k None r = sees k r ≡ false

pub eat_sound : (k : Token) (ts r : Stream) (o : Option Span) → eat k ts ≡ Ok (o, r) → SpellsMarks (if_there o k) ts r × Absent k o r
unfolding eat_in
eat_sound k [] r o h = subst (λ (y : Option Span × Stream). SpellsMarks (if_there y.0 k) [] y.1 × Absent k y.0 y.1) (same_ok (None, []) (o, r) h) (refl, refl)
eat_sound k (l ∷ ts) r o h = by (value_of (is k) (look source l)) refl h where
  by : (x : Option Span) → value_of (is k) (look source l) ≡ x → eaten x (l ∷ ts) ≡ Ok (o, r) → SpellsMarks (if_there o k) (l ∷ ts) r × Absent k o r
  by None e g = subst (λ (y : Option Span × Stream). SpellsMarks (if_there y.0 k) (l ∷ ts) y.1 × Absent k y.0 y.1) (same_ok (None, l ∷ ts) (o, r) g) (refl, ap is_some e)
  by (Some q) e g = subst (λ (y : Option Span × Stream). SpellsMarks (if_there y.0 k) (l ∷ ts) y.1 × Absent k y.0 y.1) (same_ok (Some q, ts) (o, r) g) (saw_is k q l ts e, tt)

not_there : (o : Option Span) → is_some o ≡ false → o ≡ None
not_there None e = refl
not_there (Some p) e = absurd cc

pub eat_none : (k : Token) (ts : Stream) → sees k ts ≡ false → eat k ts ≡ Ok (None, ts)
unfolding eat_in
eat_none k ts e = ap (λ o. eaten o ts) (not_there (saw source k ts) e)

pub eat_some : (k : Token) → IsNamed k → (q : Place) (ts r : Stream) → SpellsMarks (token q k ∷ []) ts r → (p : Span) × (eat k ts ≡ Ok (Some p, r)) × IsIn q p
unfolding eat_in
eat_some k named q [] r h = absurd h
eat_some k named q (l ∷ ts) r h = let x = place_of k named q l h.0 in (x.0, ap (λ o. eaten o (l ∷ ts)) x.1 ∙ ap (λ s. Ok (Some x.0, s)) h.1, x.2)

eat_complete : (k : Token) → IsNamed k → (ts r : Stream) (o : Option Span) → SpellsMarks (if_there o k) ts r → Absent k o r → eat k ts ≡ Ok (o, r)
eat_complete k named ts r None h a = eat_none k ts (subst (λ s. sees k s ≡ false) (sym h) a) ∙ ap (λ s. Ok (None, s)) h
eat_complete k named ts r (Some p) h a = let x = eat_some k named (within p) ts r h in x.1 ∙ ap (λ q. Ok (Some q, r)) (sym x.2)

pub both_eat : {H : Stream → Type 0} (k : Token) → IsNamed k → Both H (eat k) (λ o. if_there o k) IsAny IsAny (Absent k)
both_eat k named = record { sound = λ ts r o h e. let x = eat_sound k ts r o e in (x.0, (tt, tt), x.1); complete = λ ts r o h known w f. eat_complete k named ts r o h f }

-- ---- choices

-- ---- more steps

-- A token that stands for a value. K is known of the value, and R is asked of it.
module _ {A : Type 0} (e : Expected) (f : Token → Span → Option A) (mark : A → Mark) (K R : A → Type 0) (fits : (t : Token) (p : Span) (a : A) → f t p ≡ Some a → FitsToken (mark a) t p × (K a × R a))
    (back : (t : Token) (p : Span) (a : A) → FitsToken (mark a) t p → K a → R a → f t p ≡ Some a) where
  leaf_at : (l : Piece) (ts r : Stream) (a : A) (x : Seen) → look source l ≡ x → taken source e (value_of f x) (l ∷ ts) ≡ Ok (a, r) → SpellsMarks (mark a ∷ []) (l ∷ ts) r × (K a × R a)
  leaf_at l ts r a None h g = absurd cc
  leaf_at l ts r a (Some x) h g = by (f x.0 x.1) refl g where
    by : (o : Option A) → f x.0 x.1 ≡ o → taken source e o (l ∷ ts) ≡ Ok (a, r) → SpellsMarks (mark a ∷ []) (l ∷ ts) r × (K a × R a)
    by None i g = absurd cc
    by (Some b) i g = let y = fits x.0 x.1 b i in subst (λ (y : A × Stream). SpellsMarks (mark y.0 ∷ []) (l ∷ ts) y.1 × (K y.0 × R y.0)) (same_ok (b, ts) (a, r) g) ((subst (FitsMark (mark b)) (sym h) y.0, refl), y.1)

  leaf_sound : (ts r : Stream) (a : A) → one source e f ts ≡ Ok (a, r) → SpellsMarks (mark a ∷ []) ts r × (K a × R a)
  leaf_sound [] r a g = absurd cc
  leaf_sound (l ∷ ts) r a g = leaf_at l ts r a (look source l) refl g

  leaf_back : (l : Piece) (ts r : Stream) (a : A) (x : Seen) → FitsMark (mark a) x → K a → R a → ts ≡ r → taken source e (value_of f x) (l ∷ ts) ≡ Ok (a, r)
  leaf_back l ts r a None h k w g = absurd h
  leaf_back l ts r a (Some x) h k w g = ap (λ o. taken source e o (l ∷ ts)) (back x.0 x.1 a h k w) ∙ ap (λ s. Ok (a, s)) g

  leaf_complete : (ts r : Stream) (a : A) → SpellsMarks (mark a ∷ []) ts r → K a → R a → one source e f ts ≡ Ok (a, r)
  leaf_complete [] r a h k w = absurd h
  leaf_complete (l ∷ ts) r a h k w = leaf_back l ts r a (look source l) h.0 k w h.1

  pub both_leaf : {H : Stream → Type 0} → Both H (one source e f) (λ a. mark a ∷ []) K R Free
  both_leaf = record { sound = λ ts r a h g. let x = leaf_sound ts r a g in (x.0, x.1, tt); complete = λ ts r a h k w g. leaf_complete ts r a h k w }
