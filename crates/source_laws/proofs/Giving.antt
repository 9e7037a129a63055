-- What rules give, from tokens whose words are identifiers.
use Rattle.std.proofs.Common.{◌≡◌, ◌∙◌, ◌++◌, ℕ, zero, suc, Bool, true, false, List, [], ◌∷◌, length, Option, Some, None, Ok, Err, refl, ap, subst}
use Rattle.std.specs.Prelude.{if◌then◌else◌}
use Rattle.protox_lex.specs.Token.{Token}
use Rattle.protox_lex.specs.declared.span.Span.{Span}
use Rattle.protox_tokens.proofs.Local.{Local, LocalAt, Local-pass_in, bound, same_ok}
use Rattle.protox_tokens.specs.Marks.{Each, IsAny}
use Rattle.protox_tokens.specs.Parser.{Parser, behind, choose, goes_on, loop, loop_from, one, pure, taken, until, value_of, when, word, word_of, ◌<$>◌, ◌>>=◌}
use Rattle.protox_tokens.specs.Refusal.{Expected, Fault, an_ident}
use Rattle.protox_tokens.specs.Stream.{Mode, Piece, Stream, look, source}
use Rattle.protox_tree.specs.Tree.{Word}
use Rattle.source_laws.specs.TreeNames.{IsNamed}
use Rattle.source_laws.proofs.Words.{IsCleanStream, ahead_named}

-- a value of which P holds, and words are identifiers in what is left
pub record Gives {A : Type 0} (P : A → Type 0) (p : Parser A) : Type 0 where
  pub at : (ts r : Stream) (a : A) → IsCleanStream ts → p ts ≡ Ok (a, r) → P a × IsCleanStream r

-- ---- one after the other

pub gives-pure : {A : Type 0} {P : A → Type 0} (a : A) → P a → Gives P (pure a)
gives-pure {A = A} {P = P} a h = record { at = given } where
  given : (ts r : Stream) (b : A) → IsCleanStream ts → pure a ts ≡ Ok (b, r) → P b × IsCleanStream r
  given ts r b c e =
      let same = same_ok (a, ts) (b, r) e in
      subst (λ (x : A × Stream). P x.0 × IsCleanStream x.1) same (h, c)

pub gives-bind : {A B : Type 0} {P : A → Type 0} {Q : B → Type 0} {p : Parser A} {f : A → Parser B}
    → Gives P p → ((a : A) → P a → Gives Q (f a)) → Gives Q (p >>= f)
gives-bind {p = p} {f = f} first later = record {
  at = λ ts r b c e.
      let x = bound (p ts) f (b, r) e in
      let here = first.at ts x.0.1 x.0.0 c x.1 in
      (later x.0.0 here.0).at x.0.1 r b here.1 x.2;
}

pub gives-map : {A B : Type 0} {P : A → Type 0} {Q : B → Type 0} (f : A → B) {p : Parser A}
    → Gives P p → ((a : A) → P a → Q (f a)) → Gives Q (f <$> p)
gives-map f first h = gives-bind first (λ a given. gives-pure (f a) (h a given))

pub gives-none : {A : Type 0} {P : A → Type 0} (f : Stream → Fault) → Gives P (λ ts. Err (f ts))
gives-none f = record { at = λ ts r a c e. absurd (cc e) }

pub gives-choose : {A : Type 0} {P : A → Type 0} (f : Stream → Bool) {p q : Parser A} → Gives P p
    → Gives P q → Gives P (choose f p q)
gives-choose {A = A} {P = P} f {p = p} {q = q} g h =
    record { at = λ ts r a c e. by ts r a c (f ts) e }
  where
    by : (ts r : Stream) (a : A) → IsCleanStream ts → (b : Bool)
        → (if b then p ts else q ts) ≡ Ok (a, r) → P a × IsCleanStream r
    by ts r a c true e = g.at ts r a c e
    by ts r a c false e = h.at ts r a c e

-- ---- what is left of a clean stream is clean

back_clean : (front r : Stream) → IsCleanStream (front ++ r) → IsCleanStream r
back_clean [] r c = c
back_clean (p ∷ ps) r c = back_clean ps r c.1

pub gives-any : {A : Type 0} {p : Parser A} → Local p → Gives IsAny p
gives-any {p = p} local = record {
  at = λ ts r a c e.
      let part = subst (LocalAt p ts) e (local.at ts) in
      (tt, back_clean part.front r (subst IsCleanStream part.whole c));
}

pub gives-after : {A B : Type 0} {Q : B → Type 0} {p : Parser A} {f : A → Parser B} → Local p
    → ((a : A) → Gives Q (f a)) → Gives Q (p >>= f)
gives-after local later = gives-bind (gives-any local) (λ a any. later a)

-- ---- a word

-- what is ahead of a token that is taken
record IsTaken {A : Type 0} (m : Mode) (f : Token → Span → Option A) (ts r : Stream)
    (a : A) : Type 0 where
  here : Piece
  is : ts ≡ here ∷ r
  value : value_of f (look m here) ≡ Some a

one_taken : {A : Type 0} (m : Mode) (e : Expected) (f : Token → Span → Option A) (ts r : Stream)
    (a : A) → one m e f ts ≡ Ok (a, r) → IsTaken m f ts r a
one_taken m e f [] r a h = absurd (cc h)
one_taken {A = A} m e f (l ∷ ts) r a h = by (value_of f (look m l)) refl h where
  by : (o : Option A) → value_of f (look m l) ≡ o → taken m e o (l ∷ ts) ≡ Ok (a, r)
      → IsTaken m f (l ∷ ts) r a
  by (Some x) is h =
      let same = same_ok (x, ts) (a, r) h in
      record {
        here = l;
        is = ap (λ (y : A × Stream). l ∷ y.1) same;
        value = is ∙ ap (λ (y : A × Stream). Some y.0) same;
      }
  by None is h = absurd (cc h)

word_taken : (ts r : Stream) (w : Word) → IsCleanStream ts
    → one source an_ident word_of ts ≡ Ok (w, r) → IsNamed w × IsCleanStream r
word_taken ts r w c e =
    let t = one_taken source an_ident word_of ts r w e in
    let clean = subst IsCleanStream t.is c in
    (ahead_named t.here w clean.0 t.value, clean.1)

pub gives-word : Gives IsNamed word
unfolding word
gives-word = record { at = word_taken }

-- ---- loops

abbrev pub IfThere : {A : Type 0} → (A → Type 0) → Option A → Type 0
IfThere P None = Unit {0}
IfThere P (Some a) = P a

module _ {A : Type 0} {P : A → Type 0} (step : Parser (Option A)) (each : Gives (IfThere P) step)
  where
    turn : (more : Parser (List A)) → Gives (Each P) more → (o : Option A) → IfThere P o
        → Gives (Each P) (goes_on o more)
    turn more h None given = gives-pure [] tt
    turn more h (Some x) given = gives-map (λ xs. x ∷ xs) h (λ xs hs. (given, hs))

    turns : (n : ℕ) → Gives (Each P) (loop_from step n)
    unfolding loop_from
    turns zero = record { at = λ ts r a c e. absurd (cc e) }
    turns (suc n) =
        let later = gives-bind each (turn (loop_from step n) (turns n)) in
        record { at = λ ts r a c e. later.at ts r a c e }

    pub gives-loop : Gives (Each P) (loop step)
    unfolding loop
    gives-loop = record { at = λ ts r a c e. (turns (suc (length ts))).at ts r a c e }

pub gives-when : {A : Type 0} {P : A → Type 0} (f : Stream → Bool) {p : Parser A} → Gives P p
    → Gives (IfThere P) (when f p)
gives-when {A = A} {P = P} f {p = p} g = record { at = λ ts r o c e. by ts r o c (f ts) e } where
  by : (ts r : Stream) (o : Option A) → IsCleanStream ts → (b : Bool)
      → (if b then (Some <$> p) ts else Ok (None, ts)) ≡ Ok (o, r) → IfThere P o × IsCleanStream r
  by ts r o c true e = (gives-map {Q = IfThere P} Some g (λ a h. h)).at ts r o c e
  by ts r o c false e = (gives-pure {P = IfThere P} None tt).at ts r o c e

-- values up to this token
pub gives-until : {A : Type 0} {P : A → Type 0} (k : Token) {p : Parser A} → Gives P p
    → Gives (Each P) (loop (until k p))
gives-until k g = gives-loop _ (gives-when _ g)

-- values that each stand behind this token
pub gives-behind : {A : Type 0} {P : A → Type 0} (k : Token) {p : Parser A} → Gives P p
    → Gives (Each P) (loop (behind k p))
gives-behind {A = A} {P = P} k {p = p} g =
    gives-loop (behind k p) (gives-after (Local-pass_in source k) by)
  where
    by : (b : Bool) → Gives (IfThere P) (if b then Some <$> p else pure None)
    by true = gives-map Some g (λ a h. h)
    by false = gives-pure None tt
