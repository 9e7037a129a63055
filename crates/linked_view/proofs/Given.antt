-- Names that are given one after another: none is taken exactly where each name is given once, but
-- that packages share a name.
use Rattle.std.proofs.Common.{◌≡◌, ◌≤◌, ◌+◌, ◌∙◌, ◌⊎◌, inl, inr, ℕ, Bool, true, false, cond, not, ◌&&◌, List, [], ◌∷◌, ◌++◌, Option, Some, None, bytes_eq, sum_by, ap, sym, subst, refl, arith}
use Rattle.std.specs.Map.{update}
use Rattle.std.proofs.lemmas.List.Sums.{sum_by-cons}
use Rattle.descriptor_records.specs.Content.{Text}
use Rattle.reflect_scope.specs.declared.definition.Definition.{Definition}
use Rattle.reflect_scope.specs.Known.{Known, declared, is_taken, is_package, may_repeat}
use Rattle.reflect_names.proofs.Declared.{declared_new}
use Rattle.linked_view.proofs.Counts.{one_if, bytes_same, bytes_refl}

-- a name, and what it stands for
abbrev pub Giving : Type 0
Giving = Text × Definition

abbrev pub known_by : Known → List Giving → Known
known_by known [] = known
known_by known (g ∷ gs) = known_by (declared known g.0 g.1) gs

-- none of them is taken where it is given
abbrev pub Free : Known → List Giving → Type 0
Free known [] = Unit {0}
Free known (g ∷ gs) = (is_taken known g.0 g.1 ≡ false) × Free (declared known g.0 g.1) gs

pub free_both : (known : Known) (a b : List Giving) → Free known (a ++ b)
    → Free known a × Free (known_by known a) b
free_both known [] b h = (tt, h)
free_both known (g ∷ a) b h =
    let rest = free_both (declared known g.0 g.1) a b h.1 in ((h.0, rest.0), rest.1)

pub both_free : (known : Known) (a b : List Giving) → Free known a → Free (known_by known a) b
    → Free known (a ++ b)
both_free known [] b h k = k
both_free known (g ∷ a) b h k = (h.0, both_free (declared known g.0 g.1) a b h.1 k)

pub known_both : (known : Known) (a b : List Giving)
    → known_by known (a ++ b) ≡ known_by (known_by known a) b
known_both known [] b = refl
known_both known (g ∷ a) b = known_both (declared known g.0 g.1) a b

-- whether something else than a package is there, and whether a package is
abbrev pub other_in : Option Definition → ℕ
other_in None = 0
other_in (Some d) = one_if (not (is_package d.kind))

abbrev pub package_in : Option Definition → ℕ
package_in None = 0
package_in (Some d) = one_if (is_package d.kind)

abbrev pub other_at : Text → Giving → ℕ
other_at n g = cond (bytes_eq g.0 n) (other_in (Some g.1)) 0

abbrev pub package_at : Text → Giving → ℕ
package_at n g = cond (bytes_eq g.0 n) (package_in (Some g.1)) 0

-- how often a name is given to something else, and to a package
abbrev pub others : Text → List Giving → ℕ
others n gs = sum_by (other_at n) gs

abbrev pub packages : Text → List Giving → ℕ
packages n gs = sum_by (package_at n) gs

-- a name is given once, or to packages alone, counting what is there
pub record IsApart (o : Option Definition) (other package_count : ℕ) : Type 0 where
  pub once : other_in o + other ≤ 1
  pub alone : 1 ≤ other_in o + other → package_in o + package_count ≡ 0

-- what is there behind a giving of so much
pub record Moves (o next : Option Definition) (other package_count : ℕ) : Type 0 where
  pub others : other_in next ≡ other + other_in o
  pub packages : (package_in next ≡ package_count + package_in o)
      ⊎ ((1 ≤ package_in o) × (1 ≤ package_in next))

moved_on : (o next : Option Definition) (w p a b : ℕ) → Moves o next w p → IsApart next a b
    → IsApart o (w + a) (p + b)
moved_on o next w p a b m h = record {
  once = let le = h.once in let is = m.others in omega (arith, le, is);
  alone = λ le. by m.packages (h.alone (let is = m.others in omega (arith, le, is)));
} where
  by : (package_in next ≡ p + package_in o) ⊎ ((1 ≤ package_in o) × (1 ≤ package_in next))
      → package_in next + b ≡ 0 → package_in o + (p + b) ≡ 0
  by (inl is) none = omega (arith, is, none)
  by (inr (old, new)) none = absurd (omega (arith, new, none))

moved_back : (o next : Option Definition) (w p a b : ℕ) → Moves o next w p
    → IsApart o (w + a) (p + b) → IsApart next a b
moved_back o next w p a b m h = record {
  once = let le = h.once in let is = m.others in omega (arith, le, is);
  alone = λ le. by m.packages (h.alone (let is = m.others in omega (arith, le, is)));
} where
  by : (package_in next ≡ p + package_in o) ⊎ ((1 ≤ package_in o) × (1 ≤ package_in next))
      → package_in o + (p + b) ≡ 0 → package_in next + b ≡ 0
  by (inl is) none = omega (arith, is, none)
  by (inr (old, new)) none = absurd (omega (arith, old, none))

abbrev is_taken_in : Option Definition → Definition → Bool
is_taken_in None d = false
is_taken_in (Some e) d = elim (may_repeat e.kind d.kind) [ true ↦ false | false ↦ true ]

pub taken_is : (known : Known) (m : Text) (d : Definition) (o : Option Definition) → known m ≡ o
    → is_taken known m d ≡ is_taken_in o d
taken_is known m d None e = ap (λ (o : Option Definition). elim o [
  | None ↦ false
  | Some e ↦ elim (may_repeat e.kind d.kind) [ true ↦ false | false ↦ true ]
]) e
taken_is known m d (Some x) e = ap (λ (o : Option Definition). elim o [
  | None ↦ false
  | Some e ↦ elim (may_repeat e.kind d.kind) [ true ↦ false | false ↦ true ]
]) e

-- what may be given again is a package, and so is what was there
pub repeats : (p q : Bool) → elim (p && q) as (λ _. Bool) [ true ↦ false | false ↦ true ] ≡ false
    → (p ≡ true) × (q ≡ true)
repeats true true e = (refl, refl)
repeats true false e = absurd (cc e)
repeats false q e = absurd (cc e)

pub stays : (known : Known) (m : Text) (d e : Definition) → known m ≡ Some e
    → declared known m d ≡ known
stays known m d e is =
    ap (λ o. elim o as (λ _. Known) [ None ↦ update bytes_eq known m (Some d) | Some e ↦ known ]) is

module _ (known : Known) (m : Text) (d : Definition) (n : Text) where
  moves : is_taken known m d ≡ false
      → Moves (known n) (declared known m d n) (other_at n (m, d)) (package_at n (m, d))
  moves free = by (bytes_eq m n) refl (known m) refl where
    by : (b : Bool) → bytes_eq m n ≡ b → (o : Option Definition) → known m ≡ o
        → Moves (known n) (declared known m d n) (other_at n (m, d)) (package_at n (m, d))
    by true is None none =
        let there : known n ≡ None = ap known (sym (bytes_same m n is)) ∙ none in
        let next : declared known m d n ≡ Some d = ap (λ (k : Known). k n) (declared_new known m d none)
        ∙ ap (λ b. cond b (Some d) (known n)) is in
        record {
          others =
              ap other_in next ∙ (let a : other_in (known n) ≡ 0 = ap other_in there in
              let c : other_at n (m, d) ≡ other_in (Some d) = ap (λ b. cond b (other_in (Some d)) 0) is in
              omega (arith, a, c));
          packages = inl (ap package_in next ∙ (let a : package_in (known n) ≡ 0 = ap package_in there in
              let c : package_at n (m, d) ≡ package_in (Some d) =
              ap (λ b. cond b (package_in (Some d)) 0) is in
              omega (arith, a, c)));
        }
    by true is (Some e) some =
        let both = repeats (is_package e.kind) (is_package d.kind)
        (sym (taken_is known m d (Some e) some) ∙ free) in
        let there : known n ≡ Some e = ap known (sym (bytes_same m n is)) ∙ some in
        let next : declared known m d n ≡ Some e = ap (λ (k : Known). k n) (stays known m d e some)
        ∙ there in
        let was : package_in (known n) ≡ 1 = ap package_in there ∙ ap one_if both.0 in
        let now : package_in (declared known m d n) ≡ 1 = ap package_in next ∙ ap one_if both.0 in
        let a : other_in (known n) ≡ 0 = ap other_in there ∙ ap (λ b. one_if (not b)) both.0 in
        let b : other_in (declared known m d n) ≡ 0 =
        ap other_in next ∙ ap (λ b. one_if (not b)) both.0 in
        let c : other_at n (m, d) ≡ 0 = ap (λ b. cond b (other_in (Some d)) 0) is
        ∙ ap (λ b. one_if (not b)) both.1 in
        record {
          others = omega (arith, a, b, c);
          packages = inr (omega (arith, was), omega (arith, now));
        }
    by false is None none =
        let next : declared known m d n ≡ known n = ap (λ (k : Known). k n) (declared_new known m d none)
        ∙ ap (λ b. cond b (Some d) (known n)) is in
        let c : other_at n (m, d) ≡ 0 = ap (λ b. cond b (other_in (Some d)) 0) is in
        let p : package_at n (m, d) ≡ 0 = ap (λ b. cond b (package_in (Some d)) 0) is in
        record {
          others = ap other_in next ∙ omega (arith, c);
          packages = inl (ap package_in next ∙ omega (arith, p));
        }
    by false is (Some e) some =
        let next : declared known m d n ≡ known n = ap (λ (k : Known). k n) (stays known m d e some) in
        let c : other_at n (m, d) ≡ 0 = ap (λ b. cond b (other_in (Some d)) 0) is in
        let p : package_at n (m, d) ≡ 0 = ap (λ b. cond b (package_in (Some d)) 0) is in
        record {
          others = ap other_in next ∙ omega (arith, c);
          packages = inl (ap package_in next ∙ omega (arith, p));
        }

none_apart : (o : Option Definition) → IsApart o 0 0
none_apart None = record { once = omega arith; alone = λ le. absurd (omega (arith, le)) }
none_apart (Some d) = by (is_package d.kind) refl where
  by : (b : Bool) → is_package d.kind ≡ b → IsApart (Some d) 0 0
  by true is =
      let none : one_if (not (is_package d.kind)) ≡ 0 = ap (λ b. one_if (not b)) is in
      record { once = omega (arith, none); alone = λ le. absurd (omega (arith, le, none)) }
  by false is =
      let one : one_if (not (is_package d.kind)) ≡ 1 = ap (λ b. one_if (not b)) is in
      let none : one_if (is_package d.kind) ≡ 0 = ap one_if is in
      record { once = omega (arith, one); alone = λ le. omega (arith, none) }

pub free_to : (known : Known) (gs : List Giving) → Free known gs → (n : Text)
    → IsApart (known n) (others n gs) (packages n gs)
free_to known [] h n = none_apart (known n)
free_to known (g ∷ gs) h n =
    let rest = free_to (declared known g.0 g.1) gs h.1 n in
    let m = moves known g.0 g.1 n h.0 in
    let whole = moved_on (known n) (declared known g.0 g.1 n) (other_at n g) (package_at n g)
    (others n gs) (packages n gs) m rest in
    subst (λ a. IsApart (known n) a (packages n (g ∷ gs))) (sym (sum_by-cons (other_at n) g gs))
    (subst (IsApart (known n) (other_at n g + others n gs)) (sym (sum_by-cons (package_at n) g gs))
    whole)

not_taken : (known : Known) (m : Text) (d : Definition) (a b : ℕ)
    → IsApart (known m) (other_in (Some d) + a) (package_in (Some d) + b) → is_taken known m d ≡ false
not_taken known m d a b h = by (known m) refl where
  both : (e : Definition) → known m ≡ Some e → (p : Bool) → is_package e.kind ≡ p → (q : Bool)
      → is_package d.kind ≡ q → is_taken_in (Some e) d ≡ false
  both e is true p true q =
      let may : (is_package e.kind && is_package d.kind) ≡ true =
      ap (λ x. x && is_package d.kind) p ∙ q in
      ap (λ b. elim b as (λ _. Bool) [ true ↦ false | false ↦ true ]) may
  both e is true p false q =
      let one : other_in (Some d) ≡ 1 = ap (λ b. one_if (not b)) q in
      let was : package_in (known m) ≡ 1 = ap package_in is ∙ ap one_if p in
      let none = h.alone (omega (arith, one)) in
      absurd (omega (arith, none, was))
  both e is false p true q =
      let old : other_in (known m) ≡ 1 = ap other_in is ∙ ap (λ b. one_if (not b)) p in
      let new : package_in (Some d) ≡ 1 = ap one_if q in
      let none = h.alone (omega (arith, old)) in
      absurd (omega (arith, none, new))
  both e is false p false q =
      let old : other_in (known m) ≡ 1 = ap other_in is ∙ ap (λ b. one_if (not b)) p in
      let new : other_in (Some d) ≡ 1 = ap (λ b. one_if (not b)) q in
      let le = h.once in
      absurd (omega (arith, old, new, le))

  by : (o : Option Definition) → known m ≡ o → is_taken known m d ≡ false
  by None is = taken_is known m d None is
  by (Some e) is = taken_is known m d (Some e) is
      ∙ both e is (is_package e.kind) refl (is_package d.kind) refl

pub free_from : (known : Known) (gs : List Giving)
    → ((n : Text) → IsApart (known n) (others n gs) (packages n gs)) → Free known gs
free_from known [] h = tt
free_from known (g ∷ gs) h =
    let split : (n : Text) → IsApart (known n) (other_at n g + others n gs)
    (package_at n g + packages n gs) = λ n.
    subst (λ a. IsApart (known n) a (package_at n g + packages n gs)) (sum_by-cons (other_at n) g gs)
    (subst (IsApart (known n) (others n (g ∷ gs))) (sum_by-cons (package_at n) g gs) (h n)) in
    let here : other_at g.0 g ≡ other_in (Some g.1) =
    ap (λ b. cond b (other_in (Some g.1)) 0) (bytes_refl g.0) in
    let there : package_at g.0 g ≡ package_in (Some g.1) =
    ap (λ b. cond b (package_in (Some g.1)) 0) (bytes_refl g.0) in
    let own = subst (λ a. IsApart (known g.0) (a + others g.0 gs) (package_in (Some g.1)
    + packages g.0 gs)) here
    (subst (λ b. IsApart (known g.0) (other_at g.0 g + others g.0 gs) (b + packages g.0 gs)) there
    (split g.0)) in
    let new = not_taken known g.0 g.1 (others g.0 gs) (packages g.0 gs) own in (
      new,
      free_from (declared known g.0 g.1) gs (λ n.
          moved_back (known n) (declared known g.0 g.1 n) (other_at n g) (package_at n g)
          (others n gs) (packages n gs) (moves known g.0 g.1 n new) (split n)),
    )
