-- Full names whose files ascend, and those of the first files.
use Rattle.std.proofs.Common.{◌≡◌, ℕ, zero, suc, ◌<◌, ◌≤◌, List, [], ◌∷◌, ◌++◌, Bool, true, false, cond, nat_lt, Option, Some, None, slice_get, ap, sym, subst, ◌∙◌, arith, refl}
use Rattle.std.specs.List.{filter, AllByRecursion}
use Rattle.std.proofs.lemmas.Option.{same_Some}
use Rattle.reflect_declarations.specs.Declarations.{Declaration}
use Rattle.reflect_declarations.specs.declared.offsets.Offsets.{Offsets}
use Rattle.reflect_scope.specs.declared.definition.Definition.{Definition}
use Rattle.reflect_scope.specs.Known.{kept_first}
use Rattle.reflect_tables.proofs.Founds.{no_some}
use Rattle.reflect_tables.specs.Names.{Sort, with_file, FullName, AreFound, AreInOrder, place_in, place_of}
use Rattle.reflect_known.specs.DeclaredNames.{is_of, with_name, with_names}
use Rattle.reflect_index.proofs.Counted.{AreNext, past_one}

pub all_push : {X : Type 0} (P : X → Type 0) (xs : List X) (x : X) → AllByRecursion P xs → P x → AllByRecursion P (xs ++ x ∷ [])
all_push P [] x all p = (p, tt)
all_push P (y ∷ ys) x all p = (all.0, all_push P ys x all.1 p)

all_get : {X : Type 0} (P : X → Type 0) (xs : List X) (i : ℕ) (x : X) → AllByRecursion P xs → slice_get xs i ≡ Some x → P x
all_get P [] i x all e = absurd (no_some x e)
all_get P (y ∷ ys) zero x all e = subst P (same_Some y x e) all.0
all_get P (y ∷ ys) (suc i) x all e = all_get P ys i x all.1 e

-- the names are of files up to this one
abbrev pub AreUpTo : ℕ → List FullName → Type 0
AreUpTo file names = AllByRecursion (λ y. y.1 ≤ file) names

pub up_to_more : (n m : ℕ) (names : List FullName) → n ≤ m → AreUpTo n names → AreUpTo m names
up_to_more n m [] le all = tt
up_to_more n m (x ∷ xs) le all = let first : x.1 ≤ n = all.0 in (omega (arith, first, le), up_to_more n m xs le all.1)

order_push : (names : List FullName) (x : FullName) → AreUpTo x.1 names → AreInOrder names → AreInOrder (names ++ x ∷ [])
order_push [] x all up = (tt, tt)
order_push (y ∷ ys) x all up = (all_push (λ z. y.1 ≤ z.1) ys x up.0 all.0, order_push ys x all.1 up.1)

one_ordered : (names : List FullName) (name : List ℕ) (of file : ℕ) (b : Bool) → of ≡ file → AreUpTo file names → AreInOrder names
    → AreUpTo file (cond b (names ++ (name, of) ∷ []) names) × AreInOrder (cond b (names ++ (name, of) ∷ []) names)
one_ordered names name of file true same all up =
    let last : of ≤ file = omega (arith, same) in
    (all_push (λ y. y.1 ≤ file) names (name, of) all last, order_push names (name, of) (subst (λ n. AreUpTo n names) (sym same) all) up)
one_ordered names name of file false same all up = (all, up)

-- declarations of one file
pub walk_ordered : (s : Sort) (names : List FullName) (file : ℕ) (o p : Offsets) (ds : List Declaration) → AreNext file o ds p → AreUpTo file names → AreInOrder names
    → AreUpTo file (with_names s names ds) × AreInOrder (with_names s names ds)
walk_ordered s names file o p [] next all up = (all, up)
walk_ordered s names file o p (d ∷ ds) next all up =
    let here = one_ordered names d.name d.file file (is_of s d.body) next.0 all up in
    walk_ordered s (with_name s names d) file (past_one o d.body) p ds next.1.1 here.0 here.1

-- the names of the files below the mark
abbrev pub first_names : ℕ → List FullName → List FullName
first_names mark names = filter (λ e. nat_lt e.1 mark) names

none_first : (mark : ℕ) (xs : List FullName) (low : ℕ) → mark ≤ low → AllByRecursion (λ y. low ≤ y.1) xs → first_names mark xs ≡ []
none_first mark [] low le all = refl
none_first mark (x ∷ xs) low le all =
    let high : low ≤ x.1 = all.0 in
    let out : nat_lt x.1 mark ≡ false = grind (arith, high, le) in
    ap (λ b. cond b (x ∷ first_names mark xs) (first_names mark xs)) out ∙ none_first mark xs low le all.1

-- they stand at the same places
pub first_at : (mark : ℕ) (names : List FullName) → AreInOrder names → (i : ℕ) (t : List ℕ) (f : ℕ)
    → (slice_get (first_names mark names) i ≡ Some (t, f) → (slice_get names i ≡ Some (t, f)) × (f < mark)) × (slice_get names i ≡ Some (t, f) → f < mark → slice_get (first_names mark names) i ≡ Some (t, f))
first_at mark [] up i t f = (λ e. absurd (no_some (t, f) e), λ e lt. e)
first_at mark (x ∷ xs) up i t f = by (nat_lt x.1 mark) refl i (first_at mark xs up.1) where
  by : (b : Bool) → nat_lt x.1 mark ≡ b → (i : ℕ)
      → ((i : ℕ) (t : List ℕ) (f : ℕ) → (slice_get (first_names mark xs) i ≡ Some (t, f) → (slice_get xs i ≡ Some (t, f)) × (f < mark)) × (slice_get xs i ≡ Some (t, f) → f < mark → slice_get (first_names mark xs) i ≡ Some (t, f)))
      → (slice_get (cond (nat_lt x.1 mark) (x ∷ first_names mark xs) (first_names mark xs)) i ≡ Some (t, f) → (slice_get (x ∷ xs) i ≡ Some (t, f)) × (f < mark))
      × (slice_get (x ∷ xs) i ≡ Some (t, f) → f < mark → slice_get (cond (nat_lt x.1 mark) (x ∷ first_names mark xs) (first_names mark xs)) i ≡ Some (t, f))
  by true is zero inner =
      let low : x.1 < mark = grind (arith, is) in
      rw is (λ e. (e, subst (λ n. n < mark) (ap (λ (q : FullName). q.1) (same_Some x (t, f) e)) low), λ e lt. e)
  by true is (suc k) inner = rw is (inner k t f)
  by false is k inner =
      let high : mark ≤ x.1 = grind (arith, is) in
      let none : first_names mark xs ≡ [] = none_first mark xs x.1 high up.0 in
      let gone : slice_get (cond (nat_lt x.1 mark) (x ∷ first_names mark xs) (first_names mark xs)) k ≡ None = ap (λ b. slice_get (cond b (x ∷ first_names mark xs) (first_names mark xs)) k) is ∙ ap (λ ys. slice_get ys k) none in
      (λ e. absurd (no_some (t, f) (sym gone ∙ e)), λ e lt. absurd (beyond k high e lt))
    where
      beyond : (k : ℕ) → mark ≤ x.1 → slice_get (x ∷ xs) k ≡ Some (t, f) → f < mark → ⊥
      beyond zero high e lt = let same : x.1 ≡ f = ap (λ (q : FullName). q.1) (same_Some x (t, f) e) in absurd (omega (arith, same, high, lt))
      beyond (suc k) high e lt = let later : x.1 ≤ f = all_get (λ y. x.1 ≤ y.1) xs k (t, f) up.0 e in absurd (omega (arith, later, high, lt))

-- what is left of a place where its file is below the mark
abbrev pub only : ℕ → Option (ℕ × ℕ) → Option (ℕ × ℕ)
only mark o = elim o [ None ↦ None | Some q ↦ cond (nat_lt q.1 mark) (Some q) None ]

only_some : (mark : ℕ) (o : Option (ℕ × ℕ)) (i f : ℕ) → (only mark o ≡ Some (i, f) → (o ≡ Some (i, f)) × (f < mark)) × (o ≡ Some (i, f) → f < mark → only mark o ≡ Some (i, f))
only_some mark None i f = (λ e. absurd (no_some (i, f) e), λ e lt. e)
only_some mark (Some q) i f = by (nat_lt q.1 mark) refl where
  by : (b : Bool) → nat_lt q.1 mark ≡ b → (cond (nat_lt q.1 mark) (Some q) None ≡ Some (i, f) → (Some q ≡ Some (i, f)) × (f < mark)) × (Some q ≡ Some (i, f) → f < mark → cond (nat_lt q.1 mark) (Some q) None ≡ Some (i, f))
  by true is =
      let low : q.1 < mark = grind (arith, is) in
      rw is (λ e. (e, subst (λ n. n < mark) (ap (λ (p : ℕ × ℕ). p.1) (same_Some q (i, f) e)) low), λ e lt. e)
  by false is =
      let high : mark ≤ q.1 = grind (arith, is) in
      rw is (λ e. absurd (no_some (i, f) e), λ e lt. let same : q.1 ≡ f = ap (λ (p : ℕ × ℕ). p.1) (same_Some q (i, f) e) in absurd (omega (arith, same, high, lt)))

-- the names of the first files stand for their places
pub found_first : (mark : ℕ) (g h : List ℕ → Option (ℕ × ℕ)) (names : List FullName) → AreInOrder names → ((t : List ℕ) → h t ≡ only mark (g t)) → AreFound g names → AreFound h (first_names mark names)
found_first mark g h names up same are = λ t i f. (
  λ e. let kept = (only_some mark (g t) i f).0 (sym (same t) ∙ e) in (first_at mark names up i t f).1 ((are t i f).0 kept.0) kept.1,
  λ e. let kept = (first_at mark names up i t f).0 e in same t ∙ (only_some mark (g t) i f).1 ((are t i f).1 kept.0) kept.1,
)

all_first : (P : FullName → Type 0) (mark : ℕ) (names : List FullName) → AllByRecursion P names → AllByRecursion P (first_names mark names)
all_first P mark [] all = tt
all_first P mark (x ∷ xs) all = by (nat_lt x.1 mark) (all_first P mark xs all.1) where
  by : (b : Bool) → AllByRecursion P (first_names mark xs) → AllByRecursion P (cond b (x ∷ first_names mark xs) (first_names mark xs))
  by true inner = (all.0, inner)
  by false inner = inner

pub order_first : (mark : ℕ) (names : List FullName) → AreInOrder names → AreInOrder (first_names mark names)
order_first mark [] up = tt
order_first mark (x ∷ xs) up = by (nat_lt x.1 mark) (order_first mark xs up.1) where
  by : (b : Bool) → AreInOrder (first_names mark xs) → AreInOrder (cond b (x ∷ first_names mark xs) (first_names mark xs))
  by true inner = (all_first (λ y. x.1 ≤ y.1) mark xs up.0, inner)
  by false inner = inner

pub found_kept : (s : Sort) (mark : ℕ) (o : Option Definition) → place_in s (kept_first mark o) ≡ only mark (place_in s o)
found_kept s mark None = refl
found_kept s mark (Some d) = by (nat_lt d.file mark) ∙ later (place_of s d.kind) where
  by : (b : Bool) → place_in s (cond b (Some d) None) ≡ cond b (place_in s (Some d)) None
  by true = refl
  by false = refl

  none : (b : Bool) → cond {A = Option (ℕ × ℕ)} b None None ≡ None
  none true = refl
  none false = refl

  later : (p : Option ℕ) → cond (nat_lt d.file mark) (with_file d p) None ≡ only mark (with_file d p)
  later None = none (nat_lt d.file mark)
  later (Some i) = refl
