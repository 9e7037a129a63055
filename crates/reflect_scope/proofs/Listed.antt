-- Marks, and the list of the files that have one.
use Rattle.std.proofs.Common.{◌≡◌, ℕ, suc, ◌<◌, ◌≤◌, ◌+◌, List, [], ◌∷◌, ◌++◌, inl, inr, Bool, true, false, not, cond, ◌||◌, eqb, take, length, get_or, refl, ap, sym, subst, ◌∙◌, arith, count_by}
use Rattle.std.proofs.Math.ListN.{set, length-set}
use Rattle.std.proofs.lemmas.List.{get_or-set_same, get_or-set_other, take_more, get_or_past}
use Rattle.std.proofs.lemmas.Bool.{cases_eq, cases_lt, eq-eqb, eqb-true}
use Rattle.std.proofs.lemmas.List.Sums.{sum_by-cons}
use Rattle.std.specs.List.{Contains}
use Rattle.std.proofs.lemmas.List.Elements.{Contains-append_right, Contains-push_cases}
use Rattle.reflect_scope.specs.Marks.{IsMarked, AreListed, AllClear, is_listed}

listed_old : (order : List ℕ) (f g : ℕ) → is_listed order g ≡ true → is_listed (order ++ f ∷ []) g ≡ true
listed_old [] f g e = absurd (cc)
listed_old (x ∷ order) f g e = by (eqb x g) (listed_old order f g) e where
  by : (v : Bool) → (is_listed order g ≡ true → is_listed (order ++ f ∷ []) g ≡ true) → (v || is_listed order g) ≡ true → (v || is_listed (order ++ f ∷ []) g) ≡ true
  by true rest h = refl
  by false rest h = rest h

listed_new : (order : List ℕ) (f : ℕ) → is_listed (order ++ f ∷ []) f ≡ true
listed_new [] f = ap (λ v. v || false) (eq-eqb f f refl)
listed_new (x ∷ order) f = by (eqb x f) (listed_new order f) where
  by : (v : Bool) → is_listed (order ++ f ∷ []) f ≡ true → (v || is_listed (order ++ f ∷ []) f) ≡ true
  by true rest = refl
  by false rest = rest

pub listed_contains : (order : List ℕ) (g : ℕ) → is_listed order g ≡ true → Contains order g
listed_contains [] g e = absurd (cc)
listed_contains (x ∷ order) g e = by (eqb x g) refl (listed_contains order g) e where
  by : (v : Bool) → eqb x g ≡ v → (is_listed order g ≡ true → Contains order g) → (v || is_listed order g) ≡ true → Contains (x ∷ order) g
  by true is rest h = (0, omega arith, eqb-true x g is)
  by false is rest h = Contains-append_right (x ∷ []) order g (rest h)

-- one more file with its mark
pub listed_more : (marks : List Bool) (order : List ℕ) (f : ℕ) → AreListed marks order → AreListed (set marks f true) (order ++ f ∷ [])
listed_more marks order f listed g e = elim (cases_eq g f) [
  | inl is ↦ subst (λ x. is_listed (order ++ f ∷ []) x ≡ true) (sym is) (listed_new order f)
  | inr ne ↦ listed_old order f g (listed g (sym (get_or-set_other marks f g true false ne) ∙ e))
]

-- what a value of all clear marks and an empty list are
count_clear : (marks : List Bool) → AllClear marks → count_by not marks ≡ length marks
count_clear [] clear = refl
count_clear (true ∷ marks) clear = absurd (clear 0 refl)
count_clear (false ∷ marks) clear =
    let rest = count_clear marks (λ g e. clear (suc g) e) in
    let step : count_by not (false ∷ marks) ≡ 1 + count_by not marks = sum_by-cons (λ b. cond (not b) 1 0) false marks in
    omega (arith, rest, step)

pub marked_none : (marks : List Bool) → AllClear marks → IsMarked marks []
marked_none marks clear = record {
  free = let e = count_clear marks clear in omega (arith, e);
  listed = λ g e. absurd (clear g e);
  marked = λ g h. absurd (empty g h);
  known = λ g h. absurd (empty g h);
} where
  empty : (g : ℕ) → Contains [] g → ⊥
  empty g (k, lt, e) = omega arith

-- the marks of the first files of a list are gone, and no mark is new
pub record IsCleared (old new : List Bool) (done : List ℕ) : Type 0 where
  pub same : length new ≡ length old
  pub fewer : (g : ℕ) → get_or new g false ≡ true → get_or old g false ≡ true
  pub gone : (g : ℕ) → Contains done g → get_or new g false ≡ true → ⊥

pub cleared_more : (old new : List Bool) (order : List ℕ) (k d : ℕ) → k < length order → IsCleared old new (take k order) → IsCleared old (set new (get_or order k d) false) (take (k + 1) order)
cleared_more old new order k d lt c =
    let f = get_or order k d in
    let front : take (k + 1) order ≡ take k order ++ f ∷ [] = take_more order k d lt in
    let here : get_or (set new f false) f false ≡ true → ⊥ = λ e. elim (cases_lt f (length new)) [
      | inl within ↦ absurd (let no : false ≡ true = sym (get_or-set_same new f false false within) ∙ e in cc)
      | inr past ↦ absurd (let past' : length (set new f false) ≤ f = subst (λ n. n ≤ f) (sym (length-set new f false)) past in let no : false ≡ true = sym (get_or_past (set new f false) f false past') ∙ e in cc)
    ] in
    let fewer : (g : ℕ) → get_or (set new f false) g false ≡ true → get_or new g false ≡ true = λ g e. elim (cases_eq g f) [
      | inl is ↦ absurd (here (subst (λ x. get_or (set new f false) x false ≡ true) is e))
      | inr ne ↦ sym (get_or-set_other new f g false false ne) ∙ e
    ] in
    record {
      same = length-set new f false ∙ c.same;
      fewer = λ g e. c.fewer g (fewer g e);
      gone = λ g h e. elim (Contains-push_cases (take k order) f g (subst (λ xs. Contains xs g) front h)) [
        | inl was ↦ c.gone g was (fewer g e)
        | inr is ↦ here (subst (λ x. get_or (set new f false) x false ≡ true) (sym is) e)
      ];
    }

pub all_clear : (old new : List Bool) (order : List ℕ) → IsCleared old new order → AreListed old order → AllClear new
all_clear old new order c listed g e = c.gone g (listed_contains order g (listed g (c.fewer g e))) e
