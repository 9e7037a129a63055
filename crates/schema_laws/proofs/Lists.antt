-- What stands in a list, at a place of one that was made of two, or seen through a function.
use Rattle.std.proofs.Common.{◌≡◌, ◌⊎◌, ◌≤◌, ◌<◌, ◌++◌, ◌∙◌, inl, inr, ℕ, zero, suc, List, [], ◌∷◌, Bool, true, false, cond, map, length, Some, slice_get, ap, refl, sym, subst, arith}
use Rattle.std.specs.List.{AllByRecursion, Contains, filter}
use Rattle.reflect_index.proofs.Among.{get_map, got_map}
use Rattle.schema_view.proofs.Lists.{contains_cases, contains_here, contains_none, contains_there}

-- in the first of two
pub front_map : {A B : Type 0} (view : A → B) (xs ys : List A) (k : ℕ) → k < length xs → slice_get (map view (xs ++ ys)) k ≡ slice_get (map view xs) k
front_map view [] ys k less = absurd (omega (arith, less))
front_map view (x ∷ xs) ys zero less = refl
front_map view (x ∷ xs) ys (suc k) less = front_map view xs ys k (omega (arith, less))

-- in the second, whatever as many stand before it
pub back_get : {A : Type 0} (xs us ys : List A) (k : ℕ) → length us ≡ length xs → length xs ≤ k → slice_get (xs ++ ys) k ≡ slice_get (us ++ ys) k
back_get [] [] ys k same far = refl
back_get [] (u ∷ us) ys k same far = absurd (omega (arith, same))
back_get (x ∷ xs) [] ys k same far = absurd (omega (arith, same))
back_get (x ∷ xs) (u ∷ us) ys zero same far = absurd (omega (arith, far))
back_get (x ∷ xs) (u ∷ us) ys (suc k) same far = back_get xs us ys k (omega (arith, same)) (omega (arith, far))

-- lists of which something is the same have something at the same places
pub twin : {A B C : Type 0} (view : A → B) (told : A → C) (xs us : List A) → map told xs ≡ map told us → (k : ℕ) (y : B) → slice_get (map view xs) k ≡ Some y
    → (z : B) × (slice_get (map view us) k ≡ Some z)
twin view told xs us same k y there =
    let x = got_map view xs k y there in
    let u = got_map told us k (told x.0) (ap (λ ts. slice_get ts k) (sym same) ∙ get_map told xs k x.0 x.1) in
    (view u.0, get_map view us k u.0 u.1)

-- what follows of what is seen of each is so of all
pub all_from : {A B : Type 0} (view : A → B) (P : B → Type 0) (Q : A → Type 0) → ((x : A) → P (view x) → Q x) → (xs : List A) → AllByRecursion P (map view xs) → AllByRecursion Q xs
all_from view P Q from [] all = tt
all_from view P Q from (x ∷ xs) all = (from x all.0, all_from view P Q from xs all.1)

-- what follows of what a function makes of each is so of all that it makes
pub all_turned : {A B : Type 0} (turn : A → B) (P : A → Type 0) (Q : B → Type 0) → ((x : A) → P x → Q (turn x)) → (xs : List A) → AllByRecursion P xs → AllByRecursion Q (map turn xs)
all_turned turn P Q so [] all = tt
all_turned turn P Q so (x ∷ xs) all = (so x all.0, all_turned turn P Q so xs all.1)

-- what passes stays
pub filtered : {A : Type 0} (p : A → Bool) (xs : List A) (x : A) → Contains xs x → p x ≡ true → Contains (filter p xs) x
filtered p [] x i passes = absurd (contains_none x i)
filtered {A} p (y ∷ ys) x i passes = by (p y) refl (contains_cases y ys x i) (λ j. filtered p ys x j passes) where
  by : (b : Bool) → p y ≡ b → (y ≡ x) ⊎ Contains ys x → (Contains ys x → Contains (filter p ys) x) → Contains (cond b (y ∷ filter p ys) (filter p ys)) x
  by true is (inl same) rest = subst (Contains (y ∷ filter p ys)) same (contains_here y (filter p ys))
  by true is (inr j) rest = contains_there y (filter p ys) x (rest j)
  by false is (inl same) rest = absurd (cc (sym is ∙ ap p same ∙ passes))
  by false is (inr j) rest = rest j
