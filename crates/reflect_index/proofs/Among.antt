-- What stands in a list.
use Rattle.std.proofs.Common.{◌≡◌, ◌⊎◌, inl, inr, ◌<◌, ℕ, zero, suc, Bool, true, false, cond, List, [], ◌∷◌, ◌++◌, map, length, Some, refl, sym, ap, ◌∙◌, subst, arith, slice_get, slice_index_or}
use Rattle.std.specs.List.{AllByRecursion, AllZip, filter, find}

-- x is an element of the list
abbrev pub Among : {X : Type 0} → X → List X → Type 0
Among x [] = ⊥
Among x (y ∷ ys) = (y ≡ x) ⊎ Among x ys

pub in_first : {X : Type 0} (x : X) (xs ys : List X) → Among x xs → Among x (xs ++ ys)
in_first x [] ys h = absurd h
in_first x (y ∷ xs) ys (inl e) = inl e
in_first x (y ∷ xs) ys (inr h) = inr (in_first x xs ys h)

pub in_second : {X : Type 0} (x : X) (xs ys : List X) → Among x ys → Among x (xs ++ ys)
in_second x [] ys h = h
in_second x (y ∷ xs) ys h = inr (in_second x xs ys h)

pub of_all : {X : Type 0} (P : X → Type 0) (x : X) (xs : List X) → AllByRecursion P xs → Among x xs
    → P x
of_all P x [] h k = absurd k
of_all P x (y ∷ xs) h (inl e) = subst P e h.0
of_all P x (y ∷ xs) h (inr k) = of_all P x xs h.1 k

pub all_of : {X : Type 0} (P : X → Type 0) (xs : List X) → ((x : X) → Among x xs → P x)
    → AllByRecursion P xs
all_of P [] h = tt
all_of P (x ∷ xs) h = (h x (inl refl), all_of P xs (λ y k. h y (inr k)))

pub of_filter : {X : Type 0} (test : X → Bool) (x : X) (xs : List X) → Among x (filter test xs)
    → Among x xs × (test x ≡ true)
of_filter test x [] h = absurd h
of_filter test x (y ∷ xs) h = by (of_filter test x xs) (test y) refl where
  by : (Among x (filter test xs) → Among x xs × (test x ≡ true)) → (b : Bool) → test y ≡ b
      → Among x (y ∷ xs) × (test x ≡ true)
  by later true is = from (subst (λ b. Among x (cond b (y ∷ filter test xs) (filter test xs))) is h)
    where
      from : (y ≡ x) ⊎ Among x (filter test xs) → Among x (y ∷ xs) × (test x ≡ true)
      from (inl e) = (inl e, subst (λ z. test z ≡ true) e is)
      from (inr k) = let rest = later k in (inr rest.0, rest.1)
  by later false is = let rest =
      later (subst (λ b. Among x (cond b (y ∷ filter test xs) (filter test xs))) is h) in
      (inr rest.0, rest.1)

-- what is found stands there and passes the test
pub of_find : {X : Type 0} (test : X → Bool) (x : X) (xs : List X) → find test xs ≡ Some x
    → Among x xs × (test x ≡ true)
of_find test x [] e = absurd (cc e)
of_find test x (y ∷ xs) e = by (of_find test x xs) (test y) refl where
  by : (find test xs ≡ Some x → Among x xs × (test x ≡ true)) → (b : Bool) → test y ≡ b
      → Among x (y ∷ xs) × (test x ≡ true)
  by later true is = let same : y ≡ x =
      cc (sym (ap (λ b. cond b (Some y) (find test xs)) is) ∙ e) in
      (inl same, subst (λ z. test z ≡ true) same is)
  by later false is = let rest = later (sym (ap (λ b. cond b (Some y) (find test xs)) is) ∙ e) in
      (inr rest.0, rest.1)

pub of_map : {X Y : Type 0} (f : X → Y) (y : Y) (xs : List X) → Among y (map f xs) → (x : X)
    × Among x xs × (f x ≡ y)
of_map f y [] h = absurd h
of_map f y (x ∷ xs) (inl e) = (x, inl refl, e)
of_map f y (x ∷ xs) (inr h) = let rest = of_map f y xs h in (rest.0, inr rest.1, rest.2)

pub in_map : {X Y : Type 0} (f : X → Y) (x : X) (xs : List X) → Among x xs → Among (f x) (map f xs)
in_map f x [] h = absurd h
in_map f x (y ∷ xs) (inl e) = inl (ap f e)
in_map f x (y ∷ xs) (inr h) = inr (in_map f x xs h)

-- what stands on the right of a pairing has its part on the left
pub of_zip : {X Y : Type 0} (R : X → Y → Type 0) (xs : List X) (y : Y) (ys : List Y)
    → AllZip R xs ys → Among y ys → (x : X) × Among x xs × R x y
of_zip R [] y [] h k = absurd k
of_zip R [] y (z ∷ ys) h k = absurd h
of_zip R (x ∷ xs) y [] h k = absurd k
of_zip R (x ∷ xs) y (z ∷ ys) h (inl e) = (x, inl refl, subst (R x) e h.0)
of_zip R (x ∷ xs) y (z ∷ ys) h (inr k) = let rest = of_zip R xs y ys h.1 k in
    (rest.0, inr rest.1, rest.2)

-- what stands at a place is an element
pub of_place : {X : Type 0} (x : X) (xs : List X) (i : ℕ) → slice_get xs i ≡ Some x → Among x xs
of_place x [] i e = absurd (cc e)
of_place x (y ∷ xs) zero e = inl (cc e)
of_place x (y ∷ xs) (suc i) e = inr (of_place x xs i e)

-- and an element stands at a place
pub place_of : {X : Type 0} (x : X) (xs : List X) → Among x xs → (i : ℕ) × (slice_get xs i ≡ Some x)
place_of x [] h = absurd h
place_of x (y ∷ xs) (inl e) = (0, ap Some e)
place_of x (y ∷ xs) (inr h) = let found = place_of x xs h in (suc found.0, found.1)

pub get_at : {X : Type 0} (xs : List X) (i : ℕ) (d : X) → i < length xs
    → slice_get xs i ≡ Some (slice_index_or xs i d)
get_at [] i d lt = absurd (omega (arith, lt))
get_at (x ∷ xs) zero d lt = refl
get_at (x ∷ xs) (suc i) d lt = get_at xs i d (omega (arith, lt))

pub index_is : {X : Type 0} (xs : List X) (i : ℕ) (x d : X) → slice_get xs i ≡ Some x
    → slice_index_or xs i d ≡ x
index_is [] i x d e = absurd (cc e)
index_is (y ∷ xs) zero x d e = cc e
index_is (y ∷ xs) (suc i) x d e = index_is xs i x d e

pub get_map : {X Y : Type 0} (g : X → Y) (xs : List X) (k : ℕ) (x : X) → slice_get xs k ≡ Some x
    → slice_get (map g xs) k ≡ Some (g x)
get_map g [] k x e = absurd (cc e)
get_map g (y ∷ xs) zero x e = let same : y ≡ x = cc e in ap (λ z. Some (g z)) same
get_map g (y ∷ xs) (suc k) x e = get_map g xs k x e

pub got_map : {X Y : Type 0} (g : X → Y) (xs : List X) (k : ℕ) (y : Y)
    → slice_get (map g xs) k ≡ Some y → (x : X) × (slice_get xs k ≡ Some x) × (g x ≡ y)
got_map g [] k y e = absurd (cc e)
got_map g (x ∷ xs) zero y e = (x, refl, cc e)
got_map g (x ∷ xs) (suc k) y e = got_map g xs k y e

-- of a pairing the parts stand at one place
pub zip_place : {X Y : Type 0} (R : X → Y → Type 0) (xs : List X) (ys : List Y) (i : ℕ) (y : Y)
    → AllZip R xs ys → slice_get ys i ≡ Some y → (x : X) × (slice_get xs i ≡ Some x) × R x y
zip_place R xs [] i y h at = absurd (cc at)
zip_place R [] (z ∷ ys) i y h at = absurd h
zip_place R (x ∷ xs) (z ∷ ys) zero y h at = let same : z ≡ y = cc at in
    (x, refl, subst (R x) same h.0)
zip_place R (x ∷ xs) (z ∷ ys) (suc i) y h at = zip_place R xs ys i y h.1 at
