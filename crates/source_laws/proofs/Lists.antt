-- What holds of each element of lists.
use Rattle.std.proofs.Common.{◌++◌, List, [], ◌∷◌, map}
use Rattle.std.specs.List.{AllByRecursion, flat_map}
use Rattle.protox_tokens.specs.Marks.{Each}

pub all_append : {A : Type 0} (P : A → Type 0) (xs ys : List A) → AllByRecursion P xs
    → AllByRecursion P ys → AllByRecursion P (xs ++ ys)
all_append P [] ys h k = k
all_append P (x ∷ xs) ys h k = (h.0, all_append P xs ys h.1 k)

pub all_so : {A : Type 0} (P Q : A → Type 0) → ((x : A) → P x → Q x) → (xs : List A)
    → AllByRecursion P xs → AllByRecursion Q xs
all_so P Q so [] h = tt
all_so P Q so (x ∷ xs) h = (so x h.0, all_so P Q so xs h.1)

-- what is made of each element
pub all_made : {A B : Type 0} (P : A → Type 0) (Q : B → Type 0) (f : A → List B)
    → ((x : A) → P x → AllByRecursion Q (f x)) → (xs : List A) → Each P xs
    → AllByRecursion Q (flat_map f xs)
all_made P Q f so [] h = tt
all_made P Q f so (x ∷ xs) h =
    all_append Q (f x) (flat_map f xs) (so x h.0) (all_made P Q f so xs h.1)

pub all_each : {A B : Type 0} (Q : B → Type 0) (f : A → List B) → ((x : A) → AllByRecursion Q (f x))
    → (xs : List A) → AllByRecursion Q (flat_map f xs)
all_each Q f so [] = tt
all_each Q f so (x ∷ xs) = all_append Q (f x) (flat_map f xs) (so x) (all_each Q f so xs)

pub all_mapped : {A B : Type 0} (Q : B → Type 0) (f : A → B) → ((x : A) → Q (f x)) → (xs : List A)
    → AllByRecursion Q (map f xs)
all_mapped Q f so [] = tt
all_mapped Q f so (x ∷ xs) = (so x, all_mapped Q f so xs)
