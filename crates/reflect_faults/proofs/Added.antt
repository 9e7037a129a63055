-- Faults that are added one after another.
use Rattle.std.proofs.Common.{◌≡◌, ℕ, ℤ, ◌<◌, ◌+◌, List, [], ◌++◌, take, length, get_or, ap, sym, subst, ◌∙◌, append_assoc, refl}
use Rattle.std.proofs.lemmas.List.{append-nil}
use Rattle.reflect_declarations.specs.Declarations.{each}
use Rattle.reflect_walk.proofs.Walks.{each_more}
use Rattle.reflect_faults.specs.Faults.{Fault, Place, Adds, place_at, batch_places, list_of}
use Rattle.reflect_faults.specs.declared.faults.Faults.{Faults}

pub adds_on : (s t u : Faults) (xs ys : List Fault) → Adds s t xs → Adds t u ys → Adds s u (xs ++ ys)
adds_on s t u xs ys a b = record {
  files = b.files ∙ a.files;
  first = b.first ∙ a.first;
  added = b.added ∙ ap (λ l. l ++ ys) a.added ∙ append_assoc (list_of s) xs ys;
}

pub adds_none : (s : Faults) → Adds s s []
adds_none s = record { files = refl; first = refl; added = sym (append-nil (list_of s)) }

-- the places are those of the same files
pub places_of_same : (s t : Faults) → t.files.now ≡ s.files.now → t.first ≡ s.first → (i : ℕ) → place_at t i ≡ place_at s i
places_of_same s t files first i = ap (λ fs. batch_places fs t.first i) files ∙ ap (λ n. batch_places s.files.now n i) first

pub same_places : (s t : Faults) (xs : List Fault) → Adds s t xs → (i : ℕ) → place_at t i ≡ place_at s i
same_places s t xs a i = places_of_same s t a.files a.first i

-- the faults of one more entry
pub adds_at : {A : Type 0} (one : (List ℤ → Place) → ℕ → A → List Fault) (s t u : Faults) (file : ℕ) (xs : List A) (k : ℕ) (d : A)
    → k < length xs → Adds s t (each (one (place_at s file)) 0 (take k xs)) → Adds t u (one (place_at t file) k (get_or xs k d)) → Adds s u (each (one (place_at s file)) 0 (take (k + 1) xs))
adds_at one s t u file xs k d lt before now =
    let here = subst (λ p. Adds t u (one p k (get_or xs k d))) (same_places s t _ before file) now in
    subst (Adds s u) (sym (each_more (one (place_at s file)) xs k d lt)) (adds_on s t u _ _ before here)

pub adds_more : {A : Type 0} (one : (List ℤ → Place) → ℕ → A → List Fault) (s t u : Faults) (file : ℕ) (xs : List A) (k : ℕ) (x : A)
    → k < length xs → x ≡ get_or xs k x → Adds s t (each (one (place_at s file)) 0 (take k xs)) → Adds t u (one (place_at t file) k x) → Adds s u (each (one (place_at s file)) 0 (take (k + 1) xs))
adds_more one s t u file xs k x lt is before now =
    adds_at one s t u file xs k x lt before (subst (λ y. Adds t u (one (place_at t file) k y)) is now)
