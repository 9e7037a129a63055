-- Items that are told by those before them, with one more.
use Rattle.std.proofs.Common.{◌≡◌, ◌∙◌, ◌<◌, ◌+◌, ◌++◌, ℕ, List, [], ◌∷◌, map, take, length, get_or, refl, ap, sym, append_assoc}
use Rattle.std.specs.Prelude.{slice_get}
use Rattle.std.specs.Option.{option_or}
use Rattle.std.specs.List.{flat_map}
use Rattle.std.proofs.lemmas.List.{append-nil, flat_map_more, map_push, take_more}
use Rattle.protox_check.specs.Words.{each_behind, first_in}

-- the items up to the next one, as they are seen
pub seen_more : {A W : Type 0} (view : A → W) (xs : List A) (i : ℕ) (x : A) → i < length xs → x ≡ get_or xs i x → map view (take (i + 1) xs) ≡ map view (take i xs) ++ view x ∷ []
seen_more view xs i x lt is = ap (map view) (take_more xs i x lt ∙ ap (λ y. take i xs ++ y ∷ []) (sym is)) ∙ map_push view (take i xs) x

behind_more : {A B : Type 0} (f : List A → A → List B) (before xs : List A) (x : A) → each_behind f before (xs ++ x ∷ []) ≡ each_behind f before xs ++ f (before ++ xs) x
behind_more f before [] x = append-nil (f before x) ∙ ap (λ b. f b x) (sym (append-nil before))
behind_more f before (y ∷ ys) x =
    ap (λ zs. f before y ++ zs) (behind_more f (before ++ y ∷ []) ys x ∙ ap (λ b. each_behind f (before ++ y ∷ []) ys ++ f b x) (append_assoc before (y ∷ []) ys))
    ∙ sym (append_assoc (f before y) (each_behind f (before ++ y ∷ []) ys) (f (before ++ (y ∷ ys)) x))

first_of_both : {B : Type 0} (xs ys : List B) → slice_get (xs ++ ys) 0 ≡ option_or (slice_get xs 0) (slice_get ys 0)
first_of_both [] ys = refl
first_of_both (x ∷ xs) ys = refl

-- what the items up to the next one give
pub told_more : {A W B : Type 0} (view : A → W) (f : List W → W → List B) (xs : List A) (i : ℕ) (x : A) → i < length xs → x ≡ get_or xs i x → each_behind f [] (map view (take (i + 1) xs)) ≡ each_behind f [] (map view (take i xs)) ++ f (map view (take i xs)) (view x)
told_more view f xs i x lt is = ap (each_behind f []) (seen_more view xs i x lt is) ∙ behind_more f [] (map view (take i xs)) (view x)

-- the first of what they give
pub first_more : {A W B : Type 0} (view : A → W) (g : W → List B) (xs : List A) (i : ℕ) (x : A) → i < length xs → x ≡ get_or xs i x → first_in g (map view (take (i + 1) xs)) ≡ option_or (first_in g (map view (take i xs))) (slice_get (g (view x)) 0)
first_more view g xs i x lt is =
    ap (first_in g) (seen_more view xs i x lt is)
    ∙ ap (λ ys. slice_get ys 0) (sym (flat_map_more g [] (map view (take i xs)) (view x)))
    ∙ first_of_both (flat_map g (map view (take i xs))) (g (view x))

-- what the items up to the next one tell, behind what was told before them
pub told_next : {A B : Type 0} (f : A → List B) (xs : List A) (i : ℕ) (x : A) (before made new : List B) → i < length xs → x ≡ get_or xs i x → made ≡ before ++ flat_map f (take i xs) → new ≡ made ++ f x → new ≡ before ++ flat_map f (take (i + 1) xs)
told_next f xs i x before made new lt is so_far told =
    told ∙ ap (λ ys. ys ++ f x) so_far ∙ append_assoc before (flat_map f (take i xs)) (f x)
    ∙ ap (λ ys. before ++ ys) (flat_map_more f [] (take i xs) x ∙ ap (flat_map f) (sym (take_more xs i x lt ∙ ap (λ y. take i xs ++ y ∷ []) (sym is))))
