-- Lists tell the same where their parts, seen and then made bare of their places, are the same.
use Rattle.std.proofs.Common.{◌≡◌, ◌∙◌, ◌++◌, List, [], ◌∷◌, map, flat_map, fold, refl, ap, sym}
use Rattle.std.proofs.lemmas.List.{map-append}

module _ {A W V : Type 0} (view : A → W) (bare : W → V) where
  pub maps : {B : Type 0} (f : A → B) → ((x y : A) → bare (view x) ≡ bare (view y) → f x ≡ f y)
      → (xs ys : List A) → map bare (map view xs) ≡ map bare (map view ys) → map f xs ≡ map f ys
  maps f same [] [] e = refl
  maps f same (x ∷ xs) (y ∷ ys) e =
      let first : bare (view x) ≡ bare (view y) = cc in
      let others : map bare (map view xs) ≡ map bare (map view ys) = cc in
      ap (λ b. b ∷ map f xs) (same x y first) ∙ ap (λ bs. f y ∷ bs) (maps f same xs ys others)
  maps f same xs ys e = absurd (cc)

  pub flat_maps : {B : Type 0} (f g : A → List B) → ((x y : A) → bare (view x) ≡ bare (view y) → f x ≡ g y)
      → (xs ys : List A) → map bare (map view xs) ≡ map bare (map view ys) → flat_map f xs ≡ flat_map g ys
  flat_maps f g same [] [] e = refl
  flat_maps f g same (x ∷ xs) (y ∷ ys) e =
      let first : bare (view x) ≡ bare (view y) = cc in
      let others : map bare (map view xs) ≡ map bare (map view ys) = cc in
      ap (λ bs. bs ++ flat_map f xs) (same x y first)
      ∙ ap (λ bs. g y ++ bs) (flat_maps f g same xs ys others)
  flat_maps f g same xs ys e = absurd (cc)

  -- what they tell is seen as the same
  pub seen_maps : {B C : Type 0} (seen : B → C) (f : A → List B)
      → ((x y : A) → bare (view x) ≡ bare (view y) → map seen (f x) ≡ map seen (f y))
      → (xs ys : List A) → map bare (map view xs) ≡ map bare (map view ys)
      → map seen (flat_map f xs) ≡ map seen (flat_map f ys)
  seen_maps seen f same [] [] e = refl
  seen_maps seen f same (x ∷ xs) (y ∷ ys) e =
      let first : bare (view x) ≡ bare (view y) = cc in
      let others : map bare (map view xs) ≡ map bare (map view ys) = cc in
      map-append seen (f x) (flat_map f xs)
      ∙ ap (λ ws. ws ++ map seen (flat_map f xs)) (same x y first)
      ∙ ap (λ ws. map seen (f y) ++ ws) (seen_maps seen f same xs ys others)
      ∙ sym (map-append seen (f y) (flat_map f ys))
  seen_maps seen f same xs ys e = absurd (cc)

  pub folds : {B : Type 0} (f g : B → A → B)
      → ((b : B) (x y : A) → bare (view x) ≡ bare (view y) → f b x ≡ g b y)
      → (b : B) (xs ys : List A) → map bare (map view xs) ≡ map bare (map view ys) → fold f b xs ≡ fold g b ys
  folds f g same b [] [] e = refl
  folds f g same b (x ∷ xs) (y ∷ ys) e =
      let first : bare (view x) ≡ bare (view y) = cc in
      let others : map bare (map view xs) ≡ map bare (map view ys) = cc in
      ap (λ c. fold f c xs) (same b x y first) ∙ folds f g same (g b y) xs ys others
  folds f g same b xs ys e = absurd (cc)
