-- Clones of what a field holds have its content.
use Rattle.std.proofs.Common.{◌≡◌, List, [], ◌∷◌, Option, Some, None, String, string_bytes, Global, map, refl, ap}
use Rattle.std.specs.Option.{option_map}
use Rattle.std.specs.List.{AllZip}
use Rattle.descriptor_records.specs.Content.{text_view}

pub same_views : {A B : Type 0} (view : A → B) (xs ys : List A) → AllZip (λ a b. view b ≡ view a) xs ys → map view ys ≡ map view xs
same_views view [] [] h = refl
same_views view [] (y ∷ ys) h = absurd h
same_views view (x ∷ xs) [] h = absurd h
same_views view (x ∷ xs) (y ∷ ys) h = let all = same_views view xs ys h.1 in let one = h.0 in cc

-- what a clone of an option says
abbrev pub IsOptionClone : {A : Type 0} → (A → A → Type 0) → Option A → Option A → Type 0
IsOptionClone R None None = Unit {0}
IsOptionClone R None (Some b) = ⊥
IsOptionClone R (Some a) None = ⊥
IsOptionClone R (Some a) (Some b) = R a b

pub same_option_by : {A B : Type 0} (R : A → A → Type 0) (view : A → B) → ((a b : A) → R a b → view b ≡ view a) → (o p : Option A) → IsOptionClone R o p → option_map view p ≡ option_map view o
same_option_by R view same None None h = refl
same_option_by R view same None (Some b) h = absurd h
same_option_by R view same (Some a) None h = absurd h
same_option_by R view same (Some a) (Some b) h = ap Some (same a b h)

pub same_option : {A B : Type 0} (view : A → B) (o p : Option A) → IsOptionClone (λ a b. view b ≡ view a) o p → option_map view p ≡ option_map view o
same_option view = same_option_by (λ a b. view b ≡ view a) view (λ a b h. h)

pub same_text : (o p : Option (String Global)) → IsOptionClone (λ a b. string_bytes b ≡ string_bytes a) o p → text_view p ≡ text_view o
same_text = same_option string_bytes
