-- The loop that pairs names with texts, by what is left of both.
use Rattle.std.proofs.Common.{◌≡◌, ℕ, ◌⊎◌, List, [], ◌∷◌, ◌++◌, map, inl, inr, sym, ap, ◌∙◌, refl, append-nil}
use Rattle.std.specs.List.{zip}
use Rattle.run_parts.specs.Refusals.{AreTexts, RefusesOne}
use Rattle.run_parts.specs.declared.files.FileFault.{FileFault}

-- a refusal of those that are left is a refusal of all
abbrev pub RefusedOn : List (List ℕ × List ℕ) → List (List ℕ × List ℕ) → Type 0
RefusedOn all left = (e : FileFault) → RefusesOne left e → RefusesOne all e

-- all are texts where those that are left are
abbrev pub AreTextsIf : List (List ℕ × List ℕ) → List (List ℕ × List ℕ) → Type 0
AreTextsIf all left = AreTexts left → AreTexts all

-- where none is left on one side, none is left to pair
pub none_paired : {A B C D : Type 0} (f : A → C) (g : B → D) (xs : List A) (ys : List B) → (xs ≡ []) ⊎ (ys ≡ []) → zip (map f xs) (map g ys) ≡ []
none_paired f g [] ys h = refl
none_paired f g (x ∷ xs) [] h = refl
none_paired f g (x ∷ xs) (y ∷ ys) (inl h) = absurd (cc h)
none_paired f g (x ∷ xs) (y ∷ ys) (inr h) = absurd (cc h)

-- and so all are paired
pub paired_all : {A B C D : Type 0} (f : A → C) (g : B → D) (done all : List (C × D)) (xs : List A) (ys : List B) → (xs ≡ []) ⊎ (ys ≡ []) → done ++ zip (map f xs) (map g ys) ≡ all → done ≡ all
paired_all f g done all xs ys none e = sym (append-nil done) ∙ ap (λ l. done ++ l) (sym (none_paired f g xs ys none)) ∙ e
