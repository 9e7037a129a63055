-- Loops that collect what some of the items of a list give.
use Rattle.std.proofs.Common.{◌≡◌, ◌∙◌, ◌<◌, ◌+◌, ◌++◌, ℕ, List, [], ◌∷◌, map, take, length, get_or, ap, sym}
use Rattle.std.proofs.lemmas.List.{append-nil, flat_map_more, map_push, take_more}
use Rattle.std.specs.List.{flat_map}

-- the items up to the next one
pub one_more : {A : Type 0} (xs : List A) (i : ℕ) (x : A) → i < length xs → x ≡ get_or xs i x → take (i + 1) xs ≡ take i xs ++ x ∷ []
one_more xs i x lt is = take_more xs i x lt ∙ ap (λ y. take i xs ++ y ∷ []) (sym is)

-- what the items up to the next one give is what those before it give, and what it gives
pub next : {A B : Type 0} (f : A → List B) (xs : List A) (i : ℕ) (x : A) → i < length xs → x ≡ get_or xs i x → flat_map f (take (i + 1) xs) ≡ flat_map f (take i xs) ++ f x
next f xs i x lt is = ap (flat_map f) (one_more xs i x lt is) ∙ sym (flat_map_more f [] (take i xs) x)

-- an item whose record is taken
pub taken : {A B C : Type 0} (view : C → B) (f : A → List B) (xs : List A) (made : List C) (i : ℕ) (x : A) (c : C) → i < length xs → x ≡ get_or xs i x → f x ≡ view c ∷ [] → map view made ≡ flat_map f (take i xs) → map view (made ++ c ∷ []) ≡ flat_map f (take (i + 1) xs)
taken view f xs made i x c lt is at before = map_push view made c ∙ ap (λ ys. ys ++ view c ∷ []) before ∙ ap (λ ys. flat_map f (take i xs) ++ ys) (sym at) ∙ sym (next f xs i x lt is)

-- an item that gives nothing
pub passed : {A B : Type 0} (f : A → List B) (xs : List A) (made : List B) (i : ℕ) (x : A) → i < length xs → x ≡ get_or xs i x → f x ≡ [] → made ≡ flat_map f (take i xs) → made ≡ flat_map f (take (i + 1) xs)
passed f xs made i x lt is at before = before ∙ sym (append-nil (flat_map f (take i xs))) ∙ ap (λ ys. flat_map f (take i xs) ++ ys) (sym at) ∙ sym (next f xs i x lt is)
