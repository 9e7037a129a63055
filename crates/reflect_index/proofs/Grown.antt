-- Lists of entries that grow along a walk.
use Rattle.std.proofs.Common.{◌≡◌, ◌==◌, ◌&&◌, ℕ, ℤ, ◌+◌, ◌<◌, List, [], ◌∷◌, ◌++◌, Bool, true, false, cond, Option, Some, length, ap, sym, ◌∙◌, append_assoc, subst, arith, refl}
use Rattle.std.proofs.Math.ListN.{set}
use Rattle.std.proofs.lemmas.List.{append-nil, get_or-set_other}
use Rattle.std.proofs.lemmas.Grind.{get_or-set_at}
use Rattle.std.specs.List.{AllZip}
use Rattle.reflect_declarations.specs.Declarations.{Body}
use Rattle.reflect_index.specs.Along.{Met, is_parent, parts, all_of}
use Rattle.reflect_index.specs.Grown.{list_at, GrowsAt, AddsPart, AddsOne, AddsHead, Behind}
use Rattle.reflect_index.specs.Entries.{Head, declared_head, IsHeadOf}
use Rattle.reflect_index.proofs.Listed.{none_more}

-- one more in the list at a place
pub grown : {X : Type 0} (xss : List (List X)) (place first parent : ℕ) (x : X) (ys : List X) → first + place ≡ parent → place < length xss
    → ys ≡ list_at xss place ++ x ∷ [] → GrowsAt first (Some parent) x xss (set xss place ys)
grown {X} xss place first parent x ys sum inside more = λ k. by k (k == place) refl where
  by : (k : ℕ) (b : Bool) → (k == place) ≡ b → list_at (set xss place ys) k ≡ list_at xss k ++ cond (parent == first + k) (x ∷ []) []
  by k true same =
      let e : k ≡ place = grind (arith, same) in
      let here : (parent == first + k) ≡ true = grind (arith, sum, e) in
      get_or-set_at xss place k ys [] e inside ∙ more ∙ ap (λ n. list_at xss n ++ x ∷ []) (sym e) ∙ ap (λ b. list_at xss k ++ cond b (x ∷ []) []) (sym here)
  by k false other =
      let apart : k ≡ place → ⊥ = λ e. absurd (grind (arith, other, e)) in
      let there : (parent == first + k) ≡ false = grind (arith, sum, apart) in
      get_or-set_other xss place k ys [] apart ∙ sym (append-nil (list_at xss k)) ∙ ap (λ b. list_at xss k ++ cond b (x ∷ []) []) (sym there)

zip_on : {A B : Type 0} (R : A → B → Type 0) (ms ns : List A) (xs ys : List B) → AllZip R ms xs → AllZip R ns ys → AllZip R (ms ++ ns) (xs ++ ys)
zip_on R [] ns [] ys a b = b
zip_on R [] ns (x ∷ xs) ys a b = absurd a
zip_on R (m ∷ ms) ns [] ys a b = absurd a
zip_on R (m ∷ ms) ns (x ∷ xs) ys a b = (a.0, zip_on R ms ns xs ys a.1 b)

module _ {X : Type 0} (IsOf : Met → X → Type 0) where
  pub none_behind : (old new : List X) → new ≡ old → Behind IsOf old [] new
  none_behind old new e = ([], tt, e ∙ sym (append-nil old))

  pub behind_on : (a b c : List X) (ms ns : List Met) → Behind IsOf a ms b → Behind IsOf b ns c → Behind IsOf a (ms ++ ns) c
  behind_on a b c ms ns h k = (h.0 ++ k.0, zip_on IsOf ms ns h.0 k.0 h.1 k.1, k.2 ∙ ap (λ l. l ++ k.0) h.2 ∙ append_assoc a h.0 k.0)

  one_behind : (m : Met) (x : X) → IsOf m x → (old new : List X) (q : Bool) → new ≡ old ++ cond q (x ∷ []) [] → Behind IsOf old (cond q (m ∷ []) []) new
  one_behind m x is old new true e = (x ∷ [], (is, tt), e)
  one_behind m x is old new false e = ([], tt, e)

  pub part_behind : (whole part : Body → Bool) → ((b : Body) → whole b ≡ true → part b ≡ false) → (first : ℕ) (old : List (List X)) (m : Met) (new : List (List X))
      → AddsPart whole part IsOf first old m new → (k : ℕ) → Behind IsOf (list_at old k) (parts part (first + k) (m ∷ [])) (list_at new k)
  part_behind whole part apart first old m new h k = by (whole m.declaration.body) (part m.declaration.body) (apart m.declaration.body) h where
    by : (w p : Bool) → (w ≡ true → p ≡ false)
        → elim w as (λ _. Type 0) [ true ↦ new ≡ old ++ [] ∷ [] | false ↦ elim p as (λ _. Type 0) [ true ↦ (x : X) × IsOf m x × GrowsAt first m.declaration.parent x old new | false ↦ new ≡ old ] ]
        → Behind IsOf (list_at old k) (cond (p && is_parent (first + k) m.declaration.parent) (m ∷ []) []) (list_at new k)
    by true true none g = let never : true ≡ false = none refl in absurd (cc)
    by true false none g = none_behind (list_at old k) (list_at new k) (ap (λ l. list_at l k) g ∙ none_more [] old k)
    by false true none g = one_behind m g.0 g.1 (list_at old k) (list_at new k) (is_parent (first + k) m.declaration.parent) (g.2 k)
    by false false none g = none_behind (list_at old k) (list_at new k) (ap (λ l. list_at l k) g)

  pub each_behind : (sort : Body → Bool) (old : List X) (m : Met) (new : List X) → AddsOne sort IsOf old m new → Behind IsOf old (all_of sort (m ∷ [])) new
  each_behind sort old m new h = by (sort m.declaration.body) h where
    by : (q : Bool) → elim q as (λ _. Type 0) [ true ↦ (x : X) × IsOf m x × (new ≡ old ++ x ∷ []) | false ↦ new ≡ old ] → Behind IsOf old (cond q (m ∷ []) []) new
    by true g = (g.0 ∷ [], (g.1, tt), g.2)
    by false g = none_behind old new g

  -- what stands behind nothing
  pub there : (ms : List Met) (old new made : List X) → old ≡ [] → Behind IsOf old ms new → made ≡ new → AllZip IsOf ms made
  there ms old new made none h same = subst (AllZip IsOf ms) (sym (same ∙ h.2 ∙ ap (λ l. l ++ h.0) none)) h.1

pub head_behind : (sort : Body → Bool) (old : List Head) (m : Met) (new : List Head) → AddsHead sort old m new → Behind IsHeadOf old (all_of sort (m ∷ [])) new
head_behind sort old m new h = by (sort m.declaration.body) h where
  by : (q : Bool) → elim q as (λ _. Type 0) [ true ↦ new ≡ old ++ declared_head m ∷ [] | false ↦ new ≡ old ] → Behind IsHeadOf old (cond q (m ∷ []) []) new
  by true g = (declared_head m ∷ [], (refl, tt), g)
  by false g = none_behind IsHeadOf old new g

abbrev pub head_by : List ℤ → List ℕ → List ℕ → ℕ → Option ℕ → Head
head_by path name full file parent = record { path = path; name = name; full_name = full; file = file; parent = parent }

pub head_same : (p q : List ℤ) (n m a b : List ℕ) (file : ℕ) (parent : Option ℕ) → p ≡ q → n ≡ m → a ≡ b → head_by p n a file parent ≡ head_by q m b file parent
head_same p q n m a b file parent path name full =
    ap (λ x. head_by x n a file parent) path ∙ ap (λ x. head_by q x a file parent) name ∙ ap (λ x. head_by q m x file parent) full
