-- One more extension beside those that are known.
use Rattle.std.proofs.Common.{◌≡◌, ℕ, ℤ, ◌+◌, ◌<◌, Bool, true, false, ◌||◌, List, [], ◌∷◌, ◌++◌, take, length, get_or, ap, sym, subst, ◌∙◌, append_assoc, refl}
use Rattle.std.proofs.Math.Path.{fun_ext}
use Rattle.std.proofs.lemmas.List.{take_more, append-nil}
use Rattle.std.proofs.lemmas.List.Folds.{list_any-append}
use Rattle.std.specs.List.{list_any}
use Rattle.reflect_faults.specs.Faults.{Fault, Place, Adds, place_at}
use Rattle.reflect_faults.specs.declared.faults.Faults.{Faults}
use Rattle.reflect_faults.proofs.Added.{adds_on, same_places}
use Rattle.reflect_tables.specs.declared.stored.StoredExtension.{StoredExtension}
use Rattle.reflect_rules.specs.TypesSay.{TypesSay}
use Rattle.reflect_tables.specs.ExtensionNumbers.{KeyType}
use Rattle.reflect_passes.specs.Extensions.{has_key, is_taken, double_faults, extension_faults}

or_none : (a : Bool) → (a || false) ≡ a
or_none true = refl
or_none false = refl

or_assoc : (a b c : Bool) → (a || (b || c)) ≡ ((a || b) || c)
or_assoc true b c = refl
or_assoc false b c = refl

module _ (types : TypesSay) (at : ℕ → List ℤ → Place) where
  faults_push : (known : KeyType → Bool) (xs : List StoredExtension) (x : StoredExtension)
      → extension_faults known types at (xs ++ x ∷ []) ≡ extension_faults known types at xs ++ double_faults (is_taken known xs) types at x
  faults_push known [] x =
      append-nil (double_faults known types at x)
      ∙ ap {B = List Fault} (λ t. double_faults t types at x) (fun_ext {A = KeyType} {B = λ _. Bool} {f = known} {g = is_taken known []} (λ k. sym (or_none (known k))))
  faults_push known (y ∷ ys) x =
      let next : KeyType → Bool = λ k. known k || has_key k y in
      let taken : is_taken next ys ≡ is_taken known (y ∷ ys) = fun_ext (λ k. sym (or_assoc (known k) (has_key k y) (list_any (has_key k) ys))) in
      ap (λ fs. double_faults known types at y ++ fs) (faults_push next ys x ∙ ap {B = List Fault} (λ t. extension_faults next types at ys ++ double_faults t types at x) taken)
      ∙ sym (append_assoc (double_faults known types at y) (extension_faults next types at ys) (double_faults (is_taken known (y ∷ ys)) types at x))

-- the numbers that are known behind one more
pub taken_more : (known : KeyType → Bool) (xs : List StoredExtension) (n : ℕ) (d : StoredExtension) → n < length xs → (k : KeyType)
    → is_taken known (take (n + 1) xs) k ≡ (is_taken known (take n xs) k || has_key k (get_or xs n d))
taken_more known xs n d lt k =
    let one : list_any (has_key k) (get_or xs n d ∷ []) ≡ has_key k (get_or xs n d) = or_none (has_key k (get_or xs n d)) in
    ap (λ ys. known k || list_any (has_key k) ys) (take_more xs n d lt)
    ∙ ap (λ b. known k || b) (list_any-append (has_key k) (take n xs) (get_or xs n d ∷ []) ∙ ap (λ b. list_any (has_key k) (take n xs) || b) one)
    ∙ or_assoc (known k) (list_any (has_key k) (take n xs)) (has_key k (get_or xs n d))

-- the faults that are listed behind one more
pub faults_more : (known now : KeyType → Bool) (types : TypesSay) (s t u : Faults) (xs : List StoredExtension) (n : ℕ) (x : StoredExtension)
    → n < length xs → x ≡ get_or xs n x → ((k : KeyType) → now k ≡ is_taken known (take n xs) k)
    → Adds s t (extension_faults known types (place_at s) (take n xs)) → Adds t u (double_faults now types (place_at t) x)
    → Adds s u (extension_faults known types (place_at s) (take (n + 1) xs))
faults_more known now types s t u xs n x lt is same before here =
    let places : place_at t ≡ place_at s = fun_ext (same_places s t _ before) in
    let taken : now ≡ is_taken known (take n xs) = fun_ext same in
    let y = get_or xs n x in
    let added = subst (λ z. Adds t u (double_faults (is_taken known (take n xs)) types (place_at s) z)) is
    (subst (λ k. Adds t u (double_faults k types (place_at s) x)) taken
    (subst (λ p. Adds t u (double_faults now types p x)) places here)) in
    let pushed : extension_faults known types (place_at s) (take (n + 1) xs) ≡ extension_faults known types (place_at s) (take n xs) ++ double_faults (is_taken known (take n xs)) types (place_at s) y =
    ap (extension_faults known types (place_at s)) (take_more xs n x lt) ∙ faults_push types (place_at s) known (take n xs) y in
    subst (Adds s u) (sym pushed) (adds_on s t u _ _ before added)
