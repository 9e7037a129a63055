-- Full names and the places that they stand for, as names come and go.
use Rattle.std.proofs.Common.{◌≡◌, ℕ, zero, suc, List, [], ◌∷◌, ◌++◌, length, Bool, true, false, Option, Some, None, slice_get, ◌⊎◌, inl, inr, ⊎_elim, ap, sym, subst, ◌∙◌, arith, refl, bytes_eq}
use Rattle.std.specs.Cmp.Lexicographic.{bytes_decides}
use Rattle.std.proofs.lemmas.Option.{same_Some, some_pair_parts}
use Rattle.reflect_tables.specs.Names.{FullName, AreFound}

pub no_some : {X : Type 0} (x : X) → None ≡ Some x → ⊥
no_some x e = absurd (cc)

module _ {X : Type 0} where
  pub last : (xs : List X) (x : X) → slice_get (xs ++ x ∷ []) (length xs) ≡ Some x
  last [] x = refl
  last (y ∷ xs) x = last xs x

  pub front : (xs ys : List X) (i : ℕ) (x : X) → slice_get xs i ≡ Some x → slice_get (xs ++ ys) i ≡ Some x
  front [] ys i x e = absurd (no_some x e)
  front (z ∷ xs) ys zero x e = e
  front (z ∷ xs) ys (suc i) x e = front xs ys i x e

  pub either : (xs : List X) (y : X) (i : ℕ) (x : X) → slice_get (xs ++ y ∷ []) i ≡ Some x → (slice_get xs i ≡ Some x) ⊎ ((i ≡ length xs) × (y ≡ x))
  either [] y zero x e = inr (refl, same_Some y x e)
  either [] y (suc i) x e = absurd (no_some x e)
  either (z ∷ xs) y zero x e = inl e
  either (z ∷ xs) y (suc i) x e = ⊎_elim (λ l. inl l) (λ r. inr (omega (arith, r.0), r.1)) (either xs y i x e)

pub found_same : (g h : List ℕ → Option (ℕ × ℕ)) (names : List FullName) → ((t : List ℕ) → h t ≡ g t) → AreFound g names → AreFound h names
found_same g h names same found = λ t i file. (λ e. (found t i file).0 (sym (same t) ∙ e), λ e. same t ∙ (found t i file).1 e)

-- one name more
module _ (g h : List ℕ → Option (ℕ × ℕ)) (names : List FullName) (name : List ℕ) (file : ℕ) (found : AreFound g names) (new : g name ≡ None)
    (here : (t : List ℕ) → name ≡ t → h t ≡ Some (length names, file)) (other : (t : List ℕ) → (name ≡ t → ⊥) → h t ≡ g t) where
  abbrev more : List FullName
  more = names ++ (name, file) ∷ []

  at_name : (t : List ℕ) (i f : ℕ) → name ≡ t → (h t ≡ Some (i, f) → slice_get more i ≡ Some (t, f)) × (slice_get more i ≡ Some (t, f) → h t ≡ Some (i, f))
  at_name t i f e = (to, back) where
    to : h t ≡ Some (i, f) → slice_get more i ≡ Some (t, f)
    to q =
        let parts = some_pair_parts (length names) i file f (sym (here t e) ∙ q) in
        let pair : ◌≡◌ {A = FullName} (name, file) (t, f) = ap (λ n. (n, file)) e ∙ ap (λ m. (t, m)) parts.1 in
        subst (λ k. slice_get more k ≡ Some (t, f)) parts.0 (last names (name, file) ∙ ap Some pair)

    back : slice_get more i ≡ Some (t, f) → h t ≡ Some (i, f)
    back q = ⊎_elim
        (λ l. absurd (no_some (i, f) (sym new ∙ ap g e ∙ (found t i f).1 l)))
        (λ r. here t e ∙ ap (λ k. Some (k, file)) (sym r.0) ∙ ap (λ (p : FullName). Some (i, p.1)) r.1)
        (either names (name, file) i (t, f) q)

  elsewhere : (t : List ℕ) (i f : ℕ) → (name ≡ t → ⊥) → (h t ≡ Some (i, f) → slice_get more i ≡ Some (t, f)) × (slice_get more i ≡ Some (t, f) → h t ≡ Some (i, f))
  elsewhere t i f n = (
    λ q. front names ((name, file) ∷ []) i (t, f) ((found t i f).0 (sym (other t n) ∙ q)),
    λ q. ⊎_elim (λ l. other t n ∙ (found t i f).1 l) (λ r. absurd (n (ap (λ (p : FullName). p.0) r.1))) (either names (name, file) i (t, f) q),
  )

  pub found_more : AreFound h more
  found_more = λ t i f. by t i f (bytes_eq name t) refl where
    differs : (t : List ℕ) → bytes_eq name t ≡ false → bytes_eq name t ≡ true → ⊥
    differs t a b = absurd (cc)

    by : (t : List ℕ) (i f : ℕ) (b : Bool) → bytes_eq name t ≡ b → (h t ≡ Some (i, f) → slice_get more i ≡ Some (t, f)) × (slice_get more i ≡ Some (t, f) → h t ≡ Some (i, f))
    by t i f true is = at_name t i f ((bytes_decides name t).0 is)
    by t i f false is = elsewhere t i f (λ e. differs t is ((bytes_decides name t).1 e))
