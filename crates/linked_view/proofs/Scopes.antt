-- The scopes of a name are those that the statement on prefixes names.
use Rattle.std.proofs.Common.{◌≤◌, inl, inr, ℕ, zero, suc, List, [], ◌∷◌, length, sym, subst, arith}
use Rattle.std.specs.List.{Contains}
use Rattle.reflect_scope.specs.Means.{outer, scopes}
use Rattle.reflect_scope.specs.Says.{IsScope}
use Rattle.reflect_scope.proofs.Says.{inward, only_empty, outward}
use Rattle.reflect_scope.proofs.Scopes.{scopes_more, scopes_last, outer_shorter}
use Rattle.schema_view.proofs.Lists.{contains_here, contains_there, contains_cases, contains_none}

scope_in : (n : ℕ) (s p : List ℕ) → length s ≤ n → Contains (scopes s) p → IsScope s p
scope_in n [] p le h =
    elim (contains_cases [] [] p (subst (λ ss. Contains ss p) scopes_last h)) [
      | inl e ↦ inl (sym e)
      | inr j ↦ absurd (contains_none p j)
    ]
scope_in zero (b ∷ bs) p le h = absurd (omega (arith, le))
scope_in (suc n) (b ∷ bs) p le h =
    let short = outer_shorter b bs in
    let inner = scope_in n (outer (b ∷ bs)) p (omega (arith, le, short)) in
    elim (contains_cases (b ∷ bs) (scopes (outer (b ∷ bs))) p
    (subst (λ ss. Contains ss p) (scopes_more b bs) h)) [
      | inl e ↦ inl (sym e)
      | inr j ↦ inward (b ∷ bs) p (inner j)
    ]

in_scope : (n : ℕ) (s p : List ℕ) → length s ≤ n → IsScope s p → Contains (scopes s) p
in_scope n [] p le h =
    subst (λ ss. Contains ss p) (sym scopes_last)
    (subst (Contains ([] ∷ [])) (sym (only_empty p h)) (contains_here [] []))
in_scope zero (b ∷ bs) p le h = absurd (omega (arith, le))
in_scope (suc n) (b ∷ bs) p le h =
    let short = outer_shorter b bs in
    let inner = in_scope n (outer (b ∷ bs)) p (omega (arith, le, short)) in
    let rest = scopes (outer (b ∷ bs)) in
    subst (λ ss. Contains ss p) (sym (scopes_more b bs)) (elim (outward (b ∷ bs) p h) [
      | inl e ↦ subst (Contains ((b ∷ bs) ∷ rest)) (sym e) (contains_here (b ∷ bs) rest)
      | inr j ↦ contains_there (b ∷ bs) rest p (inner j)
    ])

pub scopes_are : (s p : List ℕ) → Contains (scopes s) p → IsScope s p
scopes_are s p h = scope_in (length s) s p (omega arith) h

pub are_scopes : (s p : List ℕ) → IsScope s p → Contains (scopes s) p
are_scopes s p h = in_scope (length s) s p (omega arith) h
