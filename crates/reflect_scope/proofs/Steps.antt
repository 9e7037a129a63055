-- One scope more.
use Rattle.std.proofs.Common.{◌≡◌, ℕ, List, [], ◌∷◌, Bool, true, false, length, refl, ap, ◌∙◌, cond, Option, eqb, ◌++◌, ◌||◌, inl, inr}
use Rattle.std.proofs.lemmas.Bool.{cases_eq, ne_eqb}
use Rattle.reflect_scope.specs.declared.definition.ResolveNameFilter.{ResolveNameFilter}
use Rattle.reflect_scope.specs.Means.{Meaning, means, not_found, outer, scopes, undotted, dotted, settled, rooted, marks, missing, resolve, by_dots, has_dot, is_holder, join, standing, first_part}
use Rattle.reflect_scope.proofs.Scopes.{scopes_around, scopes_empty}
use Rattle.reflect_scope.specs.declared.definition.Definition.{Definition}
use Rattle.reflect_scope.specs.declared.resolve.Standing.{Standing}
use Rattle.reflect_scope.specs.declared.resolve.Standing.TheVariants.{Absent, Unseen, Wrong, Wanted}

scopes_head : (s : List ℕ) → (t : List (List ℕ)) × (scopes s ≡ s ∷ t)
scopes_head [] = ([], scopes_empty [] refl)
scopes_head (b ∷ bs) = (scopes (outer (b ∷ bs)), scopes_around (b ∷ bs) (λ e. cc))

pub undotted_found : (at : List ℕ → Standing) (name s : List ℕ) (p : Bool) (d : Definition) → at s ≡ Wanted d → undotted at name (scopes s) p ≡ means (join s name) d
undotted_found at name s p d e = let h = scopes_head s in rw (h.1, e) refl

one_more : (at : List ℕ → Standing) (name s : List ℕ) (ps : List (List ℕ)) (p : Bool) (st : Standing) → at s ≡ st → ((d : Definition) → st ≡ Wanted d → ⊥) → undotted at name (s ∷ ps) p ≡ undotted at name ps (marks st p)
one_more at name s ps p (Wanted d) e other = absurd (other d refl)
one_more at name s ps p Wrong e other = rw e refl
one_more at name s ps p Unseen e other = rw e refl
one_more at name s ps p Absent e other = rw e refl

pub undotted_last : (at : List ℕ → Standing) (name s : List ℕ) (p : Bool) (st : Standing) → at s ≡ st → ((d : Definition) → st ≡ Wanted d → ⊥) → length s ≡ 0 → undotted at name (scopes s) p ≡ missing (marks st p)
undotted_last at name s p st e other none = ap (λ ss. undotted at name ss p) (scopes_empty s none) ∙ one_more at name s [] p st e other

pub undotted_more : (at : List ℕ → Standing) (name s : List ℕ) (p : Bool) (st : Standing) → at s ≡ st → ((d : Definition) → st ≡ Wanted d → ⊥) → (length s ≡ 0 → ⊥) → undotted at name (scopes s) p ≡ undotted at name (scopes (outer s)) (marks st p)
undotted_more at name s p st e other some = ap (λ ss. undotted at name ss p) (scopes_around s some) ∙ one_more at name s (scopes (outer s)) p st e other

pub dotted_here : (first : List ℕ → Bool) (at : List ℕ → Standing) (name s : List ℕ) → first s ≡ true → dotted first at name (scopes s) ≡ settled (at s) (join s name)
dotted_here first at name s e = let h = scopes_head s in rw (h.1, e) refl

pub dotted_last : (first : List ℕ → Bool) (at : List ℕ → Standing) (name s : List ℕ) → first s ≡ false → length s ≡ 0 → dotted first at name (scopes s) ≡ not_found
dotted_last first at name s e none = ap (dotted first at name) (scopes_empty s none) ∙ ap (λ b. cond b (settled (at s) (join s name)) not_found) e

pub dotted_more : (first : List ℕ → Bool) (at : List ℕ → Standing) (name s : List ℕ) → first s ≡ false → (length s ≡ 0 → ⊥) → dotted first at name (scopes s) ≡ dotted first at name (scopes (outer s))
dotted_more first at name s e some = ap (dotted first at name) (scopes_around s some) ∙ ap (λ b. cond b (settled (at s) (join s name)) (dotted first at name (scopes (outer s)))) e

pub resolve_inner : (names : List ℕ → Option Definition) (sees : ℕ → Bool) (f : ResolveNameFilter) (scope name : List ℕ) → ((rest : List ℕ) → name ≡ 46 ∷ rest → ⊥) → resolve names sees f scope name ≡ by_dots names sees f scope name
resolve_inner names sees f scope [] none = refl
resolve_inner names sees f scope (b ∷ x) none = elim (cases_eq b 46) [
  | inl e ↦ absurd (none x (ap (λ n. n ∷ x) e))
  | inr ne ↦ ap (λ v. cond v (rooted (standing sees f (names x)) x) (by_dots names sees f scope (b ∷ x))) (ne_eqb b 46 ne)
]

pub has_dot-append : (xs ys : List ℕ) → has_dot (xs ++ (46 ∷ ys)) ≡ true
has_dot-append [] ys = refl
has_dot-append (x ∷ xs) ys = elim (eqb x 46) as (λ v. (v || has_dot (xs ++ (46 ∷ ys))) ≡ true) [ true ↦ refl | false ↦ has_dot-append xs ys ]

abbrev with_dot : (List ℕ → Option Definition) → (ℕ → Bool) → ResolveNameFilter → List ℕ → List ℕ → Meaning
with_dot names sees f scope name = dotted (λ p. is_holder (names (join p (first_part name)))) (λ p. standing sees f (names (join p name))) name (scopes scope)

abbrev without : (List ℕ → Option Definition) → (ℕ → Bool) → ResolveNameFilter → List ℕ → List ℕ → Meaning
without names sees f scope name = undotted (λ p. standing sees f (names (join p name))) name (scopes scope) false

pub resolve_dotted : (names : List ℕ → Option Definition) (sees : ℕ → Bool) (f : ResolveNameFilter) (scope name : List ℕ) → ((rest : List ℕ) → name ≡ 46 ∷ rest → ⊥) → has_dot name ≡ true
    → resolve names sees f scope name ≡ dotted (λ p. is_holder (names (join p (first_part name)))) (λ p. standing sees f (names (join p name))) name (scopes scope)
resolve_dotted names sees f scope name none e = resolve_inner names sees f scope name none
    ∙ ap (λ v. cond v (with_dot names sees f scope name) (without names sees f scope name)) e

pub resolve_undotted : (names : List ℕ → Option Definition) (sees : ℕ → Bool) (f : ResolveNameFilter) (scope name : List ℕ) → ((rest : List ℕ) → name ≡ 46 ∷ rest → ⊥) → has_dot name ≡ false
    → resolve names sees f scope name ≡ undotted (λ p. standing sees f (names (join p name))) name (scopes scope) false
resolve_undotted names sees f scope name none e = resolve_inner names sees f scope name none
    ∙ ap (λ v. cond v (with_dot names sees f scope name) (without names sees f scope name)) e
