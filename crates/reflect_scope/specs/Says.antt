-- What a name means: a statement over all prefixes of its scope.
use Rattle.std.specs.Prelude.{◌≡◌, ℕ, ◌<◌, List, [], ◌∷◌, ◌++◌, ◌⊎◌, length, Bool, true, ◌==◌, MatchBool, Option, Result, Ok, Err, string_bytes}
use Rattle.reflect_scope.specs.Means.{Meaning, means, not_found, wrong_kind, shadowed, join, has_dot, first_part, is_holder, standing, settled, rooted}
use Rattle.reflect_scope.specs.declared.definition.Definition.{Definition}
use Rattle.reflect_scope.specs.declared.definition.ResolveNameFilter.{ResolveNameFilter}
use Rattle.reflect_scope.specs.declared.resolve.Standing.{Standing}
use Rattle.reflect_scope.specs.declared.resolve.Standing.TheVariants.{Wrong, Wanted}
use Rattle.reflect_scope.specs.declared.resolve.Resolved.{Resolved}
use Rattle.reflect_scope.specs.declared.resolve.ResolveNameError.{ResolveNameError}
use Rattle.reflect_scope.specs.declared.resolve.ResolveNameError.TheVariants.{Memory, NotFound, Shadowed, InvalidType}

-- p is the scope, or what stands before a dot of it, or the empty scope
abbrev pub IsScope : List ℕ → List ℕ → Type 0
IsScope s p = (p ≡ s) ⊎ ((p ≡ []) ⊎ ((rest : List ℕ) × (s ≡ p ++ (46 ∷ rest))))

abbrev pub NoneWanted : (List ℕ → Standing) → List ℕ → Type 0
NoneWanted at s = (q : List ℕ) → IsScope s q → (e : Definition) → at q ≡ Wanted e → ⊥

-- of a name without a dot: the innermost wanted definition; or that there is none, and whether
-- another kind is seen
abbrev pub SaysUndotted : (List ℕ → Standing) → List ℕ → List ℕ → Meaning → Type 0
SaysUndotted at name s (means full d) =
    (p : List ℕ) × IsScope s p × (full ≡ join p name) × (at p ≡ Wanted d)
    × ((q : List ℕ) → IsScope s q → length p < length q → (e : Definition) → at q ≡ Wanted e
    → ⊥)
SaysUndotted at name s wrong_kind = NoneWanted at s × ((p : List ℕ) × IsScope s p × (at p ≡ Wrong))
SaysUndotted at name s not_found = NoneWanted at s × ((p : List ℕ) → IsScope s p → at p ≡ Wrong → ⊥)
SaysUndotted at name s (shadowed full) = ⊥

-- p is the innermost scope where the first part holds names
abbrev pub IsSettledAt : (List ℕ → Bool) → List ℕ → List ℕ → Type 0
IsSettledAt first s p = IsScope s p × (first p ≡ true)
    × ((q : List ℕ) → IsScope s q → length p < length q → first q ≡ true → ⊥)

-- of a name with a dot: what stands under the whole name where its first part settles it; or that
-- it does so nowhere
abbrev pub SaysDotted : (List ℕ → Bool) → (List ℕ → Standing) → List ℕ → List ℕ → Meaning → Type 0
SaysDotted first at name s m =
    ((p : List ℕ) × IsSettledAt first s p × (m ≡ settled (at p) (join p name)))
    ⊎ (((q : List ℕ) → IsScope s q → first q ≡ true → ⊥) × (m ≡ not_found))

abbrev pub SaysPlain : (List ℕ → Option Definition) → (ℕ → Bool) → ResolveNameFilter → List ℕ
    → List ℕ → Meaning → Type 0
SaysPlain names sees f scope name m = MatchBool (has_dot name)
    (SaysDotted (λ p. is_holder (names (join p (first_part name))))
    (λ p. standing sees f (names (join p name))) name scope m)
    (SaysUndotted (λ p. standing sees f (names (join p name))) name scope m)

-- what a name means in a scope, with a leading dot or without
abbrev pub NameMeans : (List ℕ → Option Definition) → (ℕ → Bool) → ResolveNameFilter → List ℕ
    → List ℕ → Meaning → Type 0
NameMeans names sees f scope [] m = SaysPlain names sees f scope [] m
NameMeans names sees f scope (b ∷ name) m = MatchBool (b == 46)
    (m ≡ rooted (standing sees f (names name)) name)
    (SaysPlain names sees f scope (b ∷ name) m)

-- the answer's meaning is as given, but for want of memory
abbrev pub AnswersMeaning : (Meaning → Type 0) → Result Resolved ResolveNameError → Type 0
AnswersMeaning P (Ok r) = P (means (string_bytes r.full_name) r.definition)
AnswersMeaning P (Err Memory) = Unit {0}
AnswersMeaning P (Err NotFound) = P not_found
AnswersMeaning P (Err InvalidType) = P wrong_kind
AnswersMeaning P (Err (Shadowed full)) = P (shadowed (string_bytes full))
