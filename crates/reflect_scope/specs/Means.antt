-- What a name means where it stands, scope by scope. See "Packages and Name Resolution" in the
-- public Language Guide.
use Rattle.std.specs.Prelude.{◌≡◌, ℕ, zero, suc, List, [], ◌∷◌, ◌++◌, length, Bool, true, false, cond, ◌||◌, ◌==◌, eqb, Option, Some, None, Result, Ok, Err, string_bytes}
use Rattle.std.specs.List.{before_first}
use Rattle.reflect_scope.specs.declared.definition.Definition.{Definition}
use Rattle.reflect_scope.specs.declared.definition.DefinitionKind.{DefinitionKind}
use Rattle.reflect_scope.specs.declared.definition.DefinitionKind.TheVariants as kind
use Rattle.reflect_scope.specs.declared.definition.ResolveNameFilter.{ResolveNameFilter}
use Rattle.reflect_scope.specs.declared.definition.ResolveNameFilter.TheVariants as filter
use Rattle.reflect_scope.specs.declared.resolve.Standing.{Standing}
use Rattle.reflect_scope.specs.declared.resolve.Standing.TheVariants.{Absent, Unseen, Wrong, Wanted}
use Rattle.reflect_scope.specs.declared.resolve.Resolved.{Resolved}
use Rattle.reflect_scope.specs.declared.resolve.ResolveNameError.{ResolveNameError}
use Rattle.reflect_scope.specs.declared.resolve.ResolveNameError.TheVariants.{Memory, NotFound, Shadowed, InvalidType}

-- a full name and what is defined there, or why there is none
pub data Meaning : Type 0 where
  means : List ℕ → Definition → Meaning
  not_found : Meaning
  wrong_kind : Meaning
  shadowed : List ℕ → Meaning

-- the full name of `name` in `scope`
abbrev pub join : List ℕ → List ℕ → List ℕ
join [] name = name
join (s ∷ scope) name = (s ∷ scope) ++ (46 ∷ name)

abbrev pub has_dot : List ℕ → Bool
has_dot [] = false
has_dot (b ∷ bs) = (b == 46) || has_dot bs

-- what stands before the last dot
abbrev pub outer : List ℕ → List ℕ
outer [] = []
outer (b ∷ bs) = cond (has_dot bs) (b ∷ outer bs) []

abbrev pub scopes_in : ℕ → List ℕ → List (List ℕ)
scopes_in n [] = [] ∷ []
scopes_in zero (b ∷ bs) = []
scopes_in (suc n) (b ∷ bs) = (b ∷ bs) ∷ scopes_in n (outer (b ∷ bs))

-- the scope and those around it, innermost first; the last is the empty one
unfoldable pub scopes : List ℕ → List (List ℕ)
scopes s = scopes_in (length s) s

abbrev pub is_wanted : ResolveNameFilter → DefinitionKind → Bool
is_wanted filter.Message (kind.Message i) = true
is_wanted filter.Message _ = false
is_wanted filter.FieldType (kind.Message i) = true
is_wanted filter.FieldType (kind.Enum i) = true
is_wanted filter.FieldType _ = false
is_wanted filter.Extension (kind.Extension i) = true
is_wanted filter.Extension _ = false

-- packages are seen everywhere
abbrev pub is_seen : (ℕ → Bool) → Definition → Bool
is_seen sees d = elim d.kind [ kind.Package ↦ true | _ ↦ sees d.file ]

abbrev pub standing : (ℕ → Bool) → ResolveNameFilter → Option Definition → Standing
standing sees f None = Absent
standing sees f (Some d) = cond (is_seen sees d) (cond (is_wanted f d.kind) (Wanted d) Wrong) Unseen

abbrev pub is_holder : Option Definition → Bool
is_holder None = false
is_holder (Some d) = elim d.kind [
  | kind.Package ↦ true
  | kind.Message i ↦ true
  | kind.Service i ↦ true
  | kind.Enum i ↦ true
  | _ ↦ false
]

abbrev pub step : {R : Type 0} → Standing → (Definition → R) → R → R
step (Wanted d) found rest = found d
step Wrong found rest = rest
step Unseen found rest = rest
step Absent found rest = rest

abbrev pub marks : Standing → Bool → Bool
marks Wrong passed = true
marks (Wanted d) passed = passed
marks Unseen passed = passed
marks Absent passed = passed

abbrev pub missing : Bool → Meaning
missing true = wrong_kind
missing false = not_found

-- the innermost wanted one, going on past others
abbrev pub undotted : (List ℕ → Standing) → List ℕ → List (List ℕ) → Bool → Meaning
undotted at name [] passed = missing passed
undotted at name (p ∷ ps) passed =
    step (at p) (λ d. means (join p name) d) (undotted at name ps (marks (at p) passed))

abbrev pub settled : Standing → List ℕ → Meaning
settled (Wanted d) full = means full d
settled Wrong full = wrong_kind
settled Unseen full = not_found
settled Absent full = shadowed full

-- settled at the innermost scope where the first part holds names
abbrev pub dotted : (List ℕ → Bool) → (List ℕ → Standing) → List ℕ → List (List ℕ) → Meaning
dotted first at name [] = not_found
dotted first at name (p ∷ ps) =
    cond (first p) (settled (at p) (join p name)) (dotted first at name ps)

-- the meaning of a full name
abbrev pub rooted : Standing → List ℕ → Meaning
rooted (Wanted d) full = means full d
rooted Wrong full = wrong_kind
rooted Unseen full = not_found
rooted Absent full = not_found

abbrev pub first_part : List ℕ → List ℕ
first_part name = before_first (λ b. eqb b 46) name

abbrev pub by_dots : (List ℕ → Option Definition) → (ℕ → Bool) → ResolveNameFilter → List ℕ → List ℕ
    → Meaning
by_dots names sees f scope name =
    cond (has_dot name)
    (dotted (λ p. is_holder (names (join p (first_part name))))
    (λ p. standing sees f (names (join p name))) name (scopes scope))
    (undotted (λ p. standing sees f (names (join p name))) name (scopes scope) false)

abbrev pub resolve : (List ℕ → Option Definition) → (ℕ → Bool) → ResolveNameFilter → List ℕ → List ℕ
    → Meaning
resolve names sees f scope [] = by_dots names sees f scope []
resolve names sees f scope (b ∷ name) =
    cond (b == 46) (rooted (standing sees f (names name)) name)
    (by_dots names sees f scope (b ∷ name))

-- the answer, but for want of memory
abbrev pub Answers : Result Resolved ResolveNameError → Meaning → Type 0
Answers (Ok r) m = m ≡ means (string_bytes r.full_name) r.definition
Answers (Err Memory) m = Unit {0}
Answers (Err NotFound) m = m ≡ not_found
Answers (Err InvalidType) m = m ≡ wrong_kind
Answers (Err (Shadowed full)) m = m ≡ shadowed (string_bytes full)
