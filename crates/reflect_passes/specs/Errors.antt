-- The faults that an error lists.
use Rattle.std.specs.Prelude.{◌≡◌, ◌⊎◌, ℕ, List, [], ◌∷◌, map, Bool, true, false, Option, None, Some, string_bytes}
use Rattle.std.specs.Borrow.{Bor}
use Rattle.std.specs.Iterator.{AlwaysYields}
use Rattle.std.specs.Iterator.Adapters.{chain_steps, once_steps}
use Rattle.std.specs.Option.{option_and_then}
use Rattle.std.specs.Slice.Iter.{iter_steps}
use Rattle.std.specs.declared.iter.Chain.{Chain}
use Rattle.std.specs.declared.iter.Once.{Once}
use Rattle.std.specs.declared.slice.Iter.{Iter}
use Rattle.reflect_faults.specs.FaultPlaces.{label_of, located_of, moved}
use Rattle.reflect_faults.specs.Faults.{Fault, Place, fault_view, place_of_fault, another}
use Rattle.reflect_faults.specs.declared.label.SourceSpan.{SourceSpan}
use Rattle.reflect_faults.specs.declared.error.DescriptorErrorKind.{DescriptorErrorKind}
use Rattle.reflect_faults.specs.declared.error.DescriptorErrorKind.TheVariants as kind
use Rattle.reflect_passes.specs.declared.error.DescriptorError.{DescriptorError}

abbrev pub faults_of : DescriptorError → List Fault
faults_of e = fault_view e.first ∷ map fault_view e.others.items

-- the error lists these faults, or says of a walk that it ended early, for want of memory or past
-- the last index
abbrev pub ListsFaults : (List Fault → Type 0) → DescriptorError → Type 0
ListsFaults Are e = (faults_of e ≡ another ∷ []) ⊎ Are (faults_of e)

-- where the first of them stands, and where in its source, if that is told
abbrev pub first_place : DescriptorError → Option Place
first_place e = place_of_fault (fault_view e.first)

abbrev pub first_span : DescriptorError → Option SourceSpan
first_span e = option_and_then (λ p. p.span) (first_place e)

-- it tells of want of memory
abbrev pub is_memory : DescriptorErrorKind → Bool
is_memory kind.Memory = true
is_memory k = false

-- it tells that there are too many declarations
abbrev pub is_too_many : DescriptorErrorKind → Bool
is_too_many kind.TooMany = true
is_too_many k = false

-- all that it lists
abbrev pub kinds_of : DescriptorError → List DescriptorErrorKind
kinds_of e = e.first ∷ e.others.items

-- calls of the iterator lend these faults, one behind the other, and then none
abbrev pub Lends : Chain (Once (Bor DescriptorErrorKind)) (Iter DescriptorErrorKind)
    → List DescriptorErrorKind → Type 0
Lends faults ks = AlwaysYields (chain_steps once_steps iter_steps) (λ k. k.now) faults ks

-- the same where the bytes of its faults were looked for in the source of the first one's file
abbrev pub sourced : List ℕ → DescriptorError → List DescriptorErrorKind
sourced source e =
    elim (label_of e.first) [
      | None ↦ kinds_of e
      | Some l ↦ map (moved (located_of (string_bytes l.file) source)) (kinds_of e)
    ]
