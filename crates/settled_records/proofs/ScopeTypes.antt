-- The types of a scope's name in a pool: the first is found by it, and what is found is one.
use Rattle.std.proofs.Common.{◌≡◌, ℕ, Bool, Some}
use Rattle.std.specs.List.{find}
use Rattle.std.specs.Str.{bytes_eq}
use Rattle.std.proofs.lemmas.Slice.Eq.{bytes_eq-Decides}
use Rattle.option_parts.specs.OptionTypes.{IsNamedType, type_name}
use Rattle.option_parts.specs.declared.option_scope.OptionScope.{OptionScope}
use Rattle.reflect_scalar.proofs.First.{Tells, find_place, find_some}
use Rattle.reflect_tables.specs.Types.{MessageType, PoolType, no_type, type_at}

module _ (scope : OptionScope) where
  abbrev Named : MessageType → Type 0
  Named m = m.full_name ≡ type_name scope

  abbrev pub is_named : MessageType → Bool
  is_named m = bytes_eq m.full_name (type_name scope)

  named_tells : Tells Named is_named
  named_tells = record {
    says = λ m e. (bytes_eq-Decides m.full_name (type_name scope)).0 e;
    passes = λ m e. (bytes_eq-Decides m.full_name (type_name scope)).1 e;
  }

  pub named_found : (p : PoolType) (i : ℕ) → IsNamedType p scope i → find is_named p.messages ≡ Some (type_at p i)
  named_found p i first = find_some Named is_named named_tells p.messages no_type i first

  pub found_named : (p : PoolType) (m : MessageType) → find is_named p.messages ≡ Some m → (i : ℕ) × IsNamedType p scope i
  found_named p m found = let r = find_place Named is_named named_tells p.messages m found in (r.0, r.1)
