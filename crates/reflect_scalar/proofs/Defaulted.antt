-- Defaults that are read from the pool.
use Rattle.std.proofs.Common.{◌≡◌, ℕ, ℤ, List, Option, Some, None, refl, sym, ap, ◌∙◌}
use Rattle.std.specs.Cmp.Lexicographic.{bytes_decides}
use Rattle.std.specs.Prelude.{option_map, bytes_eq}
use Rattle.std.specs.Option.{option_and_then, option_or}
use Rattle.reflect_tables.specs.Types.{PoolType, FieldType, KindType, DefaultType, ValueType, enum_at}
use Rattle.reflect_tables.specs.Types as types
use Rattle.reflect_pool.specs.Parts.{no_value}
use Rattle.reflect_pool.specs.Kinds.{IsKind}
use Rattle.reflect_pool.specs.Defaults.{HasNumber, HasNone}
use Rattle.reflect_pool.specs.Defaults as pools
use Rattle.reflect_pool.specs.declared.kind.Kind.{Kind}
use Rattle.reflect_pool.specs.declared.kind.Kind.TheVariants as kinds
use Rattle.reflect_pool.specs.declared.kind.DefaultValue.{DefaultValue}
use Rattle.reflect_pool.specs.declared.kind.DefaultValue.TheVariants as defaults
use Rattle.reflect_scalar.specs.Kinds.{kind_type, IsDefault}
use Rattle.reflect_scalar.proofs.First.{Tells, find_none, find_some}
use Rattle.reflect_scalar.specs.Defaults.{named_in, lent_in, declared_in, kind_default, default_in}
use Rattle.reflect_scalar.specs.Singles.{Single, enumerated}

-- a public kind says what the pool does
pub kind_is : (pool : PoolType) (kind : Kind) (k : KindType) → IsKind pool kind k → k ≡ kind_type kind
kind_is pool (kinds.Message m) k h = h.1
kind_is pool (kinds.Enum e) k h = h.1
kind_is pool kind k h = h

pub default_of_kind : (pool : PoolType) (kind : Kind) (k : KindType) (d : Option Single) → IsKind pool kind k → IsDefault kind d → d ≡ kind_default pool k
default_of_kind pool (kinds.Message m) k d h e = e ∙ sym (ap (kind_default pool) h.1)
default_of_kind pool (kinds.Enum n) k d h e = e ∙ ap (λ p. kind_default p (types.enumeration n.index)) h.0 ∙ sym (ap (kind_default pool) h.1)
default_of_kind pool kind k d h e = e ∙ sym (ap (kind_default pool) h)

named : (name : List ℕ) → Tells (λ (v : ValueType). v.name ≡ name) (λ v. bytes_eq v.name name)
named name = record { says = λ v e. (bytes_decides v.name name).0 e; passes = λ v e. (bytes_decides v.name name).1 e }

no_named : (pool : PoolType) (k : KindType) (name : List ℕ) → HasNumber pool k name None → named_in pool k name ≡ None
no_named pool (types.enumeration i) name h = ap (option_map (λ (v : ValueType). v.number)) (find_none (λ (v : ValueType). v.name ≡ name) (λ v. bytes_eq v.name name) (named name) (enum_at pool i).values h)
no_named pool k name h = refl

a_named : (pool : PoolType) (k : KindType) (name : List ℕ) (z : ℤ) → HasNumber pool k name (Some z) → named_in pool k name ≡ Some z
a_named pool (types.enumeration i) name z h =
    ap (option_map (λ (v : ValueType). v.number)) (find_some (λ (v : ValueType). v.name ≡ name) (λ v. bytes_eq v.name name) (named name) (enum_at pool i).values no_value h.0 h.1) ∙ ap Some h.2
a_named pool k name z h = sym h

undeclared_default : (pool : PoolType) (k : KindType) (o : Option DefaultType) → HasNone pool k o → option_and_then (declared_in pool k) o ≡ None
undeclared_default pool k None h = refl
undeclared_default pool k (Some (types.named name)) h = ap (option_map enumerated) (no_named pool k name h)
undeclared_default pool k (Some d) h = absurd h

-- the default that is lent is the declared one
pub lent_default : (pool : PoolType) (f : FieldType) (o : Option DefaultValue) → pools.IsDefault pool f o → option_and_then (lent_in f.kind) o ≡ option_and_then (declared_in pool f.kind) f.default
lent_default pool f None h = sym (undeclared_default pool f.kind f.default h)
lent_default pool f (Some (defaults.Enum z)) h = sym (ap (option_and_then (declared_in pool f.kind)) h.1 ∙ ap (option_map enumerated) (a_named pool f.kind h.0 z h.2))
lent_default pool f (Some d) h = sym (ap (option_and_then (declared_in pool f.kind)) h)

module _ (pool : PoolType) (f : FieldType) (kind : Kind) (o : Option DefaultValue) (lent : Option Single) (is : IsKind pool kind f.kind) (h : pools.IsDefault pool f o) (e : lent ≡ option_and_then (lent_in (kind_type kind)) o) where
  lent_same : lent ≡ option_and_then (declared_in pool f.kind) f.default
  lent_same = e ∙ ap (λ k. option_and_then (lent_in k) o) (sym (kind_is pool kind f.kind is)) ∙ lent_default pool f o h

  -- a default that is lent is the field's
  pub default_lent : (v : Single) → lent ≡ Some v → Some v ≡ default_in pool f
  default_lent v k = ap (λ l. option_or l (kind_default pool f.kind)) (sym k ∙ lent_same)

  -- and where none is, that of the kind
  pub default_left : (d : Option Single) → lent ≡ None → IsDefault kind d → d ≡ default_in pool f
  default_left d k j = default_of_kind pool kind f.kind d is j ∙ ap (λ l. option_or l (kind_default pool f.kind)) (sym k ∙ lent_same)
