-- Whether a payload is one of a kind of a pool.
use Rattle.std.proofs.Common.{◌≡◌, inl, inr, ℕ, pos, negsuc, ◌<◌, ◌/◌, ◌%◌, ◌==◌, Bool, true, false, cond, length, refl, sym, subst, IsUtf8, arith}
use Rattle.reflect_wire.specs.Records.{Payload, varint, fixed64, delimited, fixed32}
use Rattle.reflect_tables.specs.Types.{PoolType, KindType}
use Rattle.reflect_tables.specs.Types as types
use Rattle.reflect_pool.specs.Kinds.{IsKind}
use Rattle.reflect_pool.specs.declared.kind.Kind.{Kind}
use Rattle.reflect_pool.specs.declared.kind.Kind.TheVariants as publics
use Rattle.reflect_pool.specs.declared.message.MessageDescriptor.{MessageDescriptor}
use Rattle.reflect_scalar.specs.Kinds.{kind_type}
use Rattle.reflect_scalar.specs.Meaning.{StandsFor, low, zigzag}
use Rattle.reflect_scalar.specs.Singles.{Single}
use Rattle.reflect_scalar.proofs.Defaulted.{kind_is}
use Rattle.reflect_decode.specs.Accepts.{Acceptable, AcceptsKind}
use Rattle.protobuf_model.specs.Scalars.{unzigzag}
use Rattle.print_view.proofs.Deciding.{Decided, less_or_not}
use Rattle.print_view.proofs.DecidingScalars.{utf8_or_not}

-- a type of a pool is a public kind, if its place is in the pool
pub kind_or_not : (d : MessageDescriptor) (t : KindType) → Decided ((kind : Kind) × IsKind d.pool.now kind t)
kind_or_not d types.double = inl (publics.Double, refl)
kind_or_not d types.float = inl (publics.Float, refl)
kind_or_not d types.int32 = inl (publics.Int32, refl)
kind_or_not d types.int64 = inl (publics.Int64, refl)
kind_or_not d types.uint32 = inl (publics.Uint32, refl)
kind_or_not d types.uint64 = inl (publics.Uint64, refl)
kind_or_not d types.sint32 = inl (publics.Sint32, refl)
kind_or_not d types.sint64 = inl (publics.Sint64, refl)
kind_or_not d types.fixed32 = inl (publics.Fixed32, refl)
kind_or_not d types.fixed64 = inl (publics.Fixed64, refl)
kind_or_not d types.sfixed32 = inl (publics.Sfixed32, refl)
kind_or_not d types.sfixed64 = inl (publics.Sfixed64, refl)
kind_or_not d types.bool = inl (publics.Bool, refl)
kind_or_not d types.string = inl (publics.String, refl)
kind_or_not d types.bytes = inl (publics.Bytes, refl)
kind_or_not d (types.message i) = by (less_or_not i (length d.pool.now.messages)) where
  out : (i < length d.pool.now.messages → ⊥) → (kind : Kind) → IsKind d.pool.now kind (types.message i) → ⊥
  out never (publics.Message m) is =
      let same : i ≡ m.index = cc (is.1) in
      never (subst (λ (p : PoolType). i < length p.messages) is.0 (subst (λ k. k < length m.pool.now.messages) (sym same) m.in_range))
  out never (publics.Enum m) is = cc (is.1)
  out never kind is = cc (is)

  by : Decided (i < length d.pool.now.messages) → Decided ((kind : Kind) × IsKind d.pool.now kind (types.message i))
  by (inl lt) = inl (publics.Message (record { pool = d.pool; index = i; in_range = lt }), (refl, refl))
  by (inr never) = inr (λ h. out never h.0 h.1)
kind_or_not d (types.enumeration i) = by (less_or_not i (length d.pool.now.enums)) where
  out : (i < length d.pool.now.enums → ⊥) → (kind : Kind) → IsKind d.pool.now kind (types.enumeration i) → ⊥
  out never (publics.Enum m) is =
      let same : i ≡ m.index = cc (is.1) in
      never (subst (λ (p : PoolType). i < length p.enums) is.0 (subst (λ k. k < length m.pool.now.enums) (sym same) m.in_range))
  out never (publics.Message m) is = cc (is.1)
  out never kind is = cc (is)

  by : Decided (i < length d.pool.now.enums) → Decided ((kind : Kind) × IsKind d.pool.now kind (types.enumeration i))
  by (inl lt) = inl (publics.Enum (record { pool = d.pool; index = i; in_range = lt }), (refl, refl))
  by (inr never) = inr (λ h. out never h.0 h.1)

-- a payload is one of the type, where `inner` says which ones messages have
abbrev pub IsOn : Acceptable → Bool → PoolType → KindType → Payload → Type 0
IsOn inner g pool (types.message i) p = inner g pool i p
IsOn inner g pool types.int32 (varint n) = Unit {0}
IsOn inner g pool types.int64 (varint n) = Unit {0}
IsOn inner g pool types.uint32 (varint n) = Unit {0}
IsOn inner g pool types.uint64 (varint n) = Unit {0}
IsOn inner g pool types.sint32 (varint n) = Unit {0}
IsOn inner g pool types.sint64 (varint n) = Unit {0}
IsOn inner g pool types.bool (varint n) = Unit {0}
IsOn inner g pool (types.enumeration i) (varint n) = Unit {0}
IsOn inner g pool types.fixed32 (fixed32 n) = Unit {0}
IsOn inner g pool types.sfixed32 (fixed32 n) = Unit {0}
IsOn inner g pool types.fixed64 (fixed64 n) = Unit {0}
IsOn inner g pool types.sfixed64 (fixed64 n) = Unit {0}
IsOn inner g pool types.string (delimited t) = IsUtf8 t
IsOn inner g pool types.bytes (delimited t) = Unit {0}
IsOn inner g pool t p = ⊥

pub on_or_not : (inner : Acceptable) (g : Bool) (pool : PoolType) → ((i : ℕ) (p : Payload) → Decided (inner g pool i p)) → (t : KindType) (p : Payload) → Decided (IsOn inner g pool t p)
on_or_not inner g pool each (types.message i) p = each i p
on_or_not inner g pool each types.int32 (varint n) = inl tt
on_or_not inner g pool each types.int64 (varint n) = inl tt
on_or_not inner g pool each types.uint32 (varint n) = inl tt
on_or_not inner g pool each types.uint64 (varint n) = inl tt
on_or_not inner g pool each types.sint32 (varint n) = inl tt
on_or_not inner g pool each types.sint64 (varint n) = inl tt
on_or_not inner g pool each types.bool (varint n) = inl tt
on_or_not inner g pool each (types.enumeration i) (varint n) = inl tt
on_or_not inner g pool each types.fixed32 (fixed32 n) = inl tt
on_or_not inner g pool each types.sfixed32 (fixed32 n) = inl tt
on_or_not inner g pool each types.fixed64 (fixed64 n) = inl tt
on_or_not inner g pool each types.sfixed64 (fixed64 n) = inl tt
on_or_not inner g pool each types.string (delimited t) = utf8_or_not t
on_or_not inner g pool each types.bytes (delimited t) = inl tt
on_or_not inner g pool each t p = inr (λ h. h)

-- the number that is written as another
zigzag_forth : (n : ℕ) → n ≡ zigzag (unzigzag n)
zigzag_forth n = by (n % 2 == 0) refl where
  by : (b : Bool) → (n % 2 == 0) ≡ b → n ≡ zigzag (cond b (pos (n / 2)) (negsuc (n / 2)))
  by true e = let even : n % 2 ≡ 0 = grind (arith, e) in omega (arith, even)
  by false e = let odd : n % 2 ≡ 1 = grind (arith, e) in omega (arith, odd)

pub value_on : (inner : Acceptable) (g : Bool) (pool : PoolType) (kind : Kind) (p : Payload) (v : Single) → StandsFor kind p v → IsOn inner g pool (kind_type kind) p
value_on inner g pool publics.Int32 (varint n) v h = tt
value_on inner g pool publics.Int64 (varint n) v h = tt
value_on inner g pool publics.Uint32 (varint n) v h = tt
value_on inner g pool publics.Uint64 (varint n) v h = tt
value_on inner g pool publics.Sint32 (varint n) v h = tt
value_on inner g pool publics.Sint64 (varint n) v h = tt
value_on inner g pool publics.Bool (varint n) v h = tt
value_on inner g pool (publics.Enum m) (varint n) v h = tt
value_on inner g pool publics.Fixed32 (fixed32 n) v h = tt
value_on inner g pool publics.Sfixed32 (fixed32 n) v h = tt
value_on inner g pool publics.Fixed64 (fixed64 n) v h = tt
value_on inner g pool publics.Sfixed64 (fixed64 n) v h = tt
value_on inner g pool publics.String (delimited t) v h = h.0
value_on inner g pool publics.Bytes (delimited t) v h = tt
value_on inner g pool kind p v h = absurd h

pub value_of : (g : Bool) (pool : PoolType) (kind : Kind) (p : Payload) → IsOn (λ g q i p. ⊥) g pool (kind_type kind) p → (v : Single) × StandsFor kind p v
value_of g pool publics.Int32 (varint n) h = (_, refl)
value_of g pool publics.Int64 (varint n) h = (_, refl)
value_of g pool publics.Uint32 (varint n) h = (_, refl)
value_of g pool publics.Uint64 (varint n) h = (_, refl)
value_of g pool publics.Sint32 (varint n) h = (_, (unzigzag (low n), zigzag_forth (low n), refl))
value_of g pool publics.Sint64 (varint n) h = (_, (unzigzag n, zigzag_forth n, refl))
value_of g pool publics.Bool (varint n) h = (_, refl)
value_of g pool (publics.Enum m) (varint n) h = (_, refl)
value_of g pool publics.Fixed32 (fixed32 n) h = (_, refl)
value_of g pool publics.Sfixed32 (fixed32 n) h = (_, refl)
value_of g pool publics.Fixed64 (fixed64 n) h = (_, refl)
value_of g pool publics.Sfixed64 (fixed64 n) h = (_, refl)
value_of g pool publics.String (delimited t) h = (_, (h, refl))
value_of g pool publics.Bytes (delimited t) h = (_, refl)
value_of g pool kind p h = absurd h

-- which payloads messages have does not count for a type of single values
other_inner : (inner : Acceptable) (g : Bool) (pool : PoolType) (t : KindType) (p : Payload) → ((i : ℕ) → t ≡ types.message i → ⊥) → IsOn inner g pool t p → IsOn (λ g q i p. ⊥) g pool t p
other_inner inner g pool (types.message i) p other h = absurd (other i refl)
other_inner inner g pool types.int32 (varint n) other h = tt
other_inner inner g pool types.int64 (varint n) other h = tt
other_inner inner g pool types.uint32 (varint n) other h = tt
other_inner inner g pool types.uint64 (varint n) other h = tt
other_inner inner g pool types.sint32 (varint n) other h = tt
other_inner inner g pool types.sint64 (varint n) other h = tt
other_inner inner g pool types.bool (varint n) other h = tt
other_inner inner g pool (types.enumeration i) (varint n) other h = tt
other_inner inner g pool types.fixed32 (fixed32 n) other h = tt
other_inner inner g pool types.sfixed32 (fixed32 n) other h = tt
other_inner inner g pool types.fixed64 (fixed64 n) other h = tt
other_inner inner g pool types.sfixed64 (fixed64 n) other h = tt
other_inner inner g pool types.string (delimited t) other h = h
other_inner inner g pool types.bytes (delimited t) other h = tt
other_inner inner g pool t p other h = absurd h

pub kind_on : (inner : Acceptable) (g : Bool) (pool : PoolType) (t : KindType) (kind : Kind) (p : Payload) → IsKind pool kind t → AcceptsKind inner g kind p → IsOn inner g pool t p
kind_on inner g pool t (publics.Message m) p is h = subst (λ t. IsOn inner g pool t p) (sym is.1) (subst (λ (q : PoolType). inner g q m.index p) is.0 h)
kind_on inner g pool t kind p is h = subst (λ t. IsOn inner g pool t p) (sym (kind_is pool kind t is)) (value_on inner g pool kind p h.0 h.1)

pub on_kind : (inner : Acceptable) (g : Bool) (pool : PoolType) (t : KindType) (kind : Kind) (p : Payload) → IsKind pool kind t → IsOn inner g pool t p → AcceptsKind inner g kind p
on_kind inner g pool t (publics.Message m) p is h = subst (λ (q : PoolType). inner g q m.index p) (sym is.0) (subst (λ t. IsOn inner g pool t p) is.1 h)
on_kind inner g pool t kind p is h =
    let same = kind_is pool kind t is in
    value_of g pool kind p (other_inner inner g pool (kind_type kind) p (λ i e. cc (e)) (subst (λ t. IsOn inner g pool t p) same h))
