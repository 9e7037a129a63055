-- Of kinds that say the same in the model, the one reads what the other does: of two pools that say the same to texts.
use Rattle.std.proofs.Common.{◌≡◌, ◌<◌, ◌∙◌, ◌⊎◌, inl, inr, ℕ, Bool, true, false, true≢false, List, [], ◌∷◌, length, refl, sym, ap, subst}
use Rattle.message_view.specs.Singles.{scalar_of}
use Rattle.message_view.specs.Types.{frame_of, kind_in, name_at}
use Rattle.message_view.proofs.Elements.{kind_message, kind_scalar}
use Rattle.protobuf_model.specs.Types.{Frame, Name, Scalar, nested, scalar}
use Rattle.reflect_decode.specs.Accepts.{Acceptable, AcceptsElement, AcceptsKind}
use Rattle.reflect_decode.specs.Elements.{IsRow}
use Rattle.reflect_decode.specs.Packed.{IsPacked}
use Rattle.reflect_decode.proofs.Telling.{both_kinds}
use Rattle.reflect_decode.proofs.Sorts.{Sort, floating, message_type, plain, sort_of}
use Rattle.reflect_message.specs.KindTypes.{IsMessageType, IsScalarType}
use Rattle.reflect_message.specs.Known.{is_float}
use Rattle.reflect_pool.specs.Kinds.{IsKind}
use Rattle.reflect_pool.specs.declared.enums.EnumDescriptor.{EnumDescriptor}
use Rattle.reflect_pool.specs.declared.kind.Kind.{Kind}
use Rattle.reflect_pool.specs.declared.kind.Kind.TheVariants as kinds
use Rattle.reflect_pool.specs.declared.message.MessageDescriptor.{MessageDescriptor}
use Rattle.reflect_scalar.specs.Kinds.{kind_type, packs, wire_type}
use Rattle.reflect_scalar.specs.Meaning.{IsScalar, StandsFor}
use Rattle.reflect_scalar.specs.Singles.{Single}
use Rattle.reflect_scalar.proofs.Defaulted.{kind_is}
use Rattle.reflect_tables.specs.Types.{IsWithin, KindType, PoolType, counts_of}
use Rattle.reflect_tables.specs.Types as types
use Rattle.reflect_wire.specs.Records.{Payload, varint}
use Rattle.stored_options.proofs.TwinPools.{AreTwinPools, twins_moved}

-- ---- kinds of single values

-- what a payload means by the one kind it means by the other
record ReadsAs (l k : Kind) : Type 0 where
  pub values : (p : Payload) (v : Single) → StandsFor l p v → StandsFor k p v
  pub wire : wire_type k ≡ wire_type l

one_enum : (a b : EnumDescriptor) (p : Payload) (v : Single) → StandsFor (kinds.Enum a) p v → StandsFor (kinds.Enum b) p v
one_enum a b (varint n) v h = h
one_enum a b p v h = absurd h

-- a type of the pool that is no message has a kind that reads what a kind of the same scalar does
one_kind : (d : MessageDescriptor) (t : KindType) → IsScalarType t → IsWithin (counts_of d.pool.now) t → (l : Kind) → IsScalarType (kind_type l) → scalar_of t ≡ scalar_of (kind_type l)
    → (k : Kind) × IsKind d.pool.now k t × ReadsAs l k
one_kind d types.int32 type near kinds.Int32 also e = (kinds.Int32, refl, record { values = λ p v h. h; wire = refl })
one_kind d types.int64 type near kinds.Int64 also e = (kinds.Int64, refl, record { values = λ p v h. h; wire = refl })
one_kind d types.uint32 type near kinds.Uint32 also e = (kinds.Uint32, refl, record { values = λ p v h. h; wire = refl })
one_kind d types.uint64 type near kinds.Uint64 also e = (kinds.Uint64, refl, record { values = λ p v h. h; wire = refl })
one_kind d types.sint32 type near kinds.Sint32 also e = (kinds.Sint32, refl, record { values = λ p v h. h; wire = refl })
one_kind d types.sint64 type near kinds.Sint64 also e = (kinds.Sint64, refl, record { values = λ p v h. h; wire = refl })
one_kind d types.fixed32 type near kinds.Fixed32 also e = (kinds.Fixed32, refl, record { values = λ p v h. h; wire = refl })
one_kind d types.fixed64 type near kinds.Fixed64 also e = (kinds.Fixed64, refl, record { values = λ p v h. h; wire = refl })
one_kind d types.sfixed32 type near kinds.Sfixed32 also e = (kinds.Sfixed32, refl, record { values = λ p v h. h; wire = refl })
one_kind d types.sfixed64 type near kinds.Sfixed64 also e = (kinds.Sfixed64, refl, record { values = λ p v h. h; wire = refl })
one_kind d types.bool type near kinds.Bool also e = (kinds.Bool, refl, record { values = λ p v h. h; wire = refl })
one_kind d types.string type near kinds.String also e = (kinds.String, refl, record { values = λ p v h. h; wire = refl })
one_kind d types.bytes type near kinds.Bytes also e = (kinds.Bytes, refl, record { values = λ p v h. h; wire = refl })
one_kind d (types.enumeration i) type near (kinds.Enum a) also e =
    let own : EnumDescriptor = record { pool = d.pool; index = i; in_range = near } in
    (kinds.Enum own, (refl, refl), record { values = one_enum a own; wire = refl })
one_kind d t type near kinds.Double also e = absurd also
one_kind d t type near kinds.Float also e = absurd also
one_kind d t type near (kinds.Message c) also e = absurd also
one_kind d types.double type near l also e = absurd type
one_kind d types.float type near l also e = absurd type
one_kind d (types.message i) type near l also e = absurd type
one_kind d t type near l also e = absurd (cc e)

packed_too : (l k : Kind) → ReadsAs l k → (body : List ℕ) (vs : List Single) → IsPacked l body vs → IsPacked k body vs
packed_too l k reads body [] h = h
packed_too l k reads body (v ∷ vs) h =
    let one : IsScalar k (wire_type l) h.0 v = (h.2.0, h.2.1, reads.values h.2.0 v h.2.2) in
    (h.0, h.1, subst (λ w. IsScalar k w h.0 v) (sym reads.wire) one, packed_too l k reads h.1 vs h.3, h.4)

-- ---- two types that are of one kind in the model

-- both are of single values of one scalar
abbrev BothScalar : KindType → KindType → Type 0
BothScalar t u = IsScalarType t × IsScalarType u × (scalar_of t ≡ scalar_of u)

-- or both of messages of one name, in groups or not
record BothMessages (p q : PoolType) (g h : Bool) (t u : KindType) : Type 0 where
  pub here : ℕ
  pub there : ℕ
  pub first : t ≡ types.message here
  pub second : u ≡ types.message there
  pub framed : g ≡ h
  pub called : name_at p here ≡ name_at q there

message_place : (t : KindType) → IsMessageType t → (i : ℕ) × (t ≡ types.message i)
message_place (types.message i) type = (i, refl)
message_place t type = absurd type

one_frame : (g h : Bool) → frame_of g ≡ frame_of h → g ≡ h
one_frame true true e = refl
one_frame true false e = absurd (cc e)
one_frame false true e = absurd (cc e)
one_frame false false e = refl

of_frame : (a b : Frame) (t u : Name) → nested a t ≡ nested b u → a ≡ b
of_frame a b t u e = cc e

-- messages of one kind are of one name
pub nested_name : (a b : Frame) (t u : Name) → nested a t ≡ nested b u → t ≡ u
nested_name a b t u e = cc e

of_scalar : (a b : Scalar) → scalar a ≡ scalar b → a ≡ b
of_scalar a b e = cc e

both : (p q : PoolType) (g h : Bool) (t u : KindType) → kind_in p g t ≡ kind_in q h u → is_float t ≡ false → is_float u ≡ false → BothScalar t u ⊎ BothMessages p q g h t u
both p q g h t u same whole whole_too = by (sort_of t) (sort_of u) where
  by : Sort t → Sort u → BothScalar t u ⊎ BothMessages p q g h t u
  by (floating e) y = absurd (true≢false (sym e ∙ whole))
  by (plain a) (floating e) = absurd (true≢false (sym e ∙ whole_too))
  by (message_type a) (floating e) = absurd (true≢false (sym e ∙ whole_too))
  by (plain a) (plain b) = inl (a, b, of_scalar (scalar_of t) (scalar_of u) (sym (kind_scalar p g t a) ∙ same ∙ kind_scalar q h u b))
  by (plain a) (message_type b) = let n = message_place u b in absurd (cc (sym (kind_scalar p g t a) ∙ same ∙ kind_message q h u n.0 n.1))
  by (message_type a) (plain b) = let m = message_place t a in absurd (cc (sym (kind_message p g t m.0 m.1) ∙ same ∙ kind_scalar q h u b))
  by (message_type a) (message_type b) =
      let m = message_place t a in
      let n = message_place u b in
      let e : nested (frame_of g) (name_at p m.0) ≡ nested (frame_of h) (name_at q n.0) = sym (kind_message p g t m.0 m.1) ∙ same ∙ kind_message q h u n.0 n.1 in
      inr (record {
        here = m.0;
        there = n.0;
        first = m.1;
        second = n.1;
        framed = one_frame g h (of_frame (frame_of g) (frame_of h) (name_at p m.0) (name_at q n.0) e);
        called = nested_name (frame_of g) (frame_of h) (name_at p m.0) (name_at q n.0) e;
      })

-- what is of messages in the one is so in the other
pub message_too : (p q : PoolType) (g h : Bool) (t u : KindType) → kind_in p g t ≡ kind_in q h u → is_float t ≡ false → is_float u ≡ false → IsMessageType t → IsMessageType u
message_too p q g h t u same whole whole_too type = by (both p q g h t u same whole whole_too) where
  by : BothScalar t u ⊎ BothMessages p q g h t u → IsMessageType u
  by (inl s) = absurd (both_kinds t s.0 type)
  by (inr m) = subst IsMessageType (sym m.second) tt

-- ---- what kinds accept

module _ (coded : Acceptable) (g : Bool) (p : Payload) where
  single_accepted : (k : Kind) → IsScalarType (kind_type k) → AcceptsKind coded g k p → (v : Single) × StandsFor k p v
  single_accepted (kinds.Message c) type h = absurd type
  single_accepted k type h = h

  accepts_single : (k : Kind) → IsScalarType (kind_type k) → (v : Single) × StandsFor k p v → AcceptsKind coded g k p
  accepts_single (kinds.Message c) type h = absurd type
  accepts_single k type h = h

-- messages of one name accept the same one level below
abbrev pub AcceptsBelow : Acceptable → Type 0
AcceptsBelow coded = (grouped : Bool) (c f : MessageDescriptor) → AreTwinPools c.pool.now f.pool.now → name_at c.pool.now c.index ≡ name_at f.pool.now f.index → (p : Payload)
    → coded grouped f.pool.now f.index p → coded grouped c.pool.now c.index p

same_index : (i j : ℕ) → types.message i ≡ types.message j → i ≡ j
same_index i j e = cc e

module _ (d e : MessageDescriptor) (twins : AreTwinPools d.pool.now e.pool.now) (coded : Acceptable) (below : AcceptsBelow coded) where
  module _ (g h : Bool) (t u : KindType) (same : kind_in d.pool.now g t ≡ kind_in e.pool.now h u) (whole : is_float t ≡ false) (whole_too : is_float u ≡ false) (near : IsWithin (counts_of d.pool.now) t)
      (p : Payload) where
    abbrev Accepted : Type 0
    Accepted = (k : Kind) × IsKind d.pool.now k t × AcceptsKind coded g k p

    abbrev Listed : Type 0
    Listed = (k : Kind) × IsKind d.pool.now k t × AcceptsElement coded g k p

    -- a kind of single values that reads what such a kind of the other does
    scalar_kind : BothScalar t u → (l : Kind) → IsKind e.pool.now l u → (k : Kind) × IsKind d.pool.now k t × ReadsAs l k
    scalar_kind (type, also, scalars) l is =
        one_kind d t type near l (subst IsScalarType (kind_is e.pool.now l u is) also) (scalars ∙ ap scalar_of (kind_is e.pool.now l u is))

    of_messages : (m : BothMessages d.pool.now e.pool.now g h t u) → (l : Kind) → IsKind e.pool.now l u → AcceptsKind coded h l p → Accepted
    of_messages m (kinds.Message f) is accepts =
        let inside : m.here < length d.pool.now.messages = subst (IsWithin (counts_of d.pool.now)) m.first near in
        let c : MessageDescriptor = record { pool = d.pool; index = m.here; in_range = inside } in
        let pools : AreTwinPools c.pool.now f.pool.now = twins_moved d.pool.now e.pool.now c.pool.now f.pool.now refl is.0 twins in
        let place : m.there ≡ f.index = same_index m.there f.index (sym m.second ∙ is.1) in
        let names : name_at c.pool.now c.index ≡ name_at f.pool.now f.index = m.called ∙ ap (λ q. name_at q m.there) (sym is.0) ∙ ap (name_at f.pool.now) place in
        (kinds.Message c, (refl, m.first), below g c f pools names p (subst (λ b. coded b f.pool.now f.index p) (sym m.framed) accepts))
    of_messages m (kinds.Enum f) is accepts = absurd (cc (sym is.1 ∙ m.second))
    of_messages m l is accepts = absurd (cc (sym is ∙ m.second))

    pub kind_too : (l : Kind) → IsKind e.pool.now l u → AcceptsKind coded h l p → Accepted
    kind_too l is accepts = by (both d.pool.now e.pool.now g h t u same whole whole_too) where
      by : BothScalar t u ⊎ BothMessages d.pool.now e.pool.now g h t u → Accepted
      by (inr m) = of_messages m l is accepts
      by (inl s) =
          let k = scalar_kind s l is in
          let v = single_accepted coded h p l (subst IsScalarType (kind_is e.pool.now l u is) s.1) accepts in
          (k.0, k.1, accepts_single coded g p k.0 (subst IsScalarType (kind_is d.pool.now k.0 t k.1) s.0) (v.0, k.2.values p v.0 v.1))

    no_row : (l : Kind) (vs : List Single) (j : ℕ) → u ≡ types.message j → IsKind e.pool.now l u → IsRow l p vs → ⊥
    no_row (kinds.Message f) vs j message is row = cc row.2
    no_row (kinds.Enum f) vs j message is row = cc (sym is.1 ∙ message)
    no_row l vs j message is row = cc (sym is ∙ message)

    pub element_too : (l : Kind) → IsKind e.pool.now l u → AcceptsElement coded h l p → Listed
    element_too l is (inl accepts) = let k = kind_too l is accepts in (k.0, k.1, inl k.2)
    element_too l is (inr (vs, row)) = by (both d.pool.now e.pool.now g h t u same whole whole_too) where
      by : BothScalar t u ⊎ BothMessages d.pool.now e.pool.now g h t u → Listed
      by (inr m) = absurd (no_row l vs m.there m.second is row)
      by (inl s) =
          let k = scalar_kind s l is in
          (k.0, k.1, inr (vs, (row.0, row.1, ap packs k.2.wire ∙ row.2, packed_too l k.0 k.2 row.0 vs row.3)))
