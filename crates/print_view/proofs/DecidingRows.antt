-- Whether a payload is a row of values of a kind of a pool.
use Rattle.std.proofs.Common.{◌≡◌, inr, ℕ, Bool, true, false, List, [], ◌∷◌, refl, sym, subst}
use Rattle.std.specs.List.{AllByRecursion}
use Rattle.reflect_wire.specs.Records.{Payload, varint, fixed64, delimited, group, fixed32}
use Rattle.reflect_wire.specs.declared.wire_key.WireType.{WireType}
use Rattle.reflect_wire.specs.declared.wire_key.WireType.TheVariants.{Varint, SixtyFourBit, LengthDelimited, ThirtyTwoBit}
use Rattle.reflect_tables.specs.Types.{PoolType, KindType}
use Rattle.reflect_tables.specs.Types as types
use Rattle.reflect_pool.specs.Kinds.{IsKind}
use Rattle.reflect_pool.specs.declared.kind.Kind.{Kind}
use Rattle.reflect_pool.specs.declared.kind.Kind.TheVariants as publics
use Rattle.reflect_scalar.specs.Kinds.{kind_type, wire_type, packs}
use Rattle.reflect_scalar.specs.Singles.{Single}
use Rattle.reflect_scalar.proofs.Defaulted.{kind_is}
use Rattle.reflect_decode.specs.Elements.{IsRow}
use Rattle.reflect_decode.specs.Packed.{IsPacked}
use Rattle.protobuf_model.specs.Reader.{row}
use Rattle.protobuf_model.specs.Accepts.{SpellsRow}
use Rattle.protobuf_model.proofs.Rows.{row_spelled}
use Rattle.print_view.proofs.Deciding.{Decided, all_three_or_not, true_or_not, all_or_not}
use Rattle.print_view.proofs.DecidingSpelled.{row_or_not}
use Rattle.print_view.proofs.DecidingKinds.{IsOn, on_or_not, value_on, value_of}

-- the form of a type's payloads
abbrev pub wire_at : KindType → WireType
wire_at types.double = SixtyFourBit
wire_at types.float = ThirtyTwoBit
wire_at types.fixed32 = ThirtyTwoBit
wire_at types.fixed64 = SixtyFourBit
wire_at types.sfixed32 = ThirtyTwoBit
wire_at types.sfixed64 = SixtyFourBit
wire_at types.string = LengthDelimited
wire_at types.bytes = LengthDelimited
wire_at (types.message i) = LengthDelimited
wire_at t = Varint

wire_same : (kind : Kind) → wire_type kind ≡ wire_at (kind_type kind)
wire_same publics.Double = refl
wire_same publics.Float = refl
wire_same publics.Int32 = refl
wire_same publics.Int64 = refl
wire_same publics.Uint32 = refl
wire_same publics.Uint64 = refl
wire_same publics.Sint32 = refl
wire_same publics.Sint64 = refl
wire_same publics.Fixed32 = refl
wire_same publics.Fixed64 = refl
wire_same publics.Sfixed32 = refl
wire_same publics.Sfixed64 = refl
wire_same publics.Bool = refl
wire_same publics.String = refl
wire_same publics.Bytes = refl
wire_same (publics.Message m) = refl
wire_same (publics.Enum m) = refl

abbrev pub Alone : PoolType → KindType → Payload → Type 0
Alone pool t p = IsOn (λ g q i p. ⊥) false pool t p

-- a payload is a row of values of the type
abbrev pub IsRowOn : PoolType → KindType → Payload → Type 0
IsRowOn pool t (delimited body) = (packs (wire_at t) ≡ true) × SpellsRow (wire_at t) body (row (wire_at t) body) × AllByRecursion (Alone pool t) (row (wire_at t) body)
IsRowOn pool t p = ⊥

pub row_on_or_not : (pool : PoolType) (t : KindType) (p : Payload) → Decided (IsRowOn pool t p)
row_on_or_not pool t (delimited body) =
    all_three_or_not (true_or_not (packs (wire_at t))) (row_or_not (wire_at t) (row (wire_at t) body) body)
    (all_or_not (Alone pool t) (on_or_not (λ g q i p. ⊥) false pool (λ i p. inr (λ h. h)) t) (row (wire_at t) body))
row_on_or_not pool t p = inr (λ h. h)

rows_on : (pool : PoolType) (kind : Kind) (bytes : List ℕ) (vs : List Single) → IsPacked kind bytes vs → (ps : List Payload) × SpellsRow (wire_type kind) bytes ps × AllByRecursion (Alone pool (kind_type kind)) ps
rows_on pool kind bytes [] h = ([], h, tt)
rows_on pool kind bytes (v ∷ vs) h =
    let later = rows_on pool kind h.1 vs h.3 in
    (h.2.0 ∷ later.0, (h.0, h.1, sym h.2.1.0, h.2.1.1, later.1, h.4), (value_on (λ g q i p. ⊥) false pool kind h.2.0 v h.2.2, later.2))

rows_back : (pool : PoolType) (kind : Kind) (bytes : List ℕ) (ps : List Payload) → SpellsRow (wire_type kind) bytes ps → AllByRecursion (Alone pool (kind_type kind)) ps → (vs : List Single) × IsPacked kind bytes vs
rows_back pool kind bytes [] h k = ([], h)
rows_back pool kind bytes (p ∷ ps) h k =
    let value = value_of false pool kind p k.0 in
    let later = rows_back pool kind h.1 ps h.4 k.1 in
    (value.0 ∷ later.0, (h.0, h.1, (p, (sym h.2, h.3), value.1), later.1, h.5))

abbrev IsRowIn : PoolType → WireType → KindType → List ℕ → List Payload → Type 0
IsRowIn pool w t body ps = (packs w ≡ true) × SpellsRow w body ps × AllByRecursion (Alone pool t) ps

row_of : (pool : PoolType) (t : KindType) (kind : Kind) (p : Payload) (vs : List Single) → kind_type kind ≡ t → IsRow kind p vs → IsRowOn pool t p
row_of pool t kind p vs same h = by p h where
  by : (p : Payload) → IsRow kind p vs → IsRowOn pool t p
  by (delimited body) h =
      let whole : h.0 ≡ body = cc (h.1) in
      let r = rows_on pool kind h.0 vs h.3 in
      let there : IsRowIn pool (wire_type kind) (kind_type kind) h.0 r.0 = (h.2, r.1, r.2) in
      let read : row (wire_type kind) h.0 ≡ r.0 = row_spelled (wire_type kind) h.0 r.0 r.1 in
      let spelled : IsRowIn pool (wire_type kind) (kind_type kind) h.0 (row (wire_type kind) h.0) = subst (IsRowIn pool (wire_type kind) (kind_type kind) h.0) (sym read) there in
      let here : IsRowIn pool (wire_type kind) (kind_type kind) body (row (wire_type kind) body) = subst (λ b. IsRowIn pool (wire_type kind) (kind_type kind) b (row (wire_type kind) b)) whole spelled in
      let formed : IsRowIn pool (wire_at (kind_type kind)) (kind_type kind) body (row (wire_at (kind_type kind)) body) = subst (λ w. IsRowIn pool w (kind_type kind) body (row w body)) (wire_same kind) here in
      subst (λ t. IsRowIn pool (wire_at t) t body (row (wire_at t) body)) same formed
  by (varint n) h = absurd (cc (h.1))
  by (fixed64 n) h = absurd (cc (h.1))
  by (group rs) h = absurd (cc (h.1))
  by (fixed32 n) h = absurd (cc (h.1))

of_row : (pool : PoolType) (t : KindType) (kind : Kind) (p : Payload) → kind_type kind ≡ t → IsRowOn pool t p → (vs : List Single) × IsRow kind p vs
of_row pool t kind (delimited body) same h =
    let here : IsRowIn pool (wire_at (kind_type kind)) (kind_type kind) body (row (wire_at (kind_type kind)) body) = subst (λ t. IsRowIn pool (wire_at t) t body (row (wire_at t) body)) (sym same) h in
    let formed : IsRowIn pool (wire_type kind) (kind_type kind) body (row (wire_type kind) body) = subst (λ w. IsRowIn pool w (kind_type kind) body (row w body)) (sym (wire_same kind)) here in
    let r = rows_back pool kind body (row (wire_type kind) body) formed.1 formed.2 in
    (r.0, (body, refl, formed.0, r.1))
of_row pool t kind p same h = absurd h

-- what a list has of a payload, in the words of kinds and of types
pub rows_of : (pool : PoolType) (t : KindType) (kind : Kind) (p : Payload) → IsKind pool kind t → ((vs : List Single) × IsRow kind p vs) → IsRowOn pool t p
rows_of pool t kind p is h = row_of pool t kind p h.0 (sym (kind_is pool kind t is)) h.1

pub of_rows : (pool : PoolType) (t : KindType) (kind : Kind) (p : Payload) → IsKind pool kind t → IsRowOn pool t p → (vs : List Single) × IsRow kind p vs
of_rows pool t kind p is h = of_row pool t kind p (sym (kind_is pool kind t is)) h
