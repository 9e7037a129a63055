-- What values of fields are that are of their kinds, of whose messages something holds: single ones, messages, lists and maps of these.
use Rattle.std.proofs.Common.{◌≡◌, inl, inr, ℕ, true, false, List, [], ◌∷◌, Some, refl, sym, ap, ◌∙◌, subst}
use Rattle.std.specs.List.{AllByRecursion}
use Rattle.reflect_tables.specs.Types.{FieldType, KindType, PoolType}
use Rattle.reflect_tables.specs.Types as types
use Rattle.reflect_wire.specs.Records.{Payload, delimited, fixed32, fixed64, varint}
use Rattle.reflect_pool.specs.Kinds.{IsKind}
use Rattle.reflect_pool.specs.Shapes.{holds_map, is_repeated}
use Rattle.reflect_pool.specs.declared.kind.Kind.{Kind}
use Rattle.reflect_pool.specs.declared.kind.Kind.TheVariants as publics
use Rattle.reflect_scalar.specs.Keys.{key_view}
use Rattle.reflect_scalar.specs.Meaning.{StandsFor}
use Rattle.reflect_scalar.specs.Singles as held
use Rattle.reflect_scalar.specs.declared.map_key.MapKey.{MapKey}
use Rattle.reflect_message.specs.KindTypes.{IsScalarType}
use Rattle.reflect_message.specs.Known.{entry_field}
use Rattle.reflect_message.specs.Lists.{list_items}
use Rattle.reflect_message.specs.Maps.{map_entries}
use Rattle.reflect_message.specs.Messages.{message_in}
use Rattle.reflect_message.specs.Singles as singles
use Rattle.reflect_message.specs.Names.{DynamicMessage, Value}
use Rattle.reflect_decode.specs.Elements.{AreElements}
use Rattle.reflect_decode.specs.Packed.{IsPacked}
use Rattle.reflect_decode.specs.Scalars.{AreValues, IsLast}
use Rattle.reflect_numbered.specs.Fits.{is_one}
use Rattle.protobuf_model.specs.Scalars.{Suits}
use Rattle.protobuf_model.proofs.Arranged.{all_append}
use Rattle.message_view.specs.Singles.{scalar_of, single_view}

-- ---- values of each sort, of whose messages Q holds

pub data OneLeft (Q : DynamicMessage → Type 0) (pool : PoolType) (t : KindType) (v : Value) : Type 0 where
  single_left : (w : held.Single) → singles.single v ≡ Some w → is_one t w ≡ true → OneLeft Q pool t v
  message_left : (m : DynamicMessage) → message_in v ≡ Some m → IsKind pool (publics.Message m.descriptor) t → Q m → OneLeft Q pool t v

abbrev pub EntryLeft : (DynamicMessage → Type 0) → PoolType → KindType → KindType → MapKey × Value → Type 0
EntryLeft Q pool keys values e = (is_one keys (key_view e.0) ≡ true) × OneLeft Q pool values e.1

pub data WholeLeft (Q : DynamicMessage → Type 0) (pool : PoolType) (f : FieldType) (v : Value) : Type 0 where
  left_one : holds_map pool f ≡ false → is_repeated f.cardinality ≡ false → OneLeft Q pool f.kind v → WholeLeft Q pool f v
  left_list : holds_map pool f ≡ false → is_repeated f.cardinality ≡ true → (vs : List Value) → list_items v ≡ Some vs → AllByRecursion (OneLeft Q pool f.kind) vs → WholeLeft Q pool f v
  left_map : holds_map pool f ≡ true → (es : List (MapKey × Value)) → map_entries v ≡ Some es
      → (keys values : FieldType) → entry_field pool f.kind 1 ≡ Some keys → entry_field pool f.kind 2 ≡ Some values
      → AllByRecursion (EntryLeft Q pool keys.kind values.kind) es → WholeLeft Q pool f v

-- ---- single values

one_is : (t u : KindType) (w x : held.Single) → t ≡ u → w ≡ x → is_one u x ≡ true → is_one t w ≡ true
one_is t u w x e f h = ap (λ t. is_one t w) e ∙ ap (is_one u) f ∙ h

-- what a payload means as a value of a kind is one of it
stands_one : (pool : PoolType) (kind : Kind) (t : KindType) (p : Payload) (w : held.Single) → IsKind pool kind t → StandsFor kind p w → is_one t w ≡ true
stands_one pool publics.Int32 t (varint n) w is h = one_is t types.int32 w _ is h refl
stands_one pool publics.Int64 t (varint n) w is h = one_is t types.int64 w _ is h refl
stands_one pool publics.Uint32 t (varint n) w is h = one_is t types.uint32 w _ is h refl
stands_one pool publics.Uint64 t (varint n) w is h = one_is t types.uint64 w _ is h refl
stands_one pool publics.Sint32 t (varint n) w is h = one_is t types.sint32 w _ is h.2 refl
stands_one pool publics.Sint64 t (varint n) w is h = one_is t types.sint64 w _ is h.2 refl
stands_one pool publics.Bool t (varint n) w is h = one_is t types.bool w _ is h refl
stands_one pool (publics.Enum e) t (varint n) w is h = one_is t (types.enumeration e.index) w _ is.1 h refl
stands_one pool publics.Fixed32 t (fixed32 n) w is h = one_is t types.fixed32 w _ is h refl
stands_one pool publics.Sfixed32 t (fixed32 n) w is h = one_is t types.sfixed32 w _ is h refl
stands_one pool publics.Fixed64 t (fixed64 n) w is h = one_is t types.fixed64 w _ is h refl
stands_one pool publics.Sfixed64 t (fixed64 n) w is h = one_is t types.sfixed64 w _ is h refl
stands_one pool publics.String t (delimited p) w is h = one_is t types.string w _ is h.1 refl
stands_one pool publics.Bytes t (delimited p) w is h = one_is t types.bytes w _ is h refl
stands_one pool kind t p w is h = absurd h

-- and so is one that suits the kind in the model
pub suits_one : (t : KindType) (w : held.Single) → IsScalarType t → Suits (scalar_of t) (single_view w) → is_one t w ≡ true
suits_one types.double w type h = absurd type
suits_one types.float w type h = absurd type
suits_one (types.message i) w type h = absurd type
suits_one types.int32 (held.int32 z) type h = refl
suits_one types.sint32 (held.int32 z) type h = refl
suits_one types.sfixed32 (held.int32 z) type h = refl
suits_one types.int64 (held.int64 z) type h = refl
suits_one types.sint64 (held.int64 z) type h = refl
suits_one types.sfixed64 (held.int64 z) type h = refl
suits_one types.uint32 (held.uint32 n) type h = refl
suits_one types.fixed32 (held.uint32 n) type h = refl
suits_one types.uint64 (held.uint64 n) type h = refl
suits_one types.fixed64 (held.uint64 n) type h = refl
suits_one types.bool (held.truth b) type h = refl
suits_one types.string (held.text s) type h = refl
suits_one types.bytes (held.blob b) type h = refl
suits_one (types.enumeration i) (held.enumerated z) type h = refl
suits_one t w type h = absurd h

module _ (pool : PoolType) (t : KindType) where
  abbrev AreOnes : List held.Single → Type 0
  AreOnes ws = AllByRecursion (λ w. is_one t w ≡ true) ws

  pub last_one : (ps : List Payload) (w : held.Single) → IsLast pool t ps w → is_one t w ≡ true
  last_one ps w (kind, lead, p, is, ends, means) = stands_one pool kind t p w is means

  packed_ones : (kind : Kind) (bytes : List ℕ) (ws : List held.Single) → IsKind pool kind t → IsPacked kind bytes ws → AreOnes ws
  packed_ones kind bytes [] is h = tt
  packed_ones kind bytes (w ∷ ws) is (front, rest, (p, plain_one, means), more, joined) = (stands_one pool kind t p w is means, packed_ones kind rest ws is more)

  element_ones : (kind : Kind) (p : Payload) (ws : List held.Single) → IsKind pool kind t → AreElements kind p ws → AreOnes ws
  element_ones kind p ws is (inl (w, one, means)) = subst AreOnes (sym one) (stands_one pool kind t p w is means, tt)
  element_ones kind p ws is (inr (body, same, packs_it, row)) = packed_ones kind body ws is row

  pub all_ones : (ps : List Payload) (ws : List held.Single) → AreValues pool t ps ws → AreOnes ws
  all_ones [] ws h = subst AreOnes (sym h) tt
  all_ones (p ∷ ps) ws (kind, here, behind, is, elements, rest, whole) =
      subst AreOnes (sym whole) (all_append (λ w. is_one t w ≡ true) here behind (element_ones kind p here is elements) (all_ones ps behind rest))
