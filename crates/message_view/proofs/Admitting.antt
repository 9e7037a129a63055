-- What the type accepts the program accepts.
use Rattle.std.proofs.Common.{◌≡◌, ◌<◌, ◌⊎◌, inl, inr, ℕ, pos, negsuc, zero, suc, ◌==◌, ◌/◌, ◌%◌, Bool, true, false, true≢false, cond, ◌&&◌, List, [], ◌∷◌, length, Option, Some, None, refl, sym, ap, ◌∙◌, subst, arith}
use Rattle.std.specs.List.{AllByRecursion, find}
use Rattle.std.specs.Option.{option_and_then, option_or}
use Rattle.std.specs.Prelude.{slice_index_or}
use Rattle.reflect_tables.specs.Types.{PoolType, FieldType, KindType, MessageType, ExtensionType, counts_of, IsWithin, MessageWithin, ExtensionWithin, ArePooled, type_at, no_type}
use Rattle.reflect_tables.specs.Types as types
use Rattle.reflect_tables.specs.declared.tables.Counts.{Counts}
use Rattle.reflect_pool.specs.Kinds.{IsKind}
use Rattle.reflect_pool.specs.Shapes.{is_repeated, holds_list, holds_map}
use Rattle.reflect_pool.specs.declared.kind.Kind.{Kind}
use Rattle.reflect_pool.specs.declared.kind.Kind.TheVariants as publics
use Rattle.reflect_pool.specs.declared.message.MessageDescriptor.{MessageDescriptor}
use Rattle.reflect_wire.specs.Records.{Payload, varint, fixed64, delimited, group, fixed32}
use Rattle.reflect_scalar.specs.Kinds.{kind_type, wire_type, packs}
use Rattle.reflect_scalar.specs.Meaning.{StandsFor}
use Rattle.reflect_scalar.specs.Meaning as means
use Rattle.reflect_scalar.specs.Singles as held
use Rattle.reflect_scalar.proofs.Defaulted.{kind_is}
use Rattle.reflect_message.specs.KindTypes.{IsScalarType, IsMessageType}
use Rattle.reflect_message.specs.Known.{is_float, numbered_field, entry_field, holds_floats, if_held, known_field, known_extension}
use Rattle.reflect_decode.specs.Accepts as decode
use Rattle.reflect_decode.specs.Accepts.{AcceptsMessage}
use Rattle.reflect_decode.specs.Packed as packed
use Rattle.message_laws.specs.MapKeys.{HaveMapKeys}
use Rattle.protobuf_model.specs.Values as model
use Rattle.protobuf_model.specs.Types.{Name, Field, Types, Key, Part, one, many, keyed, scalar}
use Rattle.protobuf_model.specs.Types as kinds
use Rattle.protobuf_model.specs.Scalars.{unzigzag, low, meant, Suits}
use Rattle.protobuf_model.specs.Scalars as scalars
use Rattle.protobuf_model.specs.Reader.{inside, inside_of, row, list_of}
use Rattle.protobuf_model.specs.Meaning.{payloads}
use Rattle.protobuf_model.specs.Accepts.{Acceptable, IsScalar, IsFramed, AcceptsPart, SpellsRow, IsPacked, AcceptsEntryRecord, HasLevel, AcceptsEntry, AcceptsField, AcceptsIn, AcceptsRecord, AcceptsBy, Accepts}
use Rattle.protobuf_model.proofs.Reading.{records_back}
use Rattle.message_view.specs.Singles.{scalar_of}
use Rattle.message_view.specs.Sound.{HaveEntryFields}
use Rattle.message_view.specs.Types.{name_at, frame_of, kind_in, part_of, key_of, entry_part, values_of, label_of, either_field, field_at}
use Rattle.message_view.proofs.Accepting.{accept_of, accepts_at, known_whole, extension_known_whole, not_float}
use Rattle.message_view.proofs.Elements.{kind_scalar, kind_message, wire_same, packs_same}
use Rattle.message_view.proofs.Entries.{Sort, plain, floating, message_type, sort_of, key_scalar, no_float_values, entry_of_map, part_is}
use Rattle.message_view.proofs.Fields.{held_is}
use Rattle.message_view.proofs.Left.{list_is}
use Rattle.message_view.proofs.Oneofs.{payloads_same}

-- the number that is written as another
zigzag_forth : (n : ℕ) → n ≡ means.zigzag (unzigzag n)
zigzag_forth n = by (n % 2 == 0) refl where
  by : (b : Bool) → (n % 2 == 0) ≡ b → n ≡ means.zigzag (cond b (pos (n / 2)) (negsuc (n / 2)))
  by true e = let even : n % 2 ≡ 0 = grind (arith, e) in omega (arith, even)
  by false e = let odd : n % 2 ≡ 1 = grind (arith, e) in omega (arith, odd)

-- what a payload means as a value of the kind
means_back : (kind : Kind) (p : Payload) (v : model.Single) → IsScalarType (kind_type kind) → meant (scalar_of (kind_type kind)) p ≡ v ∷ [] → Suits (scalar_of (kind_type kind)) v → (w : held.Single) × StandsFor kind p w
means_back publics.Double p v type e s = absurd type
means_back publics.Float p v type e s = absurd type
means_back (publics.Message d) p v type e s = absurd type
means_back publics.Int32 (varint n) v type e s = (_, refl)
means_back publics.Int64 (varint n) v type e s = (_, refl)
means_back publics.Uint32 (varint n) v type e s = (_, refl)
means_back publics.Uint64 (varint n) v type e s = (_, refl)
means_back publics.Sint32 (varint n) v type e s = (_, (unzigzag (low n), zigzag_forth (low n), refl))
means_back publics.Sint64 (varint n) v type e s = (_, (unzigzag n, zigzag_forth n, refl))
means_back publics.Bool (varint n) v type e s = (_, refl)
means_back (publics.Enum d) (varint n) v type e s = (_, refl)
means_back publics.Fixed32 (fixed32 n) v type e s = (_, refl)
means_back publics.Sfixed32 (fixed32 n) v type e s = (_, refl)
means_back publics.Fixed64 (fixed64 n) v type e s = (_, refl)
means_back publics.Sfixed64 (fixed64 n) v type e s = (_, refl)
means_back publics.String (delimited t) v type e s = let same : model.text t ≡ v = cc e in (_, (subst (Suits kinds.string) (sym same) s, refl))
means_back publics.Bytes (delimited b) v type e s = (_, refl)
means_back kind p v type e s = absurd (cc e)

rows_back : (kind : Kind) (bytes : List ℕ) (ps : List Payload) → IsScalarType (kind_type kind) → SpellsRow (scalars.wire_type (scalar_of (kind_type kind))) bytes ps → AllByRecursion (IsScalar (scalar_of (kind_type kind))) ps
    → (vs : List held.Single) × packed.IsPacked kind bytes vs
rows_back kind bytes [] type h k = ([], h)
rows_back kind bytes (p ∷ ps) type h k =
    let value = means_back kind p k.0.0 type k.0.1 k.0.2 in
    let later = rows_back kind h.1 ps type h.4 k.1 in
    (value.0 ∷ later.0, (h.0, h.1, (p, (wire_same kind ∙ sym h.2, h.3), value.1), later.1, h.5))

-- each kind of a pool is a public one
kind_for : (d : MessageDescriptor) (t : KindType) → IsWithin (counts_of d.pool.now) t → (kind : Kind) × IsKind d.pool.now kind t
kind_for d types.double h = (publics.Double, refl)
kind_for d types.float h = (publics.Float, refl)
kind_for d types.int32 h = (publics.Int32, refl)
kind_for d types.int64 h = (publics.Int64, refl)
kind_for d types.uint32 h = (publics.Uint32, refl)
kind_for d types.uint64 h = (publics.Uint64, refl)
kind_for d types.sint32 h = (publics.Sint32, refl)
kind_for d types.sint64 h = (publics.Sint64, refl)
kind_for d types.fixed32 h = (publics.Fixed32, refl)
kind_for d types.fixed64 h = (publics.Fixed64, refl)
kind_for d types.sfixed32 h = (publics.Sfixed32, refl)
kind_for d types.sfixed64 h = (publics.Sfixed64, refl)
kind_for d types.bool h = (publics.Bool, refl)
kind_for d types.string h = (publics.String, refl)
kind_for d types.bytes h = (publics.Bytes, refl)
kind_for d (types.message i) h = (publics.Message (record { pool = d.pool; index = i; in_range = h }), (refl, refl))
kind_for d (types.enumeration i) h = (publics.Enum (record { pool = d.pool; index = i; in_range = h }), (refl, refl))

-- what a list has for each of its elements it has for those that are found
pub found_holds : {X : Type 0} (P : X → Type 0) (test : X → Bool) (xs : List X) (x : X) → AllByRecursion P xs → find test xs ≡ Some x → P x
found_holds P test [] x h e = absurd (cc e)
found_holds P test (y ∷ ys) x h e = by (λ k. found_holds P test ys x h.1 k) (test y) refl where
  by : (find test ys ≡ Some x → P x) → (b : Bool) → test y ≡ b → P x
  by later true is = let same : y ≡ x = cc (sym (ap (λ b. cond b (Some y) (find test ys)) is) ∙ e) in subst P same h.0
  by later false is = later (sym (ap (λ b. cond b (Some y) (find test ys)) is) ∙ e)

type_within : (c : Counts) (ms : List MessageType) (i : ℕ) → AllByRecursion (MessageWithin c) ms → AllByRecursion (λ (f : FieldType). IsWithin c f.kind) (slice_index_or ms i no_type).fields
type_within c [] i h = tt
type_within c (m ∷ ms) zero h = h.0.fields
type_within c (m ∷ ms) (suc i) h = type_within c ms i h.1

field_within : (pool : PoolType) → ArePooled pool → (i n : ℕ) (g : FieldType) → numbered_field pool i n ≡ Some g → IsWithin (counts_of pool) g.kind
field_within pool pooled i n g e = found_holds (λ (f : FieldType). IsWithin (counts_of pool) f.kind) (λ f. f.number == n) (type_at pool i).fields g (type_within (counts_of pool) pool.messages i pooled.messages) e

entry_within : (pool : PoolType) → ArePooled pool → (t : KindType) (n : ℕ) (g : FieldType) → entry_field pool t n ≡ Some g → IsWithin (counts_of pool) g.kind
entry_within pool pooled (types.message i) n g e = field_within pool pooled i n g e
entry_within pool pooled t n g e = absurd (cc e)

-- what is known of messages one level below
pub record Takes (pool : PoolType) (coded : decode.Acceptable) (accept : Acceptable) : Type 0 where
  pub messages : (grouped : Bool) (d : MessageDescriptor) → d.pool.now ≡ pool → (p : Payload) → accept (frame_of grouped) (name_at pool d.index) p → coded grouped d.pool.now d.index p

module _ (d : MessageDescriptor) (pooled : ArePooled d.pool.now) (coded : decode.Acceptable) (accept : Acceptable) (levels : ℕ) (takes : Takes d.pool.now coded accept) where
  abbrev pool : PoolType
  pool = d.pool.now

  single_taken : (t : KindType) (kind : Kind) (p : Payload) → IsKind pool kind t → IsScalarType t → IsScalar (scalar_of t) p → (v : held.Single) × StandsFor kind p v
  single_taken t kind p is type h =
      let same = kind_is pool kind t is in
      let there = subst (λ t. IsScalar (scalar_of t) p) same h in
      means_back kind p there.0 (subst IsScalarType same type) there.1 there.2

  kind_taken : (g : Bool) (t : KindType) (kind : Kind) (p : Payload) → IsKind pool kind t → is_float t ≡ false → AcceptsPart accept (kind_in pool g t) p → decode.AcceptsKind coded g kind p
  kind_taken g t (publics.Message m) p is whole h = takes.messages g m is.0 p (subst (λ k. AcceptsPart accept k p) (kind_message pool g t m.index is.1) h)
  kind_taken g t publics.Double p is whole h = absurd (true≢false (sym (ap is_float is) ∙ whole))
  kind_taken g t publics.Float p is whole h = absurd (true≢false (sym (ap is_float is) ∙ whole))
  kind_taken g t (publics.Enum m) p is whole h = let type = subst IsScalarType (sym is.1) tt in single_taken t (publics.Enum m) p is type (subst (λ k. AcceptsPart accept k p) (kind_scalar pool g t type) h)
  kind_taken g t kind p is whole h = let type = subst IsScalarType (sym is) tt in single_taken t kind p is type (subst (λ k. AcceptsPart accept k p) (kind_scalar pool g t type) h)

  one_taken : (f : FieldType) (p : Payload) → IsWithin (counts_of pool) f.kind → is_float f.kind ≡ false → AcceptsPart accept (kind_in pool f.group f.kind) p → decode.AcceptsOne coded pool f p
  one_taken f p within whole h = let kind = kind_for d f.kind within in (kind.0, kind.1, kind_taken f.group f.kind kind.0 p kind.1 whole h)

  packed_taken : (kind : Kind) (s : kinds.Scalar) (p : Payload) → IsScalarType (kind_type kind) → s ≡ scalar_of (kind_type kind) → IsPacked (scalar s) p → (body : List ℕ) × (vs : List held.Single) × (p ≡ delimited body) × (packs (wire_type kind) ≡ true) × packed.IsPacked kind body vs
  packed_taken kind s (delimited body) type same h =
      let there = subst (λ s. IsPacked (scalar s) (delimited body)) same h in
      let rows = rows_back kind body (row (scalars.wire_type (scalar_of (kind_type kind))) body) type there.1 there.2 in
      (body, rows.0, refl, packs_same kind ∙ there.0, rows.1)
  packed_taken kind s p type same h = absurd h

  listed_taken : (f : FieldType) (p : Payload) → IsWithin (counts_of pool) f.kind → is_float f.kind ≡ false
      → AcceptsPart accept (kind_in pool f.group f.kind) p ⊎ IsPacked (kind_in pool f.group f.kind) p → decode.AcceptsListed coded pool f p
  listed_taken f p within whole (inl h) = let k = one_taken f p within whole h in (k.0, k.1, inl k.2)
  listed_taken f p within whole (inr h) = by (sort_of f.kind) where
    kind : (kind : Kind) × IsKind pool kind f.kind
    kind = kind_for d f.kind within

    no_row : (t : KindType) → IsMessageType t → IsPacked (kind_in pool f.group t) p → ⊥
    no_row (types.message i) type k = k
    no_row t type k = absurd type

    by : Sort f.kind → decode.AcceptsListed coded pool f p
    by (floating e) = absurd (true≢false (sym e ∙ whole))
    by (message_type type) = absurd (no_row f.kind type h)
    by (plain type) =
        let same = kind_is pool kind.0 f.kind kind.1 in
        let r = packed_taken kind.0 (scalar_of f.kind) p (subst IsScalarType same type) (ap scalar_of same) (subst (λ k. IsPacked k p) (kind_scalar pool f.group f.kind type) h) in
        (kind.0, kind.1, inr (r.1, (r.0, r.2, r.3, r.4)))

  -- the payloads of a number of an entry's records
  entry_payloads : (P : Payload → Type 0) (Q : ℕ × Payload → Type 0) (n : ℕ) → ((r : ℕ × Payload) → r.0 ≡ n → Q r → P r.1) → (rs : List (ℕ × Payload)) → AllByRecursion Q rs → AllByRecursion P (payloads n rs)
  entry_payloads P Q n to [] h = tt
  entry_payloads P Q n to (r ∷ rs) h = by (r.0 == n) refl (entry_payloads P Q n to rs h.1) where
    by : (b : Bool) → (r.0 == n) ≡ b → AllByRecursion P (payloads n rs) → AllByRecursion P (cond b (r.1 ∷ payloads n rs) (payloads n rs))
    by true is rest = (to r (grind (arith, is)) h.0, rest)
    by false is rest = rest

  key_record : (key : Key) (part : Part) (n : ℕ) (p : Payload) → n ≡ 1 → AcceptsEntryRecord accept key part (n, p) → IsScalar key.kind p
  key_record key part n p e h = subst (λ n. AcceptsEntryRecord accept key part (n, p)) e h

  value_record : (key : Key) (part : Part) (n : ℕ) (p : Payload) → n ≡ 2 → AcceptsEntryRecord accept key part (n, p) → AcceptsPart accept part.kind p
  value_record key part n p e h = subst (λ n. AcceptsEntryRecord accept key part (n, p)) e h

  level_taken : (g : Bool) (t : KindType) → HasLevel levels (kind_in pool g t) → IsMessageType t → 0 < levels
  level_taken g (types.message i) h type = h
  level_taken g t h type = absurd type

  entry_taken : HaveMapKeys pool → HaveEntryFields pool → (f : FieldType) → holds_floats pool f ≡ false → holds_map pool f ≡ true → (p : Payload) → AcceptsEntry accept levels (key_of pool (entry_part pool f 1)) (part_of pool (entry_part pool f 2)) p
      → decode.AcceptsEntry levels coded pool f.kind p
  entry_taken keyed_maps parts f whole is_map (delimited body) h =
      let there = parts f.kind (entry_of_map pool f is_map) in
      let keys = there.0 in
      let values = there.1 in
      let type = key_scalar keys.kind (keyed_maps f.kind keys (entry_of_map pool f is_map) there.2).0 in
      let rs = inside body in
      let at : AcceptsEntry accept levels (key_of pool keys) (part_of pool values) (delimited body) =
      subst (λ g. AcceptsEntry accept levels (key_of pool keys) (part_of pool g) (delimited body)) (part_is pool f 2 values there.3)
      (subst (λ g. AcceptsEntry accept levels (key_of pool g) (part_of pool (entry_part pool f 2)) (delimited body)) (part_is pool f 1 keys there.2) h) in
      let key_ones = entry_payloads (decode.AcceptsOne coded pool keys) (AcceptsEntryRecord accept (key_of pool keys) (part_of pool values)) 1
      (λ r is k. one_taken keys r.1 (entry_within pool pooled f.kind 1 keys there.2) (scalar_whole keys.kind type) (subst (λ k. AcceptsPart accept k r.1) (sym (kind_scalar pool keys.group keys.kind type)) (key_record (key_of pool keys) (part_of pool values) r.0 r.1 is k))) rs at.2 in
      let value_ones = entry_payloads (decode.AcceptsOne coded pool values) (AcceptsEntryRecord accept (key_of pool keys) (part_of pool values)) 2
      (λ r is k. one_taken values r.1 (entry_within pool pooled f.kind 2 values there.3) (no_float_values pool f values whole is_map there.3) (value_record (key_of pool keys) (part_of pool values) r.0 r.1 is k)) rs at.2 in
      (keys, values, rs, there.2, there.3, at.1, level_taken values.group values.kind at.0, subst (AllByRecursion (decode.AcceptsOne coded pool keys)) (sym (payloads_same 1 rs)) key_ones, subst (AllByRecursion (decode.AcceptsOne coded pool values)) (sym (payloads_same 2 rs)) value_ones) where
        scalar_whole : (t : KindType) → IsScalarType t → is_float t ≡ false
        scalar_whole types.double type = absurd type
        scalar_whole types.float type = absurd type
        scalar_whole t type = refl
  entry_taken keyed_maps parts f whole is_map p h = absurd h

  abbrev From : FieldType → Payload → Bool → Bool → Type 0
  From f p map_too repeated =
      AcceptsField accept levels (part_of pool (cond map_too (entry_part pool f 2) f)) (cond map_too (keyed (key_of pool (entry_part pool f 1))) (cond repeated (many f.packed) one)) p

  field_taken : HaveMapKeys pool → HaveEntryFields pool → (f : FieldType) → holds_floats pool f ≡ false → IsWithin (counts_of pool) f.kind → (p : Payload) → AcceptsField accept levels (part_of pool (values_of pool f)) (label_of pool f) p
      → decode.AcceptsField levels coded pool f p
  field_taken keyed_maps parts f whole within p h = by (holds_map pool f) refl where
    listed : (b : Bool) → From f p false b → decode.AcceptsAs levels coded pool f false b p
    listed true k = listed_taken f p within (not_float pool f whole) k
    listed false k = one_taken f p within (not_float pool f whole) k

    by : (b : Bool) → holds_map pool f ≡ b → decode.AcceptsAs levels coded pool f (holds_map pool f) (holds_list pool f) p
    by true is =
        let here : From f p true (is_repeated f.cardinality) = subst (λ b. From f p b (is_repeated f.cardinality)) is h in
        subst (λ b. decode.AcceptsAs levels coded pool f b (holds_list pool f) p) (sym is) (entry_taken keyed_maps parts f whole is p here)
    by false is =
        let list = list_is pool f (holds_list pool f) is refl in
        let here : From f p false (is_repeated f.cardinality) = subst (λ b. From f p b (is_repeated f.cardinality)) is h in
        subst (λ b. decode.AcceptsAs levels coded pool f b (holds_list pool f) p) (sym is) (listed (holds_list pool f) (subst (From f p false) list here))

  known_within : (n : ℕ) (g : FieldType) → known_field pool d.index n ≡ Some g → IsWithin (counts_of pool) g.kind
  known_within n g e = by (numbered_field pool d.index n) refl where
    by : (o : Option FieldType) → numbered_field pool d.index n ≡ o → IsWithin (counts_of pool) g.kind
    by None is = absurd (cc (sym (ap (option_and_then (if_held pool)) is) ∙ e))
    by (Some h) is = subst (λ (t : FieldType). IsWithin (counts_of pool) t.kind) (held_is pool h g (sym (ap (option_and_then (if_held pool)) is) ∙ e)).1 (field_within pool pooled d.index n h is)

  extension_known_within : (n : ℕ) (g : FieldType) → known_extension pool d.index n ≡ Some g → IsWithin (counts_of pool) g.kind
  extension_known_within n g e = by (find (λ (x : ExtensionType). (x.extendee == d.index) && (x.field.number == n)) pool.extensions) refl where
    by : (o : Option ExtensionType) → find (λ (x : ExtensionType). (x.extendee == d.index) && (x.field.number == n)) pool.extensions ≡ o → IsWithin (counts_of pool) g.kind
    by None is = absurd (cc (sym (ap (option_and_then (λ (x : ExtensionType). if_held pool x.field)) is) ∙ e))
    by (Some y) is =
        let kept = held_is pool y.field g (sym (ap (option_and_then (λ (x : ExtensionType). if_held pool x.field)) is) ∙ e) in
        let at = found_holds (ExtensionWithin (counts_of pool)) (λ (x : ExtensionType). (x.extendee == d.index) && (x.field.number == n)) pool.extensions y pooled.extensions is in
        subst (λ (t : FieldType). IsWithin (counts_of pool) t.kind) kept.1 at.kind

  -- a record of the message
  record_taken : HaveMapKeys pool → HaveEntryFields pool → (type : ℕ → Option Field) → ((n : ℕ) → type n ≡ field_at pool d.index n) → (r : ℕ × Payload) → AcceptsRecord accept levels type r → decode.AcceptsRecord levels coded pool d.index r
  record_taken keyed_maps parts type told r h = by (known_field pool d.index r.0) refl (known_extension pool d.index r.0) refl (subst (λ o. AcceptsIn accept levels o r.1) (told r.0) h.suits) where
    by : (f : Option FieldType) → known_field pool d.index r.0 ≡ f → (x : Option FieldType) → known_extension pool d.index r.0 ≡ x → AcceptsIn accept levels (either_field pool d.index f x) r.1 → decode.AcceptsIf levels coded pool (option_or f x) r.1
    by (Some g) is x also k = field_taken keyed_maps parts g (known_whole d r.0 g is) (known_within r.0 g is) r.1 k
    by None none (Some g) is k = field_taken keyed_maps parts g (extension_known_whole d r.0 g is) (extension_known_within r.0 g is) r.1 k
    by None none None also k = tt

  pub all_taken : HaveMapKeys pool → HaveEntryFields pool → (types_of : Types) → ((n : ℕ) → types_of (name_at pool d.index) n ≡ field_at pool d.index n) → (rs : List (ℕ × Payload)) → AcceptsBy accept levels types_of (name_at pool d.index) rs
      → AllByRecursion (decode.AcceptsRecord levels coded pool d.index) rs
  all_taken keyed_maps parts types_of told [] h = tt
  all_taken keyed_maps parts types_of told (r ∷ rs) h = (record_taken keyed_maps parts (types_of (name_at pool d.index)) told r h.0, all_taken keyed_maps parts types_of told rs h.1)

module _ (pool : PoolType) (pooled : ArePooled pool) (keyed_maps : HaveMapKeys pool) (parts : HaveEntryFields pool) (types_of : Types) (told : (i n : ℕ) → i < length pool.messages → types_of (name_at pool i) n ≡ field_at pool i n) where
  whole : (levels : ℕ) → Takes pool (AcceptsMessage levels) (accept_of levels types_of) → (d : MessageDescriptor) → d.pool.now ≡ pool → (rs : List (ℕ × Payload)) → Accepts levels types_of (name_at pool d.index) rs → decode.Accepts levels d rs
  whole levels takes d there rs h =
      let here = sym there in
      let all = subst (λ (a : Name → List (ℕ × Payload) → Type 0). a (name_at d.pool.now d.index) rs) (accepts_at levels types_of) (subst (λ p. Accepts levels types_of (name_at p d.index) rs) here h) in
      all_taken d (subst ArePooled here pooled) (AcceptsMessage levels) (accept_of levels types_of) levels (subst (λ p. Takes p (AcceptsMessage levels) (accept_of levels types_of)) here takes)
      (subst HaveMapKeys here keyed_maps) (subst HaveEntryFields here parts) types_of
      (λ n. subst (λ p. types_of (name_at p d.index) n ≡ field_at p d.index n) here (told d.index n (subst (λ p. d.index < length p.messages) there d.in_range))) rs all

  takes_at : (levels : ℕ) → Takes pool (AcceptsMessage levels) (accept_of levels types_of)
  takes_at zero = record { messages = λ grouped d there p h. absurd h }
  takes_at (suc levels) = record { messages = λ grouped d there p h. by (takes_at levels) grouped d there p h.0 h.1 } where
    by : Takes pool (AcceptsMessage levels) (accept_of levels types_of) → (grouped : Bool) (d : MessageDescriptor) → d.pool.now ≡ pool → (p : Payload) → IsFramed levels (frame_of grouped) p → Accepts levels types_of (name_at pool d.index) (inside_of p)
        → AcceptsMessage (suc levels) grouped d.pool.now d.index p
    by below false d there (delimited body) framed h = (inside body, framed, whole levels below d there (inside body) h)
    by below true d there (group within) framed h = (list_of within, sym (records_back within), whole levels below d there (list_of within) h)
    by below false d there p framed h = absurd framed
    by below true d there p framed h = absurd framed

  -- records that the type accepts
  pub admitted : (levels : ℕ) (d : MessageDescriptor) → d.pool.now ≡ pool → (rs : List (ℕ × Payload)) → Accepts levels types_of (name_at pool d.index) rs → decode.Accepts levels d rs
  admitted levels d there rs h = whole levels (takes_at levels) d there rs h
