-- The bytes of what fields hold, in the program's words and in the model's.
use Rattle.std.proofs.Common.{◌≡◌, ◌⊎◌, inl, inr, ℕ, ℤ, ◌==◌, Bool, true, false, true≢false, cond, not, ◌&&◌, ◌||◌, List, [], ◌∷◌, ◌++◌, map, Option, Some, None, Ordering, Less, Equal, Greater, refl, sym, ap, ◌∙◌, subst, append-nil, arith}
use Rattle.std.specs.Bool.{beq}
use Rattle.std.specs.List.{AllByRecursion, find, flat_map}
use Rattle.std.specs.Ordering.{int_cmp, int_eq, is_eq}
use Rattle.protobuf_model.specs.Keys.{below_int}
use Rattle.reflect_tables.specs.Types.{PoolType, FieldType, KindType, type_at}
use Rattle.reflect_tables.specs.Types as types
use Rattle.reflect_pool.specs.Kinds.{IsKind}
use Rattle.reflect_pool.specs.Shapes.{is_entry, is_repeated, holds_list, holds_map}
use Rattle.reflect_pool.specs.declared.kind.Kind.TheVariants as publics
use Rattle.reflect_wire.specs.Records.{Payload, varint, delimited, group, key_of}
use Rattle.reflect_wire.specs.declared.wire_key.WireType.TheVariants.{StartGroup, EndGroup}
use Rattle.reflect_wire.specs.Views.{records_of}
use Rattle.reflect_wire.specs.Encoding.{key_bytes, payload_bytes, field_bytes, records_bytes}
use Rattle.reflect_codec.specs.Fields.{payload_field}
use Rattle.reflect_scalar.specs.Defaults.{same_single}
use Rattle.reflect_scalar.specs.Keys.{key_view}
use Rattle.reflect_scalar.specs.Singles as held
use Rattle.reflect_scalar.specs.Written.{plain_bytes}
use Rattle.reflect_scalar.specs.declared.map_key.MapKey.{MapKey}
use Rattle.reflect_message.specs.Bytes.{payload_in, record_in, bare_in, framed, Form, is_default, content_bytes, list_bytes, row_in, list_form, key_part, entry_bytes, map_bytes, map_form, form_of, message_bytes}
use Rattle.reflect_message.specs.KindTypes.{IsScalarType, IsMessageType}
use Rattle.reflect_message.specs.Known.{is_float, entry_field, holds_floats}
use Rattle.reflect_message.specs.Lists.{list_items}
use Rattle.reflect_message.specs.Maps.{map_entries}
use Rattle.reflect_message.specs.Names.{DynamicMessage, Value}
use Rattle.message_laws.specs.MapKeys.{HaveMapKeys}
use Rattle.protobuf_model.specs.Values.{Single, Content, single, message, list, dictionary, Held, content, Message, absent, chain_of, entries_of}
use Rattle.protobuf_model.specs.Types.{Name, nested, one, many, keyed, Types}
use Rattle.protobuf_model.specs.Scalars.{written_as, same, same_int, same_bool}
use Rattle.protobuf_model.specs.Bytes.{numbered, in_kind, in_frame, is_packable, bare, unless_default, entry_records, payloads_in, payloads_under, each_payload, entry_payloads, written, bytes_of}
use Rattle.protobuf_model.proofs.Bridge.{bytes_join}
use Rattle.protobuf_model.proofs.Pieces.{map_append, flat_map-append}
use Rattle.message_view.specs.Shaped.{FitsOne, FitsAs}
use Rattle.message_view.specs.Singles.{scalar_of, single_view}
use Rattle.message_view.specs.Sound.{HaveEntryFields}
use Rattle.message_view.specs.Types.{name_at, frame_of, kind_in, default_of, part_of, key_of as key_at, entry_part, field_of}
use Rattle.message_view.specs.Views.{held_in, content_view, view}
use Rattle.message_view.proofs.Scalars.{zigzag_same}
use Rattle.message_view.proofs.Accepting.{not_float}
use Rattle.message_view.proofs.Elements.{kind_scalar, kind_message}
use Rattle.message_view.proofs.Entries.{Sort, plain, floating, message_type, sort_of, key_scalar, no_float_values, entry_of_map, part_is, some_default, default_is}
use Rattle.message_view.proofs.Forms.{single_form_seen, message_form_seen, list_form_seen, forms_of, map_form_seen}
use Rattle.message_view.proofs.Keys.{Says, int_says, key_single}
use Rattle.message_view.proofs.Left.{list_is}
use Rattle.message_view.proofs.Seen.{single_seen, message_seen, list_seen, pairs_view, map_seen}

-- the bytes of records
abbrev pub bytes : List (ℕ × Payload) → List ℕ
bytes rs = records_bytes (records_of rs)

abbrev listed : Option Payload → List Payload
listed None = []
listed (Some p) = p ∷ []

-- the payload of a single value
payload_same : (t : KindType) (w : held.Single) → IsScalarType t → listed (payload_in t w) ≡ written_as (scalar_of t) (single_view w)
payload_same types.double w h = absurd h
payload_same types.float w h = absurd h
payload_same (types.message i) w h = absurd h
payload_same types.sint32 (held.int32 z) h = ap (λ n. varint n ∷ []) (zigzag_same z)
payload_same types.sint64 (held.int64 z) h = ap (λ n. varint n ∷ []) (zigzag_same z)
payload_same t (held.truth b) h = refl
payload_same t (held.int32 z) h = refl
payload_same t (held.int64 z) h = refl
payload_same t (held.uint32 n) h = refl
payload_same t (held.uint64 n) h = refl
payload_same t (held.text s) h = refl
payload_same t (held.blob b) h = refl
payload_same t (held.enumerated z) h = refl

-- its record, and its bytes in a packed one
record_same : (t : KindType) (n : ℕ) (w : held.Single) → IsScalarType t → record_in t n (Some w) ≡ bytes (numbered n (written_as (scalar_of t) (single_view w)))
record_same t n w h = by (payload_in t w) ∙ ap (λ ps. bytes (numbered n ps)) (payload_same t w h) where
  by : (o : Option Payload) → ◌≡◌ {A = List ℕ} (elim o [ None ↦ [] | Some p ↦ field_bytes (n, p) ]) (bytes (numbered n (listed o)))
  by None = refl
  by (Some p) = sym (append-nil (field_bytes (n, p)))

bare_same : (t : KindType) (w : held.Single) → IsScalarType t → bare_in t (Some w) ≡ bare (written_as (scalar_of t) (single_view w))
bare_same t w h = by (payload_in t w) ∙ ap bare (payload_same t w h) where
  by : (o : Option Payload) → ◌≡◌ {A = List ℕ} (elim o [ None ↦ [] | Some p ↦ plain_bytes p ]) (bare (listed o))
  by None = refl
  by (Some p) = sym (append-nil (plain_bytes p))

-- two values are the same by one test exactly if they are by the other
same_truth : (a b : Bool) → beq a b ≡ same_bool a b
same_truth true true = refl
same_truth true false = refl
same_truth false true = refl
same_truth false false = refl

same_number : (y z : ℤ) → int_eq y z ≡ same_int y z
same_number y z = by (int_cmp y z) (int_says y z) where
  by : (o : Ordering) → Says o (same_int y z) (below_int y z) → is_eq o ≡ same_int y z
  by Less t = sym t.0
  by Equal t = sym t
  by Greater t = sym t.0

same_value : (v w : held.Single) → same_single v w ≡ same (single_view v) (single_view w)
same_value (held.truth a) (held.truth b) = same_truth a b
same_value (held.int32 a) (held.int32 b) = same_number a b
same_value (held.int64 a) (held.int64 b) = same_number a b
same_value (held.enumerated a) (held.enumerated b) = same_number a b
same_value (held.uint32 a) (held.uint32 b) = refl
same_value (held.uint64 a) (held.uint64 b) = refl
same_value (held.text a) (held.text b) = refl
same_value (held.blob a) (held.blob b) = refl
same_value v w = refl

pub default_same : (pool : PoolType) (f : FieldType) (w : held.Single) → IsScalarType f.kind → is_default pool f (Some w) ≡ same (single_view w) (default_of pool f)
default_same pool f w type =
    let d = some_default pool f type in
    ap (λ o. elim o [ None ↦ false | Some d ↦ same_single w d ]) d.1 ∙ same_value w d.0 ∙ ap (same (single_view w)) (sym (default_is pool f d.0 d.1))

pub or_true : (b : Bool) → (b || true) ≡ true
or_true true = refl
or_true false = refl

-- a message's records in its frame
framed_same : (f : FieldType) (u : Name) (rs : List (ℕ × Payload)) → framed f (bytes rs) ≡ bytes (numbered f.number (in_frame (nested (frame_of f.group) u) rs))
framed_same f u rs = by f.group where
  by : (g : Bool) → ◌≡◌ {A = List ℕ} (cond g (key_bytes (key_of f.number StartGroup) ++ (bytes rs ++ key_bytes (key_of f.number EndGroup))) (payload_field f.number (bytes rs))) (bytes (numbered f.number (in_frame (nested (frame_of g) u) rs)))
  by true = sym (append-nil (field_bytes (f.number, group (records_of rs))))
  by false = sym (append-nil (field_bytes (f.number, delimited (bytes rs))))

bytes_numbered : (n : ℕ) (a b : List Payload) → bytes (numbered n (a ++ b)) ≡ bytes (numbered n a) ++ bytes (numbered n b)
bytes_numbered n a b = ap bytes (map_append (λ p. (n, p)) a b) ∙ bytes_join (numbered n a) (numbered n b)

-- the number of a part of an entry
find_passes : {X : Type 0} (test : X → Bool) (xs : List X) (x : X) → find test xs ≡ Some x → test x ≡ true
find_passes test [] x e = absurd (cc e)
find_passes test (y ∷ ys) x e = by (λ k. find_passes test ys x k) (test y) refl where
  by : (find test ys ≡ Some x → test x ≡ true) → (b : Bool) → test y ≡ b → test x ≡ true
  by later true is = let same : y ≡ x = cc (sym (ap (λ b. cond b (Some y) (find test ys)) is) ∙ e) in ap test (sym same) ∙ is
  by later false is = later (sym (ap (λ b. cond b (Some y) (find test ys)) is) ∙ e)

entry_number : (pool : PoolType) (t : KindType) (n : ℕ) (g : FieldType) → entry_field pool t n ≡ Some g → g.number ≡ n
entry_number pool (types.message i) n g e = let passes = find_passes (λ (f : FieldType). f.number == n) (type_at pool i).fields g e in grind (arith, passes)
entry_number pool t n g e = absurd (cc e)

module _ (pool : PoolType) (types_of : Types) (inner : DynamicMessage → Type 0) (inner_bytes : (m : DynamicMessage) → m.descriptor.pool.now ≡ pool → inner m → message_bytes m ≡ bytes_of types_of (name_at pool m.descriptor.index) (view m)) where
  abbrev payloads_one : FieldType → Content → List Payload
  payloads_one f c = payloads_in types_of (part_of pool f) one c

  single_payloads : (f : FieldType) (w : held.Single) → IsScalarType f.kind → payloads_one f (single (single_view w)) ≡ written_as (scalar_of f.kind) (single_view w)
  single_payloads f w type = ap (λ k. in_kind k (single_view w)) (kind_scalar pool f.group f.kind type)

  -- a message
  message_one : (f : FieldType) (m : DynamicMessage) → IsKind pool (publics.Message m.descriptor) f.kind → inner m → framed f (message_bytes m) ≡ bytes (numbered f.number (payloads_one f (message (view m))))
  message_one f m is fits =
      let u = name_at pool m.descriptor.index in
      ap (framed f) (inner_bytes m is.0 fits) ∙ framed_same f u (written types_of u (view m))
      ∙ sym (ap (λ k. bytes (numbered f.number (payloads_in types_of (record { kind = k; presence = f.presence; default = default_of pool f }) one (message (view m))))) (kind_message pool f.group f.kind m.descriptor.index is.1))

  -- one value, as it stands in a list
  one_bytes : (f : FieldType) (v : Value) → is_float f.kind ≡ false → FitsOne inner pool f v → (form_of v).one f ≡ bytes (numbered f.number (payloads_one f (content_view v)))
  one_bytes f v whole fits = by (sort_of f.kind) where
    by : Sort f.kind → (form_of v).one f ≡ bytes (numbered f.number (payloads_one f (content_view v)))
    by (floating e) = absurd (true≢false (sym e ∙ whole))
    by (plain type) =
        let w = fits.plain type in
        ap (λ (g : Form). g.one f) (single_form_seen v w.0 w.1) ∙ record_same f.kind f.number w.0 type
        ∙ sym (ap (λ c. bytes (numbered f.number (payloads_one f c))) (single_seen v w.0 w.1) ∙ ap (λ ps. bytes (numbered f.number ps)) (single_payloads f w.0 type))
    by (message_type type) =
        let m = fits.nested type in
        ap (λ (g : Form). g.one f) (message_form_seen v m.0 m.1) ∙ message_one f m.0 m.2 m.3
        ∙ sym (ap (λ c. bytes (numbered f.number (payloads_one f c))) (message_seen v m.0 m.1))

  -- and where it is set, as it stands in a field or in an entry
  set_bytes : (f : FieldType) (v : Value) → is_float f.kind ≡ false → FitsOne inner pool f v
      → content_bytes pool f (form_of v) ≡ bytes (numbered f.number (unless_default f.presence (default_of pool f) (content_view v) (payloads_one f (content_view v))))
  set_bytes f v whole fits = by (sort_of f.kind) where
    unset : (b : Bool) (bs : List ℕ) (ps : List Payload) → bs ≡ bytes (numbered f.number ps) → cond b bs [] ≡ bytes (numbered f.number (cond b ps []))
    unset true bs ps e = e
    unset false bs ps e = refl

    by : Sort f.kind → content_bytes pool f (form_of v) ≡ bytes (numbered f.number (unless_default f.presence (default_of pool f) (content_view v) (payloads_one f (content_view v))))
    by (floating e) = absurd (true≢false (sym e ∙ whole))
    by (plain type) =
        let w = fits.plain type in
        ap (content_bytes pool f) (single_form_seen v w.0 w.1)
        ∙ ap (λ b. cond (f.presence || not b) (record_in f.kind f.number (Some w.0)) []) (default_same pool f w.0 type)
        ∙ unset (f.presence || not (same (single_view w.0) (default_of pool f))) (record_in f.kind f.number (Some w.0)) (payloads_one f (single (single_view w.0)))
        (record_same f.kind f.number w.0 type ∙ sym (ap (λ ps. bytes (numbered f.number ps)) (single_payloads f w.0 type)))
        ∙ sym (ap (λ c. bytes (numbered f.number (unless_default f.presence (default_of pool f) c (payloads_one f c)))) (single_seen v w.0 w.1))
    by (message_type type) =
        let m = fits.nested type in
        ap (content_bytes pool f) (message_form_seen v m.0 m.1)
        ∙ ap (λ b. cond b (framed f (message_bytes m.0)) []) (or_true f.presence)
        ∙ message_one f m.0 m.2 m.3
        ∙ sym (ap (λ c. bytes (numbered f.number (unless_default f.presence (default_of pool f) c (payloads_one f c)))) (message_seen v m.0 m.1))

  -- a list, one record a value
  list_same : (f : FieldType) (vs : List Value) → is_float f.kind ≡ false → AllByRecursion (FitsOne inner pool f) vs
      → list_bytes f (map form_of vs) ≡ bytes (numbered f.number (each_payload types_of (part_of pool f) (chain_of (map content_view vs))))
  list_same f [] whole fits = refl
  list_same f (v ∷ vs) whole fits =
      ap (λ bs. bs ++ list_bytes f (map form_of vs)) (one_bytes f v whole fits.0)
      ∙ ap (λ bs. bytes (numbered f.number (payloads_one f (content_view v))) ++ bs) (list_same f vs whole fits.1)
      ∙ sym (bytes_numbered f.number (payloads_one f (content_view v)) (each_payload types_of (part_of pool f) (chain_of (map content_view vs))))

  -- a packed one
  row_same : (f : FieldType) (vs : List Value) → IsScalarType f.kind → AllByRecursion (FitsOne inner pool f) vs → row_in f.kind (map form_of vs) ≡ bare (each_payload types_of (part_of pool f) (chain_of (map content_view vs)))
  row_same f [] type fits = refl
  row_same f (v ∷ vs) type fits =
      let w = fits.0.plain type in
      let here : bare_in f.kind (form_of v).single ≡ bare (payloads_one f (content_view v)) =
      ap (λ (g : Form). bare_in f.kind g.single) (single_form_seen v w.0 w.1) ∙ bare_same f.kind w.0 type
      ∙ sym (ap (λ c. bare (payloads_one f c)) (single_seen v w.0 w.1) ∙ ap bare (single_payloads f w.0 type)) in
      ap (λ bs. bs ++ row_in f.kind (map form_of vs)) here ∙ ap (λ bs. bare (payloads_one f (content_view v)) ++ bs) (row_same f vs type fits.1)
      ∙ sym (flat_map-append (payload_bytes 0) (payloads_one f (content_view v)) (each_payload types_of (part_of pool f) (chain_of (map content_view vs))))

  -- an entry
  entry_same : (f keys values : FieldType) (e : MapKey × Value) → IsScalarType keys.kind → is_float values.kind ≡ false → keys.number ≡ 1 → values.number ≡ 2 → FitsOne inner pool values e.1
      → key_part pool keys (key_view e.0) ++ content_bytes pool values (form_of e.1) ≡ bytes (entry_records (key_at pool keys) (part_of pool values) (key_single e.0) (content_view e.1) (payloads_one values (content_view e.1)))
  entry_same f keys values e type whole first second fits =
      let key : key_part pool keys (key_view e.0) ≡ bytes (numbered 1 (unless_default keys.presence (default_of pool keys) (single (key_single e.0)) (written_as (scalar_of keys.kind) (key_single e.0)))) =
      ap (λ b. cond (keys.presence || not b) (record_in keys.kind keys.number (Some (key_view e.0))) []) (default_same pool keys (key_view e.0) type)
      ∙ unset (keys.presence || not (same (key_single e.0) (default_of pool keys))) (record_in keys.kind keys.number (Some (key_view e.0))) (written_as (scalar_of keys.kind) (key_single e.0))
      (record_same keys.kind keys.number (key_view e.0) type ∙ ap (λ n. bytes (numbered n (written_as (scalar_of keys.kind) (key_single e.0)))) first) in
      let value = set_bytes values e.1 whole fits ∙ ap (λ n. bytes (numbered n (unless_default values.presence (default_of pool values) (content_view e.1) (payloads_one values (content_view e.1))))) second in
      ap (λ bs. bs ++ content_bytes pool values (form_of e.1)) key
      ∙ ap (λ bs. bytes (numbered 1 (unless_default keys.presence (default_of pool keys) (single (key_single e.0)) (written_as (scalar_of keys.kind) (key_single e.0)))) ++ bs) value
      ∙ sym (bytes_join (numbered 1 (unless_default keys.presence (default_of pool keys) (single (key_single e.0)) (written_as (scalar_of keys.kind) (key_single e.0))))
      (numbered 2 (unless_default values.presence (default_of pool values) (content_view e.1) (payloads_one values (content_view e.1))))) where
        unset : (b : Bool) (bs : List ℕ) (ps : List Payload) → bs ≡ bytes (numbered 1 ps) → cond b bs [] ≡ bytes (numbered 1 (cond b ps []))
        unset true bs ps e = e
        unset false bs ps e = refl

  -- a map
  map_same : (f keys values : FieldType) (es : List (MapKey × Value)) → IsScalarType keys.kind → is_float values.kind ≡ false → keys.number ≡ 1 → values.number ≡ 2 → AllByRecursion (λ (e : MapKey × Value). FitsOne inner pool values e.1) es
      → flat_map (entry_bytes pool f keys values) (forms_of es) ≡ bytes (numbered f.number (entry_payloads types_of (key_at pool keys) (part_of pool values) (entries_of (pairs_view es))))
  map_same f keys values [] type whole first second fits = refl
  map_same f keys values (e ∷ es) type whole first second fits =
      ap (λ bs. payload_field f.number bs ++ flat_map (entry_bytes pool f keys values) (forms_of es)) (entry_same f keys values e type whole first second fits.0)
      ∙ ap (λ bs. payload_field f.number (bytes (entry_records (key_at pool keys) (part_of pool values) (key_single e.0) (content_view e.1) (payloads_one values (content_view e.1)))) ++ bs) (map_same f keys values es type whole first second fits.1)

  -- what stands under a field of a label
  abbrev under_as : FieldType → Option ℕ → Bool → (map_too repeated : Bool) → Held → List Payload
  under_as f o x map_too repeated h =
      payloads_under types_of (Some (record { part = part_of pool (cond map_too (entry_part pool f 2) f); label = cond map_too (keyed (key_at pool (entry_part pool f 1))) (cond repeated (many f.packed) one); oneof = o; extension = x })) h

  abbrev Same : FieldType → Value → Option ℕ → Bool → (map_too repeated : Bool) → Type 0
  Same f v o x map_too repeated = content_bytes pool f (form_of v) ≡ bytes (numbered f.number (under_as f o x map_too repeated (held_in pool f (Some (content_view v)))))

  under_one : (f : FieldType) (o : Option ℕ) (x : Bool) (c : Content) → ((w : Single) × (c ≡ single w)) ⊎ ((m : Message) × (c ≡ message m))
      → unless_default f.presence (default_of pool f) c (payloads_one f c) ≡ under_as f o x false false (held_in pool f (Some c))
  under_one f o x c (inl (w, is)) = subst (λ c. unless_default f.presence (default_of pool f) c (payloads_one f c) ≡ under_as f o x false false (held_in pool f (Some c))) (sym is) (by (f.presence || not (same w (default_of pool f)))) where
    by : (b : Bool) → cond b (payloads_one f (single w)) [] ≡ under_as f o x false false (cond b (content (single w)) absent)
    by true = refl
    by false = refl
  under_one f o x c (inr (m, is)) = subst (λ c. unless_default f.presence (default_of pool f) c (payloads_one f c) ≡ under_as f o x false false (held_in pool f (Some c))) (sym is) refl

  one_seen : (f : FieldType) (v : Value) → is_float f.kind ≡ false → FitsOne inner pool f v → ((w : Single) × (content_view v ≡ single w)) ⊎ ((m : Message) × (content_view v ≡ message m))
  one_seen f v whole fits = by (sort_of f.kind) where
    by : Sort f.kind → ((w : Single) × (content_view v ≡ single w)) ⊎ ((m : Message) × (content_view v ≡ message m))
    by (floating e) = absurd (true≢false (sym e ∙ whole))
    by (plain type) = let w = fits.plain type in inl (single_view w.0, single_seen v w.0 w.1)
    by (message_type type) = let m = fits.nested type in inr (view m.0, message_seen v m.0 m.1)

  -- a field of one value
  single_same : (f : FieldType) (v : Value) (o : Option ℕ) (x : Bool) → is_float f.kind ≡ false → FitsOne inner pool f v → Same f v o x false false
  single_same f v o x whole fits = set_bytes f v whole fits ∙ ap (λ ps. bytes (numbered f.number ps)) (under_one f o x (content_view v) (one_seen f v whole fits))

  packable_scalar : (t : KindType) (g : Bool) → is_float t ≡ false → is_packable (kind_in pool g t) ≡ true → IsScalarType t
  packable_scalar t g whole e = by (sort_of t) where
    no_message : (t : KindType) → IsMessageType t → is_packable (kind_in pool g t) ≡ true → ⊥
    no_message (types.message i) type e = cc e
    no_message t type e = absurd type

    by : Sort t → IsScalarType t
    by (plain type) = type
    by (floating k) = absurd (true≢false (sym k ∙ whole))
    by (message_type type) = absurd (no_message t type e)

  -- a list
  many_same : (f : FieldType) (v : Value) (o : Option ℕ) (x : Bool) → is_float f.kind ≡ false → f.presence ≡ false → (f.packed ≡ true → is_packable (kind_in pool f.group f.kind) ≡ true)
      → (vs : List Value) → list_items v ≡ Some vs → AllByRecursion (FitsOne inner pool f) vs → Same f v o x false true
  many_same f v o x whole unset packs vs is fits =
      ap (content_bytes pool f) (list_form_seen v vs is) ∙ by vs fits ∙ sym (ap (λ c. bytes (numbered f.number (under_as f o x false true (held_in pool f (Some c))))) (list_seen v vs is)) where
        rows : (vs : List Value) → AllByRecursion (FitsOne inner pool f) vs → (b : Bool) → f.packed ≡ b
            → cond b (payload_field f.number (row_in f.kind (map form_of vs))) (list_bytes f (map form_of vs))
            ≡ bytes (numbered f.number (cond (b && is_packable (kind_in pool f.group f.kind)) (delimited (bare (each_payload types_of (part_of pool f) (chain_of (map content_view vs)))) ∷ []) (each_payload types_of (part_of pool f) (chain_of (map content_view vs)))))
        rows vs fits true e =
            let can = packs e in
            ap (payload_field f.number) (row_same f vs (packable_scalar f.kind f.group whole can) fits)
            ∙ sym (append-nil (field_bytes (f.number, delimited (bare (each_payload types_of (part_of pool f) (chain_of (map content_view vs)))))))
            ∙ sym (ap (λ b. bytes (numbered f.number (cond b (delimited (bare (each_payload types_of (part_of pool f) (chain_of (map content_view vs)))) ∷ []) (each_payload types_of (part_of pool f) (chain_of (map content_view vs)))))) can)
        rows vs fits false e = list_same f vs whole fits

        by : (vs : List Value) → AllByRecursion (FitsOne inner pool f) vs → content_bytes pool f (list_form (map form_of vs)) ≡ bytes (numbered f.number (under_as f o x false true (held_in pool f (Some (list (chain_of (map content_view vs)))))))
        by [] fits = ap (λ b. cond (b || false) ((list_form []).whole pool f) []) unset
        by (u ∷ us) fits = ap (λ b. cond b ((list_form (map form_of (u ∷ us))).whole pool f) []) (or_true f.presence) ∙ rows (u ∷ us) fits f.packed refl

  -- a map
  keyed_same : HaveMapKeys pool → HaveEntryFields pool → (f : FieldType) (v : Value) (o : Option ℕ) (x repeated : Bool) → holds_floats pool f ≡ false → holds_map pool f ≡ true → f.presence ≡ false
      → (es : List (MapKey × Value)) → map_entries v ≡ Some es → AllByRecursion (λ (e : MapKey × Value). (values : FieldType) → entry_field pool f.kind 2 ≡ Some values → FitsOne inner pool values e.1) es → Same f v o x true repeated
  keyed_same keys_of parts f v o x repeated whole is_map unset es is fits =
      ap (content_bytes pool f) (map_form_seen v es is) ∙ by es fits ∙ sym (ap (λ c. bytes (numbered f.number (under_as f o x true repeated (held_in pool f (Some c))))) (map_seen v es is)) where
        there : (keys values : FieldType) × (entry_field pool f.kind 1 ≡ Some keys) × (entry_field pool f.kind 2 ≡ Some values)
        there = parts f.kind (entry_of_map pool f is_map)

        of_values : (es : List (MapKey × Value)) → AllByRecursion (λ (e : MapKey × Value). (values : FieldType) → entry_field pool f.kind 2 ≡ Some values → FitsOne inner pool values e.1) es → AllByRecursion (λ (e : MapKey × Value). FitsOne inner pool there.1 e.1) es
        of_values [] fits = tt
        of_values (e ∷ es) fits = (fits.0 there.1 there.3, of_values es fits.1)

        entries_same : (es : List (MapKey × Value)) → AllByRecursion (λ (e : MapKey × Value). (values : FieldType) → entry_field pool f.kind 2 ≡ Some values → FitsOne inner pool values e.1) es
            → map_bytes pool f (forms_of es) ≡ bytes (numbered f.number (entry_payloads types_of (key_at pool (entry_part pool f 1)) (part_of pool (entry_part pool f 2)) (entries_of (pairs_view es))))
        entries_same es fits =
            let keys = there.0 in
            let values = there.1 in
            let type = key_scalar keys.kind (keys_of f.kind keys (entry_of_map pool f is_map) there.2).0 in
            ap (λ o. elim o [ None ↦ [] | Some keys ↦ elim (entry_field pool f.kind 2) [ None ↦ [] | Some values ↦ flat_map (entry_bytes pool f keys values) (forms_of es) ] ]) there.2
            ∙ ap (λ o. elim o [ None ↦ [] | Some values ↦ flat_map (entry_bytes pool f keys values) (forms_of es) ]) there.3
            ∙ map_same f keys values es type (no_float_values pool f values whole is_map there.3) (entry_number pool f.kind 1 keys there.2) (entry_number pool f.kind 2 values there.3) (of_values es fits)
            ∙ sym (ap (λ g. bytes (numbered f.number (entry_payloads types_of (key_at pool g) (part_of pool (entry_part pool f 2)) (entries_of (pairs_view es))))) (part_is pool f 1 keys there.2)
            ∙ ap (λ g. bytes (numbered f.number (entry_payloads types_of (key_at pool keys) (part_of pool g) (entries_of (pairs_view es))))) (part_is pool f 2 values there.3))

        by : (es : List (MapKey × Value)) → AllByRecursion (λ (e : MapKey × Value). (values : FieldType) → entry_field pool f.kind 2 ≡ Some values → FitsOne inner pool values e.1) es
            → content_bytes pool f (map_form (forms_of es)) ≡ bytes (numbered f.number (under_as f o x true repeated (held_in pool f (Some (dictionary (entries_of (pairs_view es)))))))
        by [] fits = ap (λ b. cond (b || false) (map_bytes pool f []) []) unset
        by (e ∷ es) fits = ap (λ b. cond b (map_bytes pool f (forms_of (e ∷ es))) []) (or_true f.presence) ∙ entries_same (e ∷ es) fits

  -- a field, by its label
  pub field_same : HaveMapKeys pool → HaveEntryFields pool → (f : FieldType) (v : Value) (o : Option ℕ) (x : Bool) → holds_floats pool f ≡ false → (is_repeated f.cardinality ≡ true → f.presence ≡ false)
      → (is_repeated f.cardinality ≡ true → f.packed ≡ true → is_packable (kind_in pool f.group f.kind) ≡ true) → FitsAs inner pool f (holds_map pool f) (holds_list pool f) v
      → content_bytes pool f (form_of v) ≡ bytes (numbered f.number (payloads_under types_of (Some (field_of pool o x f)) (held_in pool f (Some (content_view v)))))
  field_same keys_of parts f v o x whole unset packs fits = by (holds_map pool f) refl where
    repeats : holds_map pool f ≡ true → is_repeated f.cardinality ≡ true
    repeats e = second (is_entry pool f.kind) (is_repeated f.cardinality) (not f.group) e where
      second : (a b c : Bool) → (a && (b && c)) ≡ true → b ≡ true
      second true true c e = refl
      second true false c e = absurd (cc e)
      second false b c e = absurd (cc e)

    lists : (b : Bool) → is_repeated f.cardinality ≡ b → FitsAs inner pool f false b v → Same f v o x false b
    lists true is k = many_same f v o x (not_float pool f whole) (unset is) (packs is) k.0 k.1 k.2
    lists false is k = single_same f v o x (not_float pool f whole) k

    by : (b : Bool) → holds_map pool f ≡ b → Same f v o x (holds_map pool f) (is_repeated f.cardinality)
    by true is =
        let here = subst (λ b. FitsAs inner pool f b (holds_list pool f) v) is fits in
        subst (λ b. Same f v o x b (is_repeated f.cardinality)) (sym is) (keyed_same keys_of parts f v o x (is_repeated f.cardinality) whole is (unset (repeats is)) here.0 here.1 here.2)
    by false is =
        let here = subst (λ b. FitsAs inner pool f b (holds_list pool f) v) is fits in
        let same_list = list_is pool f (holds_list pool f) is refl in
        subst (λ b. Same f v o x b (is_repeated f.cardinality)) (sym is) (lists (is_repeated f.cardinality) refl (subst (λ b. FitsAs inner pool f false b v) (sym same_list) here))
