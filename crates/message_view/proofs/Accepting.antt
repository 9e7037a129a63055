-- What the program accepts the type accepts.
use Rattle.std.proofs.Common.{◌≡◌, ◌<◌, ◌⊎◌, inl, inr, ℕ, zero, suc, ◌==◌, ◌-◌, Bool, true, false, true≢false, cond, List, [], ◌∷◌, length, Option, Some, None, refl, sym, ap, ◌∙◌, subst, arith}
use Rattle.std.specs.List.{AllByRecursion}
use Rattle.std.specs.Option.{option_or}
use Rattle.reflect_tables.specs.Types.{PoolType, FieldType, KindType}
use Rattle.reflect_tables.specs.Types as types
use Rattle.reflect_pool.specs.Kinds.{IsKind}
use Rattle.reflect_pool.specs.Shapes.{is_repeated, holds_list, holds_map}
use Rattle.reflect_pool.specs.declared.kind.Kind.{Kind}
use Rattle.reflect_pool.specs.declared.kind.Kind.TheVariants as publics
use Rattle.reflect_pool.specs.declared.message.MessageDescriptor.{MessageDescriptor}
use Rattle.reflect_wire.specs.Records.{Payload, delimited, group, SpellsRecords}
use Rattle.reflect_wire.specs.Views.{records_of}
use Rattle.reflect_wire.specs.Written.{AreBytes, FitsPayload, FitsRecords}
use Rattle.reflect_scalar.specs.Kinds.{kind_type, wire_type, packs}
use Rattle.reflect_scalar.specs.Meaning.{StandsFor}
use Rattle.reflect_scalar.specs.Singles as held
use Rattle.reflect_scalar.proofs.Defaulted.{kind_is}
use Rattle.reflect_message.specs.KindTypes.{IsScalarType, IsMessageType}
use Rattle.reflect_message.specs.Known.{is_float, holds_floats, known_field, known_extension}
use Rattle.reflect_decode.specs.Accepts as decode
use Rattle.reflect_decode.specs.Accepts.{AcceptsMessage}
use Rattle.reflect_decode.specs.Messages.{IsInside}
use Rattle.reflect_decode.specs.Packed as packed
pub use Rattle.reflect_decode.proofs.Sorts.{not_float}
use Rattle.message_laws.specs.MapKeys.{HaveMapKeys}
use Rattle.protobuf_model.specs.Types.{Name, Types, Key, Part, one, many, keyed, scalar}
use Rattle.protobuf_model.specs.Scalars.{Suits}
use Rattle.protobuf_model.specs.Scalars as scalars
use Rattle.protobuf_model.specs.Reader.{inside_of}
use Rattle.protobuf_model.specs.Meaning.{payloads}
use Rattle.protobuf_model.specs.Accepts.{Acceptable, IsScalar, IsFramed, AcceptsPart, SpellsRow, IsPacked, AcceptsEntryRecord, HasLevel, AcceptsEntry, AcceptsField, AcceptsIn, AcceptsRecord, AcceptsBy, Accepts}
use Rattle.protobuf_model.proofs.Bridge.{inside_is}
use Rattle.protobuf_model.proofs.Rows.{row_spelled}
use Rattle.message_view.specs.Singles.{scalar_of, single_view}
use Rattle.message_view.specs.Types.{name_at, frame_of, kind_in, part_of, key_of, entry_part, values_of, label_of, either_field, field_at}
use Rattle.message_view.proofs.Scalars.{meant_is, suits_is}
use Rattle.message_view.proofs.Elements.{kind_scalar, kind_message, meant_in, wire_same, packs_same}
use Rattle.message_view.proofs.Entries.{Sort, plain, floating, message_type, sort_of, key_scalar, no_float_values, entry_of_map, part_is}
use Rattle.message_view.proofs.Fields.{known, owned_whole, known_extension_is, extension_whole}
use Rattle.message_view.proofs.Left.{list_is}
use Rattle.message_view.proofs.Oneofs.{payloads_same}
use Rattle.message_view.proofs.Plain.{HasBytes, HaveBytes, IsPlainRecord, front_bytes, back_bytes, plain_records, spelled_plain, packed_fits}

-- a kind whose payloads mean single values
means_scalar : (kind : Kind) (p : Payload) (v : held.Single) → StandsFor kind p v → IsScalarType (kind_type kind)
means_scalar publics.Double p v h = h
means_scalar publics.Float p v h = h
means_scalar (publics.Message d) p v h = h
means_scalar kind p v h = tt

-- messages are not packed
no_packed_message : (kind : Kind) → IsMessageType (kind_type kind) → packs (wire_type kind) ≡ true → ⊥
no_packed_message (publics.Message d) type e = cc e
no_packed_message kind type e = absurd type

-- the values of a packed record
rows_are : (kind : Kind) (bytes : List ℕ) (vs : List held.Single) → AreBytes bytes → packed.IsPacked kind bytes vs
    → (ps : List Payload) × SpellsRow (scalars.wire_type (scalar_of (kind_type kind))) bytes ps × AllByRecursion (IsScalar (scalar_of (kind_type kind))) ps
rows_are kind bytes [] b h = ([], h, tt)
rows_are kind bytes (v ∷ vs) b h =
    let single = h.2 in
    let all = subst AreBytes h.4 b in
    let later = rows_are kind h.1 vs (back_bytes h.0 h.1 all) h.3 in
    let fits = packed_fits h.0 single.0 (front_bytes h.0 h.1 all) single.1.1 in (
      single.0 ∷ later.0,
      (h.0, h.1, sym single.1.0 ∙ wire_same kind, single.1.1, later.1, h.4),
      ((single_view v, meant_is kind single.0 v single.2, suits_is kind single.0 v 0 single.2 fits), later.2),
    )

-- the payloads of a number among records
pub payload_head : (P : Payload → Type 0) (n : ℕ) (r : ℕ × Payload) (rs : List (ℕ × Payload)) → AllByRecursion P (payloads n (r ∷ rs)) → (r.0 ≡ n → P r.1) × AllByRecursion P (payloads n rs)
payload_head P n r rs h = by (r.0 == n) refl where
  by : (b : Bool) → (r.0 == n) ≡ b → (r.0 ≡ n → P r.1) × AllByRecursion P (payloads n rs)
  by true is = let all = subst (λ b. AllByRecursion P (cond b (r.1 ∷ payloads n rs) (payloads n rs))) is h in ((λ same. all.0), all.1)
  by false is = ((λ same. absurd (grind (arith, is, same))), subst (λ b. AllByRecursion P (cond b (r.1 ∷ payloads n rs) (payloads n rs))) is h)

entry_record : (accept : Acceptable) (key : Key) (part : Part) (n : ℕ) (p : Payload) → (n ≡ 1 → IsScalar key.kind p) → (n ≡ 2 → AcceptsPart accept part.kind p) → AcceptsEntryRecord accept key part (n, p)
entry_record accept key part zero p h k = tt
entry_record accept key part (suc zero) p h k = h refl
entry_record accept key part (suc (suc zero)) p h k = k refl
entry_record accept key part (suc (suc (suc n))) p h k = tt

-- what is known of messages one level below
pub record Admits (pool : PoolType) (coded : decode.Acceptable) (accept : Acceptable) (levels : ℕ) : Type 0 where
  pub messages : (grouped : Bool) (d : MessageDescriptor) → d.pool.now ≡ pool → (p : Payload) → FitsPayload levels p → HasBytes p → coded grouped d.pool.now d.index p → accept (frame_of grouped) (name_at pool d.index) p

module _ (pool : PoolType) (coded : decode.Acceptable) (accept : Acceptable) (levels : ℕ) (admits : Admits pool coded accept levels) where
  single_accepted : (g : Bool) (t : KindType) (kind : Kind) (p : Payload) (v : held.Single) → IsKind pool kind t → StandsFor kind p v → FitsPayload levels p → AcceptsPart accept (kind_in pool g t) p
  single_accepted g t kind p v is means fits =
      let type = subst IsScalarType (sym (kind_is pool kind t is)) (means_scalar kind p v means) in
      let suits = subst (λ t. Suits (scalar_of t) (single_view v)) (sym (kind_is pool kind t is)) (suits_is kind p v levels means fits) in
      subst (λ k. AcceptsPart accept k p) (sym (kind_scalar pool g t type)) (single_view v, meant_in pool kind t p v is means, suits)

  kind_accepted : (g : Bool) (t : KindType) (kind : Kind) (p : Payload) → IsKind pool kind t → decode.AcceptsKind coded g kind p → FitsPayload levels p → HasBytes p → AcceptsPart accept (kind_in pool g t) p
  kind_accepted g t (publics.Message d) p is h fits bytes = subst (λ k. AcceptsPart accept k p) (sym (kind_message pool g t d.index is.1)) (admits.messages g d is.0 p fits bytes h)
  kind_accepted g t kind p is h fits bytes = single_accepted g t kind p h.0 is h.1 fits

  one_accepted : (f : FieldType) (p : Payload) → FitsPayload levels p → HasBytes p → decode.AcceptsOne coded pool f p → AcceptsPart accept (kind_in pool f.group f.kind) p
  one_accepted f p fits bytes h = kind_accepted f.group f.kind h.0 p h.1 h.2 fits bytes

  row_accepted : (f : FieldType) (kind : Kind) (body : List ℕ) (vs : List held.Single) → Sort f.kind → is_float f.kind ≡ false → IsKind pool kind f.kind → AreBytes body → packs (wire_type kind) ≡ true → packed.IsPacked kind body vs
      → IsPacked (kind_in pool f.group f.kind) (delimited body)
  row_accepted f kind body vs (floating e) whole is bytes packs_it h = absurd (true≢false (sym e ∙ whole))
  row_accepted f kind body vs (message_type type) whole is bytes packs_it h = absurd (no_packed_message kind (subst IsMessageType (kind_is pool kind f.kind is) type) packs_it)
  row_accepted f kind body vs (plain type) whole is bytes packs_it h =
      let rows = rows_are kind body vs bytes h in
      let s = scalar_of (kind_type kind) in
      let same = row_spelled (scalars.wire_type s) body rows.0 rows.1 in
      let there : IsPacked (scalar s) (delimited body) =
      (sym (packs_same kind) ∙ packs_it, subst (SpellsRow (scalars.wire_type s) body) (sym same) rows.1, subst (AllByRecursion (IsScalar s)) (sym same) rows.2) in
      subst (λ k. IsPacked k (delimited body)) (sym (kind_scalar pool f.group f.kind type ∙ ap (λ t. scalar (scalar_of t)) (kind_is pool kind f.kind is))) there

  listed_accepted : (f : FieldType) (p : Payload) → is_float f.kind ≡ false → FitsPayload levels p → HasBytes p → decode.AcceptsListed coded pool f p
      → AcceptsPart accept (kind_in pool f.group f.kind) p ⊎ IsPacked (kind_in pool f.group f.kind) p
  listed_accepted f p whole fits bytes (kind, is, inl h) = inl (kind_accepted f.group f.kind kind p is h fits bytes)
  listed_accepted f p whole fits bytes (kind, is, inr (vs, (body, e, packs_it, h))) =
      inr (subst (IsPacked (kind_in pool f.group f.kind)) (sym e) (row_accepted f kind body vs (sort_of f.kind) whole is (subst HasBytes e bytes) packs_it h))

  records_accepted : (keys values : FieldType) → IsScalarType keys.kind → (rs : List (ℕ × Payload)) → AllByRecursion (IsPlainRecord levels) rs
      → AllByRecursion (decode.AcceptsOne coded pool keys) (payloads 1 rs) → AllByRecursion (decode.AcceptsOne coded pool values) (payloads 2 rs) → AllByRecursion (AcceptsEntryRecord accept (key_of pool keys) (part_of pool values)) rs
  records_accepted keys values type [] plain_ones h k = tt
  records_accepted keys values type (r ∷ rs) plain_ones h k =
      let one_h = payload_head (decode.AcceptsOne coded pool keys) 1 r rs h in
      let one_k = payload_head (decode.AcceptsOne coded pool values) 2 r rs k in
      let here = plain_ones.0 in (
        entry_record accept (key_of pool keys) (part_of pool values) r.0 r.1
            (λ is. subst (λ k. AcceptsPart accept k r.1) (kind_scalar pool keys.group keys.kind type) (one_accepted keys r.1 here.fits here.bytes (one_h.0 is)))
            (λ is. one_accepted values r.1 here.fits here.bytes (one_k.0 is)),
        records_accepted keys values type rs plain_ones.1 one_h.1 one_k.1,
      )

  level_of : (values : FieldType) → is_float values.kind ≡ false → (IsMessageType values.kind → 0 < levels) → HasLevel levels (kind_in pool values.group values.kind)
  level_of values whole left = by (sort_of values.kind) where
    leveled : (t : KindType) → IsMessageType t → 0 < levels → HasLevel levels (kind_in pool values.group t)
    leveled (types.message i) type lt = lt
    leveled t type lt = absurd type

    by : Sort values.kind → HasLevel levels (kind_in pool values.group values.kind)
    by (floating e) = absurd (true≢false (sym e ∙ whole))
    by (plain type) = subst (HasLevel levels) (sym (kind_scalar pool values.group values.kind type)) tt
    by (message_type type) = leveled values.kind type (left type)

  entry_accepted : HaveMapKeys pool → (f : FieldType) → holds_floats pool f ≡ false → holds_map pool f ≡ true → (p : Payload) → HasBytes p → decode.AcceptsEntry levels coded pool f.kind p
      → AcceptsEntry accept levels (key_of pool (entry_part pool f 1)) (part_of pool (entry_part pool f 2)) p
  entry_accepted keyed_maps f whole is_map (delimited body) bytes (keys, values, rs, at_one, at_two, spelled, left, h, k) =
      let type = key_scalar keys.kind (keyed_maps f.kind keys (entry_of_map pool f is_map) at_one).0 in
      let same = inside_is levels (delimited body) rs spelled in
      let all = records_accepted keys values type rs (spelled_plain levels body rs bytes spelled)
      (subst (AllByRecursion (decode.AcceptsOne coded pool keys)) (payloads_same 1 rs) h) (subst (AllByRecursion (decode.AcceptsOne coded pool values)) (payloads_same 2 rs) k) in
      let there : AcceptsEntry accept levels (key_of pool keys) (part_of pool values) (delimited body) =
      (level_of values (no_float_values pool f values whole is_map at_two) left, subst (λ rs. SpellsRecords levels body (records_of rs)) (sym same) spelled, subst (AllByRecursion (AcceptsEntryRecord accept (key_of pool keys) (part_of pool values))) (sym same) all) in
      subst (λ g. AcceptsEntry accept levels (key_of pool g) (part_of pool (entry_part pool f 2)) (delimited body)) (sym (part_is pool f 1 keys at_one))
      (subst (λ g. AcceptsEntry accept levels (key_of pool keys) (part_of pool g) (delimited body)) (sym (part_is pool f 2 values at_two)) there)
  entry_accepted keyed_maps f whole is_map p bytes h = absurd h.5

  abbrev Goal : FieldType → Payload → Bool → Bool → Type 0
  Goal f p map_too repeated =
      AcceptsField accept levels (part_of pool (cond map_too (entry_part pool f 2) f)) (cond map_too (keyed (key_of pool (entry_part pool f 1))) (cond repeated (many f.packed) one)) p

  field_accepted : HaveMapKeys pool → (f : FieldType) → holds_floats pool f ≡ false → (p : Payload) → FitsPayload levels p → HasBytes p → decode.AcceptsField levels coded pool f p
      → AcceptsField accept levels (part_of pool (values_of pool f)) (label_of pool f) p
  field_accepted keyed_maps f whole p fits bytes h = by (holds_map pool f) refl where
    listed : (b : Bool) → decode.AcceptsAs levels coded pool f false b p → Goal f p false b
    listed true k = listed_accepted f p (not_float pool f whole) fits bytes k
    listed false k = one_accepted f p fits bytes k

    by : (b : Bool) → holds_map pool f ≡ b → Goal f p (holds_map pool f) (is_repeated f.cardinality)
    by true is =
        let here = subst (λ b. decode.AcceptsAs levels coded pool f b (holds_list pool f) p) is h in
        subst (λ b. Goal f p b (is_repeated f.cardinality)) (sym is) (entry_accepted keyed_maps f whole is p bytes here)
    by false is =
        let here = subst (λ b. decode.AcceptsAs levels coded pool f b (holds_list pool f) p) is h in
        let list = list_is pool f (holds_list pool f) is refl in
        subst (λ b. Goal f p b (is_repeated f.cardinality)) (sym is) (subst (Goal f p false) (sym list) (listed (holds_list pool f) here))

module _ (d : MessageDescriptor) where
  pub known_whole : (n : ℕ) (g : FieldType) → known_field d.pool.now d.index n ≡ Some g → holds_floats d.pool.now g ≡ false
  known_whole n g is = let h = known d n g is in subst (λ t. holds_floats d.pool.now t ≡ false) h.2 (owned_whole d h.0 h.1)

  pub extension_known_whole : (n : ℕ) (g : FieldType) → known_extension d.pool.now d.index n ≡ Some g → holds_floats d.pool.now g ≡ false
  extension_known_whole n g is = let h = known_extension_is d n g is in subst (λ t. holds_floats d.pool.now t ≡ false) h.2 (extension_whole d h.0 h.1)

module _ (d : MessageDescriptor) (keyed_maps : HaveMapKeys d.pool.now) (types_of : Types) (told : (n : ℕ) → types_of (name_at d.pool.now d.index) n ≡ field_at d.pool.now d.index n)
    (coded : decode.Acceptable) (accept : Acceptable) (levels : ℕ) (admits : Admits d.pool.now coded accept levels) where
  record_accepted : (r : ℕ × Payload) → IsPlainRecord levels r → decode.AcceptsRecord levels coded d.pool.now d.index r → AcceptsRecord accept levels (types_of (name_at d.pool.now d.index)) r
  record_accepted r plain_one h = record {
    some = plain_one.some;
    small = plain_one.small;
    fits = plain_one.fits;
    suits = subst (λ o. AcceptsIn accept levels o r.1) (sym (told r.0)) (by (known_field d.pool.now d.index r.0) refl (known_extension d.pool.now d.index r.0) refl h);
  } where
    by : (f : Option FieldType) → known_field d.pool.now d.index r.0 ≡ f → (x : Option FieldType) → known_extension d.pool.now d.index r.0 ≡ x → decode.AcceptsIf levels coded d.pool.now (option_or f x) r.1 → AcceptsIn accept levels (either_field d.pool.now d.index f x) r.1
    by (Some g) is x also k = field_accepted d.pool.now coded accept levels admits keyed_maps g (known_whole d r.0 g is) r.1 plain_one.fits plain_one.bytes k
    by None none (Some g) is k = field_accepted d.pool.now coded accept levels admits keyed_maps g (extension_known_whole d r.0 g is) r.1 plain_one.fits plain_one.bytes k
    by None none None also k = tt

  pub all_accepted : (rs : List (ℕ × Payload)) → AllByRecursion (IsPlainRecord levels) rs → AllByRecursion (decode.AcceptsRecord levels coded d.pool.now d.index) rs → AcceptsBy accept levels types_of (name_at d.pool.now d.index) rs
  all_accepted [] plain_ones h = tt
  all_accepted (r ∷ rs) plain_ones h = (record_accepted r plain_ones.0 h.0, all_accepted rs plain_ones.1 h.1)

-- which payloads messages one level below have
abbrev pub accept_of : ℕ → Types → Acceptable
accept_of zero types_of = λ frame u p. ⊥
accept_of (suc levels) types_of = λ frame u p. IsFramed levels frame p × Accepts levels types_of u (inside_of p)

pub accepts_at : (levels : ℕ) (types_of : Types) → Accepts levels types_of ≡ AcceptsBy (accept_of levels types_of) levels types_of
accepts_at zero types_of = refl
accepts_at (suc levels) types_of = refl

module _ (pool : PoolType) (keyed_maps : HaveMapKeys pool) (types_of : Types) (told : (i n : ℕ) → i < length pool.messages → types_of (name_at pool i) n ≡ field_at pool i n) where
  whole : (levels : ℕ) → Admits pool (AcceptsMessage levels) (accept_of levels types_of) levels → (d : MessageDescriptor) → d.pool.now ≡ pool → (rs : List (ℕ × Payload))
      → AllByRecursion (IsPlainRecord levels) rs → decode.Accepts levels d rs → Accepts levels types_of (name_at pool d.index) rs
  whole levels admits d there rs plain_ones h =
      let here = sym there in
      let all = all_accepted d (subst HaveMapKeys here keyed_maps) types_of
      (λ n. subst (λ p. types_of (name_at p d.index) n ≡ field_at p d.index n) here (told d.index n (subst (λ p. d.index < length p.messages) there d.in_range)))
      (AcceptsMessage levels) (accept_of levels types_of) levels (subst (λ p. Admits p (AcceptsMessage levels) (accept_of levels types_of) levels) here admits) rs plain_ones h in
      subst (λ p. Accepts levels types_of (name_at p d.index) rs) there (subst (λ (a : Name → List (ℕ × Payload) → Type 0). a (name_at d.pool.now d.index) rs) (sym (accepts_at levels types_of)) all)

  admits_at : (levels : ℕ) → Admits pool (AcceptsMessage levels) (accept_of levels types_of) levels
  admits_at zero = record { messages = λ grouped d there p fits bytes h. absurd h }
  admits_at (suc levels) = record { messages = λ grouped d there p fits bytes h. by (admits_at levels) grouped d there p fits bytes h.0 h.1 h.2 } where
    by : Admits pool (AcceptsMessage levels) (accept_of levels types_of) levels → (grouped : Bool) (d : MessageDescriptor) → d.pool.now ≡ pool → (p : Payload) → FitsPayload (suc levels) p → HasBytes p
        → (rs : List (ℕ × Payload)) → IsInside grouped levels p rs → AllByRecursion (decode.AcceptsRecord levels (AcceptsMessage levels) d.pool.now d.index) rs
        → IsFramed levels (frame_of grouped) p × Accepts levels types_of (name_at pool d.index) (inside_of p)
    by below false d there (delimited body) fits bytes rs inside_it h =
        let same = inside_is levels (delimited body) rs inside_it in
        (subst (λ rs. SpellsRecords levels body (records_of rs)) (sym same) inside_it, subst (Accepts levels types_of (name_at pool d.index)) (sym same) (whole levels below d there rs (spelled_plain levels body rs bytes inside_it) h))
    by below true d there (group within) fits bytes rs inside_it h =
        let same = inside_is levels (group within) rs inside_it in
        let one_down : suc levels - 1 ≡ levels = omega arith in
        let plain_ones = plain_records levels rs (subst (FitsRecords levels) inside_it (subst (λ l. FitsRecords l within) one_down fits.1)) (subst HaveBytes inside_it bytes) in
        (tt, subst (Accepts levels types_of (name_at pool d.index)) (sym same) (whole levels below d there rs plain_ones h))
    by below grouped d there p fits bytes rs inside_it h = absurd inside_it

  -- records that bytes spell and that the program accepts
  pub accepted : (levels : ℕ) (d : MessageDescriptor) → d.pool.now ≡ pool → (bytes : List ℕ) (rs : List (ℕ × Payload)) → AreBytes bytes → SpellsRecords levels bytes (records_of rs) → decode.Accepts levels d rs
      → Accepts levels types_of (name_at pool d.index) rs
  accepted levels d there bytes rs b spelled h = whole levels (admits_at levels) d there rs (spelled_plain levels bytes rs b spelled) h
