-- What records leave in maps, record by record.
use Rattle.std.proofs.Common.{◌≡◌, ◌≢◌, inl, ℕ, ◌<◌, Bool, List, [], ◌∷◌, ◌++◌, map, Option, None, Some, Result, Ok, Err, IfOk, refl, sym, ap, ◌∙◌, subst, append_assoc, append-nil, arith}
use Rattle.std.specs.BTreeMap.{insert_entry}
use Rattle.std.specs.List.{AllByRecursion}
use Rattle.std.specs.Borrow.{Bor}
use Rattle.reflect_tables.specs.Types.{PoolType, FieldType, KindType}
use Rattle.reflect_pool.specs.FieldsLeft.{field_type}
use Rattle.reflect_pool.specs.declared.field.FieldDescriptor.{FieldDescriptor}
use Rattle.reflect_pool.specs.Kinds.{IsKind}
use Rattle.reflect_pool.specs.declared.kind.Kind.TheVariants as kinds
use Rattle.reflect_pool.specs.declared.message.MessageDescriptor.{MessageDescriptor}
use Rattle.reflect_pool.specs.declared.kind.Kind.{Kind}
use Rattle.reflect_wire.specs.Reads.{Fronts}
use Rattle.reflect_wire.specs.Records.{Payload, delimited, IsValue, SpellsRecords}
use Rattle.reflect_wire.specs.Views.{records_of}
use Rattle.reflect_wire.specs.declared.wire_error.WireError.{WireError}
use Rattle.reflect_wire.specs.declared.wire_key.WireKey.{WireKey}
use Rattle.reflect_scalar.specs.FieldTypes.{field_pool}
use Rattle.reflect_scalar.specs.Meaning.{IsScalar}
use Rattle.reflect_scalar.specs.Singles.{Single}
use Rattle.reflect_scalar.specs.declared.map_key.MapKey.{MapKey}
use Rattle.reflect_message.specs.Contents.{content_of}
use Rattle.reflect_decode.specs.Accepts.{AcceptsOne, AcceptsEntry, AcceptsMessage}
use Rattle.reflect_decode.specs.Keeps.{payloads}
use Rattle.reflect_decode.specs.Levels.{TakesAt}
use Rattle.reflect_message.specs.Known.{entry_field}
use Rattle.reflect_decode.specs.Maps.{LeavesSingle, LeavesKey, LeavesValue, IsEntry, PutEntries, ContinuesMap, ChangesPart}
use Rattle.reflect_message.specs.Maps.{key_order, map_entries}
use Rattle.reflect_decode.specs.Merging.{IsRun}
use Rattle.reflect_decode.specs.Messages.{Takes}
use Rattle.reflect_message.specs.Messages.{message_in}
use Rattle.reflect_decode.specs.Suits.{SuitsBelow, PartSuits}
use Rattle.reflect_message.specs.KindTypes.{IsScalarType, IsMessageType}
use Rattle.reflect_decode.specs.Scalars.{IsLast}
use Rattle.reflect_message.specs.Singles.{single}
use Rattle.reflect_message.specs.Names.{DynamicMessage, Value}
use Rattle.reflect_decode.proofs.Accepting.{accepts_value, message_accepts, part_of_number, part_of_another}
use Rattle.reflect_decode.proofs.Joining.{Joins, merges_both}
use Rattle.reflect_decode.proofs.Keeping.{payloads_both, payloads_own, not_numbered}
use Rattle.reflect_decode.proofs.Telling.{no_elements}
use Rattle.reflect_decode.proofs.Running.{plain_spelled}
use Rattle.reflect_decode.proofs.Suiting.{standing}

pub last_behind : (pool : PoolType) (t : KindType) (ps qs : List Payload) (v : Single) → IsLast pool t qs v → IsLast pool t (ps ++ qs) v
last_behind pool t ps qs v h = (h.0, ps ++ h.1, h.2, h.3, ap (λ l. ps ++ l) h.4 ∙ sym (append_assoc ps h.1 (h.2 ∷ [])), h.5)

module _ (inner : Takes) (pool : PoolType) (f : FieldType) where
  -- more records of a key, or of a value
  single_more : (old new : Value) (ps qs : List Payload) → IsScalarType f.kind → LeavesSingle pool f (single old) ps → ChangesPart inner pool f old new qs → LeavesSingle pool f (single new) (ps ++ qs)
  single_more old new ps [] scalar h k = subst (LeavesSingle pool f (single new)) (sym (append-nil ps)) (subst (λ v. LeavesSingle pool f (single v) ps) (sym k) h)
  single_more old new [] (q ∷ qs) scalar h k = k.0 scalar
  single_more old new (p ∷ ps) (q ∷ qs) scalar h k = let last = k.0 scalar in (last.0, last.1, last_behind pool f.kind (p ∷ ps) (q ∷ qs) last.0 last.2)

  value_more : Joins inner → (old new : Value) (ps qs : List Payload) → LeavesValue inner pool f old ps → ChangesPart inner pool f old new qs → LeavesValue inner pool f new (ps ++ qs)
  value_more joins old new ps [] h k = subst (LeavesValue inner pool f new) (sym (append-nil ps)) (subst (λ v. LeavesValue inner pool f v ps) (sym k) h)
  value_more joins old new [] (q ∷ qs) h k = (λ scalar. k.0 scalar, λ type. merges_both (inner.message f.group) pool f.kind (joins f.group) None (Some old) (Some new) [] (q ∷ qs) (h.1 type) (k.1 type))
  value_more joins old new (p ∷ ps) (q ∷ qs) h k = (λ scalar. single_more old new (p ∷ ps) (q ∷ qs) scalar (h.0 scalar) k, λ type. merges_both (inner.message f.group) pool f.kind (joins f.group) None (Some old) (Some new) (p ∷ ps) (q ∷ qs) (h.1 type) (k.1 type))

  module _ (n : ℕ) (rs : List (ℕ × Payload)) (r : ℕ × Payload) (old new : Value) where
    pub key_step : (IsScalarType f.kind → LeavesSingle pool f (single old) (payloads n rs)) → ChangesPart inner pool f old new (payloads n (r ∷ [])) → IsScalarType f.kind → LeavesSingle pool f (single new) (payloads n (rs ++ r ∷ []))
    key_step h k scalar = subst (LeavesSingle pool f (single new)) (sym (payloads_both n rs (r ∷ []))) (single_more old new (payloads n rs) (payloads n (r ∷ [])) scalar (h scalar) k)

    pub value_step : Joins inner → LeavesValue inner pool f old (payloads n rs) → ChangesPart inner pool f old new (payloads n (r ∷ [])) → LeavesValue inner pool f new (payloads n (rs ++ r ∷ []))
    value_step joins h k = subst (LeavesValue inner pool f new) (sym (payloads_both n rs (r ∷ []))) (value_more joins old new (payloads n rs) (payloads n (r ∷ [])) h k)

  -- a record of the number, and one of another
  pub part_here : (n number : ℕ) (old new : Value) (p : Payload) → number ≡ n → ChangesPart inner pool f old new (p ∷ []) → ChangesPart inner pool f old new (payloads n ((number, p) ∷ []))
  part_here n number old new p is h = subst (ChangesPart inner pool f old new) (sym (ap (λ k. payloads n ((k, p) ∷ [])) is ∙ payloads_own n (p ∷ []))) h

  pub part_stays : (n number : ℕ) (old new : Value) (p : Payload) → number ≢ n → new ≡ old → ChangesPart inner pool f old new (payloads n ((number, p) ∷ []))
  part_stays n number old new p other is = subst (ChangesPart inner pool f old new) (sym (ap (map (λ (r : ℕ × Payload). r.1)) (not_numbered n number (p ∷ []) other))) is

  module _ (levels : ℕ) (key : WireKey) (bytes : List ℕ) (old new : Value) where
    pub part_single : (kind : Kind) (rest : List ℕ) (w : Single) → IsKind pool kind f.kind → Fronts (IsScalar kind key.wire) bytes w rest → single new ≡ Some w → (p : Payload) × Fronts (IsValue levels key) bytes p rest × ChangesPart inner pool f old new (p ∷ []) × (PartSuits levels pool f old → AcceptsOne (AcceptsMessage levels) pool f p)
    part_single kind rest w is h means =
        let p = h.1.0 in (
          p,
          (h.0, (h.1.1.0, plain_spelled levels key.number h.0 p h.1.1.1), h.2),
          ((λ scalar. (w, means, (kind, [], p, is, refl, h.1.2))), λ type. absurd (no_elements pool f.kind kind p (w ∷ []) is type (inl (w, refl, h.1.2)))),
          λ suits. (kind, is, accepts_value (AcceptsMessage levels) f.group kind p w h.1.2),
        )

    pub part_message : (grouped : Bool) → grouped ≡ f.group → (d : MessageDescriptor) (before after : DynamicMessage) (r : Result (Bor (List ℕ)) WireError) → IsKind pool (kinds.Message d) f.kind → message_in old ≡ Some before → message_in new ≡ Some after → after.descriptor ≡ before.descriptor
        → IfOk r (λ rest. (p : Payload) × Fronts (IsValue levels key) bytes p rest.now × inner.message grouped before.descriptor (content_of before) (content_of after) (p ∷ []) × (SuitsBelow levels before.descriptor (content_of before) → AcceptsMessage levels grouped before.descriptor.pool.now before.descriptor.index p))
        → IfOk r (λ rest. (p : Payload) × Fronts (IsValue levels key) bytes p rest.now × ChangesPart inner pool f old new (p ∷ []) × (PartSuits levels pool f old → AcceptsOne (AcceptsMessage levels) pool f p))
    part_message grouped form d before after (Ok rest) is was now same h =
        let taken = subst (λ g. inner.message g before.descriptor (content_of before) (content_of after) (h.0 ∷ [])) form h.2 in (
          h.0,
          h.1,
          ((λ scalar. absurd (subst IsScalarType is.1 scalar)), λ type. (before, after, was, now, same, taken)),
          λ suits. let begins = standing levels pool f.kind old before (suits (subst IsMessageType (sym is.1) tt)) was in message_accepts levels pool f grouped before.descriptor h.0 form begins.0 (h.3 begins.1),
        )
    part_message grouped form d before after (Err e) is was now same h = tt

module _ (inner : Takes) (pool : PoolType) (t : KindType) where
  put_both : (a b c : List (MapKey × Value)) (ps qs : List Payload) → PutEntries inner pool t a b ps → PutEntries inner pool t b c qs → PutEntries inner pool t a c (ps ++ qs)
  put_both a b c [] qs h k = subst (λ l. PutEntries inner pool t l c qs) h k
  put_both a b c (p ∷ ps) qs h k = (h.0, h.1, h.2, put_both (insert_entry key_order a h.0 h.1) b c ps qs h.3 k)

  pub put_more : (a b c : List (MapKey × Value)) (ps : List Payload) (p : Payload) (k : MapKey) (v : Value) → PutEntries inner pool t a b ps → IsEntry inner pool t p k v → c ≡ insert_entry key_order b k v → PutEntries inner pool t a c (ps ++ p ∷ [])
  put_more a b c ps p k v h one put = put_both a b c ps (p ∷ []) h (k, v, one, put)

  pub map_both : (a b c : Option Value) (ps qs : List Payload) → ContinuesMap inner pool t a b ps → ContinuesMap inner pool t b c qs → ContinuesMap inner pool t a c (ps ++ qs)
  map_both a b c ps qs h k =
      let same : k.0 ≡ h.1 = cc in
      (h.0, k.1, h.2, k.3, put_both h.0 h.1 k.1 ps qs h.4 (subst (λ l. PutEntries inner pool t l k.1 qs) same k.4))

-- a map of each type that the kind is accepts the payloads
abbrev pub AcceptEntries : ℕ → Kind → List Payload → Type 0
AcceptEntries levels kind ps = (pool : PoolType) (t : KindType) → IsKind pool kind t → AllByRecursion (AcceptsEntry levels (AcceptsMessage levels) pool t) ps

-- the entries of what holds a map
pub map_put : (inner : Takes) (levels : ℕ) (key : WireKey) (bytes : List ℕ) (old new : Value) (before after : List (MapKey × Value)) (kind : Kind) (r : Result (Bor (List ℕ)) WireError) → map_entries old ≡ Some before → map_entries new ≡ Some after
    → IfOk r (λ rest. (run : List Payload × Payload) × Fronts (IsRun levels key) bytes run rest.now × ((pool : PoolType) (t : KindType) → IsKind pool kind t → PutEntries inner pool t before after (run.0 ++ run.1 ∷ [])) × AcceptEntries levels kind (run.0 ++ run.1 ∷ []))
    → IfOk r (λ rest. (run : List Payload × Payload) × Fronts (IsRun levels key) bytes run rest.now × ((pool : PoolType) (t : KindType) → IsKind pool kind t → ContinuesMap inner pool t (Some old) (Some new) (run.0 ++ run.1 ∷ [])) × AcceptEntries levels kind (run.0 ++ run.1 ∷ []))
map_put inner levels key bytes old new before after kind (Ok rest) e f h = (h.0, h.1, (λ pool t is. (before, after, e, f, h.2 pool t is)), h.3)
map_put inner levels key bytes old new before after kind (Err fault) e f h = tt

-- what is read of an entry's bytes
abbrev pub Read : Takes → ℕ → FieldDescriptor → FieldDescriptor → List ℕ → MapKey → Value → Type 0
Read inner levels keys values body k v =
    (rs : List (ℕ × Payload)) × SpellsRecords levels body (records_of rs) × LeavesKey (field_pool keys) (field_type keys) k (payloads 1 rs) × LeavesValue inner (field_pool values) (field_type values) v (payloads 2 rs)
    × (IsMessageType (field_type values).kind → 0 < levels) × AllByRecursion (AcceptsOne (AcceptsMessage levels) (field_pool keys) (field_type keys)) (payloads 1 rs)
    × AllByRecursion (AcceptsOne (AcceptsMessage levels) (field_pool values) (field_type values)) (payloads 2 rs)

-- the fields of an entry's type
abbrev pub AreFields : PoolType → KindType → FieldDescriptor → FieldDescriptor → Type 0
AreFields pool t keys values = (field_pool keys ≡ pool) × (field_pool values ≡ pool) × (entry_field pool t 1 ≡ Some (field_type keys)) × (entry_field pool t 2 ≡ Some (field_type values))

pub entry_is_read : (pool : PoolType) (t : KindType) (here levels : ℕ) (keys values : FieldDescriptor) (body : List ℕ) (k : MapKey) (v : Value) → here ≡ levels → AreFields pool t keys values → Read (TakesAt here) here keys values body k v → IsEntry (TakesAt levels) pool t (delimited body) k v
entry_is_read pool t here levels keys values body k v same fields h =
    let entry : IsEntry (TakesAt here) pool t (delimited body) k v =
    (field_type keys, field_type values, h.0, fields.2, fields.3, h.1, subst (λ p. LeavesKey p (field_type keys) k (payloads 1 h.0)) fields.0 h.2, subst (λ p. LeavesValue (TakesAt here) p (field_type values) v (payloads 2 h.0)) fields.1 h.3) in
    subst (λ l. IsEntry (TakesAt l) pool t (delimited body) k v) same entry

pub entry_accepts : (pool : PoolType) (t : KindType) (here levels : ℕ) (keys values : FieldDescriptor) (body : List ℕ) (k : MapKey) (v : Value) → here ≡ levels → AreFields pool t keys values → Read (TakesAt here) here keys values body k v
    → AcceptsEntry levels (AcceptsMessage levels) pool t (delimited body)
entry_accepts pool t here levels keys values body k v same fields h =
    let entry : AcceptsEntry here (AcceptsMessage here) pool t (delimited body) = (
      field_type keys,
      field_type values,
      h.0,
      fields.2,
      fields.3,
      h.1,
      h.4,
      subst (λ p. AllByRecursion (AcceptsOne (AcceptsMessage here) p (field_type keys)) (payloads 1 h.0)) fields.0 h.5,
      subst (λ p. AllByRecursion (AcceptsOne (AcceptsMessage here) p (field_type values)) (payloads 2 h.0)) fields.1 h.6,
    ) in
    subst (λ l. AcceptsEntry l (AcceptsMessage l) pool t (delimited body)) same entry

-- a record of an entry's key leaves its value, and one of its value its key
module _ (inner : Takes) (levels : ℕ) (key : WireKey) (bytes : List ℕ) (p : PoolType) (keys : FieldType) (q : PoolType) (values : FieldType) (held_old held_new value_old value_new : Value) where
  abbrev Part : PoolType → FieldType → Value → Value → List ℕ → Type 0
  Part pool f old new rest = (v : Payload) × Fronts (IsValue levels key) bytes v rest × ChangesPart inner pool f old new (v ∷ []) × (PartSuits levels pool f old → AcceptsOne (AcceptsMessage levels) pool f v)

  abbrev Both : List ℕ → Type 0
  Both rest =
      (v : Payload) × Fronts (IsValue levels key) bytes v rest
      × ChangesPart inner p keys held_old held_new (payloads 1 ((key.number, v) ∷ [])) × ChangesPart inner q values value_old value_new (payloads 2 ((key.number, v) ∷ []))
      × (PartSuits levels p keys held_old → AllByRecursion (AcceptsOne (AcceptsMessage levels) p keys) (payloads 1 ((key.number, v) ∷ [])))
      × (PartSuits levels q values value_old → AllByRecursion (AcceptsOne (AcceptsMessage levels) q values) (payloads 2 ((key.number, v) ∷ [])))

  pub key_read : (r : Result (Bor (List ℕ)) WireError) → key.number ≡ 1 → value_new ≡ value_old → IfOk r (λ rest. Part p keys held_old held_new rest.now) → IfOk r (λ rest. Both rest.now)
  key_read (Err e) is stays h = tt
  key_read (Ok rest) is stays h =
      let other : key.number ≢ 2 = λ two. absurd (omega (arith, is, two)) in (
        h.0,
        h.1,
        part_here inner p keys 1 key.number held_old held_new h.0 is h.2,
        part_stays inner q values 2 key.number value_old value_new h.0 other stays,
        (λ suits. part_of_number (AcceptsOne (AcceptsMessage levels) p keys) 1 key.number h.0 is (h.3 suits)),
        λ suits. part_of_another (AcceptsOne (AcceptsMessage levels) q values) 2 key.number h.0 other,
      )

  pub value_read : (r : Result (Bor (List ℕ)) WireError) → key.number ≡ 2 → held_new ≡ held_old → IfOk r (λ rest. Part q values value_old value_new rest.now) → IfOk r (λ rest. Both rest.now)
  value_read (Err e) is stays h = tt
  value_read (Ok rest) is stays h =
      let other : key.number ≢ 1 = λ one. absurd (omega (arith, is, one)) in (
        h.0,
        h.1,
        part_stays inner p keys 1 key.number held_old held_new h.0 other stays,
        part_here inner q values 2 key.number value_old value_new h.0 is h.2,
        (λ suits. part_of_another (AcceptsOne (AcceptsMessage levels) p keys) 1 key.number h.0 other),
        λ suits. part_of_number (AcceptsOne (AcceptsMessage levels) q values) 2 key.number h.0 is (h.3 suits),
      )
