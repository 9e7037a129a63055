-- Why bytes are refused, record by record.
use Rattle.std.specs.BTreeMap.{BTreeMap}
use Rattle.std.specs.Borrow.{Bor}
use Rattle.std.specs.Option.{IsSome, is_some, option_or}
use Rattle.std.specs.Prelude.{string_bytes}
use Rattle.std.proofs.Common.{◌≡◌, ◌≢◌, ◌⊎◌, inl, inr, ℕ, suc, ◌+◌, Bool, true, false, List, [], ◌∷◌, ◌++◌, map, Option, None, Some, unwrap_or, Result, Ok, Err, IfErr, Vec, Global, refl, sym, ap, ◌∙◌, subst, append_assoc, append-nil, arith}
use Rattle.reflect_tables.specs.Types.{PoolType, FieldType, KindType}
use Rattle.reflect_tables.specs.Types as types
use Rattle.reflect_pool.specs.Kinds.{IsKind}
use Rattle.reflect_pool.specs.Shapes.{holds_list, holds_map}
use Rattle.reflect_pool.specs.declared.kind.Kind.{Kind}
use Rattle.reflect_pool.specs.declared.kind.Kind.TheVariants as kinds
use Rattle.reflect_pool.specs.declared.message.MessageDescriptor.{MessageDescriptor}
use Rattle.reflect_wire.specs.Faults.{KeyFault, DelimitedFault, ValueFault, TellsTrue}
use Rattle.reflect_wire.specs.Key.{IsKey, IsDelimited}
use Rattle.reflect_wire.specs.Reads.{Fronts, RefusesFront}
use Rattle.reflect_wire.specs.Records.{Payload, varint, fixed64, delimited, fixed32, key_of, IsValue, SpellsRecords}
use Rattle.reflect_wire.specs.Views.{records_of}
use Rattle.reflect_wire.specs.declared.wire_error.WireError.{WireError}
use Rattle.reflect_wire.specs.declared.wire_error.WireError.TheVariants.{Truncated, EndGroupMismatch, TooDeep, BadWireType, Memory}
use Rattle.reflect_wire.specs.declared.wire_key.WireKey.{WireKey}
use Rattle.reflect_wire.specs.declared.wire_key.WireType.TheVariants.{LengthDelimited, StartGroup, EndGroup}
use Rattle.reflect_wire.proofs.Faulty.{tells_as, tells_fault}
use Rattle.reflect_scalar.specs.Meaning.{StandsFor, ScalarFault}
use Rattle.reflect_scalar.specs.Singles.{Single, truth, int32, int64, uint32, uint64, text, blob, enumerated}
use Rattle.reflect_scalar.specs.declared.map_key.MapKey.{MapKey}
use Rattle.reflect_scalar.specs.declared.map_key.MapKey.TheVariants as keys
use Rattle.reflect_message.specs.KindTypes.{IsScalarType, IsMessageType}
use Rattle.reflect_message.specs.Known.{entry_field, known_field, known_extension}
use Rattle.reflect_message.specs.Lists.{list_items}
use Rattle.reflect_message.specs.MapKeys.{key_of_value}
use Rattle.reflect_message.specs.Maps.{map_entries}
use Rattle.reflect_message.specs.Contents.{content_of, nothing}
use Rattle.reflect_message.specs.Messages.{message_in, IsStart}
use Rattle.reflect_message.specs.Singles.{single}
use Rattle.reflect_message.specs.Names.{DynamicMessage, Held, Parts, Value}
use Rattle.reflect_message.specs.declared.parts.HeldOf.TheOpen.{ValueOf-F}
use Rattle.reflect_message.specs.declared.parts.HeldOf.TheViews.{out-ValueOf, roll-ValueOf, roll-out-ValueOf}
use Rattle.reflect_message.specs.declared.value.ValueOf as values
use denote.Hole.Carrier.{roll}
use Rattle.reflect_decode.specs.Accepts.{declared_at}
use Rattle.reflect_decode.specs.Maps.{LeavesSingle}
use Rattle.reflect_decode.specs.Merging.{IsBody, LeadsOn}
use Rattle.reflect_decode.specs.Packed.{PackedFault}
use Rattle.reflect_decode.specs.Refused.{Refusal, MessageFault, KindFault, IsPackedKey, ElementFault, OneFault, IsKeyKind, IsKeyValue, HoldsKeys, OtherFault, PartFault, EntryFault, MapFault, FaultAs, FieldFault, RecordFault, RunFault, IsWrongEnd, Within, BodyFault}
use Rattle.reflect_decode.specs.Suits.{Suiting, SuitsAs, HeldSuits, SuitsBelow, PartSuits}
use Rattle.reflect_decode.proofs.Accepting.{is_false}
use Rattle.reflect_decode.proofs.Running.{spells_two}
use Rattle.reflect_decode.proofs.Suiting.{Begins, begun, standing}
use Rattle.reflect_decode.proofs.Telling.{list_no_map}

-- a fault where the value stands that was to be read
pub run_begins : (levels : ℕ) (key : WireKey) (F : List ℕ → WireError → Type 0) (bytes : List ℕ) (e : WireError) → TellsTrue F bytes e → TellsTrue (RunFault levels key F) bytes e
run_begins levels key F bytes e h = tells_as F (RunFault levels key F) bytes bytes e (λ f. ([], bytes, ([], refl, refl), f)) h

pub run_as : (levels : ℕ) (key : WireKey) (F G : List ℕ → WireError → Type 0) (bytes : List ℕ) (e : WireError) → ((rest : List ℕ) → F rest e → G rest e) → TellsTrue (RunFault levels key F) bytes e → TellsTrue (RunFault levels key G) bytes e
run_as levels key F G bytes e to h = tells_as (RunFault levels key F) (RunFault levels key G) bytes bytes e (λ f. (f.0, f.1, f.2, to f.1 f.3)) h

-- what a run of records leads on to
module _ (levels : ℕ) (key : WireKey) where
  lead_spelled : (front lead : List ℕ) (ps : List Payload) → IsKey front key → LeadsOn levels key lead ps
      → (spelled again : List ℕ) × SpellsRecords levels spelled (records_of (map (λ p. (key.number, p)) ps)) × IsKey again key × (front ++ lead ≡ spelled ++ again)
  lead_spelled front lead [] k h = ([], front, refl, k, ap (λ l. front ++ l) h ∙ append-nil front)
  lead_spelled front lead (p ∷ ps) k h =
      let more = lead_spelled h.1 h.2 ps h.4 h.5 in (
        front ++ (h.0 ++ more.0),
        more.1,
        (front, h.0, more.0, subst (IsKey front) (ap (key_of key.number) h.3.0) k, h.3.1, more.2, refl),
        more.3,
        ap (λ l. front ++ l) h.6 ∙ ap (λ l. front ++ (h.0 ++ l)) more.4 ∙ simp append_assoc,
      )

module _ (levels : ℕ) (pool : PoolType) (i : ℕ) (group : Option ℕ) (bytes rest : List ℕ) (done : List (ℕ × Payload)) (found : Fronts (IsBody None levels) bytes done rest) where
  abbrev Body : List ℕ → WireError → Type 0
  Body = BodyFault levels pool i group

  pub key_refused : (e : WireError) → rest ≢ [] → KeyFault rest e → TellsTrue Body bytes e
  key_refused e some fault = tells_fault Body bytes e (done, rest, found, inl ((λ none. some), fault))

  pub ends_inside_group : (n : ℕ) → group ≡ Some n → rest ≡ [] → TellsTrue Body bytes Truncated
  ends_inside_group n is none = (done, rest, found, inl ((λ not. absurd (cc (is, not))), subst (λ r. KeyFault r Truncated) (sym none) (tt, omega arith)))

  pub end_refused : (key : WireKey) (behind : List ℕ) → Fronts IsKey rest key behind → IsWrongEnd group key → TellsTrue Body bytes EndGroupMismatch
  end_refused key behind k wrong = (done, rest, found, inr (key, behind, k, inl (wrong, tt)))

  pub record_refused : (key : WireKey) (behind : List ℕ) (e : WireError) → Fronts IsKey rest key behind → key.wire ≢ EndGroup
      → TellsTrue (RunFault levels key (RecordFault levels (Within levels) pool (declared_at pool i key.number) key)) behind e → TellsTrue Body bytes e
  record_refused key behind e k wire h = tells_as (RunFault levels key (RecordFault levels (Within levels) pool (declared_at pool i key.number) key)) Body behind bytes e to h where
    to : RunFault levels key (RecordFault levels (Within levels) pool (declared_at pool i key.number) key) behind e → Body bytes e
    to f =
        let led = lead_spelled levels key k.0 f.2.0 f.0 k.1 f.2.1 in
        let both = spells_two levels found.0 led.0 done (map (λ p. (key.number, p)) f.0) found.1 led.2 in (
          done ++ map (λ p. (key.number, p)) f.0,
          led.1 ++ f.1,
          (found.0 ++ led.0, both, found.2 ∙ ap (λ l. found.0 ++ l) (k.2 ∙ ap (λ l. k.0 ++ l) f.2.2 ∙ sym (append_assoc k.0 f.2.0 f.1) ∙ ap (λ l. l ++ f.1) led.4) ∙ simp append_assoc),
          inr (key, f.1, (led.1, led.3, refl), inr (wire, f.3)),
        )

-- a record that is no field's
pub other_told : (levels : ℕ) (key : WireKey) (bytes : List ℕ) (e : WireError) → RefusesFront (IsValue levels key) bytes e → TellsTrue (ValueFault levels key) bytes e → TellsTrue (OtherFault levels key) bytes e
other_told levels key bytes Memory none h = tt
other_told levels key bytes e none h = (none, h)

-- the record of a field, or of an extension
module _ (levels : ℕ) (pool : PoolType) (i n : ℕ) (key : WireKey) (bytes : List ℕ) (e : WireError) where
  abbrev Record : Option FieldType → List ℕ → WireError → Type 0
  Record o = RecordFault levels (Within levels) pool o key

  of_field : (own : PoolType) (f : FieldType) → own ≡ pool → declared_at pool i n ≡ Some f
      → TellsTrue (RunFault levels key (FieldFault levels (Within levels) own f key)) bytes e → TellsTrue (RunFault levels key (Record (declared_at pool i n))) bytes e
  of_field own f same is h = subst (λ o. TellsTrue (RunFault levels key (Record o)) bytes e) (sym is) (subst (λ p. TellsTrue (RunFault levels key (FieldFault levels (Within levels) p f key)) bytes e) same h)

  pub field_refused : (own : PoolType) (f : FieldType) → own ≡ pool → Some f ≡ known_field pool i n
      → TellsTrue (RunFault levels key (FieldFault levels (Within levels) own f key)) bytes e → TellsTrue (RunFault levels key (Record (declared_at pool i n))) bytes e
  field_refused own f same known h = of_field own f same (ap (λ o. option_or o (known_extension pool i n)) (sym known)) h

  pub extension_refused : (own : PoolType) (f : FieldType) → own ≡ pool → None ≡ known_field pool i n → Some f ≡ known_extension pool i n
      → TellsTrue (RunFault levels key (FieldFault levels (Within levels) own f key)) bytes e → TellsTrue (RunFault levels key (Record (declared_at pool i n))) bytes e
  extension_refused own f same none known h = of_field own f same (ap (λ o. option_or o (known_extension pool i n)) (sym none) ∙ sym known) h

  pub other_refused : None ≡ known_field pool i n → None ≡ known_extension pool i n → RefusesFront (IsValue levels key) bytes e → TellsTrue (ValueFault levels key) bytes e → TellsTrue (RunFault levels key (Record (declared_at pool i n))) bytes e
  other_refused none also refused h =
      let is : declared_at pool i n ≡ None = ap (λ o. option_or o (known_extension pool i n)) (sym none) ∙ sym also in
      subst (λ o. TellsTrue (RunFault levels key (Record o)) bytes e) (sym is) (run_begins levels key (OtherFault levels key) bytes e (other_told levels key bytes e refused h))

-- what refuses a field's record
module _ (levels : ℕ) (pool : PoolType) (f : FieldType) (key : WireKey) (bytes : List ℕ) (e : WireError) where
  abbrev Field : List ℕ → WireError → Type 0
  Field = FieldFault levels (Within levels) pool f key

  abbrev As : Bool → Bool → List ℕ → WireError → Type 0
  As map list = FaultAs levels (Within levels) pool f map list key

  by_shape : (map list : Bool) → holds_map pool f ≡ map → holds_list pool f ≡ list → (rest : List ℕ) → As map list rest e → Field rest e
  by_shape map list is also rest h = subst (λ m. As m (holds_list pool f) rest e) (sym is) (subst (λ l. As map l rest e) (sym also) h)

  pub list_refused : (grouped : Bool) (kind : Kind) → grouped ≡ f.group → IsKind pool kind f.kind → holds_list pool f ≡ true
      → TellsTrue (RunFault levels key (ElementFault (Within levels) grouped kind key)) bytes e → TellsTrue (RunFault levels key Field) bytes e
  list_refused grouped kind form is list h = run_as levels key (ElementFault (Within levels) grouped kind key) Field bytes e to h where
    to : (rest : List ℕ) → ElementFault (Within levels) grouped kind key rest e → Field rest e
    to rest fault = by_shape false true (is_false (holds_map pool f) (list_no_map pool f list)) list rest (kind, is, subst (λ g. ElementFault (Within levels) g kind key rest e) form fault)

  pub map_refused : holds_map pool f ≡ true
      → TellsTrue (RunFault levels key (MapFault levels (Within levels) pool f.kind key)) bytes e → TellsTrue (RunFault levels key Field) bytes e
  map_refused map h = run_as levels key (MapFault levels (Within levels) pool f.kind key) Field bytes e to h where
    to : (rest : List ℕ) → MapFault levels (Within levels) pool f.kind key rest e → Field rest e
    to rest fault = subst (λ m. As m (holds_list pool f) rest e) (sym map) fault

  pub one_refused : holds_map pool f ≡ false → holds_list pool f ≡ false → TellsTrue (OneFault (Within levels) pool f key) bytes e → TellsTrue (RunFault levels key Field) bytes e
  one_refused no_map no_list h = run_begins levels key Field bytes e (tells_as (OneFault (Within levels) pool f key) Field bytes bytes e (by_shape false false no_map no_list bytes) h)

-- a message of the field's kind
pub message_refused : (inner : Refusal) (pool : PoolType) (f : FieldType) (grouped : Bool) (d : MessageDescriptor) (key : WireKey) (bytes : List ℕ) (e : WireError) → grouped ≡ f.group → IsKind pool (kinds.Message d) f.kind
    → TellsTrue (MessageFault inner grouped d.pool.now d.index key) bytes e → TellsTrue (OneFault inner pool f key) bytes e
message_refused inner pool f grouped d key bytes e form is h =
    tells_as (MessageFault inner grouped d.pool.now d.index key) (OneFault inner pool f key) bytes bytes e (λ fault. (kinds.Message d, is, subst (λ g. MessageFault inner g d.pool.now d.index key bytes e) form fault)) h

-- of a kind that is no message, a single value is read
scalar_fault : (inner : Refusal) (grouped : Bool) (kind : Kind) (key : WireKey) (bytes : List ℕ) (e : WireError) → ((d : MessageDescriptor) → kind ≡ kinds.Message d → ⊥) → ScalarFault kind key.wire bytes e → KindFault inner grouped kind key bytes e
scalar_fault inner grouped (kinds.Message d) key bytes e other h = absurd (other d refl)
scalar_fault inner grouped kind key bytes e other h = h

message_unpacked : (d : MessageDescriptor) (key : WireKey) → IsPackedKey (kinds.Message d) key → ⊥
message_unpacked d key h = absurd (cc (h.1))

module _ (inner : Refusal) (grouped : Bool) (kind : Kind) (key : WireKey) (bytes : List ℕ) (e : WireError) where
  pub single_refused : (pool : PoolType) (f : FieldType) → IsKind pool kind f.kind → grouped ≡ f.group → ((d : MessageDescriptor) → kind ≡ kinds.Message d → ⊥) → ScalarFault kind key.wire bytes e → TellsTrue (OneFault inner pool f key) bytes e
  single_refused pool f is form other h = tells_fault (OneFault inner pool f key) bytes e (kind, is, scalar_fault inner f.group kind key bytes e other h)

  pub element_refused : (IsPackedKey kind key → ⊥) → ((d : MessageDescriptor) → kind ≡ kinds.Message d → ⊥) → ScalarFault kind key.wire bytes e → TellsTrue (ElementFault inner grouped kind key) bytes e
  element_refused unpacked other h = tells_fault (ElementFault inner grouped kind key) bytes e (inl (unpacked, scalar_fault inner grouped kind key bytes e other h))

  pub nested_refused : (d : MessageDescriptor) → kind ≡ kinds.Message d → TellsTrue (MessageFault inner grouped d.pool.now d.index key) bytes e → TellsTrue (ElementFault inner grouped kind key) bytes e
  nested_refused d is h =
      tells_as (MessageFault inner grouped d.pool.now d.index key) (ElementFault inner grouped kind key) bytes bytes e (λ fault. subst (λ k. ElementFault inner grouped k key bytes e) (sym is) (inl (message_unpacked d key, fault))) h

  pub length_refused : IsPackedKey kind key → DelimitedFault bytes e → TellsTrue (ElementFault inner grouped kind key) bytes e
  length_refused packed h = tells_fault (ElementFault inner grouped kind key) bytes e (inr (packed, inl h))

  pub row_refused : (body rest : List ℕ) → IsPackedKey kind key → Fronts IsDelimited bytes body rest → TellsTrue (PackedFault kind) body e → TellsTrue (ElementFault inner grouped kind key) bytes e
  row_refused body rest packed h t = tells_as (PackedFault kind) (ElementFault inner grouped kind key) body bytes e (λ fault. inr (packed, inr (body, rest, h, fault))) t

-- a message behind its length, and one between its tags
module _ (levels : ℕ) (pool : PoolType) (i : ℕ) (key : WireKey) (bytes : List ℕ) where
  abbrev Message : Bool → List ℕ → WireError → Type 0
  Message grouped = MessageFault (Within levels) grouped pool i key

  -- where no level is left
  none_left : (end : Option ℕ) (body : List ℕ) → levels ≡ 0 → Within levels pool i end body TooDeep
  none_left end body none = subst (λ l. Within l pool i end body TooDeep) (sym none) tt

  pub sized_length : (grouped : Bool) (e : WireError) → grouped ≡ false → key.wire ≡ LengthDelimited → DelimitedFault bytes e → TellsTrue (Message grouped) bytes e
  sized_length grouped e form wire h = tells_fault (Message grouped) bytes e (subst (λ g. Message g bytes e) (sym form) (inr (wire, inl h)))

  pub sized_too_deep : (grouped : Bool) (body rest : List ℕ) → grouped ≡ false → key.wire ≡ LengthDelimited → Fronts IsDelimited bytes body rest → levels ≡ 0 → TellsTrue (Message grouped) bytes TooDeep
  sized_too_deep grouped body rest form wire h none = subst (λ g. Message g bytes TooDeep) (sym form) (inr (wire, inr (body, rest, h, none_left None body none)))

  pub group_too_deep : (grouped : Bool) → grouped ≡ true → key.wire ≡ StartGroup → levels ≡ 0 → TellsTrue (Message grouped) bytes TooDeep
  group_too_deep grouped form wire none = subst (λ g. Message g bytes TooDeep) (sym form) (inr (wire, none_left (Some key.number) bytes none))

  module _ (below : ℕ) (above : below + 1 ≡ levels) where
    body_below : (end : Option ℕ) (body : List ℕ) (e : WireError) → BodyFault below pool i end body e → Within levels pool i end body e
    body_below end body e h =
        let up : suc below ≡ levels = omega (arith, above) in
        subst (λ l. Within l pool i end body e) up h

    pub sized_refused : (grouped : Bool) (body rest : List ℕ) (e : WireError) → grouped ≡ false → key.wire ≡ LengthDelimited → Fronts IsDelimited bytes body rest → TellsTrue (BodyFault below pool i None) body e → TellsTrue (Message grouped) bytes e
    sized_refused grouped body rest e form wire h t =
        tells_as (BodyFault below pool i None) (Message grouped) body bytes e (λ fault. subst (λ g. Message g bytes e) (sym form) (inr (wire, inr (body, rest, h, body_below None body e fault)))) t

    pub group_refused : (grouped : Bool) (e : WireError) → grouped ≡ true → key.wire ≡ StartGroup → TellsTrue (BodyFault below pool i (Some key.number)) bytes e → TellsTrue (Message grouped) bytes e
    group_refused grouped e form wire t =
        tells_as (BodyFault below pool i (Some key.number)) (Message grouped) bytes bytes e (λ fault. subst (λ g. Message g bytes e) (sym form) (inr (wire, body_below (Some key.number) bytes e fault))) t

  pub wrong_form : (grouped : Bool) → (grouped ≡ false → key.wire ≢ LengthDelimited) → (grouped ≡ true → key.wire ≢ StartGroup) → TellsTrue (Message grouped) bytes BadWireType
  wrong_form false sized tagged = inl (sized refl, tt)
  wrong_form true sized tagged = inl (tagged refl, tt)

-- entries of maps
module _ (levels : ℕ) (inner : Refusal) (pool : PoolType) (t : KindType) (key : WireKey) (bytes : List ℕ) where
  abbrev Map : List ℕ → WireError → Type 0
  Map = MapFault levels inner pool t key

  pub no_length : key.wire ≢ LengthDelimited → TellsTrue Map bytes BadWireType
  no_length wire = inl (wire, tt)

  pub no_parts : (entry_field pool t 1 ≡ None) ⊎ (entry_field pool t 2 ≡ None) → TellsTrue Map bytes BadWireType
  no_parts none = inr (inl (none, tt))

  pub entry_length : (e : WireError) → key.wire ≡ LengthDelimited → DelimitedFault bytes e → TellsTrue Map bytes e
  entry_length e wire h = tells_fault Map bytes e (inr (inr (inl (wire, h))))

  pub entry_refused : (p q : PoolType) (keys values : FieldType) (body rest : List ℕ) (e : WireError) → p ≡ pool → q ≡ pool → entry_field pool t 1 ≡ Some keys → entry_field pool t 2 ≡ Some values → key.wire ≡ LengthDelimited → Fronts IsDelimited bytes body rest
      → TellsTrue (EntryFault levels inner p keys q values) body e → TellsTrue Map bytes e
  entry_refused p q keys values body rest e same also one two wire h told =
      tells_as (EntryFault levels inner p keys q values) Map body bytes e (λ fault. inr (inr (inr (keys, values, body, rest, one, two, wire, h, subst (λ q. EntryFault levels inner pool keys q values body e) also (subst (λ p. EntryFault levels inner p keys q values body e) same fault))))) told

module _ (levels : ℕ) (inner : Refusal) (p : PoolType) (keys : FieldType) (q : PoolType) (values : FieldType) (body : List ℕ) where
  abbrev Entry : List ℕ → WireError → Type 0
  Entry = EntryFault levels inner p keys q values

  pub entry_too_deep : IsMessageType values.kind → levels ≡ 0 → TellsTrue Entry body TooDeep
  entry_too_deep type none = inl (type, none, tt)

  pub no_key : (HoldsKeys p keys → ⊥) → TellsTrue Entry body BadWireType
  no_key none = inr (inl (none, tt))

  module _ (rest : List ℕ) (done : List (ℕ × Payload)) (found : Fronts (IsBody None levels) body done rest) (some : rest ≢ []) where
    pub entry_key_refused : (e : WireError) → KeyFault rest e → TellsTrue Entry body e
    entry_key_refused e h = tells_fault Entry body e (inr (inr (done, rest, found, some, inl h)))

    pub part_refused : (key : WireKey) (behind : List ℕ) (e : WireError) → Fronts IsKey rest key behind → TellsTrue (PartFault levels inner p keys q values key) behind e → TellsTrue Entry body e
    part_refused key behind e k told = tells_as (PartFault levels inner p keys q values key) Entry behind body e (λ fault. inr (inr (done, rest, found, some, inr (key, behind, k, fault)))) told

  module _ (key : WireKey) (e : WireError) where
    pub key_part : key.number ≡ 1 → TellsTrue (OneFault inner p keys key) body e → TellsTrue (PartFault levels inner p keys q values key) body e
    key_part is told = tells_as (OneFault inner p keys key) (PartFault levels inner p keys q values key) body body e (λ fault. inl (is, fault)) told

    pub value_part : key.number ≡ 2 → TellsTrue (OneFault inner q values key) body e → TellsTrue (PartFault levels inner p keys q values key) body e
    value_part is told = tells_as (OneFault inner q values key) (PartFault levels inner p keys q values key) body body e (λ fault. inr (inl (is, fault))) told

    pub other_part : key.number ≢ 1 → key.number ≢ 2 → RefusesFront (IsValue levels key) body e → TellsTrue (ValueFault levels key) body e → TellsTrue (PartFault levels inner p keys q values key) body e
    other_part one two none told = tells_as (OtherFault levels key) (PartFault levels inner p keys q values key) body body e (λ fault. inr (inr (one, two, fault))) (other_told levels key body e none told)

-- a kind of keys is scalar
key_scalar : (t : KindType) → IsKeyKind t → IsScalarType t
key_scalar types.double h = h
key_scalar types.float h = h
key_scalar types.int32 h = tt
key_scalar types.int64 h = tt
key_scalar types.uint32 h = tt
key_scalar types.uint64 h = tt
key_scalar types.sint32 h = tt
key_scalar types.sint64 h = tt
key_scalar types.fixed32 h = tt
key_scalar types.fixed64 h = tt
key_scalar types.sfixed32 h = tt
key_scalar types.sfixed64 h = tt
key_scalar types.bool h = tt
key_scalar types.string h = tt
key_scalar types.bytes h = absurd h
key_scalar (types.message i) h = absurd h
key_scalar (types.enumeration i) h = absurd h

-- and what means a value of it is a key
key_meant : (pool : PoolType) (t : KindType) (kind : Kind) (p : Payload) (v : Single) → IsKind pool kind t → IsKeyKind t → StandsFor kind p v → IsKeyValue (Some v)
key_meant pool t kinds.Int32 (varint n) v is key h = subst (λ v. IsKeyValue (Some v)) (sym h) tt
key_meant pool t kinds.Int64 (varint n) v is key h = subst (λ v. IsKeyValue (Some v)) (sym h) tt
key_meant pool t kinds.Uint32 (varint n) v is key h = subst (λ v. IsKeyValue (Some v)) (sym h) tt
key_meant pool t kinds.Uint64 (varint n) v is key h = subst (λ v. IsKeyValue (Some v)) (sym h) tt
key_meant pool t kinds.Sint32 (varint n) v is key h = subst (λ v. IsKeyValue (Some v)) (sym h.2) tt
key_meant pool t kinds.Sint64 (varint n) v is key h = subst (λ v. IsKeyValue (Some v)) (sym h.2) tt
key_meant pool t kinds.Bool (varint n) v is key h = subst (λ v. IsKeyValue (Some v)) (sym h) tt
key_meant pool t kinds.Fixed32 (fixed32 n) v is key h = subst (λ v. IsKeyValue (Some v)) (sym h) tt
key_meant pool t kinds.Sfixed32 (fixed32 n) v is key h = subst (λ v. IsKeyValue (Some v)) (sym h) tt
key_meant pool t kinds.Fixed64 (fixed64 n) v is key h = subst (λ v. IsKeyValue (Some v)) (sym h) tt
key_meant pool t kinds.Sfixed64 (fixed64 n) v is key h = subst (λ v. IsKeyValue (Some v)) (sym h) tt
key_meant pool t kinds.String (delimited b) v is key h = subst (λ v. IsKeyValue (Some v)) (sym h.1) tt
key_meant pool t kinds.Bytes (delimited b) v is key h = absurd (subst IsKeyKind is key)
key_meant pool t (kinds.Enum d) (varint n) v is key h = absurd (subst IsKeyKind is.1 key)
key_meant pool t kind p v is key h = absurd h

abbrev key_in : ValueOf-F MessageDescriptor Held Value DynamicMessage Parts → Option MapKey
key_in o = elim o [
  | ValueOf-F.Bool b ↦ Some (keys.Bool b)
  | ValueOf-F.I32 z ↦ Some (keys.I32 z)
  | ValueOf-F.I64 z ↦ Some (keys.I64 z)
  | ValueOf-F.U32 n ↦ Some (keys.U32 n)
  | ValueOf-F.U64 n ↦ Some (keys.U64 n)
  | ValueOf-F.String t ↦ Some (keys.String t)
  | ValueOf-F.Bytes b ↦ None
  | ValueOf-F.EnumNumber z ↦ None
  | ValueOf-F.Message m ↦ None
  | ValueOf-F.List vs ↦ None
  | ValueOf-F.Map es ↦ None
]

abbrev single_in : ValueOf-F MessageDescriptor Held Value DynamicMessage Parts → Option Single
single_in o = elim o [
  | ValueOf-F.Bool b ↦ Some (truth b)
  | ValueOf-F.I32 z ↦ Some (int32 z)
  | ValueOf-F.I64 z ↦ Some (int64 z)
  | ValueOf-F.U32 n ↦ Some (uint32 n)
  | ValueOf-F.U64 n ↦ Some (uint64 n)
  | ValueOf-F.String t ↦ Some (text (string_bytes t))
  | ValueOf-F.Bytes b ↦ Some (blob b.items)
  | ValueOf-F.EnumNumber z ↦ Some (enumerated z)
  | ValueOf-F.Message m ↦ None
  | ValueOf-F.List vs ↦ None
  | ValueOf-F.Map es ↦ None
]

not_key : (v : Value) → key_of_value v ≡ None → IsKeyValue (single v) → ⊥
not_key v = by (out-ValueOf MessageDescriptor v) where
  by : (o : ValueOf-F MessageDescriptor Held Value DynamicMessage Parts) → key_in o ≡ None → IsKeyValue (single_in o) → ⊥
  by (ValueOf-F.Bool b) e h = absurd (cc e)
  by (ValueOf-F.I32 z) e h = absurd (cc e)
  by (ValueOf-F.I64 z) e h = absurd (cc e)
  by (ValueOf-F.U32 n) e h = absurd (cc e)
  by (ValueOf-F.U64 n) e h = absurd (cc e)
  by (ValueOf-F.String t) e h = absurd (cc e)
  by (ValueOf-F.Bytes b) e h = h
  by (ValueOf-F.EnumNumber z) e h = h
  by (ValueOf-F.Message m) e h = h
  by (ValueOf-F.List vs) e h = h
  by (ValueOf-F.Map es) e h = h

-- a value that is no key is left only of a field that can be no key's
pub keyless : (held : Value) (pool : PoolType) (f : FieldType) (ps : List Payload) → key_of_value held ≡ None → (IsScalarType f.kind → LeavesSingle pool f (single held) ps) → HoldsKeys pool f → ⊥
keyless held pool f [] none leaves holds = not_key held none (subst IsKeyValue (sym (leaves (key_scalar f.kind holds.0))) holds.1)
keyless held pool f (p ∷ ps) none leaves holds =
    let left = leaves (key_scalar f.kind holds.0) in
    let last = left.2 in
    not_key held none (subst IsKeyValue (sym left.1) (key_meant pool f.kind last.0 last.2 left.0 last.3 holds.0 last.5))

-- what is no map has no entries, what is no list no elements, and what is no message none
abbrev entries_in : ValueOf-F MessageDescriptor Held Value DynamicMessage Parts → Option (List (MapKey × Value))
entries_in o = elim o [
  | ValueOf-F.Bool b ↦ None
  | ValueOf-F.I32 z ↦ None
  | ValueOf-F.I64 z ↦ None
  | ValueOf-F.U32 n ↦ None
  | ValueOf-F.U64 n ↦ None
  | ValueOf-F.String t ↦ None
  | ValueOf-F.Bytes b ↦ None
  | ValueOf-F.EnumNumber z ↦ None
  | ValueOf-F.Message m ↦ None
  | ValueOf-F.List vs ↦ None
  | ValueOf-F.Map es ↦ Some es.entries
]

pub no_entries : (v : Value) → ((es : BTreeMap MapKey Value) → v ≡ values.Map es → ⊥) → IsSome (map_entries v) → ⊥
unfolding roll-ValueOf roll
no_entries v other = by (out-ValueOf MessageDescriptor v) refl where
  by : (o : ValueOf-F MessageDescriptor Held Value DynamicMessage Parts) → out-ValueOf MessageDescriptor v ≡ o → IsSome (entries_in o) → ⊥
  by (ValueOf-F.Bool b) e h = absurd (cc h)
  by (ValueOf-F.I32 z) e h = absurd (cc h)
  by (ValueOf-F.I64 z) e h = absurd (cc h)
  by (ValueOf-F.U32 n) e h = absurd (cc h)
  by (ValueOf-F.U64 n) e h = absurd (cc h)
  by (ValueOf-F.String t) e h = absurd (cc h)
  by (ValueOf-F.Bytes b) e h = absurd (cc h)
  by (ValueOf-F.EnumNumber z) e h = absurd (cc h)
  by (ValueOf-F.Message m) e h = absurd (cc h)
  by (ValueOf-F.List vs) e h = absurd (cc h)
  by (ValueOf-F.Map es) e h = other es (sym (roll-out-ValueOf MessageDescriptor v) ∙ ap (roll-ValueOf MessageDescriptor) e)

abbrev items_in : ValueOf-F MessageDescriptor Held Value DynamicMessage Parts → Option (List Value)
items_in o = elim o [
  | ValueOf-F.Bool b ↦ None
  | ValueOf-F.I32 z ↦ None
  | ValueOf-F.I64 z ↦ None
  | ValueOf-F.U32 n ↦ None
  | ValueOf-F.U64 n ↦ None
  | ValueOf-F.String t ↦ None
  | ValueOf-F.Bytes b ↦ None
  | ValueOf-F.EnumNumber z ↦ None
  | ValueOf-F.Message m ↦ None
  | ValueOf-F.List vs ↦ Some vs.items
  | ValueOf-F.Map es ↦ None
]

pub no_items : (v : Value) → ((vs : Vec Value Global) → v ≡ values.List vs → ⊥) → IsSome (list_items v) → ⊥
unfolding roll-ValueOf roll
no_items v other = by (out-ValueOf MessageDescriptor v) refl where
  by : (o : ValueOf-F MessageDescriptor Held Value DynamicMessage Parts) → out-ValueOf MessageDescriptor v ≡ o → IsSome (items_in o) → ⊥
  by (ValueOf-F.Bool b) e h = absurd (cc h)
  by (ValueOf-F.I32 z) e h = absurd (cc h)
  by (ValueOf-F.I64 z) e h = absurd (cc h)
  by (ValueOf-F.U32 n) e h = absurd (cc h)
  by (ValueOf-F.U64 n) e h = absurd (cc h)
  by (ValueOf-F.String t) e h = absurd (cc h)
  by (ValueOf-F.Bytes b) e h = absurd (cc h)
  by (ValueOf-F.EnumNumber z) e h = absurd (cc h)
  by (ValueOf-F.Message m) e h = absurd (cc h)
  by (ValueOf-F.List vs) e h = other vs (sym (roll-out-ValueOf MessageDescriptor v) ∙ ap (roll-ValueOf MessageDescriptor) e)
  by (ValueOf-F.Map es) e h = absurd (cc h)

abbrev message_at : ValueOf-F MessageDescriptor Held Value DynamicMessage Parts → Option DynamicMessage
message_at o = elim o [
  | ValueOf-F.Bool b ↦ None
  | ValueOf-F.I32 z ↦ None
  | ValueOf-F.I64 z ↦ None
  | ValueOf-F.U32 n ↦ None
  | ValueOf-F.U64 n ↦ None
  | ValueOf-F.String t ↦ None
  | ValueOf-F.Bytes b ↦ None
  | ValueOf-F.EnumNumber z ↦ None
  | ValueOf-F.Message m ↦ Some m
  | ValueOf-F.List vs ↦ None
  | ValueOf-F.Map es ↦ None
]

pub no_message_there : (v : Value) → ((m : DynamicMessage) → v ≡ values.Message m → ⊥) → IsSome (message_in v) → ⊥
unfolding roll-ValueOf roll
no_message_there v other = by (out-ValueOf MessageDescriptor v) refl where
  by : (o : ValueOf-F MessageDescriptor Held Value DynamicMessage Parts) → out-ValueOf MessageDescriptor v ≡ o → IsSome (message_at o) → ⊥
  by (ValueOf-F.Bool b) e h = absurd (cc h)
  by (ValueOf-F.I32 z) e h = absurd (cc h)
  by (ValueOf-F.I64 z) e h = absurd (cc h)
  by (ValueOf-F.U32 n) e h = absurd (cc h)
  by (ValueOf-F.U64 n) e h = absurd (cc h)
  by (ValueOf-F.String t) e h = absurd (cc h)
  by (ValueOf-F.Bytes b) e h = absurd (cc h)
  by (ValueOf-F.EnumNumber z) e h = absurd (cc h)
  by (ValueOf-F.Message m) e h = other m (sym (roll-out-ValueOf MessageDescriptor v) ∙ ap (roll-ValueOf MessageDescriptor) e)
  by (ValueOf-F.List vs) e h = absurd (cc h)
  by (ValueOf-F.Map es) e h = absurd (cc h)

-- the slot of a field: what the field holds, or what is put there where nothing stands
module _ (inner : Suiting) (pool : PoolType) (f : FieldType) (empty slot : Value) where
  suits_as : (map list : Bool) → holds_map pool f ≡ map → holds_list pool f ≡ list → (w : Value) → HeldSuits inner pool f (Some w) → SuitsAs inner pool f.kind map list w
  suits_as map list is also w h = subst (λ l. SuitsAs inner pool f.kind map l w) also (subst (λ m. SuitsAs inner pool f.kind m (holds_list pool f) w) is h)

  pub slot_is_map : (old : Option Value) → slot ≡ unwrap_or old empty → IsSome (map_entries empty) → holds_map pool f ≡ true → HeldSuits inner pool f old → IsSome (map_entries slot)
  slot_is_map None is none map suits = subst (λ v. IsSome (map_entries v)) (sym is) none
  slot_is_map (Some w) is none map suits = subst (λ v. IsSome (map_entries v)) (sym is) (suits_as true (holds_list pool f) map refl w suits)

  pub slot_is_list : (old : Option Value) → slot ≡ unwrap_or old empty → IsSome (list_items empty) → holds_list pool f ≡ true → HeldSuits inner pool f old → IsSome (list_items slot)
  slot_is_list None is none list suits = subst (λ v. IsSome (list_items v)) (sym is) none
  slot_is_list (Some w) is none list suits = subst (λ v. IsSome (list_items v)) (sym is) (suits_as false true (is_false (holds_map pool f) (list_no_map pool f list)) list w suits)

  pub slot_is_message : (old : Option Value) → slot ≡ unwrap_or old empty → IsSome (message_in empty) → IsMessageType f.kind → holds_map pool f ≡ false → holds_list pool f ≡ false → HeldSuits inner pool f old → IsSome (message_in slot)
  slot_is_message None is none type no_map no_list suits = subst (λ v. IsSome (message_in v)) (sym is) none
  slot_is_message (Some w) is none type no_map no_list suits =
      let m = suits_as false false no_map no_list w suits type in
      subst (λ v. IsSome (message_in v)) (sym is) (ap is_some m.1)

-- what is told is told of all that a call is refused for
pub refused_as : (r : Result (Bor (List ℕ)) WireError) (F G : WireError → Type 0) → ((e : WireError) → F e → G e) → IfErr r F → IfErr r G
refused_as (Ok rest) F G to h = tt
refused_as (Err e) F G to h = to e h

pub refused_both : (r : Result (Bor (List ℕ)) WireError) (F G H : WireError → Type 0) → ((e : WireError) → F e → G e → H e) → IfErr r F → IfErr r G → IfErr r H
refused_both (Ok rest) F G H to h k = tt
refused_both (Err e) F G H to h k = to e h k

-- a fault behind some records with one key
pub run_at : (levels : ℕ) (key : WireKey) (F : List ℕ → WireError → Type 0) (bytes rest : List ℕ) (ps : List Payload) (e : WireError) → Fronts (LeadsOn levels key) bytes ps rest → TellsTrue F rest e → TellsTrue (RunFault levels key F) bytes e
run_at levels key F bytes rest ps e h told = tells_as F (RunFault levels key F) rest bytes e (λ f. (ps, rest, h, f)) told

-- a fault of an element behind others with the same key
pub list_at : (levels here : ℕ) (grouped : Bool) (kind : Kind) (key again : WireKey) (bytes rest : List ℕ) (ps : List Payload) (e : WireError) → here ≡ levels → again ≡ key → Fronts (LeadsOn levels key) bytes ps rest
    → TellsTrue (ElementFault (Within here) grouped kind again) rest e → TellsTrue (RunFault levels key (ElementFault (Within levels) grouped kind key)) bytes e
list_at levels here grouped kind key again bytes rest ps e same is h told =
    let there = subst (λ k. TellsTrue (ElementFault (Within levels) grouped kind k) rest e) is (subst (λ l. TellsTrue (ElementFault (Within l) grouped kind again) rest e) same told) in
    tells_as (ElementFault (Within levels) grouped kind key) (RunFault levels key (ElementFault (Within levels) grouped kind key)) rest bytes e (λ f. (ps, rest, h, f)) there

-- what a message that stands in a field, or for an entry's part, is refused for
module _ (levels : ℕ) (pool : PoolType) (f : FieldType) (key : WireKey) (bytes : List ℕ) (grouped : Bool) (form : grouped ≡ f.group) where
  abbrev Told : DynamicMessage → Result (Bor (List ℕ)) WireError → Type 0
  Told m r = SuitsBelow levels m.descriptor (content_of m) → IfErr r (TellsTrue (MessageFault (Within levels) grouped m.descriptor.pool.now m.descriptor.index key) bytes)

  -- of a message of the field's type
  as_one : (m : DynamicMessage) (r : Result (Bor (List ℕ)) WireError) → Begins levels pool f.kind m → Told m r → IfErr r (TellsTrue (OneFault (Within levels) pool f key) bytes)
  as_one m r begins told = refused_as r _ _ (λ e h. message_refused (Within levels) pool f grouped m.descriptor key bytes e form begins.0 h) (told begins.1)

  pub message_fault : (d : MessageDescriptor) (fresh before taken : DynamicMessage) (old : Option Value) (empty slot : Value) (r : Result (Bor (List ℕ)) WireError) → IsKind pool (kinds.Message d) f.kind → holds_map pool f ≡ false → holds_list pool f ≡ false
      → slot ≡ unwrap_or old empty → message_in empty ≡ Some fresh → fresh.descriptor ≡ d → content_of fresh ≡ nothing → message_in slot ≡ Some before → taken ≡ before → Told taken r
      → HeldSuits (SuitsBelow levels) pool f old → IfErr r (TellsTrue (RunFault levels key (FieldFault levels (Within levels) pool f key)) bytes)
  message_fault d fresh before taken old empty slot r is no_map no_list there made type none at one told suits =
      let begins = begun levels pool f old no_map no_list (subst IsMessageType (sym is.1) tt) suits before (started old there) in
      refused_as r _ _ (λ e h. one_refused levels pool f key bytes e no_map no_list h) (as_one taken r (subst (Begins levels pool f.kind) (sym one) begins) told) where
        started : (o : Option Value) → slot ≡ unwrap_or o empty → IsStart pool f.kind o before
        started None e =
            let made_now : before ≡ fresh = cc (at, ap message_in e, made) in
            subst (λ m. IsStart pool f.kind None m) (sym made_now) (subst (λ d. IsKind pool (kinds.Message d) f.kind) (sym type) is, none)
        started (Some v) e = sym (ap message_in e) ∙ at

  pub part_fault : (d : MessageDescriptor) (held : Value) (m : DynamicMessage) (r : Result (Bor (List ℕ)) WireError) → IsKind pool (kinds.Message d) f.kind → message_in held ≡ Some m → Told m r → PartSuits levels pool f held → IfErr r (TellsTrue (OneFault (Within levels) pool f key) bytes)
  part_fault d held m r is at told suits = as_one m r (standing levels pool f.kind held m (suits (subst IsMessageType (sym is.1) tt)) at) told
