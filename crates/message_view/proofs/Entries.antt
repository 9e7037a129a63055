-- Records of maps, and what they leave.
use Rattle.std.proofs.Common.{◌≡◌, ℕ, Bool, true, false, true≢false, not, ◌&&◌, List, [], ◌∷◌, map, Option, Some, None, option_map, unwrap_or, refl, sym, ap, ◌∙◌, subst}
use Rattle.std.specs.BTreeMap.{insert_entry}
use Rattle.std.specs.List.{AllByRecursion, flat_map}
use Rattle.reflect_tables.specs.Types.{PoolType, FieldType, KindType, no_field}
use Rattle.reflect_tables.specs.Types as types
use Rattle.reflect_pool.specs.Shapes.{is_entry, is_repeated, holds_map}
use Rattle.reflect_wire.specs.Records.{Payload, varint, fixed64, delimited, fixed32}
use Rattle.reflect_scalar.specs.Defaults.{default_in}
use Rattle.reflect_scalar.specs.Keys.{key_view}
use Rattle.reflect_scalar.specs.Singles as held
use Rattle.reflect_scalar.specs.declared.map_key.MapKey.{MapKey}
use Rattle.reflect_message.specs.KindTypes.{IsScalarType}
use Rattle.reflect_message.specs.Known.{entry_field, holds_floats}
use Rattle.reflect_message.specs.Maps.{entries_held, key_order}
use Rattle.reflect_message.specs.Singles as singles
use Rattle.reflect_message.specs.Names.{Value}
use Rattle.reflect_decode.specs.Keeps as keeps
use Rattle.reflect_decode.specs.Maps.{LeavesSingle, LeavesValue, IsEntry, PutEntries, ContinuesMap}
use Rattle.reflect_decode.specs.Messages.{Takes}
use Rattle.reflect_decode.specs.Refused.{IsKeyKind}
pub use Rattle.reflect_decode.proofs.Sorts.{Sort, plain, floating, message_type, sort_of, some_default, no_float_values}
use Rattle.protobuf_model.specs.Values as model
use Rattle.protobuf_model.specs.Values.{Single, Content, single, message, dictionary, entries_of}
use Rattle.protobuf_model.specs.Types.{Scalar, Part, Key}
use Rattle.protobuf_model.specs.Types as kinds
use Rattle.protobuf_model.specs.Scalars.{meant, Suits}
use Rattle.protobuf_model.specs.Keys.{put}
use Rattle.protobuf_model.specs.Reader.{inside_of}
use Rattle.protobuf_model.specs.Meaning.{Merge, payloads, last_or, entry_value, entry, if_some, put_all}
use Rattle.message_view.specs.Singles.{scalar_of, single_view}
use Rattle.message_view.specs.Types.{default_of, part_of, key_of, entry_part}
use Rattle.message_view.specs.Views.{held_in, content_view}
use Rattle.message_view.specs.Sound.{HaveEntryDefaults}
use Rattle.message_laws.specs.MapKeys.{HaveMapKeys}
use Rattle.message_view.proofs.Elements.{kind_scalar, kind_message, meant_in, last_or_is, Nests, merged_is}
use Rattle.message_view.proofs.Keys.{form_of, key_single, entry_put, forms_stay}
use Rattle.message_view.proofs.Oneofs.{payloads_same}
use Rattle.message_view.proofs.Seen.{single_seen, map_seen, pairs_view}

-- the form of a kind's values
abbrev pub form_at : Scalar → ℕ
form_at kinds.bool = 0
form_at kinds.int32 = 1
form_at kinds.sint32 = 1
form_at kinds.sfixed32 = 1
form_at kinds.int64 = 2
form_at kinds.sint64 = 2
form_at kinds.sfixed64 = 2
form_at kinds.uint32 = 3
form_at kinds.fixed32 = 3
form_at kinds.uint64 = 4
form_at kinds.fixed64 = 4
form_at kinds.string = 5
form_at kinds.bytes = 6
form_at kinds.enumeration = 7

-- values that suit a kind have its form
pub suited_form : (s : Scalar) (v : Single) → Suits s v → form_of v ≡ form_at s
suited_form kinds.int32 (model.int32 z) h = refl
suited_form kinds.sint32 (model.int32 z) h = refl
suited_form kinds.sfixed32 (model.int32 z) h = refl
suited_form kinds.int64 (model.int64 z) h = refl
suited_form kinds.sint64 (model.int64 z) h = refl
suited_form kinds.sfixed64 (model.int64 z) h = refl
suited_form kinds.uint32 (model.uint32 n) h = refl
suited_form kinds.fixed32 (model.uint32 n) h = refl
suited_form kinds.uint64 (model.uint64 n) h = refl
suited_form kinds.fixed64 (model.uint64 n) h = refl
suited_form kinds.bool (model.truth b) h = refl
suited_form kinds.string (model.text t) h = refl
suited_form kinds.bytes (model.blob b) h = refl
suited_form kinds.enumeration (model.enumerated z) h = refl
suited_form s v h = absurd h

-- and so have those that payloads mean
abbrev first_form : ℕ → List Single → ℕ
first_form n [] = n
first_form n (v ∷ vs) = form_of v

forms : (s : Scalar) (p : Payload) → first_form (form_at s) (meant s p) ≡ form_at s
forms kinds.int32 (varint n) = refl
forms kinds.int64 (varint n) = refl
forms kinds.uint32 (varint n) = refl
forms kinds.uint64 (varint n) = refl
forms kinds.sint32 (varint n) = refl
forms kinds.sint64 (varint n) = refl
forms kinds.bool (varint n) = refl
forms kinds.enumeration (varint n) = refl
forms kinds.fixed32 (fixed32 n) = refl
forms kinds.sfixed32 (fixed32 n) = refl
forms kinds.fixed64 (fixed64 n) = refl
forms kinds.sfixed64 (fixed64 n) = refl
forms kinds.string (delimited t) = refl
forms kinds.bytes (delimited b) = refl
forms s p = refl

meant_form : (s : Scalar) (p : Payload) (v : Single) → meant s p ≡ v ∷ [] → form_of v ≡ form_at s
meant_form s p v e = ap (first_form (form_at s)) (sym e) ∙ forms s p

pub default_is : (pool : PoolType) (f : FieldType) (v : held.Single) → default_in pool f ≡ Some v → default_of pool f ≡ single_view v
default_is pool f v e = ap (λ o. elim o [ None ↦ model.text [] | Some v ↦ single_view v ]) e

-- what records leave as a single value
single_of : (pool : PoolType) (f : FieldType) (v : held.Single) (ps : List Payload) → LeavesSingle pool f (Some v) ps → last_or (default_of pool f) (flat_map (meant (scalar_of f.kind)) ps) ≡ single_view v
single_of pool f v [] h = default_is pool f v (sym h)
single_of pool f v (p ∷ ps) (w, is, (kind, lead, last, kind_of, ends, means)) =
    let same : w ≡ v = cc is in
    ap (λ ps. last_or (default_of pool f) (flat_map (meant (scalar_of f.kind)) ps)) ends
    ∙ last_or_is f.kind (default_of pool f) lead last (single_view w) (meant_in pool kind f.kind last w kind_of means) ∙ ap single_view same

left_form : (pool : PoolType) (f : FieldType) (v : held.Single) (ps : List Payload) → Suits (scalar_of f.kind) (default_of pool f) → LeavesSingle pool f (Some v) ps → form_of (single_view v) ≡ form_at (scalar_of f.kind)
left_form pool f v [] suits h = ap form_of (sym (default_is pool f v (sym h))) ∙ suited_form (scalar_of f.kind) (default_of pool f) suits
left_form pool f v (p ∷ ps) suits (w, is, (kind, lead, last, kind_of, ends, means)) =
    let same : w ≡ v = cc is in
    ap (λ w. form_of (single_view w)) (sym same) ∙ meant_form (scalar_of f.kind) last (single_view w) (meant_in pool kind f.kind last w kind_of means)

-- keys have kinds of single values
pub key_scalar : (t : KindType) → IsKeyKind t → IsScalarType t
key_scalar types.double h = absurd h
key_scalar types.float h = absurd h
key_scalar types.bytes h = absurd h
key_scalar (types.message i) h = absurd h
key_scalar (types.enumeration i) h = absurd h
key_scalar t h = tt

-- a map as it is held
some_map : (pool : PoolType) (f : FieldType) (es : List (Single × Content)) → if_some es ≡ held_in pool f (Some (dictionary (entries_of es)))
some_map pool f [] = refl
some_map pool f (e ∷ es) = refl

pub map_held : (pool : PoolType) (f : FieldType) (new : Option Value) (after : List (MapKey × Value)) → entries_held new ≡ Some after → if_some (pairs_view after) ≡ held_in pool f (option_map content_view new)
map_held pool f None after e = let none : after ≡ [] = cc e in ap (λ l. if_some (pairs_view l)) none
map_held pool f (Some v) after e = some_map pool f (pairs_view after) ∙ sym (ap (λ c. held_in pool f (Some c)) (map_seen v after e))

pub entry_of_map : (pool : PoolType) (f : FieldType) → holds_map pool f ≡ true → is_entry pool f.kind ≡ true
entry_of_map pool f e = by (is_entry pool f.kind) e where
  by : (b : Bool) → (b && (is_repeated f.cardinality && not f.group)) ≡ true → b ≡ true
  by true e = refl
  by false e = absurd (cc e)

pub part_is : (pool : PoolType) (f : FieldType) (n : ℕ) (g : FieldType) → entry_field pool f.kind n ≡ Some g → entry_part pool f n ≡ g
part_is pool f n g e = ap (λ o. unwrap_or o no_field) e

module _ (pool : PoolType) (keyed : HaveMapKeys pool) (defaults : HaveEntryDefaults pool) (inner : Merge) (takes : Takes) (nests : Nests pool inner takes) (f : FieldType) (whole : holds_floats pool f ≡ false) (is_map : holds_map pool f ≡ true) where
  abbrev the_key : Key
  the_key = key_of pool (entry_part pool f 1)

  abbrev the_value : Part
  the_value = part_of pool (entry_part pool f 2)

  -- the value of an entry
  value_is : (values : FieldType) (v : Value) (ps : List Payload) → entry_field pool f.kind 2 ≡ Some values → LeavesValue takes pool values v ps → entry_value inner the_value the_value.kind ps ≡ content_view v
  value_is values v ps there h = ap (λ g. entry_value inner (part_of pool g) (part_of pool g).kind ps) (part_is pool f 2 values there) ∙ by (sort_of values.kind) where
    by : Sort values.kind → entry_value inner (part_of pool values) (part_of pool values).kind ps ≡ content_view v
    by (floating e) = absurd (true≢false (sym e ∙ no_float_values pool f values whole is_map there))
    by (message_type type) =
        let is = merged_is pool inner takes nests values.group values.kind v ps (h.1 type) in
        ap (λ k. entry_value inner (part_of pool values) k ps) (kind_message pool values.group values.kind is.0 is.1) ∙ is.2
    by (plain type) = ap (λ k. entry_value inner (part_of pool values) k ps) (kind_scalar pool values.group values.kind type) ∙ within (singles.single v) refl (h.0 type) where
      within : (o : Option held.Single) → singles.single v ≡ o → LeavesSingle pool values o ps → single (last_or (default_of pool values) (flat_map (meant (scalar_of values.kind)) ps)) ≡ content_view v
      within (Some w) is k = ap single (single_of pool values w ps k) ∙ sym (single_seen v w is)
      within None is k = absurd (none ps k) where
        none : (ps : List Payload) → LeavesSingle pool values None ps → ⊥
        none [] k = cc (k ∙ (some_default pool values type).1)
        none (p ∷ ps) k = cc k.1

  -- an entry
  entry_is : (p : Payload) (k : MapKey) (v : Value) → IsEntry takes pool f.kind p k v → (entry inner the_key the_value p ≡ (key_single k, content_view v)) × (form_of (key_single k) ≡ form_at (scalar_of (entry_part pool f 1).kind))
  entry_is p k v (keys, values, rs, one, two, inside, key_left, value_left) =
      let type = key_scalar keys.kind (keyed f.kind keys (entry_of_map pool f is_map) one).0 in
      let suits = defaults f.kind 1 keys (entry_of_map pool f is_map) one type in
      let body = nests.entries p rs inside in
      let key : last_or the_key.default (flat_map (meant the_key.kind) (payloads 1 (inside_of p))) ≡ key_single k =
      ap (λ g. last_or (default_of pool g) (flat_map (meant (scalar_of g.kind)) (payloads 1 (inside_of p)))) (part_is pool f 1 keys one)
      ∙ ap (λ ps. last_or (default_of pool keys) (flat_map (meant (scalar_of keys.kind)) ps)) (ap (payloads 1) body ∙ sym (payloads_same 1 rs))
      ∙ single_of pool keys (key_view k) (keeps.payloads 1 rs) (key_left type) in
      let value : entry_value inner the_value the_value.kind (payloads 2 (inside_of p)) ≡ content_view v =
      ap (entry_value inner the_value the_value.kind) (ap (payloads 2) body ∙ sym (payloads_same 2 rs)) ∙ value_is values v (keeps.payloads 2 rs) two value_left in (
        ap (λ a. (a, entry_value inner the_value the_value.kind (payloads 2 (inside_of p)))) key ∙ ap (λ b. (key_single k, b)) value,
        left_form pool keys (key_view k) (keeps.payloads 1 rs) suits (key_left type) ∙ ap (λ (g : FieldType). form_at (scalar_of g.kind)) (sym (part_is pool f 1 keys one)),
      )

  -- the keys have the form of the map's
  abbrev Formed : List (MapKey × Value) → Type 0
  Formed es = AllByRecursion (λ e. form_of (key_single e.0) ≡ form_at (scalar_of (entry_part pool f 1).kind)) es

  pub entries_are : (old new : List (MapKey × Value)) (ps : List Payload) → Formed old → PutEntries takes pool f.kind old new ps → put_all (pairs_view old) (map (entry inner the_key the_value) ps) ≡ pairs_view new
  entries_are old new [] formed h = sym (ap pairs_view h)
  entries_are old new (p ∷ ps) formed (k, v, one, rest) =
      let is = entry_is p k v one in
      let n = form_at (scalar_of (entry_part pool f 1).kind) in
      ap (λ (e : Single × Content). put_all (put e.0 e.1 (pairs_view old)) (map (entry inner the_key the_value) ps)) is.0
      ∙ ap (λ es. put_all es (map (entry inner the_key the_value) ps)) (sym (entry_put content_view n old k v formed is.1))
      ∙ entries_are (insert_entry key_order old k v) new ps (forms_stay content_view n old k v formed is.1) rest

  -- a map
  pub map_left : (new : Option Value) (ps : List Payload) → ContinuesMap takes pool f.kind None new ps → if_some (put_all [] (map (entry inner the_key the_value) ps)) ≡ held_in pool f (option_map content_view new)
  map_left new ps (before, after, none, stands, put) =
      let empty : before ≡ [] = cc none in
      let from_nothing = subst (λ es. PutEntries takes pool f.kind es after ps) empty put in
      ap if_some (entries_are [] after ps tt from_nothing) ∙ map_held pool f new after stands
