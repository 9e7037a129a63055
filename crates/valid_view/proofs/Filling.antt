-- What records leave of a field is firm, where they fit their forms, and what was held before is firm.
use Rattle.std.proofs.Common.{◌≡◌, inl, inr, ℕ, ◌++◌, Bool, true, false, true≢false, List, [], ◌∷◌, map, Option, Some, None, refl, sym, ap, ◌∙◌, subst}
use Rattle.std.specs.BTreeMap.{insert_entry}
use Rattle.std.specs.List.{AllByRecursion}
use Rattle.reflect_tables.specs.Types.{FieldType, KindType, PoolType}
use Rattle.reflect_wire.specs.Records.{Payload}
use Rattle.reflect_pool.specs.Kinds.{IsKind}
use Rattle.reflect_pool.specs.Shapes.{holds_list, holds_map, is_entry}
use Rattle.reflect_pool.specs.declared.kind.Kind.{Kind}
use Rattle.reflect_pool.specs.declared.kind.Kind.TheVariants as publics
use Rattle.reflect_pool.specs.declared.message.MessageDescriptor.{MessageDescriptor}
use Rattle.reflect_scalar.specs.Keys.{key_view}
use Rattle.reflect_scalar.specs.Singles.{Single}
use Rattle.reflect_scalar.specs.declared.map_key.MapKey.{MapKey}
use Rattle.reflect_message.specs.Contents.{Content, content_of, nothing}
use Rattle.reflect_message.specs.KindTypes.{IsScalarType}
use Rattle.reflect_message.specs.Known.{entry_field, holds_floats, is_float}
use Rattle.reflect_message.specs.Lists.{items_held}
use Rattle.reflect_message.specs.Maps.{key_order}
use Rattle.reflect_message.specs.Messages.{IsStart}
use Rattle.reflect_message.specs.Singles as singles
use Rattle.reflect_message.specs.Names.{DynamicMessage, Value}
use Rattle.reflect_decode.specs.Keeps.{payloads}
use Rattle.reflect_decode.specs.Maps.{ContinuesMap, IsEntry, LeavesKey, LeavesSingle, LeavesValue, PutEntries}
use Rattle.reflect_decode.specs.Messages.{IsMade, MergesMessage, Takes}
use Rattle.reflect_decode.specs.Scalars.{ContinuesWith, HoldsLast, LeavesAs}
use Rattle.reflect_decode.specs.Taking.{AddsMessages, AreMade, Leaves, TakesAs}
use Rattle.reflect_decode.proofs.Sorts.{Sort, floating, left_single, message_type, no_float_values, not_float, plain, sort_of}
use Rattle.protobuf_model.specs.Scalars.{Suits}
use Rattle.protobuf_model.proofs.Arranged.{all_append}
use Rattle.message_view.specs.Singles.{scalar_of}
use Rattle.message_view.specs.Sound.{IsSound}
use Rattle.message_view.proofs.Entries.{default_is, entry_of_map, key_scalar}
use Rattle.valid_view.specs.Inside.{AreAscending, IfMessage}
use Rattle.valid_view.proofs.Bits.{AreFine, IsFine, IsSuited, fine_at, key_short, last_suited, suited_fits, values_suited}
use Rattle.valid_view.proofs.Entries.{put_each}
use Rattle.valid_view.proofs.Firm.{FirmEntry, FirmIn, FirmOne, IsOne, WasFirm, a_message, held_entries, held_items, list_in, map_in, one_in, one_is, suited_one}
use Rattle.valid_view.proofs.KeyOrder.{put_ascends}
use Rattle.valid_view.proofs.Leaving.{Begins}

module _ (takes : Takes) (Q : DynamicMessage → Type 0) (pool : PoolType) (sound : IsSound pool) (levels : ℕ)
    (pooled : (m : DynamicMessage) → Q m → m.descriptor.pool.now ≡ pool)
    (entry_inside : (p : Payload) (rs : List (ℕ × Payload)) → IsFine levels p → takes.entry p rs → AreFine levels rs)
    (below : (grouped : Bool) (c : Content) (m : DynamicMessage) (ps : List Payload) → m.descriptor.pool.now ≡ pool → Begins Q m.descriptor c → AllByRecursion (IsFine levels) ps
    → takes.message grouped m.descriptor c (content_of m) ps → Q m) where
  abbrev AllFine : List Payload → Type 0
  AllFine ps = AllByRecursion (IsFine levels) ps

  -- ---- messages

  -- the message that takes records in
  abbrev Starts : KindType → Option Value → Type 0
  Starts t old = (m : DynamicMessage) → IsStart pool t old m → (m.descriptor.pool.now ≡ pool) × Begins Q m.descriptor (content_of m)

  fresh : (t : KindType) → Starts t None
  fresh t m start = (start.0.0, inl start.1)

  standing : (t : KindType) (w : Value) → IfMessage Q w → Starts t (Some w)
  standing t w held m start = (pooled m (held m start), inr (m, refl, refl, held m start))

  starts_before : (t : KindType) (old : Option Value) → WasFirm Q old → Starts t old
  starts_before t None was = fresh t
  starts_before t (Some w) was = standing t w (was w refl).1.itself

  merged : (grouped : Bool) (t : KindType) (old : Option Value) → Starts t old → (v : Value) (ps : List Payload) → AllFine ps → MergesMessage (takes.message grouped) pool t old (Some v) ps → IsOne Q v
  merged grouped t old starts v ps fine (before, after, at, stands, same, takes_it) =
      let start = starts before at in
      let type = subst (λ (d : MessageDescriptor). d.pool.now ≡ pool) (sym same) start.0 in
      let begins = subst (λ (d : MessageDescriptor). Begins Q d (content_of before)) (sym same) start.1 in
      let its = subst (λ (d : MessageDescriptor). takes.message grouped d (content_of before) (content_of after) ps) (sym same) takes_it in
      a_message after stands (below grouped (content_of before) after ps type begins fine its)

  made : (grouped : Bool) (t : KindType) (kind : Kind) (p : Payload) (v : Value) → IsFine levels p → IsKind pool kind t → IsMade (takes.message grouped) kind p v → IsOne Q v
  made grouped t (publics.Message d) p v fine is (m, there, same, takes_it) =
      let its = subst (λ (d : MessageDescriptor). takes.message grouped d nothing (content_of m) (p ∷ [])) (sym same) takes_it in
      let type = subst (λ (d : MessageDescriptor). d.pool.now ≡ pool) (sym same) is.0 in
      a_message m there (below grouped nothing m (p ∷ []) type (inl refl) (fine, tt) its)
  made grouped t kind p v fine is h = absurd h

  all_made : (grouped : Bool) (t : KindType) (ps : List Payload) (vs : List Value) → AllFine ps → AreMade (takes.message grouped) pool t ps vs → AllByRecursion (FirmOne Q) vs
  all_made grouped t [] vs fine h = subst (AllByRecursion (FirmOne Q)) (sym h) tt
  all_made grouped t (p ∷ ps) vs fine (kind, v, behind, is, one, rest, whole) =
      subst (AllByRecursion (FirmOne Q)) (sym whole) (one_is Q v (made grouped t kind p v fine.0 is one), all_made grouped t ps behind fine.1 rest)

  -- ---- single values

  all_single : (vs : List Value) (ws : List Single) → map singles.single vs ≡ map Some ws → AllByRecursion IsSuited ws → AllByRecursion (FirmOne Q) vs
  all_single [] ws e all = tt
  all_single (v ∷ vs) [] e all = absurd (cc e)
  all_single (v ∷ vs) (w ∷ ws) e all =
      let here : singles.single v ≡ Some w = cc e in
      let rest : map singles.single vs ≡ map Some ws = cc e in
      (one_is Q v (suited_one Q v w here all.0), all_single vs ws rest all.1)

  -- the key of an entry, and its value: what records leave, or the default
  left_suited : (t : KindType) (n : ℕ) (g : FieldType) → is_entry pool t ≡ true → entry_field pool t n ≡ Some g → IsScalarType g.kind → (w : Single) (ps : List Payload) → AllFine ps → LeavesSingle pool g (Some w) ps → IsSuited w
  left_suited t n g keyed at type w [] fine h = (scalar_of g.kind, subst (Suits (scalar_of g.kind)) (default_is pool g w (sym h)) (sound.defaults t n g keyed at type))
  left_suited t n g keyed at type w (p ∷ ps) fine (x, same, last) =
      let is : w ≡ x = cc same in
      subst IsSuited (sym is) (last_suited levels pool g.kind (p ∷ ps) x fine last)

  value_left : (t : KindType) (g : FieldType) → is_entry pool t ≡ true → entry_field pool t 2 ≡ Some g → is_float g.kind ≡ false → (v : Value) (ps : List Payload) → AllFine ps → LeavesValue takes pool g v ps → IsOne Q v
  value_left t g keyed at whole v ps fine h = by (sort_of g.kind) where
    by : Sort g.kind → IsOne Q v
    by (floating e) = absurd (true≢false (sym e ∙ whole))
    by (plain type) =
        let w = left_single pool g (singles.single v) ps type (h.0 type) in
        suited_one Q v w.0 w.1 (left_suited t 2 g keyed at type w.0 ps fine (subst (λ o. LeavesSingle pool g o ps) w.1 (h.0 type)))
    by (message_type type) = merged g.group g.kind None (fresh g.kind) v ps fine (h.1 type)

  -- ---- the entries of a map
  module _ (t : KindType) (keyed : is_entry pool t ≡ true) (keys values : FieldType) (first : entry_field pool t 1 ≡ Some keys) (second : entry_field pool t 2 ≡ Some values) (whole : is_float values.kind ≡ false) where
    entry_left : (p : Payload) (k : MapKey) (v : Value) → IsFine levels p → IsEntry takes pool t p k v → FirmEntry Q (k, v)
    entry_left p k v fine (ks, vs, rs, at_one, at_two, inside, key_left, left) =
        let its_key : ks ≡ keys = cc (sym at_one ∙ first) in
        let its_value : vs ≡ values = cc (sym at_two ∙ second) in
        let type = key_scalar keys.kind (sound.keys t keys keyed first).0 in
        let here = subst (λ (g : FieldType). LeavesKey pool g k (payloads 1 rs)) its_key key_left in
        let there = subst (λ (g : FieldType). LeavesValue takes pool g v (payloads 2 rs)) its_value left in
        let all : AreFine levels rs = entry_inside p rs fine inside in
        let key : IsSuited (key_view k) = left_suited t 1 keys keyed first type (key_view k) (payloads 1 rs) (fine_at levels 1 rs all) (here type) in
        (suited_fits key.0 (key_view k) key.1 (key_short k), one_is Q v (value_left t values keyed second whole v (payloads 2 rs) (fine_at levels 2 rs all) there))

    entries_left : (old new : List (MapKey × Value)) (ps : List Payload) → AllFine ps → AllByRecursion (FirmEntry Q) old → AreAscending old → PutEntries takes pool t old new ps → AllByRecursion (FirmEntry Q) new × AreAscending new
    entries_left old new [] fine all up h = (subst (AllByRecursion (FirmEntry Q)) (sym h) all, subst AreAscending (sym h) up)
    entries_left old new (p ∷ ps) fine all up (k, v, one, rest) =
        entries_left (insert_entry key_order old k v) new ps fine.1 (put_each (FirmEntry Q) (λ e d one two. (one.0, two.1)) old k v all (entry_left p k v fine.0 one)) (put_ascends old k v up) rest

  -- ---- all that a field holds
  pub field_firm : (f : FieldType) (old : Option Value) (v : Value) (ps : List Payload) → holds_floats pool f ≡ false → WasFirm Q old → AllFine ps → Leaves takes pool f old (Some v) ps → FirmIn Q v
  field_firm f old v [] whole was fine h = was v (sym h)
  field_firm f old v (p ∷ ps) whole was fine h = by (holds_map pool f) refl (holds_list pool f) refl (sort_of f.kind) where
    map_left : holds_map pool f ≡ true → ContinuesMap takes pool f.kind old (Some v) (p ∷ ps) → FirmIn Q v
    map_left is (before, after, stood, stands, put) =
        let keyed = entry_of_map pool f is in
        let parts = sound.entries f.kind keyed in
        let held : AllByRecursion (FirmEntry Q) before × AreAscending before = held_entries Q old before was stood in
        map_in Q v after stands
        (entries_left f.kind keyed parts.0 parts.1 parts.2 parts.3 (no_float_values pool f parts.1 whole is parts.3) before after (p ∷ ps) fine held.0 held.1 put)

    behind_left : (before added after : List Value) → items_held old ≡ Some before → AllByRecursion (FirmOne Q) added → after ≡ before ++ added → AllByRecursion (FirmOne Q) after
    behind_left before added after stood more behind =
        subst (AllByRecursion (FirmOne Q)) (sym behind) (all_append (FirmOne Q) before added (held_items Q old before was stood) more)

    values_left : ContinuesWith pool f.kind old (Some v) (p ∷ ps) → FirmIn Q v
    values_left (before, after, ws, stood, stands, values, (added, behind, seen)) =
        list_in Q v after stands (behind_left before added after stood (all_single added ws seen (values_suited levels pool f.kind (p ∷ ps) ws fine values)) behind)

    messages_left : AddsMessages (takes.message f.group) pool f.kind old (Some v) (p ∷ ps) → FirmIn Q v
    messages_left (before, after, added, stood, stands, makes, behind) =
        list_in Q v after stands (behind_left before added after stood (all_made f.group f.kind (p ∷ ps) added fine makes) behind)

    last_left : HoldsLast pool f.kind (Some v) (p ∷ ps) → FirmIn Q v
    last_left (u, w, put, is, last) =
        let same : v ≡ u = cc put in
        one_in Q v (suited_one Q v w (ap singles.single same ∙ is) (last_suited levels pool f.kind (p ∷ ps) w fine last))

    by : (keyed : Bool) → holds_map pool f ≡ keyed → (listed : Bool) → holds_list pool f ≡ listed → Sort f.kind → FirmIn Q v
    by true is listed e sort = map_left is (h.2 is)
    by false is listed e (floating k) = absurd (true≢false (sym k ∙ not_float pool f whole))
    by false is true e (plain type) = values_left (subst (λ b. LeavesAs b pool f.kind old (Some v) (p ∷ ps)) e (h.0 type))
    by false is false e (plain type) = last_left (subst (λ b. LeavesAs b pool f.kind old (Some v) (p ∷ ps)) e (h.0 type))
    by false is true e (message_type type) = messages_left (subst (λ b. TakesAs b (takes.message f.group) pool f.kind old (Some v) (p ∷ ps)) e (h.1 type is))
    by false is false e (message_type type) =
        one_in Q v
        (merged f.group f.kind old (starts_before f.kind old was) v (p ∷ ps) fine (subst (λ b. TakesAs b (takes.message f.group) pool f.kind old (Some v) (p ∷ ps)) e (h.1 type is)))
