-- What records leave of a field is of its kind, where what was held before is, and of the messages in it holds what does of each.
use Rattle.std.proofs.Common.{◌≡◌, ◌⊎◌, inl, inr, ℕ, ◌&&◌, ◌++◌, not, Bool, true, false, true≢false, List, [], ◌∷◌, map, Option, Some, None, refl, sym, ap, ◌∙◌, subst}
use Rattle.std.specs.BTreeMap.{insert_entry}
use Rattle.std.specs.List.{AllByRecursion}
use Rattle.reflect_tables.specs.Types.{FieldType, KindType, PoolType}
use Rattle.reflect_wire.specs.Records.{Payload}
use Rattle.reflect_pool.specs.Kinds.{IsKind}
use Rattle.reflect_pool.specs.Shapes.{holds_list, holds_map, is_entry, is_repeated}
use Rattle.reflect_pool.specs.declared.kind.Kind.{Kind}
use Rattle.reflect_pool.specs.declared.kind.Kind.TheVariants as publics
use Rattle.reflect_pool.specs.declared.message.MessageDescriptor.{MessageDescriptor}
use Rattle.reflect_scalar.specs.Keys.{key_view}
use Rattle.reflect_scalar.specs.Singles as held
use Rattle.reflect_scalar.specs.declared.map_key.MapKey.{MapKey}
use Rattle.reflect_message.specs.Contents.{Content, content_of, nothing}
use Rattle.reflect_message.specs.KindTypes.{IsScalarType}
use Rattle.reflect_message.specs.Known.{entry_field, holds_floats, is_float}
use Rattle.reflect_message.specs.Lists.{items_held}
use Rattle.reflect_message.specs.Maps.{entries_held, key_order}
use Rattle.reflect_message.specs.Messages.{IsStart}
use Rattle.reflect_message.specs.Singles as singles
use Rattle.reflect_message.specs.Names.{DynamicMessage, Value}
use Rattle.reflect_decode.specs.Keeps.{payloads}
use Rattle.reflect_decode.specs.Maps.{ContinuesMap, IsEntry, LeavesKey, LeavesSingle, LeavesValue, PutEntries}
use Rattle.reflect_decode.specs.Messages.{IsMade, MergesMessage, Takes}
use Rattle.reflect_decode.specs.Scalars.{ContinuesWith, HoldsLast, LeavesAs}
use Rattle.reflect_decode.specs.Taking.{AddsMessages, AreMade, Leaves, TakesAs}
use Rattle.reflect_decode.proofs.Sorts.{Sort, floating, left_single, message_type, no_float_values, not_float, plain, sort_of}
use Rattle.reflect_numbered.specs.Fits.{is_one}
use Rattle.protobuf_model.specs.Scalars.{Suits}
use Rattle.protobuf_model.proofs.Arranged.{all_append}
use Rattle.message_view.specs.Singles.{scalar_of}
use Rattle.message_view.specs.Sound.{IsSound}
use Rattle.message_view.proofs.Entries.{default_is, entry_of_map, key_scalar}
use Rattle.message_view.proofs.Seen.{message_seen, single_seen}
use Rattle.valid_view.proofs.Entries.{put_each}
use Rattle.valid_view.proofs.LeftOnes.{EntryLeft, OneLeft, WholeLeft, all_ones, last_one, left_list, left_map, left_one, message_left, single_left, suits_one}

-- records are taken in by a message in which nothing stands, or of which Q holds
abbrev pub Begins : (DynamicMessage → Type 0) → MessageDescriptor → Content → Type 0
Begins Q d c = (c ≡ nothing) ⊎ ((b : DynamicMessage) × (b.descriptor ≡ d) × (content_of b ≡ c) × Q b)

-- what a field held before is of its kind, if it held anything
abbrev pub WasLeft : (DynamicMessage → Type 0) → PoolType → FieldType → Option Value → Type 0
WasLeft Q pool f old = (w : Value) → old ≡ Some w → WholeLeft Q pool f w

module _ (takes : Takes) (Q : DynamicMessage → Type 0) (pool : PoolType) (sound : IsSound pool)
    (below : (grouped : Bool) (c : Content) (m : DynamicMessage) (ps : List Payload) → m.descriptor.pool.now ≡ pool → Begins Q m.descriptor c → takes.message grouped m.descriptor c (content_of m) ps → Q m) where
  abbrev One : KindType → Value → Type 0
  One t v = OneLeft Q pool t v

  -- the message that takes records in
  abbrev Starts : KindType → Option Value → Type 0
  Starts t old = (m : DynamicMessage) → IsStart pool t old m → IsKind pool (publics.Message m.descriptor) t × Begins Q m.descriptor (content_of m)

  fresh : (t : KindType) → Starts t None
  fresh t m start = (start.0, inl start.1)

  standing : (t : KindType) (w : Value) → One t w → Starts t (Some w)
  standing t w (single_left s at is) m start = absurd (cc (sym (single_seen w s at) ∙ message_seen w m start))
  standing t w (message_left n at kind q) m start =
      let same : n ≡ m = cc (at, start) in
      subst (λ (m : DynamicMessage). IsKind pool (publics.Message m.descriptor) t × Begins Q m.descriptor (content_of m)) same (kind, inr (n, refl, refl, q))

  merged : (grouped : Bool) (t : KindType) (old : Option Value) → Starts t old → (v : Value) (ps : List Payload) → MergesMessage (takes.message grouped) pool t old (Some v) ps → One t v
  merged grouped t old starts v ps (before, after, at, stands, same, takes_it) =
      let start = starts before at in
      let kind = subst (λ (d : MessageDescriptor). IsKind pool (publics.Message d) t) (sym same) start.0 in
      let begins = subst (λ (d : MessageDescriptor). Begins Q d (content_of before)) (sym same) start.1 in
      let its = subst (λ (d : MessageDescriptor). takes.message grouped d (content_of before) (content_of after) ps) (sym same) takes_it in
      message_left after stands kind (below grouped (content_of before) after ps kind.0 begins its)

  made : (grouped : Bool) (t : KindType) (kind : Kind) (p : Payload) (v : Value) → IsKind pool kind t → IsMade (takes.message grouped) kind p v → One t v
  made grouped t (publics.Message d) p v is (m, there, same, takes_it) =
      let its = subst (λ (d : MessageDescriptor). takes.message grouped d nothing (content_of m) (p ∷ [])) (sym same) takes_it in
      let kind = subst (λ (d : MessageDescriptor). IsKind pool (publics.Message d) t) (sym same) is in
      message_left m there kind (below grouped nothing m (p ∷ []) kind.0 (inl refl) its)
  made grouped t kind p v is h = absurd h

  all_made : (grouped : Bool) (t : KindType) (ps : List Payload) (vs : List Value) → AreMade (takes.message grouped) pool t ps vs → AllByRecursion (One t) vs
  all_made grouped t [] vs h = subst (AllByRecursion (One t)) (sym h) tt
  all_made grouped t (p ∷ ps) vs (kind, v, behind, is, one, rest, whole) =
      subst (AllByRecursion (One t)) (sym whole) (made grouped t kind p v is one, all_made grouped t ps behind rest)

  all_single : (t : KindType) (vs : List Value) (ws : List held.Single) → map singles.single vs ≡ map Some ws → AllByRecursion (λ w. is_one t w ≡ true) ws → AllByRecursion (One t) vs
  all_single t [] ws e ones = tt
  all_single t (v ∷ vs) [] e ones = absurd (cc e)
  all_single t (v ∷ vs) (w ∷ ws) e ones =
      let here : singles.single v ≡ Some w = cc e in
      let rest : map singles.single vs ≡ map Some ws = cc e in
      (single_left w here ones.0, all_single t vs ws rest ones.1)

  -- the key of an entry, and its value: what records leave, or the default
  left_default : (t : KindType) (n : ℕ) (g : FieldType) → is_entry pool t ≡ true → entry_field pool t n ≡ Some g → IsScalarType g.kind → (w : held.Single) (ps : List Payload) → LeavesSingle pool g (Some w) ps → is_one g.kind w ≡ true
  left_default t n g keyed at type w [] h =
      suits_one g.kind w type (subst (Suits (scalar_of g.kind)) (default_is pool g w (sym h)) (sound.defaults t n g keyed at type))
  left_default t n g keyed at type w (p ∷ ps) (x, same, last) =
      let is : w ≡ x = cc same in
      ap (is_one g.kind) is ∙ last_one pool g.kind (p ∷ ps) x last

  value_left : (t : KindType) (g : FieldType) → is_entry pool t ≡ true → entry_field pool t 2 ≡ Some g → is_float g.kind ≡ false → (v : Value) (ps : List Payload) → LeavesValue takes pool g v ps → One g.kind v
  value_left t g keyed at whole v ps h = by (sort_of g.kind) where
    single_one : IsScalarType g.kind → (w : held.Single) → singles.single v ≡ Some w → One g.kind v
    single_one type w is = single_left w is (left_default t 2 g keyed at type w ps (subst (λ o. LeavesSingle pool g o ps) is (h.0 type)))

    by : Sort g.kind → One g.kind v
    by (floating e) = absurd (true≢false (sym e ∙ whole))
    by (plain type) = let w = left_single pool g (singles.single v) ps type (h.0 type) in single_one type w.0 w.1
    by (message_type type) = merged g.group g.kind None (fresh g.kind) v ps (h.1 type)

  -- the entries of a map
  module _ (t : KindType) (keyed : is_entry pool t ≡ true) (keys values : FieldType) (first : entry_field pool t 1 ≡ Some keys) (second : entry_field pool t 2 ≡ Some values) (whole : is_float values.kind ≡ false) where
    abbrev Entry : MapKey × Value → Type 0
    Entry e = EntryLeft Q pool keys.kind values.kind e

    entry_left : (p : Payload) (k : MapKey) (v : Value) → IsEntry takes pool t p k v → Entry (k, v)
    entry_left p k v (ks, vs, rs, at_one, at_two, inside, key_left, left) =
        let its_key : ks ≡ keys = cc (sym at_one ∙ first) in
        let its_value : vs ≡ values = cc (sym at_two ∙ second) in
        let type = key_scalar keys.kind (sound.keys t keys keyed first).0 in
        let here = subst (λ (g : FieldType). LeavesKey pool g k (payloads 1 rs)) its_key key_left in
        let there = subst (λ (g : FieldType). LeavesValue takes pool g v (payloads 2 rs)) its_value left in
        (left_default t 1 keys keyed first type (key_view k) (payloads 1 rs) (here type), value_left t values keyed second whole v (payloads 2 rs) there)

    entries_left : (old new : List (MapKey × Value)) (ps : List Payload) → AllByRecursion Entry old → PutEntries takes pool t old new ps → AllByRecursion Entry new
    entries_left old new [] all h = subst (AllByRecursion Entry) (sym h) all
    entries_left old new (p ∷ ps) all (k, v, one, rest) = entries_left (insert_entry key_order old k v) new ps (put_each Entry (λ e d one two. (one.0, two.1)) old k v all (entry_left p k v one)) rest

  -- ---- what a field held before, by what it is
  items_before : (f : FieldType) (old : Option Value) (before : List Value) → is_repeated f.cardinality ≡ true → holds_map pool f ≡ false → WasLeft Q pool f old → items_held old ≡ Some before → AllByRecursion (One f.kind) before
  items_before f None before repeats no_map was at =
      let empty : before ≡ [] = cc at in
      subst (AllByRecursion (One f.kind)) (sym empty) tt
  items_before f (Some w) before repeats no_map was at = by (was w refl) where
    by : WholeLeft Q pool f w → AllByRecursion (One f.kind) before
    by (left_one never once one) = absurd (true≢false (sym repeats ∙ once))
    by (left_list never again vs there all) =
        let same : vs ≡ before = cc (there, at) in
        subst (AllByRecursion (One f.kind)) same all
    by (left_map is es there keys values first second all) = absurd (true≢false (sym is ∙ no_map))

  entries_before : (f : FieldType) (old : Option Value) (before : List (MapKey × Value)) (keys values : FieldType) → holds_map pool f ≡ true → entry_field pool f.kind 1 ≡ Some keys → entry_field pool f.kind 2 ≡ Some values
      → WasLeft Q pool f old → entries_held old ≡ Some before → AllByRecursion (EntryLeft Q pool keys.kind values.kind) before
  entries_before f None before keys values is_map first second was at =
      let empty : before ≡ [] = cc at in
      subst (AllByRecursion (EntryLeft Q pool keys.kind values.kind)) (sym empty) tt
  entries_before f (Some w) before keys values is_map first second was at = by (was w refl) where
    by : WholeLeft Q pool f w → AllByRecursion (EntryLeft Q pool keys.kind values.kind) before
    by (left_one no_map once one) = absurd (true≢false (sym is_map ∙ no_map))
    by (left_list no_map again vs there all) = absurd (true≢false (sym is_map ∙ no_map))
    by (left_map is es there ks vs one two all) =
        let its_key : ks ≡ keys = cc (sym one ∙ first) in
        let its_value : vs ≡ values = cc (sym two ∙ second) in
        let same : es ≡ before = cc (there, at) in
        subst (AllByRecursion (EntryLeft Q pool keys.kind values.kind)) same
        (subst (λ (g : FieldType). AllByRecursion (EntryLeft Q pool g.kind values.kind) es) its_key
        (subst (λ (g : FieldType). AllByRecursion (EntryLeft Q pool ks.kind g.kind) es) its_value all))

  starts_before : (f : FieldType) (old : Option Value) → is_repeated f.cardinality ≡ false → holds_map pool f ≡ false → WasLeft Q pool f old → Starts f.kind old
  starts_before f None once no_map was = fresh f.kind
  starts_before f (Some w) once no_map was = by (was w refl) where
    by : WholeLeft Q pool f w → Starts f.kind (Some w)
    by (left_one never single one) = standing f.kind w one
    by (left_list never repeats vs there all) = absurd (true≢false (sym repeats ∙ once))
    by (left_map is es there keys values first second all) = absurd (true≢false (sym is ∙ no_map))

  -- all that a field holds
  pub field_left : (f : FieldType) (old : Option Value) (v : Value) (ps : List Payload) → holds_floats pool f ≡ false → WasLeft Q pool f old → Leaves takes pool f old (Some v) ps → WholeLeft Q pool f v
  field_left f old v [] whole was h = was v (sym h)
  field_left f old v (p ∷ ps) whole was h = by (holds_map pool f) refl (is_repeated f.cardinality) refl (sort_of f.kind) where
    map_left : holds_map pool f ≡ true → ContinuesMap takes pool f.kind old (Some v) (p ∷ ps) → WholeLeft Q pool f v
    map_left is (before, after, stood, stands, put) =
        let keyed = entry_of_map pool f is in
        let parts = sound.entries f.kind keyed in
        left_map is after stands parts.0 parts.1 parts.2 parts.3
        (entries_left f.kind keyed parts.0 parts.1 parts.2 parts.3 (no_float_values pool f parts.1 whole is parts.3) before after (p ∷ ps)
        (entries_before f old before parts.0 parts.1 is parts.2 parts.3 was stood) put)

    behind_left : is_repeated f.cardinality ≡ true → holds_map pool f ≡ false → (before added after : List Value) → items_held old ≡ Some before → AllByRecursion (One f.kind) added → after ≡ before ++ added → AllByRecursion (One f.kind) after
    behind_left repeats no_map before added after stood more behind =
        subst (AllByRecursion (One f.kind)) (sym behind) (all_append (One f.kind) before added (items_before f old before repeats no_map was stood) more)

    values_left : holds_map pool f ≡ false → is_repeated f.cardinality ≡ true → ContinuesWith pool f.kind old (Some v) (p ∷ ps) → WholeLeft Q pool f v
    values_left no_map repeats (before, after, ws, stood, stands, values, (added, behind, seen)) =
        left_list no_map repeats after stands (behind_left repeats no_map before added after stood (all_single f.kind added ws seen (all_ones pool f.kind (p ∷ ps) ws values)) behind)

    messages_left : holds_map pool f ≡ false → is_repeated f.cardinality ≡ true → AddsMessages (takes.message f.group) pool f.kind old (Some v) (p ∷ ps) → WholeLeft Q pool f v
    messages_left no_map repeats (before, after, added, stood, stands, makes, behind) =
        left_list no_map repeats after stands (behind_left repeats no_map before added after stood (all_made f.group f.kind (p ∷ ps) added makes) behind)

    last_left : HoldsLast pool f.kind (Some v) (p ∷ ps) → One f.kind v
    last_left (u, w, put, is, last) =
        let same : v ≡ u = cc put in
        single_left w (ap singles.single same ∙ is) (last_one pool f.kind (p ∷ ps) w last)

    one_left : is_repeated f.cardinality ≡ false → holds_map pool f ≡ false → MergesMessage (takes.message f.group) pool f.kind old (Some v) (p ∷ ps) → One f.kind v
    one_left once no_map merges = merged f.group f.kind old (starts_before f old once no_map was) v (p ∷ ps) merges

    a_list : holds_map pool f ≡ false → is_repeated f.cardinality ≡ true → holds_list pool f ≡ true
    a_list no_map repeats = ap (λ b. b && not (holds_map pool f)) repeats ∙ ap not no_map

    no_list : is_repeated f.cardinality ≡ false → holds_list pool f ≡ false
    no_list once = ap (λ b. b && not (holds_map pool f)) once

    by : (keyed : Bool) → holds_map pool f ≡ keyed → (repeated : Bool) → is_repeated f.cardinality ≡ repeated → Sort f.kind → WholeLeft Q pool f v
    by true is repeated e sort = map_left is (h.2 is)
    by false is repeated e (floating k) = absurd (true≢false (sym k ∙ not_float pool f whole))
    by false is true e (plain type) = values_left is e (subst (λ b. LeavesAs b pool f.kind old (Some v) (p ∷ ps)) (a_list is e) (h.0 type))
    by false is false e (plain type) = left_one is e (last_left (subst (λ b. LeavesAs b pool f.kind old (Some v) (p ∷ ps)) (no_list e) (h.0 type)))
    by false is true e (message_type type) = messages_left is e (subst (λ b. TakesAs b (takes.message f.group) pool f.kind old (Some v) (p ∷ ps)) (a_list is e) (h.1 type is))
    by false is false e (message_type type) = left_one is e (one_left e is (subst (λ b. TakesAs b (takes.message f.group) pool f.kind old (Some v) (p ∷ ps)) (no_list e) (h.1 type is)))
