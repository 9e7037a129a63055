-- The key and the value of the entry that a message gives to a map, where the message suits its
-- type.
use Rattle.std.proofs.Common.{◌≡◌, ℕ, suc, ◌||◌, not, Bool, true, false, true≢false, cond, is_some, Option, None, Some, option_map, refl, sym, ap, ◌∙◌, subst}
use Rattle.std.specs.Option.{option_and_then}
use Rattle.protobuf_model.specs.Scalars.{Suits, same}
use Rattle.protobuf_model.specs.Typed.{IsHeldOf, IsOf, IsTyped}
use Rattle.protobuf_model.specs.Types.{Field, Name, keyed, many, one}
use Rattle.protobuf_model.specs.Values.{Content, Held, Message, Single, absent, content, message, single}
use Rattle.protobuf_model.proofs.KeyOrder.{same_true}
use Rattle.reflect_entries.specs.Entries.{value_at}
use Rattle.reflect_extend.specs.Gives.{Entry, GivesOneEntry, GivesAs, GivesIn, GivesPair, IsSetOrDefault}
use Rattle.reflect_message.specs.Bytes as bytes
use Rattle.reflect_message.specs.Contents.{content_of}
use Rattle.reflect_message.specs.Defaults.{IsDefault, IsDefaultOne}
use Rattle.reflect_message.specs.Held.{fields_of}
use Rattle.reflect_message.specs.KindTypes.{IsMessageType, IsScalarType}
use Rattle.reflect_message.specs.Known.{entry_field, holds_floats, if_held, is_float, known_field, numbered_field}
use Rattle.reflect_message.specs.MapKeys.{key_of_value}
use Rattle.reflect_message.specs.Messages.{message_in}
use Rattle.reflect_message.specs.Names as blocks
use Rattle.reflect_message.specs.Names.{DynamicMessage, Parts, Value}
use Rattle.reflect_message.specs.Shown.{IsHeldOrDefault}
use Rattle.reflect_message.specs.Singles as singles
use Rattle.reflect_message.specs.declared.parts.HeldOf.TheOpen.{ValueOf-F}
use Rattle.reflect_message.specs.declared.parts.HeldOf.TheViews.{out-ValueOf}
use Rattle.reflect_pool.specs.Shapes.{holds_map, is_entry, is_repeated}
use Rattle.reflect_pool.specs.declared.message.MessageDescriptor.{MessageDescriptor}
use Rattle.reflect_scalar.specs.Keys.{key_view}
use Rattle.reflect_scalar.specs.Singles as held
use Rattle.reflect_scalar.specs.declared.map_key.MapKey.{MapKey}
use Rattle.reflect_scalar.specs.declared.map_key.MapKey.TheVariants as keys
use Rattle.reflect_tables.specs.Types.{FieldType, KindType, PoolType, type_at, type_of_field}
use Rattle.reflect_tables.specs.Types as types
use Rattle.reflect_tables.specs.declared.stored.StoredEntry.{StoredEntry}
use Rattle.message_view.specs.Shaped.{FitsOne, IsShaped, Shaped}
use Rattle.message_view.specs.Singles.{scalar_of, single_view}
use Rattle.message_view.specs.Sound.{IsPartAt, IsSound}
use Rattle.message_view.specs.Types.{default_of, entry_part, field_of, key_of, kind_in, name_at, oneof_at, part_of, types_of, values_of}
use Rattle.message_view.specs.Views.{content_view, held_in, view}
use Rattle.message_view.proofs.Changed.{nothing_shaped}
use Rattle.message_view.proofs.Elements.{kind_message, kind_scalar}
use Rattle.message_view.proofs.Entries.{Sort, default_is, entry_of_map, floating, key_scalar, message_type, no_float_values, part_is, plain, some_default, sort_of}
use Rattle.message_view.proofs.Seen.{message_seen, single_in, single_seen}
use Rattle.set_view.specs.Given.{GivesKeyed, GivesSuiting, HasKey}
use Rattle.set_view.proofs.Given.{held_fits, if_whole, no_list, no_map, part_found, value_left, value_of_pair}
use Rattle.set_view.proofs.Keyed.{field_typed}
use Rattle.set_view.proofs.Viewed.{empty_suits}

-- ---- keys as single values
abbrev key_in : ValueOf-F MessageDescriptor blocks.Held Value DynamicMessage Parts → Option MapKey
key_in o = elim o [
  | ValueOf-F.Bool b ↦ Some (keys.Bool b)
  | ValueOf-F.I32 z ↦ Some (keys.I32 z)
  | ValueOf-F.I64 z ↦ Some (keys.I64 z)
  | ValueOf-F.U32 n ↦ Some (keys.U32 n)
  | ValueOf-F.U64 n ↦ Some (keys.U64 n)
  | ValueOf-F.String t ↦ Some (keys.String t)
  | ValueOf-F.Bytes b ↦ None
  | ValueOf-F.EnumNumber z ↦ None
  | ValueOf-F.Message m ↦ None
  | ValueOf-F.List vs ↦ None
  | ValueOf-F.Map es ↦ None
]

pub key_seen : (v : Value) (k : MapKey) → key_of_value v ≡ Some k → singles.single v ≡ Some (key_view k)
key_seen v k e = by (out-ValueOf MessageDescriptor v) e where
  by : (o : ValueOf-F MessageDescriptor blocks.Held Value DynamicMessage Parts) → key_in o ≡ Some k → single_in o ≡ Some (key_view k)
  by (ValueOf-F.Bytes b) e = absurd (cc e)
  by (ValueOf-F.EnumNumber z) e = absurd (cc e)
  by o e = ap (option_map key_view) e

pub key_of_pair : (o : Option MapKey) (value : Value) (e : Entry) → Some e ≡ option_map (λ k. (k, value)) o → o ≡ Some e.0
key_of_pair None value e is = absurd (cc is)
key_of_pair (Some k) value e is = ap (λ (p : Option Entry). elim p [ None ↦ Some k | Some q ↦ Some q.0 ]) (sym is)

-- ---- a field of one value
scalar_whole : (t : KindType) → IsScalarType t → is_float t ≡ false
scalar_whole types.double h = absurd h
scalar_whole types.float h = absurd h
scalar_whole t h = refl

module _ (inner : Name → Message → Type 0) (pool : PoolType) (f : FieldType) where
  -- the value is of the field's kind
  abbrev IsOfKind : Value → Type 0
  IsOfKind v = IsOf inner (kind_in pool f.group f.kind) (content_view v)

  of_single : (v : Value) (w : held.Single) → singles.single v ≡ Some w → IsScalarType f.kind → Suits (scalar_of f.kind) (single_view w) → IsOfKind v
  of_single v w is type suits =
      subst (IsOf inner (kind_in pool f.group f.kind)) (sym (single_seen v w is))
      (subst (λ k. IsOf inner k (single (single_view w))) (sym (kind_scalar pool f.group f.kind type)) suits)

  of_message : (v : Value) (m : DynamicMessage) → message_in v ≡ Some m → IsOf inner (kind_in pool f.group f.kind) (message (view m)) → IsOfKind v
  of_message v m is h = subst (IsOf inner (kind_in pool f.group f.kind)) (sym (message_seen v m is)) h

  -- what the field holds suits it, set or not
  module _ (levels : ℕ) (one_value : is_repeated f.cardinality ≡ false) (o : Option ℕ) (x : Bool) where
    abbrev SuitsField : Held → Type 0
    SuitsField h = IsHeldOf inner levels (Some (field_of pool o x f)) h

    abbrev AsField : Bool → Bool → Field
    AsField b c = record {
      part = part_of pool (cond b (entry_part pool f 2) f);
      label = cond b (keyed (key_of pool (entry_part pool f 1))) (cond c (many f.packed) one);
      oneof = o;
      extension = x;
    }

    content_suits : (c : Content) → SuitsField (content c) → IsOf inner (kind_in pool f.group f.kind) c
    content_suits c h =
        let no_map = subst (λ b. IsHeldOf inner levels (Some (AsField b (is_repeated f.cardinality))) (content c)) (no_map pool f one_value) h in
        let no_list = subst (λ b. IsHeldOf inner levels (Some (AsField false b)) (content c)) one_value no_map in
        no_list.0

    single_suits : IsScalarType f.kind → Suits (scalar_of f.kind) (default_of pool f) → (v : Single) → SuitsField (held_in pool f (Some (single v))) → Suits (scalar_of f.kind) v
    single_suits type default v h = by (f.presence || not (same v (default_of pool f))) refl where
      -- where it is not set it is the default
      default_is_same : (b c : Bool) → (b || not c) ≡ false → c ≡ true
      default_is_same b true e = refl
      default_is_same true false e = absurd (cc e)
      default_is_same false false e = absurd (cc e)

      by : (b : Bool) → (f.presence || not (same v (default_of pool f))) ≡ b → Suits (scalar_of f.kind) v
      by true is =
          subst (λ k. IsOf inner k (single v)) (kind_scalar pool f.group f.kind type)
          (content_suits (single v) (subst (λ b. SuitsField (cond b (content (single v)) absent)) is h))
      by false is = subst (Suits (scalar_of f.kind)) (sym (same_true v (default_of pool f) (default_is_same f.presence (same v (default_of pool f)) is))) default

    held_suits : (outer : DynamicMessage → Type 0) → is_float f.kind ≡ false → (IsScalarType f.kind → Suits (scalar_of f.kind) (default_of pool f))
        → (v : Value) → FitsOne outer pool f v → SuitsField (held_in pool f (Some (content_view v))) → IsOfKind v
    held_suits outer whole default v fits h = by (sort_of f.kind) where
      by : Sort f.kind → IsOfKind v
      by (floating e) = absurd (true≢false (sym e ∙ whole))
      by (plain type) =
          let w = fits.plain type in
          of_single v w.0 w.1 type (single_suits type (default type) (single_view w.0) (subst (λ c. SuitsField (held_in pool f (Some c))) (single_seen v w.0 w.1) h))
      by (message_type type) =
          let m = fits.nested type in
          of_message v m.0 m.1 (content_suits (message (view m.0)) (subst (λ c. SuitsField (held_in pool f (Some c))) (message_seen v m.0 m.1) h))

-- its default, which of a message type is an empty message
default_suits : (depth : ℕ) (pool : PoolType) (f : FieldType) → is_float f.kind ≡ false → (IsScalarType f.kind → Suits (scalar_of f.kind) (default_of pool f))
    → (v : Value) → IsDefaultOne pool f v → IsOfKind (IsTyped depth (types_of pool)) pool f v
default_suits depth pool f whole default v h = by (sort_of f.kind) where
  by : Sort f.kind → IsOfKind (IsTyped depth (types_of pool)) pool f v
  by (floating e) = absurd (true≢false (sym e ∙ whole))
  by (plain type) =
      let w = some_default pool f type in
      of_single (IsTyped depth (types_of pool)) pool f v w.0 (h.0 type ∙ w.1) type (subst (Suits (scalar_of f.kind)) (default_is pool f w.0 w.1) (default type))
  by (message_type type) =
      let m = h.1 type in
      of_message (IsTyped depth (types_of pool)) pool f v m.0 m.1
      (subst (λ k. IsOf (IsTyped depth (types_of pool)) k (message (view m.0))) (sym (kind_message pool f.group f.kind m.0.descriptor.index m.2.0.1))
      (empty_suits depth (types_of pool) (name_at pool m.0.descriptor.index) m.0 m.2.1))

-- ---- the parts of an entry
module _ (levels depth : ℕ) (m : DynamicMessage) (sound : IsSound m.descriptor.pool.now) (shape : IsShaped (Shaped (suc levels)) m.descriptor (content_of m))
    (suits : IsTyped (suc depth) (types_of m.descriptor.pool.now) (name_at m.descriptor.pool.now m.descriptor.index) (view m))
    (s : StoredEntry) (is : (type_at m.descriptor.pool.now m.descriptor.index).entry ≡ Some s) where
  abbrev its : MessageDescriptor
  its = m.descriptor

  abbrev type_of : ℕ → FieldType
  type_of place = type_of_field m.descriptor.pool.now m.descriptor.index place

  abbrev IsOfPart : ℕ → Value → Type 0
  IsOfPart place v = IsOf (IsTyped depth (types_of its.pool.now)) (kind_in its.pool.now (type_of place).group (type_of place).kind) (content_view v)

  is_entry_type : is_entry its.pool.now (types.message its.index) ≡ true
  is_entry_type = ap is_some is

  -- what a part gives: what it holds, or its default
  module _ (n place : ℕ) (part : IsPartAt its.pool.now its.index n place) (there : numbered_field its.pool.now its.index n ≡ Some (type_of place)) (whole : is_float (type_of place).kind ≡ false) where
    default : IsScalarType (type_of place).kind → Suits (scalar_of (type_of place).kind) (default_of its.pool.now (type_of place))
    default = sound.defaults (types.message its.index) n (type_of place) is_entry_type there

    known : known_field its.pool.now its.index n ≡ Some (type_of place)
    known = ap (option_and_then (if_held its.pool.now)) there ∙ if_whole its.pool.now (type_of place) part.one whole

    held_typed : (u : Value) → value_at (fields_of m) n ≡ Some u → IsOfPart place u
    held_typed u at =
        let f = type_of place in
        let o = oneof_at its.pool.now its.index f in
        held_suits (IsTyped depth (types_of its.pool.now)) its.pool.now f (suc depth) part.one o false (Shaped (suc levels)) whole default u (held_fits (Shaped (suc levels)) (nothing_shaped false levels) m sound shape s is n place part there u at)
        (subst (λ h. IsHeldOf (IsTyped depth (types_of its.pool.now)) (suc depth) (Some (field_of its.pool.now o false f)) (held_in its.pool.now f (option_map content_view h))) at (field_typed depth m sound suits n f known))

    default_typed : (v : Value) → IsDefault its.pool.now (type_of place) v → IsOfPart place v
    default_typed v h = default_suits depth its.pool.now (type_of place) whole default v (h.2 (no_list its.pool.now (type_of place) part.one) (no_map its.pool.now (type_of place) part.one))

    part_typed : (o : Option Value) → value_at (fields_of m) n ≡ o → (v : Value) → IsSetOrDefault its.pool.now (type_of place) o v → IsOfPart place v
    part_typed None at v h = default_typed v h
    part_typed (Some u) at v h = by (bytes.is_set its.pool.now (type_of place) (bytes.form_of u)) h where
      by : (b : Bool) → IsHeldOrDefault its.pool.now (type_of place) (cond b (Some u) None) v → IsOfPart place v
      by true same = subst (IsOfPart place) (sym same) (held_typed u at)
      by false h = default_typed v h

  key_part : IsPartAt its.pool.now its.index 1 s.key
  key_part = (sound.parts its.index s is).0

  value_part : IsPartAt its.pool.now its.index 2 s.value
  value_part = (sound.parts its.index s is).1

  key_there : numbered_field its.pool.now its.index 1 ≡ Some (type_of s.key)
  key_there =
      let fields = sound.entries (types.message its.index) is_entry_type in
      fields.2 ∙ ap Some (sym (part_found its.pool.now sound.apart its.index 1 s.key key_part fields.0 fields.2))

  value_there : numbered_field its.pool.now its.index 2 ≡ Some (type_of s.value)
  value_there =
      let fields = sound.entries (types.message its.index) is_entry_type in
      fields.3 ∙ ap Some (sym (part_found its.pool.now sound.apart its.index 2 s.value value_part fields.1 fields.3))

  key_type : IsScalarType (type_of s.key).kind
  key_type = key_scalar (type_of s.key).kind (sound.keys (types.message its.index) (type_of s.key) is_entry_type key_there).0

  abbrev GivesThis : Entry → Type 0
  GivesThis e = GivesPair its.pool.now (type_of s.key) (type_of s.value) (fields_of m) (Some e)

  pair_keyed : (e : Entry) → GivesThis e → Suits (scalar_of (type_of s.key).kind) (single_view (key_view e.0))
  pair_keyed e (key, value, of_key, of_value, given) =
      let f = type_of s.key in
      let below = IsTyped depth (types_of its.pool.now) in
      let seen = single_seen key (key_view e.0) (key_seen key e.0 (key_of_pair (key_of_value key) value e given)) in
      let typed = part_typed 1 s.key key_part key_there (scalar_whole f.kind key_type) (value_at (fields_of m) 1) refl key
      (subst (λ n. IsSetOrDefault its.pool.now f (value_at (fields_of m) n) key) key_part.number of_key) in
      subst (λ k. IsOf below k (single (single_view (key_view e.0)))) (kind_scalar its.pool.now f.group f.kind key_type) (subst (IsOf below (kind_in its.pool.now f.group f.kind)) seen typed)

  pair_valued : is_float (type_of s.value).kind ≡ false → (e : Entry) → GivesThis e → IsOfPart s.value e.1
  pair_valued whole e (key, value, of_key, of_value, given) =
      subst (IsOfPart s.value) (value_of_pair (key_of_value key) value e given)
      (part_typed 2 s.value value_part value_there whole (value_at (fields_of m) 2) refl value
      (subst (λ o. IsSetOrDefault its.pool.now (type_of s.value) o value) (value_left (Shaped (suc levels)) (nothing_shaped false levels) m sound shape s is) of_value))

-- ---- a message of the entries' type
map_of_messages : (pool : PoolType) (f : FieldType) → holds_map pool f ≡ true → IsMessageType f.kind
map_of_messages pool f is_map = by f.kind (entry_of_map pool f is_map) where
  by : (t : KindType) → is_entry pool t ≡ true → IsMessageType t
  by (types.message i) e = tt
  by t e = absurd (cc e)

module _ (levels depth : ℕ) (pool : PoolType) (sound : IsSound pool) (f : FieldType) (is_map : holds_map pool f ≡ true) (v : Value) (fits : FitsOne (Shaped (suc (suc levels))) pool f v)
    (suits : (m : DynamicMessage) → message_in v ≡ Some m → IsTyped (suc depth) (types_of pool) (name_at pool m.descriptor.index) (view m)) where
  -- what holds of the entry of each such message
  of_pair : (P : Entry → Type 0)
      → ((m : DynamicMessage) → m.descriptor.pool.now ≡ pool → f.kind ≡ types.message m.descriptor.index → Shaped (suc (suc levels)) m
      → IsTyped (suc depth) (types_of m.descriptor.pool.now) (name_at m.descriptor.pool.now m.descriptor.index) (view m)
      → (s : StoredEntry) → (type_at m.descriptor.pool.now m.descriptor.index).entry ≡ Some s
      → (e : Entry) → GivesPair m.descriptor.pool.now (type_of_field m.descriptor.pool.now m.descriptor.index s.key) (type_of_field m.descriptor.pool.now m.descriptor.index s.value) (fields_of m) (Some e) → P e)
      → (e : Entry) → GivesOneEntry v (Some e) → P e
  of_pair P each e gives =
      let entry = fits.nested (map_of_messages pool f is_map) in
      by entry.0 entry.2.0 entry.2.1 entry.3 (suits entry.0 entry.1) (type_at entry.0.descriptor.pool.now entry.0.descriptor.index).entry refl (subst (λ o. GivesIn o (Some e)) entry.1 gives) where
        by : (m : DynamicMessage) → m.descriptor.pool.now ≡ pool → f.kind ≡ types.message m.descriptor.index → Shaped (suc (suc levels)) m → IsTyped (suc depth) (types_of pool) (name_at pool m.descriptor.index) (view m)
            → (o : Option StoredEntry) → (type_at m.descriptor.pool.now m.descriptor.index).entry ≡ o → GivesAs m.descriptor.pool.now m.descriptor.index o (fields_of m) (Some e)
            → P e
        by m its_pool its_kind shape suit None is h = absurd (cc h)
        by m its_pool its_kind shape suit (Some s) is h =
            each m its_pool its_kind shape (subst (λ p. IsTyped (suc depth) (types_of p) (name_at p m.descriptor.index) (view m)) (sym its_pool) suit) s is e h

  -- a field of the entries' type as the map has it
  as_part : (m : DynamicMessage) → m.descriptor.pool.now ≡ pool → f.kind ≡ types.message m.descriptor.index → (n : ℕ) (g : FieldType)
      → numbered_field m.descriptor.pool.now m.descriptor.index n ≡ Some g → entry_field pool f.kind n ≡ Some g
  as_part m its_pool its_kind n g there = ap (λ t. entry_field pool t n) its_kind ∙ sym (ap (λ p. numbered_field p m.descriptor.index n) its_pool) ∙ there

  pub given_keyed : GivesKeyed pool f v
  given_keyed = of_pair (HasKey pool f) (λ m its_pool its_kind shape suit s is e h.
      let its_sound = subst IsSound (sym its_pool) sound in
      let key = type_of_field m.descriptor.pool.now m.descriptor.index s.key in
      let there = as_part m its_pool its_kind 1 key (key_there levels depth m its_sound shape suit s is) in
      subst (λ (g : FieldType). Suits (scalar_of g.kind) (single_view (key_view e.0))) (sym (part_is pool f 1 key there)) (pair_keyed levels depth m its_sound shape suit s is e h))

  module _ (whole : holds_floats pool f ≡ false) where
    abbrev HasValue : Entry → Type 0
    HasValue e = IsOf (IsTyped depth (types_of pool)) (part_of pool (values_of pool f)).kind (content_view e.1)

    given_valued : (e : Entry) → GivesOneEntry v (Some e) → HasValue e
    given_valued = of_pair HasValue (λ m its_pool its_kind shape suit s is e h.
        let its_sound = subst IsSound (sym its_pool) sound in
        let value = type_of_field m.descriptor.pool.now m.descriptor.index s.value in
        let there = as_part m its_pool its_kind 2 value (value_there levels depth m its_sound shape suit s is) in
        let typed = pair_valued levels depth m its_sound shape suit s is (no_float_values pool f value whole is_map there) e h in
        let below = IsTyped depth (types_of pool) in
        subst (λ b. IsOf below (part_of pool (cond b (entry_part pool f 2) f)).kind (content_view e.1)) (sym is_map)
        (subst (λ (g : FieldType). IsOf below (kind_in pool g.group g.kind) (content_view e.1)) (sym (part_is pool f 2 value there))
        (subst (λ p. IsOf (IsTyped depth (types_of p)) (kind_in p value.group value.kind) (content_view e.1)) its_pool typed)))

    pub given_suits : GivesSuiting depth pool f v
    given_suits e gives = (given_keyed e gives, given_valued e gives)
