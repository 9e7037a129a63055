-- What a message of a type of entries gives, in the words of the model.
use Rattle.std.proofs.Common.{◌≡◌, ◌⊎◌, inl, inr, Bool, true, false, true≢false, cond, Option, Some, None, option_map, refl, sym, ap, ap₂, ◌∙◌, subst}
use Rattle.protobuf_model.specs.Types.{Key, Part}
use Rattle.protobuf_model.specs.Values.{Single, Content, single, message, content, absent}
use Rattle.protobuf_model.specs.Meaning.{payloads}
use Rattle.reflect_tables.specs.Types.{PoolType, FieldType, type_at, type_of_field}
use Rattle.reflect_tables.specs.Types as types
use Rattle.reflect_tables.specs.declared.stored.StoredEntry.{StoredEntry}
use Rattle.reflect_entries.specs.Entries.{value_at}
use Rattle.reflect_pool.specs.Shapes.{is_repeated}
use Rattle.reflect_pool.specs.declared.message.MessageDescriptor.{MessageDescriptor}
use Rattle.reflect_scalar.specs.declared.map_key.MapKey.{MapKey}
use Rattle.reflect_extend.specs.Gives as gives
use Rattle.reflect_extend.specs.Gives.{Entry, GivesAs, GivesEntry, GivesPair, left_under}
use Rattle.reflect_message.specs.Bytes.{form_of}
use Rattle.reflect_message.specs.Bytes as bytes
use Rattle.reflect_message.specs.Defaults.{IsDefaultOne}
use Rattle.reflect_message.specs.Held.{fields_of, extensions_of, unknown_of}
use Rattle.reflect_message.specs.KindTypes.{IsScalarType}
use Rattle.reflect_message.specs.Known.{is_float, known_extension}
use Rattle.reflect_message.specs.MapKeys.{key_of_value}
use Rattle.reflect_message.specs.Shown.{IsHeldOrDefault}
use Rattle.reflect_message.specs.Names.{DynamicMessage, Value}
use Rattle.reflect_format.specs.Kinds.{single_of}
use Rattle.text_model.specs.Value as reading
use Rattle.text_model.specs.Value.{entry_of, value_of}
use Rattle.message_view.specs.Singles.{scalar_of, single_view}
use Rattle.message_view.specs.Types.{default_of, key_of, part_of}
use Rattle.message_view.specs.Views.{held_in, held_either, content_view, view}
use Rattle.message_view.proofs.Elements.{kind_scalar, kind_message}
use Rattle.message_view.proofs.Entries.{Sort, plain, floating, message_type, sort_of, some_default, default_is}
use Rattle.message_view.proofs.Keys.{key_single}
use Rattle.message_view.proofs.Seen.{message_seen}
use Rattle.text_view.specs.Holds.{AreHeldAs, HasForm}
use Rattle.message_view.specs.Sound.{IsSound}
use Rattle.text_view.proofs.Entries.{entry_is, key_kind, key_known, key_numbered, key_part, key_type, scalar_whole, value_known, value_part, values}
use Rattle.text_view.proofs.Forms.{key_is, suited_form}
use Rattle.text_view.proofs.Kept.{blank_view}
use Rattle.text_view.proofs.Puts.{shown, seen_at}
use Rattle.text_view.proofs.Rivals.{no_many}
use Rattle.text_view.proofs.Scalars.{content_is, one_value}
use Rattle.text_view.proofs.Set.{OfKindIfHeld, one_held, set_same, set_held, unset_absent}

-- a part of an entry is what is held, if that is set, else its default
abbrev IsTaken : PoolType → FieldType → Option Value → Value → Type 0
IsTaken pool f o v =
    ((u : Value) × (o ≡ Some u) × (v ≡ u) × (held_in pool f (option_map content_view o) ≡ content (content_view u)))
    ⊎ (IsDefaultOne pool f v × (held_in pool f (option_map content_view o) ≡ absent))

taken : (pool : PoolType) (f : FieldType) → is_float f.kind ≡ false → is_repeated f.cardinality ≡ false → (o : Option Value) → OfKindIfHeld f.kind o → (v : Value) → gives.IsSetOrDefault pool f o v → IsTaken pool f o v
taken pool f whole one None kind v h = inr (h.2 (no_many pool f one).1 (no_many pool f one).0, refl)
taken pool f whole one (Some u) kind v h = by (bytes.is_set pool f (form_of u)) refl h where
  by : (b : Bool) → bytes.is_set pool f (form_of u) ≡ b → IsHeldOrDefault pool f (cond b (Some u) None) v → IsTaken pool f (Some u) v
  by true e k = inl (u, refl, k, set_held pool f (content_view u) (sym (set_same pool f whole (Some u) kind) ∙ e))
  by false e k = inr (k.2 (no_many pool f one).1 (no_many pool f one).0, unset_absent pool f (Some (content_view u)) (sym (set_same pool f whole (Some u) kind) ∙ e))

default_single : (pool : PoolType) (f : FieldType) (v : Value) → IsScalarType f.kind → IsDefaultOne pool f v → single_of v ≡ Some (default_of pool f)
default_single pool f v type h =
    let w = some_default pool f type in
    one_value v ∙ ap (option_map single_view) (h.0 type ∙ w.1) ∙ ap Some (sym (default_is pool f w.0 w.1))

module _ (d : MessageDescriptor) (sound : IsSound d.pool.now) (e : StoredEntry) (is : (type_at d.pool.now d.index).entry ≡ Some e) (whole : is_float (values d sound e is).kind ≡ false) where
  abbrev pool : PoolType
  pool = d.pool.now

  abbrev key_type_of : FieldType
  key_type_of = type_of_field d.pool.now d.index e.key

  abbrev value_type_of : FieldType
  value_type_of = type_of_field d.pool.now d.index e.value

  abbrev the_key : Key
  the_key = key_of d.pool.now (type_of_field d.pool.now d.index e.key)

  abbrev the_part : Part
  the_part = part_of d.pool.now (type_of_field d.pool.now d.index e.value)

  module _ (m : DynamicMessage) (same : m.descriptor ≡ d) (kinds : AreHeldAs d.pool.now d.index (fields_of m) (extensions_of m)) where
    under_key : view m 1 ≡ held_in pool key_type_of (option_map content_view (value_at (fields_of m) 1))
    under_key =
        seen_at m 1 ∙ ap (λ c. shown c m 1) same
        ∙ ap (λ o. held_either pool o (known_extension pool d.index 1) (option_map content_view (value_at (fields_of m) 1)) (option_map content_view (value_at (extensions_of m) 1)) (payloads 1 (unknown_of m))) (key_known d sound e is)

    under_value : view m 2 ≡ held_in pool value_type_of (option_map content_view (value_at (fields_of m) 2))
    under_value =
        seen_at m 2 ∙ ap (λ c. shown c m 2) same
        ∙ ap (λ o. held_either pool o (known_extension pool d.index 2) (option_map content_view (value_at (fields_of m) 2)) (option_map content_view (value_at (extensions_of m) 2)) (payloads 2 (unknown_of m))) (value_known d sound e is whole)

    key_held : OfKindIfHeld key_type_of.kind (value_at (fields_of m) 1)
    key_held =
        let none = no_many pool key_type_of (key_part d sound e is).one in
        one_held pool key_type_of none.0 none.1 (value_at (fields_of m) 1) (kinds.fields 1 key_type_of (key_known d sound e is))

    value_held : OfKindIfHeld value_type_of.kind (value_at (fields_of m) 2)
    value_held =
        let none = no_many pool value_type_of (value_part d sound e is).one in
        one_held pool value_type_of none.0 none.1 (value_at (fields_of m) 2) (kinds.fields 2 value_type_of (value_known d sound e is whole))

    abbrev IsKeyOf : Value → MapKey → Type 0
    IsKeyOf v k = (key_of_value v ≡ Some k) × (key_single k ≡ reading.key_of the_key (view m 1)) × HasForm (scalar_of key_type_of.kind) (key_single k)

    -- the key
    key_given : (v : Value) → gives.IsSetOrDefault pool key_type_of (value_at (fields_of m) 1) v → (k : MapKey) × IsKeyOf v k
    key_given v h = by (taken pool key_type_of (scalar_whole key_type_of.kind (key_type d sound e is)) (key_part d sound e is).one (value_at (fields_of m) 1) key_held v h) where
      by : IsTaken pool key_type_of (value_at (fields_of m) 1) v → (k : MapKey) × IsKeyOf v k
      by (inl (u, there, same_value, held)) =
          let kind = subst (OfKindIfHeld key_type_of.kind) there key_held in
          let x = kind.1 (key_type d sound e is) in
          let k = key_is key_type_of.kind (key_kind d sound e is) v x.0 (ap single_of same_value ∙ x.1) x.2 in
          let seen : view m 1 ≡ content (single x.0) = under_key ∙ held ∙ ap content (content_is u x.0 x.1) in
          (k.0, (k.1, k.2 ∙ sym (ap (reading.key_of the_key) seen), subst (HasForm (scalar_of key_type_of.kind)) (sym k.2) x.2))
      by (inr (default, held)) =
          let x = default_of pool key_type_of in
          let form = suited_form (scalar_of key_type_of.kind) x (sound.defaults (types.message d.index) 1 key_type_of (entry_is d sound e is) (key_numbered d sound e is) (key_type d sound e is)) in
          let k = key_is key_type_of.kind (key_kind d sound e is) v x (default_single pool key_type_of v (key_type d sound e is) default) form in
          (k.0, (k.1, k.2 ∙ sym (ap (reading.key_of the_key) (under_key ∙ held)), subst (HasForm (scalar_of key_type_of.kind)) (sym k.2) form))

    -- the value
    default_content : (v : Value) → IsDefaultOne pool value_type_of v → content_view v ≡ reading.default_of the_part the_part.kind
    default_content v h = by (sort_of value_type_of.kind) where
      by : Sort value_type_of.kind → content_view v ≡ reading.default_of the_part the_part.kind
      by (floating f) = absurd (true≢false (sym f ∙ whole))
      by (plain type) =
          content_is v (default_of pool value_type_of) (default_single pool value_type_of v type h)
          ∙ sym (ap (reading.default_of the_part) (kind_scalar pool value_type_of.group value_type_of.kind type))
      by (message_type type) =
          let n = h.1 type in
          message_seen v n.0 n.1 ∙ ap message (blank_view n.0 n.2.1)
          ∙ sym (ap (reading.default_of the_part) (kind_message pool value_type_of.group value_type_of.kind n.0.descriptor.index n.2.0.1))

    value_given : (v : Value) → gives.IsSetOrDefault pool value_type_of (value_at (fields_of m) 2) v → content_view v ≡ value_of the_part (view m 2)
    value_given v h = by (taken pool value_type_of whole (value_part d sound e is).one (value_at (fields_of m) 2) value_held v h) where
      by : IsTaken pool value_type_of (value_at (fields_of m) 2) v → content_view v ≡ value_of the_part (view m 2)
      by (inl (u, there, same_value, held)) = ap content_view same_value ∙ sym (ap (value_of the_part) (under_value ∙ held))
      by (inr (default, held)) = default_content v default ∙ sym (ap (value_of the_part) (under_value ∙ held))

    -- the entry
    abbrev pub GivesThis : Option Entry → Type 0
    GivesThis given =
        (k : MapKey) × (v : Value) × (given ≡ Some (k, v)) × (entry_of the_key the_part (message (view m)) ≡ (key_single k, content_view v))
        × HasForm (scalar_of key_type_of.kind) (key_single k)

    pair_given : (given : Option Entry) → GivesPair pool key_type_of value_type_of (fields_of m) given → GivesThis given
    pair_given given (key, value, of_key, of_value, is_given) =
        let k = key_given key (subst (λ n. gives.IsSetOrDefault pool key_type_of (value_at (fields_of m) n) key) (key_part d sound e is).number of_key) in
        let left : left_under key_type_of.number (fields_of m) value_type_of.number ≡ value_at (fields_of m) 2 =
        ap (λ n. left_under key_type_of.number (fields_of m) n) (value_part d sound e is).number
        ∙ ap (λ n. left_under n (fields_of m) 2) (key_part d sound e is).number in
        let v = value_given value (subst (λ o. gives.IsSetOrDefault pool value_type_of o value) left of_value) in (
          k.0,
          value,
          is_given ∙ ap (option_map (λ k. (k, value))) k.1.0,
          ap₂ (λ (a : Single) (b : Content). (a, b)) (sym k.1.1) (sym v),
          k.1.2,
        )

    pub entry_given : (given : Option Entry) → GivesEntry m given → GivesThis given
    entry_given given h =
        let here = subst (λ (c : MessageDescriptor). GivesAs c.pool.now c.index (type_at c.pool.now c.index).entry (fields_of m) given) same h in
        pair_given given (subst (λ o. GivesAs pool d.index o (fields_of m) given) is here)
