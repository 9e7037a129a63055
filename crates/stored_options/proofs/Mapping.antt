-- A fine message into a map of which a fine entry is put is fine still.
use Rattle.std.proofs.Common.{◌≡◌, ℕ, suc, true, false, cond, List, [], ◌∷◌, Option, None, Some, refl, sym, ap, ◌∙◌, subst}
use Rattle.std.specs.List.{AllByRecursion}
use Rattle.texts_view.proofs.Given.{value_known}
use Rattle.texts_view.proofs.Known.{add_all_known}
use Rattle.known_messages.specs.KnownMessages.{KnowsAll, KnowsContent, KnowsHeld}
use Rattle.message_view.specs.Singles as views
use Rattle.message_view.specs.Sound.{IsSound}
use Rattle.message_view.specs.Types.{entry_part, key_of, name_at, part_of, place_in, types_of}
use Rattle.message_view.specs.Views.{content_view, view}
use Rattle.message_view.proofs.Fields.{none_owned}
use Rattle.message_view.proofs.Seen.{message_seen}
use Rattle.message_view.proofs.Sound.{found_at}
use Rattle.protobuf_model.specs.Scalars.{Suits}
use Rattle.protobuf_model.specs.Typed.{HasDefault, HasDefaults, IsTyped, IsTypedBy}
use Rattle.protobuf_model.specs.Types.{Field, Key, Name, Part, Scalar, Types, keyed}
use Rattle.protobuf_model.specs.Types as kinds
use Rattle.protobuf_model.specs.Values.{Message, Single, blob, enumerated, int32, int64, message, text, truth, uint32, uint64}
use Rattle.protobuf_model.proofs.Merging.{nothing_typed}
use Rattle.protox_lex.specs.Class.{Text}
use Rattle.reflect_extend.specs.Gives.{Entry}
use Rattle.reflect_format.specs.Steps.{AddsValues, held_by}
use Rattle.reflect_format.specs.Takes.{target_type}
use Rattle.reflect_format.specs.declared.target.Target.{Target}
use Rattle.reflect_format.specs.declared.target.Target.TheVariants as targets
use Rattle.reflect_message.specs.Known.{holds_floats}
use Rattle.reflect_message.specs.Maps.{entries_held}
use Rattle.reflect_message.specs.Names.{DynamicMessage, Value}
use Rattle.reflect_message.specs.declared.value.ValueOf.TheVariants as held
use Rattle.reflect_pool.specs.Shapes.{holds_map}
use Rattle.reflect_pool.specs.declared.message.MessageDescriptor.{MessageDescriptor}
use Rattle.reflect_scalar.specs.FieldTypes.{extension_type}
use Rattle.reflect_scalar.specs.Keys.{key_view}
use Rattle.reflect_scalar.specs.declared.map_key.MapKey.{MapKey}
use Rattle.reflect_tables.specs.Types.{FieldType, PoolType}
use Rattle.reflect_tables.specs.Types as types
use Rattle.set_view.specs.Given.{HasKey}
use Rattle.set_view.proofs.Keyed.{extension_keys, field_keys}
use Rattle.text_laws.proofs.Assigned.{field}
use Rattle.text_laws.proofs.EntriesSuit.{entry_right}
use Rattle.text_laws.proofs.FieldsSuit.{IsAdded, add_all_keeps}
use Rattle.text_model.specs.Schemas.{HoldsOne, key_part}
use Rattle.text_model.specs.Value.{add_all, entry_of}
use Rattle.text_view.specs.Holds.{HasForm, HaveKeys, HoldsKinds}
use Rattle.text_view.specs.Names.{kind_name, names_of}
use Rattle.text_view.specs.Targets.{target_field}
use Rattle.text_view.proofs.Adds.{label_keyed, target_label, types_are}
use Rattle.text_view.proofs.Apart.{no_field_there}
use Rattle.text_view.proofs.Given.{target_part, the_entry, value_no_float}
use Rattle.text_view.proofs.Maps.{map_added}
use Rattle.text_view.proofs.Owned.{OwnsTarget}
use Rattle.text_view.proofs.Puts.{message_is}
use Rattle.text_view.proofs.Shaped.{target_number}
use Rattle.text_view.proofs.SoundTypes.{sound_types}
use Rattle.text_view.proofs.Wanted.{entry_under}
use Rattle.stored_options.proofs.Fine.{IsFine}
use Rattle.stored_options.proofs.MapShape.{entry_map, entry_sound, entry_whole, held_entries, map_shape}
use Rattle.stored_options.proofs.Putting.{fine_so, has}

-- ---- keys

-- what suits a kind has its form
form_suits : (k : Scalar) (x : Single) → Suits k x → HasForm k x
form_suits kinds.int32 (int32 z) h = tt
form_suits kinds.int64 (int64 z) h = tt
form_suits kinds.uint32 (uint32 n) h = tt
form_suits kinds.uint64 (uint64 n) h = tt
form_suits kinds.sint32 (int32 z) h = tt
form_suits kinds.sint64 (int64 z) h = tt
form_suits kinds.fixed32 (uint32 n) h = tt
form_suits kinds.fixed64 (uint64 n) h = tt
form_suits kinds.sfixed32 (int32 z) h = tt
form_suits kinds.sfixed64 (int64 z) h = tt
form_suits kinds.bool (truth b) h = tt
form_suits kinds.string (text t) h = tt
form_suits kinds.bytes (blob b) h = tt
form_suits kinds.enumeration (enumerated z) h = tt
form_suits k x h = absurd h

keys_formed : (pool : PoolType) (f : FieldType) (es : List Entry) → AllByRecursion (HasKey pool f) es → HaveKeys (views.scalar_of (entry_part pool f 1).kind) es
keys_formed pool f [] h = tt
keys_formed pool f (e ∷ es) h = (form_suits (views.scalar_of (entry_part pool f 1).kind) (views.single_view (key_view e.0)) h.0, keys_formed pool f es h.1)

-- ---- the map

module _ (levels : ℕ) (old : DynamicMessage) (sound : IsSound old.descriptor.pool.now) (fine : IsFine (suc levels) old) (new : DynamicMessage)
    (type : new.descriptor ≡ old.descriptor) (t : Target) (owns : OwnsTarget old.descriptor t)
    (is_map : holds_map old.descriptor.pool.now (target_type t) ≡ true) (c : MessageDescriptor) (at : c.pool.now ≡ old.descriptor.pool.now) (kind : (target_type t).kind ≡ types.message c.index)
    (m : DynamicMessage) (same : m.descriptor ≡ c) (kinds_held : HoldsKinds m) (entry : IsFine (suc levels) m) (adds : AddsValues t (held.Message m ∷ []) old new) where
  abbrev d : MessageDescriptor
  d = old.descriptor

  abbrev pool : PoolType
  pool = old.descriptor.pool.now

  abbrev f : FieldType
  f = target_type t

  abbrev vs : List Value
  vs = held.Message m ∷ []

  abbrev its_types : Types
  its_types = types_of old.descriptor.pool.now

  abbrev name : Name
  name = name_at old.descriptor.pool.now old.descriptor.index

  c_sound : IsSound c.pool.now
  c_sound = entry_sound d sound t owns is_map c at

  c_map : holds_map c.pool.now f ≡ true
  c_map = entry_map d sound t owns is_map c at

  c_whole : holds_floats c.pool.now f ≡ false
  c_whole = entry_whole d sound t owns is_map c at

  -- ---- what it held

  stood_entries : (es : List (MapKey × Value)) × (entries_held (held_by old t) ≡ Some es)
  stood_entries = held_entries (suc levels) old sound fine.shape t owns is_map

  keys : (t : Target) → OwnsTarget d t → holds_map pool (target_type t) ≡ true → (es : List (MapKey × Value))
      → entries_held (held_by old t) ≡ Some es → AllByRecursion (HasKey pool (target_type t)) es
  keys (targets.Field g) owns so es is = field_keys (suc levels) old sound fine.typed g owns so es is
  keys (targets.Extension x) owns so es is = extension_keys (suc levels) old sound fine.typed x owns (none_owned d (extension_type x).number (no_field_there d sound.apart x owns)) so es is

  formed : HaveKeys (views.scalar_of (entry_part pool f 1).kind) stood_entries.0
  formed = keys_formed pool f stood_entries.0 (keys t owns is_map stood_entries.0 stood_entries.1)

  -- ---- what is seen of it

  part : (target_field d t).part ≡ part_of pool (entry_part pool f 2)
  part = target_part d t ∙ ap (λ b. part_of pool (cond b (entry_part pool f 2) f)) is_map

  label : (target_field d t).label ≡ keyed (key_of pool (entry_part pool f 1))
  label = target_label d t ∙ label_keyed pool f is_map

  abbrev its_field : Field
  its_field = field (part_of pool (entry_part pool f 2)) (keyed (key_of pool (entry_part pool f 1))) (target_field d t).oneof (target_field d t).extension

  there : its_types name f.number ≡ Some its_field
  there =
      has (suc levels) old sound fine new type t owns
      ∙ ap (λ p. Some (field p (target_field d t).label (target_field d t).oneof (target_field d t).extension)) part
      ∙ ap (λ l. Some (field (part_of pool (entry_part pool f 2)) l (target_field d t).oneof (target_field d t).extension)) label

  pub map_seen : add_all (its_types name) f.number its_field.part its_field.label (view old) (content_view (held.Message m) ∷ []) ≡ Some (view new)
  map_seen =
      let e = the_entry c f kind c_sound c_map c_whole in
      ap (λ fs. add_all fs f.number its_field.part its_field.label (view old) (content_view (held.Message m) ∷ [])) (types_are pool sound.names d refl)
      ∙ (map_added old new sound.apart type t owns is_map fine.shape.1 c at kind c_sound e.0 e.1 (value_no_float c f kind c_sound c_map c_whole) vs ((m, refl, same, kinds_held), tt) stood_entries.0 stood_entries.1 formed adds).0

  -- ---- the entry suits the map

  none_decoded : Name → Text → Option Message
  none_decoded u x = None

  entry_name : (names_of pool (place_in pool.messages (name_at old.descriptor.pool.now old.descriptor.index))).entry (target_type t).number ≡ name_at pool c.index
  entry_name =
      ap (λ i. (names_of pool i).entry f.number) (found_at pool.messages d.index d.in_range (λ k less e. sound.names d.index k d.in_range less e))
      ∙ entry_under d sound.apart t owns ∙ ap (kind_name pool) kind

  abbrev key : Key
  key = key_of pool (entry_part pool f 1)

  abbrev its_part : Part
  its_part = part_of pool (entry_part pool f 2)

  holds : HoldsOne (key_part key) (its_types (name_at pool c.index) 1) × HoldsOne its_part (its_types (name_at pool c.index) 2)
  holds =
      subst (λ u. HoldsOne (key_part key) (its_types u 1) × HoldsOne its_part (its_types u 2)) entry_name
      ((sound_types pool sound none_decoded).entries name f.number its_field key there refl)

  defaults : Suits key.kind key.default × HasDefault its_part.kind its_part.default
  defaults = subst HasDefaults there ((sound_types pool sound none_decoded).defaults name f.number)

  entry_typed : IsTypedBy (IsTyped (suc levels) its_types) (suc (suc levels)) (its_types (name_at pool c.index)) (view m)
  entry_typed =
      subst (λ p. IsTyped (suc (suc levels)) (types_of p) (name_at p c.index) (view m)) at
      (subst (λ (c : MessageDescriptor). IsTyped (suc (suc levels)) (types_of c.pool.now) (name_at c.pool.now c.index) (view m)) same entry.typed)

  entry_known : KnowsAll its_types (name_at pool c.index) (view m)
  entry_known =
      subst (λ p. KnowsAll (types_of p) (name_at p c.index) (view m)) at
      (subst (λ (c : MessageDescriptor). KnowsAll (types_of c.pool.now) (name_at c.pool.now c.index) (view m)) same entry.known)

  entry_seen : content_view (held.Message m) ≡ message (view m)
  entry_seen = message_seen (held.Message m) m (message_is m)

  new_typed : IsTyped (suc (suc levels)) its_types name (view new)
  new_typed =
      let right =
      entry_right ⊥ (IsTyped (suc levels) its_types) (suc (suc levels)) its_types (λ u. nothing_typed (suc levels) its_types u) (name_at pool c.index) key its_part holds.0 holds.1 defaults.0 defaults.1 (λ never. absurd never) (view m)
      entry_typed (λ never. absurd never) in
      (add_all_keeps ⊥ (IsTyped (suc levels) its_types) (suc (suc levels)) its_types name f.number its_part (keyed key) (target_field d t).oneof (target_field d t).extension there (target_number d sound.numbers t owns) (view old) (view new)
      (content_view (held.Message m) ∷ []) (subst (IsAdded ⊥ (IsTyped (suc levels) its_types) its_types its_part (keyed key)) (sym entry_seen) (right.0, λ never. absurd never), tt) map_seen).typed fine.typed

  new_known : KnowsAll its_types name (view new)
  new_known =
      let value = value_known its_types its_part holds.1.0 holds.1.1 (view m 2) (subst (λ o. KnowsHeld its_types o (view m 2)) holds.1.2 (entry_known 2)) in
      add_all_known its_types name f.number its_field there (view old) (view new) fine.known (keyed key) (content_view (held.Message m) ∷ [])
      (subst (λ x. KnowsContent its_types its_part.kind (entry_of key its_part x).1) (sym entry_seen) value, tt) map_seen

  pub map_fine : IsFine (suc levels) new
  map_fine = fine_so (suc levels) old sound fine new type (map_shape levels old sound fine.shape new type t owns is_map c at kind m same entry.shape adds) new_typed new_known
