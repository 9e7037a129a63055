-- The keys of maps, where the message that holds them suits its type.
use Rattle.std.proofs.Common.{◌≡◌, ℕ, suc, Bool, true, false, cond, List, [], ◌∷◌, map, Option, None, Some, option_map, refl, sym, ap, ◌∙◌, subst}
use Rattle.std.specs.List.{AllByRecursion}
use Rattle.protobuf_model.specs.Meaning.{if_some, payloads}
use Rattle.protobuf_model.specs.Typed.{IsEntryOf, IsFieldOf, IsHeldOf, IsTyped, IsTypedBy}
use Rattle.protobuf_model.specs.Types.{Field, Key, Name, Part, keyed, many, one}
use Rattle.protobuf_model.specs.Values.{Message, dictionary, entries_of, pairs_of}
use Rattle.reflect_entries.specs.Entries.{value_at}
use Rattle.reflect_extend.specs.Gives.{Entry}
use Rattle.reflect_message.specs.Declares.{NoField, Owns, OwnsExtension}
use Rattle.reflect_message.specs.Held.{extensions_of, fields_of, unknown_of}
use Rattle.reflect_message.specs.Known.{known_extension, known_field}
use Rattle.reflect_message.specs.Maps.{entries_held}
use Rattle.reflect_message.specs.Names.{DynamicMessage, Value}
use Rattle.reflect_pool.specs.FieldsLeft.{field_type}
use Rattle.reflect_pool.specs.Shapes.{holds_map, is_repeated}
use Rattle.reflect_pool.specs.declared.extension.ExtensionDescriptor.{ExtensionDescriptor}
use Rattle.reflect_pool.specs.declared.field.FieldDescriptor.{FieldDescriptor}
use Rattle.reflect_pool.specs.declared.message.MessageDescriptor.{MessageDescriptor}
use Rattle.reflect_scalar.specs.FieldTypes.{extension_type}
use Rattle.reflect_tables.specs.Types.{FieldType, PoolType}
use Rattle.message_view.specs.Sound.{IsSound}
use Rattle.message_view.specs.Types.{either_field, entry_part, field_of, key_of, name_at, oneof_at, part_of, types_of, values_of}
use Rattle.message_view.specs.Views.{content_view, held_either, held_in, view}
use Rattle.message_view.proofs.Entries.{map_held}
use Rattle.message_view.proofs.Fields.{extension_owned, none_known, owned}
use Rattle.message_view.proofs.Sound.{named}
use Rattle.set_view.specs.Given.{HasKey, entry_view}
use Rattle.set_view.proofs.Viewed.{of_extension, view_at}

module _ (inner : Name → Message → Type 0) (levels : ℕ) (pool : PoolType) (f : FieldType) (is_map : holds_map pool f ≡ true) where
  abbrev the_key : Key
  the_key = key_of pool (entry_part pool f 1)

  of_pairs : (part : Part) (es : List Entry) → AllByRecursion (IsEntryOf inner the_key part) (pairs_of (entries_of (map entry_view es))) → AllByRecursion (HasKey pool f) es
  of_pairs part [] h = tt
  of_pairs part (e ∷ es) h = (h.0.0, of_pairs part es h.1)

  of_map : (o : Option ℕ) (x : Bool) (es : List Entry) → IsHeldOf inner levels (Some (field_of pool o x f)) (if_some (map entry_view es)) → AllByRecursion (HasKey pool f) es
  of_map o x [] h = tt
  of_map o x (e ∷ es) h =
      let part = part_of pool (values_of pool f) in
      of_pairs part (e ∷ es)
      (subst (λ b. IsFieldOf inner part (cond b (keyed the_key) (cond (is_repeated f.cardinality) (many f.packed) one)) (dictionary (entries_of (map entry_view (e ∷ es))))) is_map h).0

  of_held : (o : Option ℕ) (x : Bool) (under : Option Value) (es : List Entry) → entries_held under ≡ Some es
      → IsHeldOf inner levels (Some (field_of pool o x f)) (held_in pool f (option_map content_view under)) → AllByRecursion (HasKey pool f) es
  of_held o x under es at h = of_map o x es (subst (IsHeldOf inner levels (Some (field_of pool o x f))) (sym (map_held pool f under es at)) h)

-- a field and an extension in the words of the model
module _ (d : MessageDescriptor) (sound : IsSound d.pool.now) where
  abbrev type : ℕ → Option Field
  type = types_of d.pool.now (name_at d.pool.now d.index)

  pub field_told : (n : ℕ) (f : FieldType) → known_field d.pool.now d.index n ≡ Some f → type n ≡ Some (field_of d.pool.now (oneof_at d.pool.now d.index f) false f)
  field_told n f is = named d.pool.now sound.names d.index n d.in_range ∙ ap (λ k. either_field d.pool.now d.index k (known_extension d.pool.now d.index n)) is

  pub extension_told : (x : ExtensionDescriptor) → OwnsExtension d x → NoField d (extension_type x).number → type (extension_type x).number ≡ Some (field_of d.pool.now None true (extension_type x))
  extension_told x owns none =
      let n = (extension_type x).number in
      named d.pool.now sound.names d.index n d.in_range ∙ ap (λ k. either_field d.pool.now d.index k (known_extension d.pool.now d.index n)) (none_known d n none)
      ∙ ap (either_field d.pool.now d.index None) (extension_owned d x owns)

-- maps of a message that suits its type
module _ (depth : ℕ) (m : DynamicMessage) (sound : IsSound m.descriptor.pool.now) (suits : IsTyped (suc depth) (types_of m.descriptor.pool.now) (name_at m.descriptor.pool.now m.descriptor.index) (view m)) where
  abbrev d : MessageDescriptor
  d = m.descriptor

  abbrev fields : ℕ → Option Field
  fields = types_of d.pool.now (name_at d.pool.now d.index)

  abbrev Below : Name → Message → Type 0
  Below = IsTyped depth (types_of d.pool.now)

  typed : IsTypedBy (IsTyped depth (types_of m.descriptor.pool.now)) (suc depth) (types_of m.descriptor.pool.now (name_at m.descriptor.pool.now m.descriptor.index)) (view m)
  typed = suits

  -- what is held under a field's number suits it
  pub field_typed : (n : ℕ) (f : FieldType) → known_field d.pool.now d.index n ≡ Some f
      → IsHeldOf Below (suc depth) (Some (field_of d.pool.now (oneof_at d.pool.now d.index f) false f)) (held_in d.pool.now f (option_map content_view (value_at (fields_of m) n)))
  field_typed n f is =
      let held = held_in d.pool.now f (option_map content_view (value_at (fields_of m) n)) in
      let seen : view m n ≡ held =
      view_at m n ∙ ap (λ k. held_either d.pool.now k (known_extension d.pool.now d.index n) (option_map content_view (value_at (fields_of m) n)) (option_map content_view (value_at (extensions_of m) n)) (payloads n (unknown_of m))) is in
      subst (λ o. IsHeldOf Below (suc depth) o held) (field_told d sound n f is) (subst (IsHeldOf Below (suc depth) (fields n)) seen (typed.contents n))

  pub field_keys : (f : FieldDescriptor) → Owns d f → holds_map d.pool.now (field_type f) ≡ true
      → (es : List Entry) → entries_held (value_at (fields_of m) (field_type f).number) ≡ Some es → AllByRecursion (HasKey d.pool.now (field_type f)) es
  field_keys f owns is_map es at =
      let n = (field_type f).number in
      of_held Below (suc depth) d.pool.now (field_type f) is_map (oneof_at d.pool.now d.index (field_type f)) false (value_at (fields_of m) n) es at (field_typed n (field_type f) (owned d f owns))

  pub extension_keys : (x : ExtensionDescriptor) → OwnsExtension d x → NoField d (extension_type x).number → holds_map d.pool.now (extension_type x) ≡ true
      → (es : List Entry) → entries_held (value_at (extensions_of m) (extension_type x).number) ≡ Some es → AllByRecursion (HasKey d.pool.now (extension_type x)) es
  extension_keys x owns none is_map es at =
      let n = (extension_type x).number in
      of_held Below (suc depth) d.pool.now (extension_type x) is_map None true (value_at (extensions_of m) n) es at
      (subst (λ o. IsHeldOf Below (suc depth) o (held_in d.pool.now (extension_type x) (option_map content_view (value_at (extensions_of m) n)))) (extension_told d sound x owns none)
      (subst (IsHeldOf Below (suc depth) (fields n)) (of_extension m m refl x owns none (value_at (extensions_of m) n) refl) (typed.contents n)))
