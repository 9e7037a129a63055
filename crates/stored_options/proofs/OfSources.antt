-- What a source wrote of options settles to the bytes of the message that it sets, of which the type
-- knows all.
use Rattle.std.proofs.Common.{◌≡◌, ◌⊎◌, inl, inr, ℕ, suc, ℤ, true, List, [], map, Option, None, refl, sym, ap, ◌∙◌, subst, arith}
use Rattle.std.proofs.lemmas.Bool.Decides.{eqb_tells}
use Rattle.std.proofs.lemmas.List.Elements.{recursion_from_All}
use mathlib.Core.Path.{fun_ext}
use Rattle.descriptor_records.specs.Content.{OptionsContent, Text, option_view, options_view}
use Rattle.descriptor_records.specs.declared.options.Options.{Options}
use Rattle.descriptor_records.specs.declared.options.UninterpretedOption.{UninterpretedOption}
use Rattle.known_messages.specs.KnownMessages.{KnowsAll}
use Rattle.known_messages.proofs.Forms.{nothing_formed}
use Rattle.message_view.specs.Sound.{IsSound}
use Rattle.message_view.specs.Types.{name_at, types_of}
use Rattle.message_view.specs.Views.{view}
use Rattle.message_view.proofs.Deeper.{deeper_shape, exclusive_shaped}
use Rattle.message_view.proofs.Encoded.{shape_written}
use Rattle.message_view.proofs.Recoded.{decoded_exclusive}
use Rattle.stored_options.specs.SetOptions as model
use Rattle.option_parts.specs.OptionTypes.{CanRead, HasField, ListsMessages, type_name}
use Rattle.option_parts.specs.declared.option_scope.OptionScope.{OptionScope}
use Rattle.option_setter.specs.declared.option_setter.NameScope.{NameScope}
use Rattle.stored_options.specs.NamedNumbers.{numbers_named}
use Rattle.stored_options.proofs.SetAlong.{all_set}
use Rattle.stored_options.proofs.Reserved.{names_spare}
use Rattle.stored_options.proofs.Spared.{all_spare}
use Rattle.plain_records.specs.SourceOptions.{HaveSmallNumbers, as_read}
use Rattle.protobuf_model.specs.Bytes.{bytes_of}
use Rattle.protobuf_model.specs.Typed.{IsTyped}
use Rattle.protobuf_model.specs.Types.{Name, Types}
use Rattle.protobuf_model.specs.Values.{Message, absent, nothing}
use Rattle.protobuf_model.proofs.Merging.{nothing_typed}
use Rattle.reflect_decode.specs.Spelled.{IsSpelled}
use Rattle.reflect_format.specs.declared.target.Target.TheVariants as targets
use Rattle.reflect_message.specs.Bytes.{message_bytes}
use Rattle.reflect_message.specs.Declares.{Owns}
use Rattle.reflect_message.specs.Held.{UpdatesField}
use Rattle.reflect_message.specs.Names.{DynamicMessage}
use Rattle.reflect_options.specs.Settled.{IsType, Settles, is_forbidden}
use Rattle.reflect_pool.specs.FieldsLeft.{field_type}
use Rattle.reflect_pool.specs.declared.field.FieldDescriptor.{FieldDescriptor}
use Rattle.reflect_pool.specs.declared.message.MessageDescriptor.{MessageDescriptor}
use Rattle.reflect_tables.specs.Types.{no_type}
use Rattle.set_view.specs.Puts.{IsUnset}
use Rattle.settled_records.proofs.Kept.{type_kept}
use Rattle.settled_records.proofs.Stored.{list_unset}
use Rattle.stored_options.proofs.Again.{list_field, stored_view}
use Rattle.stored_options.proofs.Along.{HaveFewBits, all_fine}
use Rattle.stored_options.proofs.Fine.{IsFine}
use Rattle.stored_options.proofs.Putting.{left_fine}
use Rattle.stored_options.proofs.EachStep.{above}
use Rattle.stored_options.proofs.Shapes.{unset_so}
use Rattle.stored_options.proofs.Scoped.{named_type, of_name, option_type, type_sound}
use Rattle.stored_options.proofs.Sources.{all_few}
use Rattle.text_view.specs.Schemas.{schema_of}

-- the levels that a message of options may have, while it is set
abbrev top : ℕ
top = suc (above 100)

module _ (scope : OptionScope) (s : NameScope) (o settled : Options) (paths : List (List ℤ)) (decoded : Name → Text → Option Message)
    (sound : IsSound s.pool.now) (can : CanRead s.pool.now scope) (is : Settles scope s o (options_view settled) paths)
    (few : HaveFewBits o.uninterpreted_option.items) (empty : o.encoded.items ≡ []) where
  abbrev stored : DynamicMessage
  stored = is.1.3.0

  abbrev set : DynamicMessage
  set = is.1.3.1

  abbrev whole : DynamicMessage
  whole = is.1.2

  abbrev os : List UninterpretedOption
  os = o.uninterpreted_option.items

  type : IsType scope s stored.descriptor
  type = subst (IsType scope s) (sym is.1.3.2.0) is.1.1

  its_sound : IsSound stored.descriptor.pool.now
  its_sound = type_sound scope s stored.descriptor type sound

  -- ---- nothing is stored at first
  none_spelled : IsSpelled stored.descriptor [] stored
  none_spelled =
      let spelled : IsSpelled stored.descriptor o.encoded.items stored = subst (λ d. IsSpelled d o.encoded.items stored) (sym is.1.3.2.0) is.1.3.2.1 in
      subst (λ bytes. IsSpelled stored.descriptor bytes stored) empty spelled

  nothing_stored : view stored ≡ nothing
  nothing_stored =
      stored_view stored its_sound [] tt (omega arith) none_spelled nothing
      (nothing_formed (types_of stored.descriptor.pool.now) (name_at stored.descriptor.pool.now stored.descriptor.index))

  fine : IsFine top stored
  fine =
      let its_types = types_of stored.descriptor.pool.now in
      let name = name_at stored.descriptor.pool.now stored.descriptor.index in
      record {
        shape = deeper_shape true 101 (suc top) (omega arith) stored (decoded_exclusive stored.descriptor [] stored refl none_spelled is.1.3.2.3);
        typed = subst (IsTyped (suc top) its_types name) (sym nothing_stored) (nothing_typed (suc top) its_types name);
        known = subst (KnowsAll its_types name) (sym nothing_stored) (λ n. refl);
      }

  -- ---- what is set
  called : name_at s.pool.now stored.descriptor.index ≡ type_name scope
  called = (named_type scope s stored.descriptor type).1.0 no_type

  sets : model.SetsAll (schema_of s.pool.now decoded) (numbers_named s) (type_name scope) (map option_view os) nothing (view set) paths
  sets =
      subst (λ t. model.SetsAll (schema_of s.pool.now decoded) (numbers_named s) t (map option_view os) nothing (view set) paths) called
      (subst (λ m. model.SetsAll (schema_of s.pool.now decoded) (numbers_named s) (name_at s.pool.now stored.descriptor.index) (map option_view os) m (view set) paths) nothing_stored
      (all_set s decoded os few stored set paths its_sound type.0 is.1.3.3 fine))

  -- the list of uninterpreted options is not
  list_spared : view set 999 ≡ absent
  list_spared =
      all_spare (schema_of s.pool.now decoded) (numbers_named s) (type_name scope) 999 (map option_view os) nothing (view set) paths
      (names_spare scope s sound can stored.descriptor.index (named_type scope s stored.descriptor type) os
      (recursion_from_All (λ (x : UninterpretedOption). is_forbidden scope (option_view x).name ≡ true → ⊥) os is.0)) sets refl

  set_type : set.descriptor ≡ stored.descriptor
  set_type = type_kept s os stored set paths is.1.3.3

  set_sound : IsSound set.descriptor.pool.now
  set_sound = subst (λ (c : MessageDescriptor). IsSound c.pool.now) (sym set_type) its_sound

  set_fine : IsFine top set
  set_fine = all_fine s os few stored set paths its_sound is.1.3.3 fine

  -- ---- what is left where that list is unset
  lists : HasField stored.descriptor.pool.now stored.descriptor.index 999 (ListsMessages stored.descriptor.pool.now)
  lists = (option_type scope s stored.descriptor type can).uninterpreted

  unset : UpdatesField set whole 999 None
  unset = list_unset stored.descriptor 999 lists.0 lists.1 lists.2 set whole set_type is.1.3.4

  list : (f : FieldDescriptor) × Owns set.descriptor f × ((field_type f).number ≡ 999)
  list = list_field set.descriptor (subst (λ (c : MessageDescriptor). HasField c.pool.now c.index 999 (ListsMessages c.pool.now)) (sym set_type) lists)

  taken : UpdatesField set whole (field_type list.0).number None
  taken = subst (λ n. UpdatesField set whole n None) (sym list.2) unset

  left : IsUnset 999 (view set) (view whole)
  left = subst (λ n. IsUnset n (view set) (view whole)) list.2 (unset_so top set set_sound set_fine.shape whole (targets.Field list.0) list.1 taken)

  whole_seen : view set ≡ view whole
  whole_seen = fun_ext (λ n. by n (eqb_tells n 999)) where
    by : {A B : Type 0} → (n : ℕ) → (A × (n ≡ 999)) ⊎ (B × (n ≡ 999 → ⊥)) → view set n ≡ view whole n
    by n (inl (_, same)) = ap (view set) same ∙ list_spared ∙ sym left.here ∙ ap (view whole) (sym same)
    by n (inr (_, other)) = sym (left.others n other)

  whole_set : model.SetsAll (schema_of s.pool.now decoded) (numbers_named s) (type_name scope) (map option_view os) nothing (view whole) paths
  whole_set = subst (λ m. model.SetsAll (schema_of s.pool.now decoded) (numbers_named s) (type_name scope) (map option_view os) nothing m paths) whole_seen sets

  -- ---- what is written
  whole_fine : IsFine top whole
  whole_fine = left_fine top set set_sound set_fine whole (targets.Field list.0) unset.same_type list.1 taken

  whole_type : IsType scope s whole.descriptor
  whole_type = subst (IsType scope s) (sym (unset.same_type ∙ set_type)) type

  whole_sound : IsSound whole.descriptor.pool.now
  whole_sound = type_sound scope s whole.descriptor whole_type sound

  abbrev Writes : Types → Name → Type 0
  Writes types t = KnowsAll types t (view whole) × (settled.encoded.items ≡ bytes_of types t (view whole))

  whole_written : Writes (types_of s.pool.now) (type_name scope)
  whole_written =
      let stores : settled.encoded.items ≡ message_bytes whole = ap (λ (c : OptionsContent). c.encoded) is.1.4.0 in
      of_name scope s whole.descriptor whole_type Writes
      (whole_fine.known, stores ∙ shape_written whole.descriptor whole_sound whole refl (suc top) (exclusive_shaped (suc top) whole whole_fine.shape))

-- the message, of which its type knows all
pub sources_set : (scope : OptionScope) (s : NameScope) (o settled : Options) (paths : List (List ℤ)) (decoded : Name → Text → Option Message)
    → IsSound s.pool.now → CanRead s.pool.now scope → options_view o ≡ as_read scope (options_view o).uninterpreted_option
    → HaveSmallNumbers (options_view o) → Settles scope s o (options_view settled) paths
    → (m : Message) × KnowsAll (types_of s.pool.now) (type_name scope) m × (settled.encoded.items ≡ bytes_of (types_of s.pool.now) (type_name scope) m)
    × model.SetsAll (schema_of s.pool.now decoded) (numbers_named s) (type_name scope) (options_view o).uninterpreted_option nothing m paths
sources_set scope s o settled paths decoded sound can given small is =
    let few = all_few o.uninterpreted_option.items small in
    let empty : o.encoded.items ≡ [] = ap (λ (c : OptionsContent). c.encoded) given in
    let writes = whole_written scope s o settled paths decoded sound can is few empty in
    (view is.1.2, writes.0, writes.1, whole_set scope s o settled paths decoded sound can is few empty)
