-- Options of sources settle to the bytes of one message, of which their type knows all.
use Rattle.std.proofs.Common.{◌≡◌, inl, inr, ℕ, suc, ℤ, pos, ◌<◌, ◌^◌, nat_lt, cond, true, List, [], ◌∷◌, length, map, Option, None, Some, refl, sym, ap, ◌∙◌, subst, arith, FitsSigned}
use Rattle.std.proofs.lemmas.Bool.{ltb-true}
use Rattle.std.proofs.lemmas.Option.{cond_some}
use Rattle.std.specs.Int.{w64}
use Rattle.std.specs.List.{AllByRecursion}
use Rattle.std.specs.Prelude.{IfSome}
use Rattle.descriptor_records.specs.Content.{OptionContent, OptionsContent, option_view, options_view}
use Rattle.descriptor_records.specs.declared.options.Options.{Options}
use Rattle.descriptor_records.specs.declared.options.UninterpretedOption.{UninterpretedOption}
use Rattle.known_messages.specs.KnownMessages.{AreFormOf, KnowsAll}
use Rattle.known_messages.proofs.Forms.{nothing_formed}
use Rattle.message_view.specs.Sound.{IsSound}
use Rattle.message_view.specs.Types.{name_at, types_of}
use Rattle.message_view.specs.Views.{view}
use Rattle.message_view.proofs.Decoded.{decoded_means, decoded_suits}
use Rattle.message_view.proofs.Deeper.{deeper_shape, exclusive_shaped}
use Rattle.message_view.proofs.Encoded.{shape_written}
use Rattle.message_view.proofs.Recoded.{decoded_exclusive}
use Rattle.option_parts.specs.OptionTypes.{CanRead, HasField, ListsMessages, ReadsOptions}
use Rattle.option_parts.specs.declared.option_scope.OptionScope.{OptionScope}
use Rattle.option_parts.specs.declared.option_scope.OptionScope.TheVariants as scopes
use Rattle.option_setter.specs.declared.option_setter.NameScope.{NameScope}
use Rattle.plain_records.specs.SourceOptions.{AreAsRead, HaveSmallNumbers, of_entries}
use Rattle.protobuf_model.specs.Accepts.{Accepts}
use Rattle.protobuf_model.specs.Bytes.{bytes_of, written}
use Rattle.protobuf_model.specs.Coded.{SuitsType}
use Rattle.protobuf_model.specs.Meaning.{meaning}
use Rattle.protobuf_model.specs.Reader.{inside}
use Rattle.protobuf_model.specs.Typed.{IsTyped}
use Rattle.protobuf_model.specs.Types.{Name, Types}
use Rattle.protobuf_model.specs.Values.{Message, absent, nothing}
use Rattle.protobuf_model.proofs.Merging.{nothing_typed}
use Rattle.protobuf_model.proofs.Reading.{inside_spelled, inside_written, listed_back}
use Rattle.protobuf_model.proofs.RoundTrip.{accepted_fits, round_trip}
use Rattle.reflect_decode.specs.Spelled.{IsSpelled}
use Rattle.reflect_format.specs.declared.target.Target.TheVariants as targets
use Rattle.reflect_message.specs.Bytes.{message_bytes}
use Rattle.reflect_message.specs.Declares.{Owns}
use Rattle.reflect_message.specs.Held.{UpdatesField}
use Rattle.reflect_message.specs.Names.{DynamicMessage}
use Rattle.reflect_options.specs.Settled.{IsType, Settles}
use Rattle.reflect_pool.specs.FieldsLeft.{field_type}
use Rattle.reflect_pool.specs.declared.field.FieldDescriptor.{FieldDescriptor}
use Rattle.reflect_pool.specs.declared.message.MessageDescriptor.{MessageDescriptor}
use Rattle.reflect_wire.specs.Views.{records_of}
use Rattle.reflect_wire.specs.Written.{AreBytes}
use Rattle.settled_records.proofs.Kept.{type_kept}
use Rattle.settled_records.proofs.Stored.{list_unset}
use Rattle.stored_options.specs.StoredOptions.{AreStored}
use Rattle.stored_options.proofs.Again.{list_field, no_items, same_bytes, short, stored_view}
use Rattle.stored_options.proofs.Along.{HaveFewBits, all_fine}
use Rattle.stored_options.proofs.Fine.{IsFine}
use Rattle.stored_options.proofs.Later.{of_an_entry}
use Rattle.stored_options.proofs.Levels.{meaning_deeper}
use Rattle.stored_options.proofs.Putting.{left_fine}
use Rattle.stored_options.proofs.EachStep.{above}
use Rattle.stored_options.proofs.Shapes.{unset_so}
use Rattle.stored_options.proofs.SaidSuits.{HasFewBits}
use Rattle.stored_options.proofs.Scoped.{named_type, of_name, option_type, type_sound}

-- ---- numbers of options

few_bits : (o : OptionContent) → IfSome o.negative_int_value (FitsSigned w64) → HasFewBits o
few_bits o h z e = by o.positive_int_value refl where
  by : (p : Option ℕ) → o.positive_int_value ≡ p → FitsSigned w64 z
  by None is = subst (λ q. IfSome q (FitsSigned w64)) (sym (ap (λ p. elim p [ None ↦ o.negative_int_value | Some n ↦ cond (nat_lt n (2 ^ 63)) (Some (pos n)) None ]) is) ∙ e) h
  by (Some n) is =
      let c = cond_some (nat_lt n (2 ^ 63)) (pos n) z (sym (ap (λ p. elim p [ None ↦ o.negative_int_value | Some n ↦ cond (nat_lt n (2 ^ 63)) (Some (pos n)) None ]) is) ∙ e) in
      subst (FitsSigned w64) c.1 (record { sfits = ltb-true n (2 ^ 63) c.0 })

pub all_few : (os : List UninterpretedOption) → AllByRecursion (λ x. IfSome x.negative_int_value (FitsSigned w64)) (map option_view os) → HaveFewBits os
all_few [] h = tt
all_few (o ∷ os) h = (few_bits (option_view o) h.0, all_few os h.1)

-- ---- a fine message whose bytes are read back

abbrev top : ℕ
top = suc (above 100)

module _ (whole : DynamicMessage) (sound : IsSound whole.descriptor.pool.now) (fine : IsFine top whole) (are : AreBytes (message_bytes whole))
    (few : length (message_bytes whole) < 2 ^ 64) (back : DynamicMessage) (spelled : IsSpelled whole.descriptor (message_bytes whole) back) where
  abbrev types : Types
  types = types_of whole.descriptor.pool.now

  abbrev name : Name
  name = name_at whole.descriptor.pool.now whole.descriptor.index

  in_one_form : message_bytes whole ≡ bytes_of types name (view whole)
  in_one_form = shape_written whole.descriptor sound whole refl (suc top) (exclusive_shaped (suc top) whole fine.shape)

  -- what is read, as a message of the type
  abbrev again : DynamicMessage
  again = record back { descriptor = whole.descriptor }

  same_message : view whole ≡ view again
  same_message =
      let mean = decoded_means whole.descriptor sound (message_bytes whole) are again refl spelled in
      let trip = round_trip (suc top) types name (view whole) fine.typed (subst (λ bytes. length bytes < 2 ^ 64) in_one_form few) in
      let records : mean.0 ≡ written types name (view whole) =
      sym (listed_back mean.0) ∙ sym (inside_spelled 100 (message_bytes whole) (records_of mean.0) mean.1.spelled) ∙ ap inside in_one_form
      ∙ inside_written (suc top) (written types name (view whole)) (accepted_fits (suc top) types name (written types name (view whole)) trip.accepted) in
      sym trip.means
      ∙ sym (meaning_deeper types 100 (suc top) (omega arith) name nothing (written types name (view whole)) (subst (Accepts 100 types name) records mean.1.accepted))
      ∙ ap (meaning 100 types name nothing) (sym records) ∙ mean.2

  -- is stored
  fine_formed : AreFormOf types name (view whole) (message_bytes whole)
  fine_formed = record {
    suits = subst (SuitsType types name) (sym same_message) (decoded_suits whole.descriptor sound (message_bytes whole) are again refl spelled);
    known = fine.known;
    written = in_one_form;
  }

-- ---- what a source wrote

module _ (scope : OptionScope) (s : NameScope) (o settled : Options) (paths : List (List ℤ)) (sound : IsSound s.pool.now)
    (can : CanRead s.pool.now scope) (is : Settles scope s o (options_view settled) paths) (are : AreBytes settled.encoded.items) where
  abbrev stored : DynamicMessage
  stored = is.1.3.0

  abbrev set : DynamicMessage
  set = is.1.3.1

  abbrev whole : DynamicMessage
  whole = is.1.2

  type : IsType scope s stored.descriptor
  type = subst (IsType scope s) (sym is.1.3.2.0) is.1.1

  its_sound : IsSound stored.descriptor.pool.now
  its_sound = type_sound scope s stored.descriptor type sound

  spelled : IsSpelled stored.descriptor o.encoded.items stored
  spelled = subst (λ d. IsSpelled d o.encoded.items stored) (sym is.1.3.2.0) is.1.3.2.1

  lists : HasField stored.descriptor.pool.now stored.descriptor.index 999 (ListsMessages stored.descriptor.pool.now)
  lists = (option_type scope s stored.descriptor type can).uninterpreted

  -- nothing is stored at first
  stored_fine : o.encoded.items ≡ [] → IsFine top stored
  stored_fine empty =
      let its_types = types_of stored.descriptor.pool.now in
      let name = name_at stored.descriptor.pool.now stored.descriptor.index in
      let none = subst (λ bytes. IsSpelled stored.descriptor bytes stored) empty spelled in
      let seen : view stored ≡ nothing = stored_view stored its_sound [] tt (omega arith) none nothing (nothing_formed its_types name) in
      record {
        shape = deeper_shape true 101 (suc top) (omega arith) stored (decoded_exclusive stored.descriptor [] stored refl none is.1.3.2.3);
        typed = subst (IsTyped (suc top) its_types name) (sym seen) (nothing_typed (suc top) its_types name);
        known = subst (KnowsAll its_types name) (sym seen) (λ n. refl);
      }

  set_type : set.descriptor ≡ stored.descriptor
  set_type = type_kept s o.uninterpreted_option.items stored set paths is.1.3.3

  set_sound : IsSound set.descriptor.pool.now
  set_sound = subst (λ (c : MessageDescriptor). IsSound c.pool.now) (sym set_type) its_sound

  unset : UpdatesField set whole 999 None
  unset = list_unset stored.descriptor 999 lists.0 lists.1 lists.2 set whole set_type is.1.3.4

  module _ (few : HaveFewBits o.uninterpreted_option.items) (empty : o.encoded.items ≡ []) where
    set_fine : IsFine top set
    set_fine = all_fine s o.uninterpreted_option.items few stored set paths its_sound is.1.3.3 (stored_fine empty)

    found : (f : FieldDescriptor) × Owns set.descriptor f × ((field_type f).number ≡ 999)
    found = list_field set.descriptor (subst (λ (c : MessageDescriptor). HasField c.pool.now c.index 999 (ListsMessages c.pool.now)) (sym set_type) lists)

    taken : UpdatesField set whole (field_type found.0).number None
    taken = subst (λ n. UpdatesField set whole n None) (sym found.2) unset

    whole_fine : IsFine top whole
    whole_fine = left_fine top set set_sound set_fine whole (targets.Field found.0) unset.same_type found.1 taken

    none_left : view whole 999 ≡ absent
    none_left = subst (λ n. view whole n ≡ absent) found.2 (unset_so top set set_sound set_fine.shape whole (targets.Field found.0) found.1 taken).here

    whole_type : IsType scope s whole.descriptor
    whole_type = subst (IsType scope s) (sym (unset.same_type ∙ set_type)) type

    whole_sound : IsSound whole.descriptor.pool.now
    whole_sound = type_sound scope s whole.descriptor whole_type sound

    bytes : settled.encoded.items ≡ message_bytes whole
    bytes = ap (λ (c : OptionsContent). c.encoded) is.1.4.0

    -- what is written is stored as that message
    whole_stored : AreStored (types_of s.pool.now) scope (view whole) settled.encoded.items
    whole_stored =
        let form = fine_formed whole whole_sound whole_fine (subst AreBytes bytes are) (subst (λ bytes. length bytes < 2 ^ 64) bytes (short settled.encoded)) is.1.4.1.0 is.1.4.1.1 in (
          of_name scope s whole.descriptor whole_type (λ types t. AreFormOf types t (view whole) settled.encoded.items)
              (subst (AreFormOf (types_of whole.descriptor.pool.now) (name_at whole.descriptor.pool.now whole.descriptor.index) (view whole)) (sym bytes) form),
          none_left,
        )

    written_stored : (m : Message) × AreStored (types_of s.pool.now) scope m settled.encoded.items
    written_stored = (view whole, whole_stored)

  -- of a map's entries, which are stored as they are
  entry_stored : scope ≡ scopes.Message → options_view o ≡ of_entries → (m : Message) × AreStored (types_of s.pool.now) scope m settled.encoded.items
  entry_stored message given =
      let left = no_items o.uninterpreted_option.items (ap (λ (c : OptionsContent). c.uninterpreted_option) given) in
      let before : o.encoded.items ≡ 56 ∷ 1 ∷ [] = ap (λ (c : OptionsContent). c.encoded) given in
      let named = named_type scope s is.1.0 is.1.1 in
      let reads : ReadsOptions s.pool.now scope = (is.1.0.index, named, can is.1.0.index named) in
      let m = of_an_entry scope s.pool.now sound message reads o.encoded.items before in
      let same = same_bytes scope s o paths m.0 sound can (subst AreBytes (sym before) (omega arith, (omega arith, tt))) m.1 left is.1.0 is.1.1 is.1.2 is.1.3 in
      of_an_entry scope s.pool.now sound message reads settled.encoded.items (ap (λ (c : OptionsContent). c.encoded) is.1.4.0 ∙ same ∙ before)

pub sources_stored : (scope : OptionScope) (s : NameScope) (o settled : Options) (paths : List (List ℤ)) → IsSound s.pool.now
    → CanRead s.pool.now scope → AreAsRead scope (options_view o) → HaveSmallNumbers (options_view o)
    → Settles scope s o (options_view settled) paths → AreBytes settled.encoded.items → (m : Message) × AreStored (types_of s.pool.now) scope m settled.encoded.items
sources_stored scope s o settled paths sound can (inl given) small is are =
    written_stored scope s o settled paths sound can is are (all_few o.uninterpreted_option.items small) (ap (λ (c : OptionsContent). c.encoded) given)
sources_stored scope s o settled paths sound can (inr given) small is are = entry_stored scope s o settled paths sound can is are given.0 given.1
