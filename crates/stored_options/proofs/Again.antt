-- Stored options that are settled again are what they were.
use Rattle.std.proofs.Common.{◌≡◌, ◌⊎◌, inl, inr, ◌<◌, ◌^◌, ℕ, ℤ, List, [], ◌∷◌, length, map, None, refl, sym, ap, ◌∙◌, subst, rules}
use mathlib.Core.Path.{fun_ext}
use Rattle.std.proofs.lemmas.Bool.Decides.{eqb_tells}
use Rattle.std.specs.Prelude.{Vec}
use Rattle.std.specs.declared.alloc.Global.{Global}
use Rattle.descriptor_records.specs.Content.{OptionsContent, option_view, options_view}
use Rattle.descriptor_records.specs.declared.options.Options.{Options}
use Rattle.descriptor_records.specs.declared.options.UninterpretedOption.{UninterpretedOption}
use Rattle.known_messages.specs.KnownMessages.{AreFormOf}
use Rattle.known_messages.proofs.Forms.{forms_mean}
use Rattle.message_view.specs.Sound.{IsSound}
use Rattle.message_view.specs.Types.{name_at, types_of}
use Rattle.message_view.specs.Views.{view}
use Rattle.message_view.proofs.Changed.{unset_shaped}
use Rattle.message_view.proofs.Decoded.{decoded_means}
use Rattle.message_view.proofs.Encoded.{shape_written}
use Rattle.message_view.proofs.Fields.{known}
use Rattle.message_view.proofs.Recoded.{decoded_shaped, decoded_written}
use Rattle.message_view.specs.Shaped.{Shaped}
use Rattle.option_parts.specs.OptionTypes.{CanRead, HasField, ListsMessages}
use Rattle.option_parts.specs.declared.option_scope.OptionScope.{OptionScope}
use Rattle.option_setter.specs.declared.option_setter.NameScope.{NameScope}
use Rattle.plain_records.specs.SaidOptions.{IsSettled, SaysAndIsSettled}
use Rattle.protobuf_model.specs.Bytes.{bytes_of}
use Rattle.protobuf_model.specs.Values.{Message, absent, nothing}
use Rattle.protobuf_model.proofs.Bytewise.{one_meaning}
use Rattle.reflect_decode.specs.Spelled.{IsSpelled}
use Rattle.reflect_message.specs.Bytes.{message_bytes}
use Rattle.reflect_message.specs.Declares.{Owns}
use Rattle.reflect_message.specs.Held.{UpdatesField}
use Rattle.reflect_message.specs.Names.{DynamicMessage}
use Rattle.reflect_numbered.specs.Called.{HasNumber, UnsetsMeant}
use Rattle.reflect_options.specs.Settled.{IsType, IsWhole, SetsAll, Settles}
use Rattle.reflect_pool.specs.FieldsLeft.{field_type}
use Rattle.reflect_pool.specs.declared.field.FieldDescriptor.{FieldDescriptor}
use Rattle.reflect_pool.specs.declared.message.MessageDescriptor.{MessageDescriptor}
use Rattle.reflect_tables.specs.Types.{FieldType}
use Rattle.reflect_wire.specs.Written.{AreBytes}
use Rattle.set_view.specs.Puts.{IsUnset}
use Rattle.set_view.proofs.Viewed.{field_unset}
use Rattle.settled_records.proofs.Fields.{field_known, listed_whole}
use Rattle.settled_records.proofs.Said.{view_says}
use Rattle.settled_records.proofs.Stored.{list_unset}
use Rattle.stored_options.specs.CopiedOptions.{ReadsItsBytes}
use Rattle.stored_options.specs.StoredOptions.{AreStored}
use Rattle.stored_options.proofs.Alike.{one_record}
use Rattle.stored_options.proofs.Copied.{set_reads}
use Rattle.stored_options.proofs.Scoped.{of_type, option_type, type_sound}

-- a vector has no more elements than a length can say
pub short : (v : Vec ℕ Global) → length v.items < 2 ^ 64
short v = search rules

pub no_items : (os : List UninterpretedOption) → map option_view os ≡ [] → os ≡ []
no_items [] e = refl
no_items (o ∷ os) e = absurd (cc e)

-- ---- what the stored bytes spell

-- a field of the number that the list of uninterpreted options has
pub list_field : (d : MessageDescriptor) → HasField d.pool.now d.index 999 (ListsMessages d.pool.now)
    → (f : FieldDescriptor) × Owns d f × ((field_type f).number ≡ 999)
list_field d (g, is, lists) =
    let f = known d 999 g (field_known d 999 g is (listed_whole d.pool.now g lists)) in
    (f.0, f.1, ap (λ (t : FieldType). t.number) f.2 ∙ f.3)

module _ (stored : DynamicMessage) (sound : IsSound stored.descriptor.pool.now) (bytes : List ℕ) (are : AreBytes bytes) (few : length bytes < 2 ^ 64)
    (spelled : IsSpelled stored.descriptor bytes stored)
    (m : Message) (form : AreFormOf (types_of stored.descriptor.pool.now) (name_at stored.descriptor.pool.now stored.descriptor.index) m bytes) where
  abbrev d : MessageDescriptor
  d = stored.descriptor

  -- the message that they are the form of
  pub stored_view : view stored ≡ m
  stored_view =
      let types = types_of d.pool.now in
      let t = name_at d.pool.now d.index in
      one_meaning types t nothing bytes (view stored) m (decoded_means d sound bytes are stored refl spelled) (forms_mean types t m bytes form few)

  pub stored_bytes : message_bytes stored ≡ bytes
  stored_bytes = decoded_written d sound bytes stored refl spelled ∙ ap (bytes_of (types_of d.pool.now) (name_at d.pool.now d.index)) stored_view ∙ sym form.written

  -- so is what is left where the list is unset, which it does not have
  module _ (whole : DynamicMessage) (none : m 999 ≡ absent) (lists : HasField d.pool.now d.index 999 (ListsMessages d.pool.now))
      (unset : UpdatesField stored whole 999 None) where
    abbrev f : FieldDescriptor
    f = (list_field d lists).0

    here : UpdatesField stored whole (field_type f).number None
    here = subst (λ n. UpdatesField stored whole n None) (sym (list_field d lists).2) unset

    shape : Shaped 101 whole
    shape = unset_shaped (Shaped 100) stored whole sound unset.same_type (decoded_shaped d bytes stored refl spelled) f (list_field d lists).1 here

    gone : IsUnset 999 (view stored) (view whole)
    gone = subst (λ n. IsUnset n (view stored) (view whole)) (list_field d lists).2 (field_unset stored whole unset.same_type f (list_field d lists).1 here)

    whole_view : view whole ≡ m
    whole_view = fun_ext (λ n. by n (eqb_tells n 999)) ∙ stored_view where
      by : {A B : Type 0} → (n : ℕ) → (A × (n ≡ 999)) ⊎ (B × (n ≡ 999 → ⊥)) → view whole n ≡ view stored n
      by n (inl (_, same)) = ap (view whole) same ∙ gone.here ∙ sym none ∙ ap (λ (v : Message). v 999) (sym stored_view) ∙ ap (view stored) (sym same)
      by n (inr (_, other)) = gone.others n other

    whole_bytes : message_bytes whole ≡ bytes
    whole_bytes = shape_written d sound whole unset.same_type 101 shape ∙ ap (bytes_of (types_of d.pool.now) (name_at d.pool.now d.index)) whole_view ∙ sym form.written

-- ---- where nothing is left to settle

module _ (scope : OptionScope) (s : NameScope) (o : Options) (paths : List (List ℤ)) (m : Message) (sound : IsSound s.pool.now)
    (can : CanRead s.pool.now scope) (are : AreBytes o.encoded.items)
    (formed : AreStored (types_of s.pool.now) scope m o.encoded.items) (left : o.uninterpreted_option.items ≡ []) (d : MessageDescriptor) (its : IsType scope s d) (whole : DynamicMessage) (is : IsWhole scope s d o whole paths) where
  typed : IsType scope s is.0.descriptor
  typed = subst (IsType scope s) (sym is.2.0) its

  spelled : IsSpelled is.0.descriptor o.encoded.items is.0
  spelled = subst (λ (d : MessageDescriptor). IsSpelled d o.encoded.items is.0) (sym is.2.0) is.2.1

  nothing_set : SetsAll s [] is.0 is.1 paths
  nothing_set = subst (λ os. SetsAll s os is.0 is.1 paths) left is.3

  lists : HasField is.0.descriptor.pool.now is.0.descriptor.index 999 (ListsMessages is.0.descriptor.pool.now)
  lists = (option_type scope s is.0.descriptor typed can).uninterpreted

  unset : UpdatesField is.0 whole 999 None
  unset = list_unset is.0.descriptor 999 lists.0 lists.1 lists.2 is.0 whole refl (subst (λ set. UnsetsMeant (HasNumber 999) set whole) nothing_set.0 is.4)

  pub same_type : whole.descriptor ≡ d
  same_type = unset.same_type ∙ is.2.0

  pub no_paths : paths ≡ []
  no_paths = nothing_set.1

  pub same_bytes : message_bytes whole ≡ o.encoded.items
  same_bytes =
      whole_bytes is.0 (type_sound scope s is.0.descriptor typed sound) o.encoded.items are (short o.encoded) spelled m
      (of_type scope s is.0.descriptor typed (λ types t. AreFormOf types t m o.encoded.items) formed.0) whole formed.1 lists unset

-- those of which linking reads what their bytes say
pub settled_as_read : (scope : OptionScope) (s : NameScope) (o settled : Options) (paths : List (List ℤ)) (m : Message) → IsSound s.pool.now
    → CanRead s.pool.now scope → AreBytes o.encoded.items
    → AreStored (types_of s.pool.now) scope m o.encoded.items → ReadsItsBytes scope (options_view o) → IsSettled (options_view o) → Settles scope s o (options_view settled) paths
    → (options_view settled ≡ options_view o) × (paths ≡ [])
settled_as_read scope s o settled paths m sound can are formed reads none is =
    let left = no_items o.uninterpreted_option.items none in
    let bytes : settled.encoded.items ≡ o.encoded.items =
    ap (λ (c : OptionsContent). c.encoded) is.1.4.0 ∙ same_bytes scope s o paths m sound can are formed left is.1.0 is.1.1 is.1.2 is.1.3 in
    let says : ReadsItsBytes scope (options_view settled) = set_reads scope (options_view settled) (view_says scope s o (options_view settled) paths sound can is settled refl) in (
      one_record scope (options_view settled) (options_view o) says reads bytes (ap (λ (c : OptionsContent). c.uninterpreted_option) is.1.4.0 ∙ sym none),
      no_paths scope s o paths m sound can are formed left is.1.0 is.1.1 is.1.2 is.1.3,
    )

-- and so those that say it
pub settled_again : (scope : OptionScope) (s : NameScope) (o settled : Options) (paths : List (List ℤ)) (m : Message) → IsSound s.pool.now
    → CanRead s.pool.now scope → AreBytes o.encoded.items
    → AreStored (types_of s.pool.now) scope m o.encoded.items → SaysAndIsSettled scope (options_view o) → Settles scope s o (options_view settled) paths
    → (options_view settled ≡ options_view o) × (paths ≡ [])
settled_again scope s o settled paths m sound can are formed says is = settled_as_read scope s o settled paths m sound can are formed (set_reads scope (options_view o) says.0) says.1 is
