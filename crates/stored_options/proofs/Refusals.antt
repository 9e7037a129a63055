-- Stored options are not refused.
use Rattle.std.proofs.Common.{◌≡◌, inl, inr, ℕ, ℤ, false, List, [], Option, None, Some, refl, sym, ap, ◌∙◌, subst}
use Rattle.std.specs.Option.{unwrap_or}
use Rattle.std.specs.Prelude.{IfSome, codes, slice_get}
use Rattle.descriptor_records.specs.Content.{OptionsContent, options_view}
use Rattle.descriptor_records.specs.declared.options.Options.{Options}
use Rattle.descriptor_records.specs.declared.options.UninterpretedOption.{UninterpretedOption}
use Rattle.known_messages.specs.KnownMessages.{AreFormOf}
use Rattle.known_messages.proofs.Forms.{forms_mean}
use Rattle.message_view.specs.Sound.{IsSound}
use Rattle.message_view.specs.Types.{name_at, types_of}
use Rattle.message_view.proofs.Decoded.{told_refused}
use Rattle.option_parts.specs.OptionTypes.{CanRead, HasField, IsTruthValue, typed_option}
use Rattle.option_parts.specs.declared.option_error.OptionErrorKind.{OptionErrorKind}
use Rattle.option_parts.specs.declared.option_error.OptionErrorKind.TheVariants as kinds
use Rattle.option_parts.specs.declared.option_scope.OptionScope.{OptionScope}
use Rattle.option_parts.specs.declared.option_scope.OptionScope.TheVariants as scopes
use Rattle.option_setter.specs.declared.option_setter.NameScope.{NameScope}
use Rattle.plain_records.specs.Kinds.{kind_of}
use Rattle.plain_records.specs.SaidOptions.{SaysAndIsSettled}
use Rattle.protobuf_model.specs.Coded.{IsAccepted}
use Rattle.protobuf_model.specs.Values.{Message}
use Rattle.reflect_codec.specs.Meaning.{is_message}
use Rattle.reflect_codec.specs.Reading.{IsBool, IsLastIf, values_at}
use Rattle.reflect_decode.specs.Spelled.{IsSpelled, TellsWhy}
use Rattle.reflect_message.specs.Bytes.{message_bytes}
use Rattle.reflect_message.specs.Names.{DynamicMessage}
use Rattle.reflect_options.specs.Settled.{IsForbiddenAt, IsType, IsWhole, RefusesOptions, RefusesStored, RefusesTyped, RefusesWritten, truth_said}
use Rattle.reflect_pool.specs.declared.message.MessageDescriptor.{MessageDescriptor}
use Rattle.reflect_wire.specs.Written.{AreBytes}
use Rattle.reflect_wire.specs.declared.wire_error.WireError.{WireError}
use Rattle.reflect_wire.specs.declared.wire_error.WireError.TheVariants as errors
use Rattle.stored_options.specs.StoredOptions.{AreStored}
use Rattle.stored_options.proofs.Again.{no_items, same_bytes, same_type, short}
use Rattle.stored_options.proofs.Scoped.{of_type, option_type, type_sound}
use Rattle.stored_options.proofs.StoredTruths.{stored_truth}

pub none_there : (place : ℕ) (os : List UninterpretedOption) (x : UninterpretedOption) → os ≡ [] → slice_get os place ≡ Some x → ⊥
none_there place os x none e = cc (sym (ap (λ os. slice_get os place) none) ∙ e)

-- what is forbidden is there
pub forbidden_there : (scope : OptionScope) (o : Options) (at : Option ℕ) (e : OptionErrorKind) → IsForbiddenAt scope o at e
    → (place : ℕ) × (x : UninterpretedOption) × (slice_get o.uninterpreted_option.items place ≡ Some x)
forbidden_there scope o (Some place) (kinds.ForbiddenOption name) h = (place, h.1.0, h.1.1)
forbidden_there scope o at e h = absurd h

module _ (scope : OptionScope) (s : NameScope) (o : Options) (m : Message) (sound : IsSound s.pool.now) (can : CanRead s.pool.now scope)
    (are : AreBytes o.encoded.items)
    (formed : AreStored (types_of s.pool.now) scope m o.encoded.items) (says : SaysAndIsSettled scope (options_view o)) where
  left : o.uninterpreted_option.items ≡ []
  left = no_items o.uninterpreted_option.items says.1

  module _ (d : MessageDescriptor) (its : IsType scope s d) where
    d_sound : IsSound d.pool.now
    d_sound = type_sound scope s d its sound

    form : AreFormOf (types_of d.pool.now) (name_at d.pool.now d.index) m o.encoded.items
    form = of_type scope s d its (λ types t. AreFormOf types t m o.encoded.items) formed.0

    accepted : IsAccepted (types_of d.pool.now) (name_at d.pool.now d.index) o.encoded.items
    accepted = let means = forms_mean (types_of d.pool.now) (name_at d.pool.now d.index) m o.encoded.items form (short o.encoded) in (means.0, means.1)

    refuses_none : (e : WireError) → (e ≡ errors.Memory → ⊥) → TellsWhy d o.encoded.items e → ⊥
    refuses_none e other why = told_refused d d_sound o.encoded.items e other why accepted

    -- it says of itself whether it is of a map's entries as its record does
    agrees : scope ≡ scopes.Message → (n : DynamicMessage) → n.descriptor ≡ d → IsSpelled d o.encoded.items n
        → unwrap_or (truth_said 7 n) false ≡ unwrap_or o.map_entry false
    agrees is n there spelled =
        let type = subst (IsType scope s) (sym there) its in
        let spelled_so = subst (λ (d : MessageDescriptor). IsSpelled d o.encoded.items n) (sym there) spelled in
        let has = subst (λ c. IfSome (typed_option c) (λ t. HasField n.descriptor.pool.now n.descriptor.index t.1 (IsTruthValue t.0))) is (option_type scope s n.descriptor type can).typed in
        let said = subst (λ c. IsLastIf (is_message (kind_of c)) IsBool (values_at 7 says.0.fields) says.0.options.map_entry) is says.0.said.map_entry in
        ap (λ t. unwrap_or t false)
        (stored_truth n (type_sound scope s n.descriptor type sound) o.encoded.items spelled_so 7 (codes "map_entry") has says.0.fields says.0.spelled says.0.options.map_entry said ∙ ap (λ (c : OptionsContent). c.map_entry) says.0.is)

    refuses_stored : (c : OptionScope) → scope ≡ c → (e : OptionErrorKind) → RefusesStored c d o e → ⊥
    refuses_stored c is (kinds.UndecodableOptions (Some w)) h = refuses_none w h.0 h.1
    refuses_stored scopes.Message is (kinds.UndecodableOptions None) h = h.3 (agrees is h.0 h.1 h.2)
    refuses_stored c is e h = absurd h

    -- it is written in the same bytes
    module _ (whole : DynamicMessage) (paths : List (List ℤ)) (is : IsWhole scope s d o whole paths) where
      moved : (w : WireError) → TellsWhy whole.descriptor (message_bytes whole) w → TellsWhy d o.encoded.items w
      moved w h =
          subst (λ bytes. TellsWhy d bytes w) (same_bytes scope s o paths m sound can are formed left d its whole is)
          (subst (λ (d : MessageDescriptor). TellsWhy d (message_bytes whole) w) (same_type scope s o paths m sound can are formed left d its whole is) h)

      refuses_written : (e : OptionErrorKind) → RefusesWritten whole e → ⊥
      refuses_written kinds.OptionTooDeep h = refuses_none errors.TooDeep (λ same. absurd (cc same)) (moved errors.TooDeep h)
      refuses_written (kinds.UndecodableOptions (Some w)) h = refuses_none w h.0 (moved w h.2)
      refuses_written e h = absurd h

    refuses_typed : (at : Option ℕ) (e : OptionErrorKind) → RefusesTyped scope s d o at e → ⊥
    refuses_typed None e (inl h) = refuses_stored scope refl e h
    refuses_typed None e (inr (whole, paths, is, h)) = refuses_written whole paths is e h
    refuses_typed (Some place) e (stored, is, (x, front, paths, there, sets, parts, tells)) = none_there place o.uninterpreted_option.items x left there

  not_refused : (at : Option ℕ) (e : OptionErrorKind) → RefusesOptions scope s o at e → ⊥
  not_refused at e (inl h) =
      let x = forbidden_there scope o at e h in
      none_there x.0 o.uninterpreted_option.items x.1 left x.2
  not_refused at e (inr (finds, inl lacks)) = lacks.1 left
  not_refused at e (inr (finds, inr (d, its, why))) = refuses_typed d its at e why

pub stored_not_refused : (scope : OptionScope) (s : NameScope) (o : Options) (at : Option ℕ) (e : OptionErrorKind) (m : Message) → IsSound s.pool.now
    → CanRead s.pool.now scope → AreBytes o.encoded.items
    → AreStored (types_of s.pool.now) scope m o.encoded.items → SaysAndIsSettled scope (options_view o) → RefusesOptions scope s o at e → ⊥
stored_not_refused scope s o at e m sound can are formed says h = not_refused scope s o m sound can are formed says at e h
