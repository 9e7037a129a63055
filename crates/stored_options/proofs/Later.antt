-- Options of which nothing is left to settle are stored in the bytes of a message already.
use Rattle.std.proofs.Common.{◌≡◌, inl, inr, ℕ, [], ◌∷◌, List, refl, sym, ap, subst}
use Rattle.descriptor_records.specs.Content.{OptionsContent, options_view}
use Rattle.descriptor_records.specs.declared.options.Options.{Options}
use Rattle.known_messages.specs.KnownMessages.{AreFormOf}
use Rattle.known_messages.proofs.Forms.{nothing_formed}
use Rattle.message_view.specs.Sound.{IsSound}
use Rattle.message_view.specs.Types.{types_of}
use Rattle.option_parts.specs.OptionTypes.{ReadsOptions, type_name}
use Rattle.option_parts.specs.declared.option_scope.OptionScope.{OptionScope}
use Rattle.option_parts.specs.declared.option_scope.OptionScope.TheVariants as scopes
use Rattle.plain_records.specs.SaidOptions.{IsSettled}
use Rattle.plain_records.specs.SourceOptions.{AreAsRead}
use Rattle.protobuf_model.specs.Values.{Message, nothing}
use Rattle.reflect_tables.specs.Types.{PoolType}
use Rattle.stored_options.specs.StoredOptions.{AreStored}
use Rattle.stored_options.proofs.EntryMessage.{entry_message}
use Rattle.stored_options.proofs.Scoped.{entry_form}

module _ (scope : OptionScope) (pool : PoolType) (sound : IsSound pool) where
  -- no bytes are those of nothing, and those of a map's entries say that they are
  of_nothing : (bytes : List ℕ) → bytes ≡ [] → (m : Message) × AreStored (types_of pool) scope m bytes
  of_nothing bytes none = (nothing, (subst (AreFormOf (types_of pool) (type_name scope) nothing) (sym none) (nothing_formed (types_of pool) (type_name scope)), refl))

  pub of_an_entry : scope ≡ scopes.Message → ReadsOptions pool scope → (bytes : List ℕ) → bytes ≡ 56 ∷ 1 ∷ []
      → (m : Message) × AreStored (types_of pool) scope m bytes
  of_an_entry is reads bytes same =
      let form = subst (λ s. AreFormOf (types_of pool) (type_name s) entry_message (56 ∷ 1 ∷ [])) (sym is) (entry_form pool sound (subst (ReadsOptions pool) is reads)) in
      (entry_message, (subst (AreFormOf (types_of pool) (type_name scope) entry_message) (sym same) form, refl))

pub stored_later : (scope : OptionScope) (pool : PoolType) (o : Options) → IsSound pool → ReadsOptions pool scope → AreAsRead scope (options_view o)
    → IsSettled (options_view o)
    → (m : Message) × AreStored (types_of pool) scope m o.encoded.items
stored_later scope pool o sound reads (inl given) settled = of_nothing scope pool sound o.encoded.items (ap (λ (c : OptionsContent). c.encoded) given)
stored_later scope pool o sound reads (inr given) settled = of_an_entry scope pool sound given.0 reads o.encoded.items (ap (λ (c : OptionsContent). c.encoded) given.1)
