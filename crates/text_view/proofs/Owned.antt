-- What is seen of a target that a type has.
use Rattle.std.proofs.Common.{◌≡◌, ◌⊎◌, inl, inr, false, Some, None, option_map, ap, ◌∙◌}
use Rattle.protox_lex.specs.Class.{Text}
use Rattle.protobuf_model.specs.Meaning.{payloads}
use Rattle.reflect_entries.specs.Entries.{value_at}
use Rattle.reflect_pool.specs.FieldsLeft.{field_type}
use Rattle.reflect_pool.specs.declared.message.MessageDescriptor.{MessageDescriptor}
use Rattle.reflect_scalar.specs.FieldTypes.{extension_type}
use Rattle.reflect_message.specs.Declares.{Owns, OwnsExtension}
use Rattle.reflect_message.specs.Held.{fields_of, extensions_of, unknown_of}
use Rattle.reflect_message.specs.Known.{holds_floats, known_extension}
use Rattle.reflect_message.specs.Names.{DynamicMessage}
use Rattle.reflect_format.specs.Named.{NamesField, NamesExtension}
use Rattle.reflect_format.specs.Steps.{held_by}
use Rattle.reflect_format.specs.Takes.{target_pool, target_type}
use Rattle.reflect_format.specs.declared.target.Target.{Target}
use Rattle.reflect_format.specs.declared.target.Target.TheVariants as targets
use Rattle.message_view.specs.Types.{field_at}
use Rattle.message_view.specs.Views.{held_in, held_either, content_view, view}
use Rattle.message_view.proofs.Fields.{owned, extension_owned, owned_whole, extension_whole}
use Rattle.message_view.specs.Sound.{AreApart}
use Rattle.text_view.specs.Targets.{target_field}
use Rattle.text_view.proofs.Apart.{named_owns, named_extension_owns, field_there, extension_there, no_field_there}
use Rattle.text_view.proofs.Puts.{shown, seen_at}

-- the records of its number are its own
abbrev pub OwnsTarget : MessageDescriptor → Target → Type 0
OwnsTarget d (targets.Field f) = Owns d f
OwnsTarget d (targets.Extension x) = OwnsExtension d x

module _ (d : MessageDescriptor) (apart : AreApart d.pool.now) where
  pub named_target : (w : Text) (t : Target) → NamesField d w t ⊎ NamesExtension d w t → OwnsTarget d t
  named_target w (targets.Field f) (inl h) = named_owns d apart w f h
  named_target w (targets.Field f) (inr h) = absurd h
  named_target w (targets.Extension x) (inl h) = absurd h
  named_target w (targets.Extension x) (inr h) = named_extension_owns d apart w x h

  pub pool_is : (t : Target) → OwnsTarget d t → target_pool t ≡ d.pool.now
  pool_is (targets.Field f) owns = owns.0.1
  pool_is (targets.Extension x) owns = owns.0.0

  pub target_whole : (t : Target) → OwnsTarget d t → holds_floats d.pool.now (target_type t) ≡ false
  target_whole (targets.Field f) owns = owned_whole d f owns
  target_whole (targets.Extension x) owns = extension_whole d x owns

  pub target_there : (t : Target) → OwnsTarget d t → field_at d.pool.now d.index (target_type t).number ≡ Some (target_field d t)
  target_there (targets.Field f) owns = field_there d apart f owns
  target_there (targets.Extension x) owns = extension_there d apart x owns

  -- what stands under its number
  pub under_target : (t : Target) → OwnsTarget d t → (m : DynamicMessage) → m.descriptor ≡ d
      → view m (target_type t).number ≡ held_in d.pool.now (target_type t) (option_map content_view (held_by m t))
  under_target (targets.Field f) owns m same =
      let n = (field_type f).number in
      seen_at m n ∙ ap (λ e. shown e m n) same
      ∙ ap (λ o. held_either d.pool.now o (known_extension d.pool.now d.index n) (option_map content_view (value_at (fields_of m) n)) (option_map content_view (value_at (extensions_of m) n)) (payloads n (unknown_of m))) (owned d f owns)
  under_target (targets.Extension x) owns m same =
      let n = (extension_type x).number in
      seen_at m n ∙ ap (λ e. shown e m n) same
      ∙ ap (λ o. held_either d.pool.now o (known_extension d.pool.now d.index n) (option_map content_view (value_at (fields_of m) n)) (option_map content_view (value_at (extensions_of m) n)) (payloads n (unknown_of m))) (no_field_there d apart x owns)
      ∙ ap (λ o. held_either d.pool.now None o (option_map content_view (value_at (fields_of m) n)) (option_map content_view (value_at (extensions_of m) n)) (payloads n (unknown_of m))) (extension_owned d x owns)
