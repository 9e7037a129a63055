-- Calls leave messages tidy, and what they hold whole, whatever they put.
use Rattle.std.proofs.Common.{◌≡◌, inl, ℕ, suc, true, List, [], Option, None, Some, refl, sym, ap, ◌∙◌, subst}
use Rattle.std.specs.List.{AllByRecursion}
use Rattle.reflect_wire.specs.Records.{Payload}
use Rattle.reflect_wire.specs.Written.{FitsPayload}
use Rattle.protobuf_model.specs.Meaning.{payloads}
use Rattle.reflect_entries.specs.Entries.{IsAscending, value_at}
use Rattle.reflect_pool.specs.FieldsLeft.{field_type}
use Rattle.reflect_pool.specs.declared.extension.ExtensionDescriptor.{ExtensionDescriptor}
use Rattle.reflect_pool.specs.declared.field.FieldDescriptor.{FieldDescriptor}
use Rattle.reflect_tables.specs.Types.{PoolType}
use Rattle.reflect_scalar.specs.FieldTypes.{extension_pool, extension_type, field_pool}
use Rattle.reflect_message.specs.Contents.{Content, content_of, nothing}
use Rattle.reflect_message.specs.Declares.{Owns, OwnsExtension}
use Rattle.reflect_message.specs.Held.{UpdatesExtension, UpdatesField, choices_of, extensions_of, fields_of, unknown_of}
use Rattle.reflect_message.specs.Names.{DynamicMessage, Value}
use Rattle.reflect_message.specs.Oneofs.{IsExclusive, SetsField}
use Rattle.message_view.specs.Sound.{IsSound}
use Rattle.message_view.specs.Taken.{TakesOut}
use Rattle.message_view.proofs.Changed.{nothing_shaped, others_stay}
use Rattle.message_view.proofs.Numbered.{empty_ordered, extension_updated, field_updated, set_ordered}
use Rattle.message_view.proofs.Taken.{left_with, taken_ordered}
use Rattle.valid_view.specs.Inside.{EachMessage, IsWhole}
use Rattle.valid_view.specs.Tidy.{OfHeld, Solid, Tidy}
use Rattle.valid_view.proofs.Stemming.{Given, Stems, given_none, given_value, left_stems, put_stems, same_stems, solid_stems, tidy_stems}

-- ---- nothing is set
none_held : (R : Value → Type 0) (m : DynamicMessage) → content_of m ≡ nothing → OfHeld R m
none_held R m empty = record {
  fields = λ n v at. absurd (cc (sym (ap (λ (c : Content). value_at c.fields n) empty) ∙ at));
  extensions = λ n v at. absurd (cc (sym (ap (λ (c : Content). value_at c.extensions n) empty) ∙ at));
}

pub empty_tidy : (pool : PoolType) (levels : ℕ) (m : DynamicMessage) → m.descriptor.pool.now ≡ pool → content_of m ≡ nothing → Tidy pool (suc levels) m
empty_tidy pool levels m pooled empty = (
  record {
    pooled = pooled;
    ordered = empty_ordered m empty;
    declared = λ n is. ap (λ (c : Content). payloads n c.unknown) empty;
    exclusive = (nothing_shaped true levels m empty).1;
  },
  none_held (EachMessage (Tidy pool levels)) m empty,
)

pub empty_solid : (levels : ℕ) (m : DynamicMessage) → content_of m ≡ nothing → Solid (suc levels) m
empty_solid levels m empty = (
  record {
    values = none_held IsWhole m empty;
    records = λ n. subst (λ (c : Content). AllByRecursion (FitsPayload levels) (payloads n c.unknown)) (sym empty) tt;
  },
  none_held (EachMessage (Solid levels)) m empty,
)

-- ---- what is put under a number, if anything is
module _ (o : Option Value) (old new : DynamicMessage) where
  module _ (f : FieldDescriptor) where
    abbrev k : ℕ
    k = (field_type f).number

    set_stems : (v : Value) → o ≡ Some v → SetsField old new f v → Stems (Given o) (fields_of old) (fields_of new)
    set_stems v is sets = put_stems (Given o) (fields_of old) (fields_of new) k o (sets.here ∙ sym is) (λ w e. e) (others_stay f (choices_of old) (fields_of old) (fields_of new) sets.changes)

    field_stems : UpdatesField old new k o → Stems (Given o) (fields_of old) (fields_of new)
    field_stems updates = put_stems (Given o) (fields_of old) (fields_of new) k o updates.field.here (λ w e. e) (λ n apart. inl (updates.field.others n apart))

  extension_stems : (x : ExtensionDescriptor) → UpdatesExtension old new (extension_type x).number o → Stems (Given o) (extensions_of old) (extensions_of new)
  extension_stems x updates = put_stems (Given o) (extensions_of old) (extensions_of new) (extension_type x).number o updates.extension.here (λ w e. e) (λ n apart. inl (updates.extension.others n apart))

module _ (pool : PoolType) (sound : IsSound pool) (levels : ℕ) (old new : DynamicMessage) (tidy : Tidy pool (suc levels) old) (sole : IsExclusive new) where
  abbrev Below : Value → Type 0
  Below = EachMessage (Tidy pool levels)

  same_records : unknown_of new ≡ unknown_of old → (n : ℕ) → payloads n (unknown_of old) ≡ [] → payloads n (unknown_of new) ≡ []
  same_records same n none = ap (payloads n) same ∙ none

  field_sound : (f : FieldDescriptor) → Owns old.descriptor f → IsSound (field_pool f)
  field_sound f owns = subst IsSound (sym (owns.0.1 ∙ tidy.0.pooled)) sound

  extension_sound : (x : ExtensionDescriptor) → OwnsExtension old.descriptor x → IsSound (extension_pool x)
  extension_sound x owns = subst IsSound (sym (owns.0.0 ∙ tidy.0.pooled)) sound

  pub set_tidy : new.descriptor ≡ old.descriptor → (f : FieldDescriptor) → Owns old.descriptor f → (v : Value) → Below v → SetsField old new f v → IsAscending (fields_of new) → Tidy pool (suc levels) new
  set_tidy type f owns v inside sets ascending =
      tidy_stems (Given (Some v)) old new (set_stems (Some v) old new f v refl sets) (same_stems (Given (Some v)) (extensions_of old) (extensions_of new) sets.extensions) pool levels (given_value Below v inside) type
      (set_ordered old new f (field_sound f owns) v sets ascending tidy.0.ordered) sole (same_records sets.unknown) tidy

  pub unset_tidy : (f : FieldDescriptor) → Owns old.descriptor f → UpdatesField old new (field_type f).number None → Tidy pool (suc levels) new
  unset_tidy f owns updates =
      tidy_stems (Given None) old new (field_stems None old new f updates) (same_stems (Given None) (extensions_of old) (extensions_of new) updates.extensions) pool levels (given_none Below) updates.same_type
      (field_updated old new f (field_sound f owns) None updates tidy.0.ordered) sole (same_records updates.unknown) tidy

  pub set_extension_tidy : (x : ExtensionDescriptor) → OwnsExtension old.descriptor x → (v : Value) → Below v → UpdatesExtension old new (extension_type x).number (Some v) → Tidy pool (suc levels) new
  set_extension_tidy x owns v inside updates =
      tidy_stems (Given (Some v)) old new (same_stems (Given (Some v)) (fields_of old) (fields_of new) updates.fields) (extension_stems (Some v) old new x updates) pool levels (given_value Below v inside) updates.same_type
      (extension_updated old new x (extension_sound x owns) (Some v) updates tidy.0.ordered) sole (same_records updates.unknown) tidy

  pub unset_extension_tidy : (x : ExtensionDescriptor) → OwnsExtension old.descriptor x → UpdatesExtension old new (extension_type x).number None → Tidy pool (suc levels) new
  unset_extension_tidy x owns updates =
      tidy_stems (Given None) old new (same_stems (Given None) (fields_of old) (fields_of new) updates.fields) (extension_stems None old new x updates) pool levels (given_none Below) updates.same_type
      (extension_updated old new x (extension_sound x owns) None updates tidy.0.ordered) sole (same_records updates.unknown) tidy

module _ (levels : ℕ) (old new : DynamicMessage) (solid : Solid (suc levels) old) where
  abbrev Inside : Value → Type 0
  Inside = EachMessage (Solid levels)

  abbrev RecordsFit : List (ℕ × Payload) → ℕ → Type 0
  RecordsFit rs n = AllByRecursion (FitsPayload levels) (payloads n rs)

  pub still_fit : unknown_of new ≡ unknown_of old → (n : ℕ) → RecordsFit (unknown_of old) n → RecordsFit (unknown_of new) n
  still_fit same n fit = subst (λ (rs : List (ℕ × Payload)). RecordsFit rs n) (sym same) fit

  pub set_solid : (f : FieldDescriptor) (v : Value) → IsWhole v → Inside v → SetsField old new f v → Solid (suc levels) new
  set_solid f v whole inside sets =
      solid_stems (Given (Some v)) old new (set_stems (Some v) old new f v refl sets) (same_stems (Given (Some v)) (extensions_of old) (extensions_of new) sets.extensions) levels
      (given_value IsWhole v whole) (given_value Inside v inside) (still_fit sets.unknown) solid

  pub unset_solid : (f : FieldDescriptor) → UpdatesField old new (field_type f).number None → Solid (suc levels) new
  unset_solid f updates =
      solid_stems (Given None) old new (field_stems None old new f updates) (same_stems (Given None) (extensions_of old) (extensions_of new) updates.extensions) levels
      (given_none IsWhole) (given_none Inside) (still_fit updates.unknown) solid

  pub set_extension_solid : (x : ExtensionDescriptor) (v : Value) → IsWhole v → Inside v → UpdatesExtension old new (extension_type x).number (Some v) → Solid (suc levels) new
  set_extension_solid x v whole inside updates =
      solid_stems (Given (Some v)) old new (same_stems (Given (Some v)) (fields_of old) (fields_of new) updates.fields) (extension_stems (Some v) old new x updates) levels
      (given_value IsWhole v whole) (given_value Inside v inside) (still_fit updates.unknown) solid

  pub unset_extension_solid : (x : ExtensionDescriptor) → UpdatesExtension old new (extension_type x).number None → Solid (suc levels) new
  unset_extension_solid x updates =
      solid_stems (Given None) old new (same_stems (Given None) (fields_of old) (fields_of new) updates.fields) (extension_stems None old new x updates) levels
      (given_none IsWhole) (given_none Inside) (still_fit updates.unknown) solid

  pub taken_solid : TakesOut old new → Solid (suc levels) new
  taken_solid taken =
      solid_stems (Given None) old new (left_stems (Given None) (fields_of old) (fields_of new) taken.fields) (left_stems (Given None) (extensions_of old) (extensions_of new) taken.extensions) levels
      (given_none IsWhole) (given_none Inside) (λ n fit. left_with (λ (rs : List (ℕ × Payload)). RecordsFit rs n) (unknown_of old) (unknown_of new) taken.unknown fit tt) solid

-- ---- what is taken out
pub taken_tidy : (pool : PoolType) (levels : ℕ) (old new : DynamicMessage) → Tidy pool (suc levels) old → IsExclusive new → TakesOut old new → Tidy pool (suc levels) new
taken_tidy pool levels old new tidy sole taken =
    tidy_stems (Given None) old new (left_stems (Given None) (fields_of old) (fields_of new) taken.fields) (left_stems (Given None) (extensions_of old) (extensions_of new) taken.extensions) pool levels (given_none (EachMessage (Tidy pool levels))) taken.same_type
    (taken_ordered old new taken tidy.0.ordered) sole (λ n none. left_with (λ (rs : List (ℕ × Payload)). payloads n rs ≡ []) (unknown_of old) (unknown_of new) taken.unknown none refl) tidy
