-- Messages stay in shape and suit their types where valid values are set.
use Rattle.std.proofs.Common.{◌≡◌, ℕ, suc, Bool, Some, sym, subst}
use Rattle.protobuf_model.specs.Typed.{IsTyped}
use Rattle.protobuf_model.specs.Types.{Name}
use Rattle.reflect_entries.specs.Entries.{IsAscending}
use Rattle.reflect_pool.specs.FieldsLeft.{field_type}
use Rattle.reflect_pool.specs.declared.extension.ExtensionDescriptor.{ExtensionDescriptor}
use Rattle.reflect_pool.specs.declared.field.FieldDescriptor.{FieldDescriptor}
use Rattle.reflect_tables.specs.Types.{PoolType}
use Rattle.reflect_scalar.specs.FieldTypes.{extension_type}
use Rattle.reflect_message.specs.Declares.{NoField, Owns, OwnsExtension}
use Rattle.reflect_message.specs.Held.{UpdatesExtension, fields_of}
use Rattle.reflect_message.specs.Names.{DynamicMessage, Value}
use Rattle.reflect_message.specs.Oneofs.{IsExclusive, SetsField}
use Rattle.reflect_numbered.specs.Fits.{IsValidFor}
use Rattle.message_view.specs.Shaped.{HasShape}
use Rattle.message_view.specs.Sound.{IsSound}
use Rattle.message_view.specs.Types.{name_at, types_of}
use Rattle.message_view.specs.Views.{content_view, held_in, view}
use Rattle.message_view.proofs.Changed.{set_extension_shaped, set_shaped}
use Rattle.message_view.proofs.Deeper.{one_level, whole_shape}
use Rattle.message_view.proofs.Numbered.{extension_number, field_number}
use Rattle.set_view.proofs.Suited.{put_suits}
use Rattle.set_view.proofs.Viewed.{extension_put, field_put}
use Rattle.valid_view.specs.Inside.{EachMessage, IsShapedIn, IsTypedIn, IsWhole}
use Rattle.valid_view.proofs.Fitting.{valid_fits}
use Rattle.valid_view.proofs.Told.{extension_suits, field_suits}

module _ (exclusive : Bool) (levels depth : ℕ) (old new : DynamicMessage) (sound : IsSound old.descriptor.pool.now) (type : new.descriptor ≡ old.descriptor)
    (shape : HasShape exclusive (suc levels) old) (suits : IsTyped (suc depth) (types_of old.descriptor.pool.now) (name_at old.descriptor.pool.now old.descriptor.index) (view old))
    (sole : IsExclusive new) where
  abbrev pool : PoolType
  pool = old.descriptor.pool.now

  abbrev its_name : Name
  its_name = name_at old.descriptor.pool.now old.descriptor.index

  abbrev StaysBoth : Type 0
  StaysBoth = HasShape exclusive (suc levels) new × IsTyped (suc depth) (types_of old.descriptor.pool.now) (name_at old.descriptor.pool.now old.descriptor.index) (view new)

  pub field_stays : IsExclusive old → (f : FieldDescriptor) → Owns old.descriptor f → (v : Value) → IsValidFor pool (field_type f) v
      → EachMessage (IsShapedIn exclusive levels pool) v → EachMessage (IsTypedIn depth pool) v → IsWhole v → SetsField old new f v → IsAscending (fields_of new) → StaysBoth
  field_stays before f owns v valid shaped typed bits sets ascending =
      let number = field_number f (subst IsSound (sym owns.0.1) sound) in
      let fits = valid_fits exclusive levels pool (field_type f) v valid.1 shaped in (
        whole_shape exclusive levels new (set_shaped (HasShape exclusive levels) old new sound type (one_level exclusive levels old shape) f owns v fits sets ascending) sole,
        put_suits depth (types_of pool) its_name (field_type f).number (held_in pool (field_type f) (Some (content_view v))) (view old) (view new)
            (field_put old new sound type before f owns v sets) number.0 number.1 (field_suits depth old.descriptor sound f owns v valid typed bits) suits,
      )

  pub extension_stays : (x : ExtensionDescriptor) → OwnsExtension old.descriptor x → NoField old.descriptor (extension_type x).number → (v : Value) → IsValidFor pool (extension_type x) v
      → EachMessage (IsShapedIn exclusive levels pool) v → EachMessage (IsTypedIn depth pool) v → IsWhole v → UpdatesExtension old new (extension_type x).number (Some v) → StaysBoth
  extension_stays x owns none v valid shaped typed bits updates =
      let number = extension_number x (subst IsSound (sym owns.0.0) sound) in
      let fits = valid_fits exclusive levels pool (extension_type x) v valid.1 shaped in (
        whole_shape exclusive levels new (set_extension_shaped (HasShape exclusive levels) old new sound type (one_level exclusive levels old shape) x owns v fits updates) sole,
        put_suits depth (types_of pool) its_name (extension_type x).number (held_in pool (extension_type x) (Some (content_view v))) (view old) (view new)
            (extension_put old new sound type x owns none v updates) number.0 number.1 (extension_suits depth old.descriptor sound x owns none v valid typed bits) suits,
      )
