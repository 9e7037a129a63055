-- What is valid for a field or an extension of a type suits the type under its number.
use Rattle.std.proofs.Common.{◌≡◌, ℕ, suc, Bool, true, false, Option, None, Some, sym, subst}
use Rattle.protobuf_model.specs.Typed.{IsHeldOf, IsOf, IsTyped}
use Rattle.protobuf_model.specs.Types.{Field, Name}
use Rattle.protobuf_model.specs.Values.{Held, Message}
use Rattle.reflect_pool.specs.FieldsLeft.{field_type}
use Rattle.reflect_pool.specs.declared.extension.ExtensionDescriptor.{ExtensionDescriptor}
use Rattle.reflect_pool.specs.declared.field.FieldDescriptor.{FieldDescriptor}
use Rattle.reflect_pool.specs.declared.message.MessageDescriptor.{MessageDescriptor}
use Rattle.reflect_tables.specs.Types.{FieldType, KindType, PoolType}
use Rattle.reflect_tables.specs.Types as types
use Rattle.reflect_scalar.specs.FieldTypes.{extension_type}
use Rattle.reflect_message.specs.Declares.{NoField, Owns, OwnsExtension}
use Rattle.reflect_message.specs.Names.{DynamicMessage, Value}
use Rattle.reflect_numbered.specs.Fits.{IsValidFor, fit_of}
use Rattle.reflect_numbered.specs.declared.validity.Strictness.TheVariants.{Surface}
use Rattle.message_view.specs.Sound.{IsSound}
use Rattle.message_view.specs.Types.{field_of, kind_in, name_at, oneof_at, types_of}
use Rattle.message_view.specs.Views.{content_view, held_in, view}
use Rattle.message_view.proofs.Fields.{owned}
use Rattle.set_view.proofs.Keyed.{extension_told, field_told}
use Rattle.valid_view.specs.Inside.{EachMessage, IfMessage, IsTypedIn, IsWhole}
use Rattle.valid_view.proofs.Fitting.{of_type}
use Rattle.valid_view.proofs.Opened.{kinds_of}
use Rattle.valid_view.proofs.Suiting.{one_suits, whole_suits}
use Rattle.valid_view.proofs.Valid.{one_of, whole_of}

module _ (levels : ℕ) where
  module _ (pool : PoolType) where
    abbrev Below : Name → Message → Type 0
    Below = IsTyped levels (types_of pool)

    surface : (t : KindType) (m : DynamicMessage) → kinds_of m Surface pool t ≡ true → IsTypedIn levels pool m → (t ≡ types.message m.descriptor.index) × Below (name_at pool m.descriptor.index) (view m)
    surface t m is typed = (of_type pool t m.descriptor is, typed)

    valid_suits : (f : FieldType) (o : Option ℕ) (x : Bool) (v : Value) → IsValidFor pool f v → EachMessage (IsTypedIn levels pool) v → IsWhole v
        → IsHeldOf Below (suc levels) (Some (field_of pool o x f)) (held_in pool f (Some (content_view v)))
    valid_suits f o x v valid inside bits = whole_suits Surface pool (IsTypedIn levels pool) (IsTyped levels (types_of pool)) surface (suc levels) f o x v (whole_of Surface pool f v valid.1) inside bits

    -- as one of the values of a list
    pub valid_suits_one : (f : FieldType) (v : Value) → (fit_of v).one Surface pool f.kind ≡ true → IfMessage (IsTypedIn levels pool) v → IsWhole v
        → IsOf (IsTyped levels (types_of pool)) (kind_in pool f.group f.kind) (content_view v)
    valid_suits_one f v valid inside bits = one_suits Surface pool (IsTypedIn levels pool) (IsTyped levels (types_of pool)) surface f.group f.kind v (one_of Surface pool f.kind v valid) inside bits.values.itself

  module _ (d : MessageDescriptor) (sound : IsSound d.pool.now) where
    abbrev HeldUnder : ℕ → Held → Type 0
    HeldUnder n h = IsHeldOf (IsTyped levels (types_of d.pool.now)) (suc levels) (types_of d.pool.now (name_at d.pool.now d.index) n) h

    pub field_suits : (f : FieldDescriptor) → Owns d f → (v : Value) → IsValidFor d.pool.now (field_type f) v → EachMessage (IsTypedIn levels d.pool.now) v → IsWhole v
        → HeldUnder (field_type f).number (held_in d.pool.now (field_type f) (Some (content_view v)))
    field_suits f owns v valid inside bits =
        subst (λ (o : Option Field). IsHeldOf (IsTyped levels (types_of d.pool.now)) (suc levels) o (held_in d.pool.now (field_type f) (Some (content_view v))))
        (sym (field_told d sound (field_type f).number (field_type f) (owned d f owns)))
        (valid_suits d.pool.now (field_type f) (oneof_at d.pool.now d.index (field_type f)) false v valid inside bits)

    pub extension_suits : (x : ExtensionDescriptor) → OwnsExtension d x → NoField d (extension_type x).number
        → (v : Value) → IsValidFor d.pool.now (extension_type x) v → EachMessage (IsTypedIn levels d.pool.now) v → IsWhole v
        → HeldUnder (extension_type x).number (held_in d.pool.now (extension_type x) (Some (content_view v)))
    extension_suits x owns none v valid inside bits =
        subst (λ (o : Option Field). IsHeldOf (IsTyped levels (types_of d.pool.now)) (suc levels) o (held_in d.pool.now (extension_type x) (Some (content_view v))))
        (sym (extension_told d sound x owns none))
        (valid_suits d.pool.now (extension_type x) None true v valid inside bits)
