-- Which field or extension of a type a text names (protobuf.dev, "Text Format Language
-- Specification", Field Names).
use Rattle.std.specs.Prelude.{◌≡◌, ◌⊎◌, Some, map}
use Rattle.std.specs.Char.{to_ascii_lowercase}
use Rattle.protox_lex.specs.Class.{Text}
use Rattle.reflect_pool.specs.FieldsLeft.{field_type}
use Rattle.reflect_pool.specs.Finds.{FindsField, FindsAny}
use Rattle.reflect_pool.specs.declared.extension.ExtensionDescriptor.{ExtensionDescriptor}
use Rattle.reflect_pool.specs.declared.field.FieldDescriptor.{FieldDescriptor}
use Rattle.reflect_pool.specs.declared.message.MessageDescriptor.{MessageDescriptor}
use Rattle.reflect_scalar.specs.FieldTypes.{field_pool, extension_pool, extension_type}
use Rattle.reflect_scalar.specs.Floats.{HoldsFloats}
use Rattle.reflect_message.specs.Declares.{Extends}
use Rattle.reflect_format.specs.Lacks.{FindsPlain, HasFloatField, IsGroupCalled, LacksField, LacksGroup, LacksExtension}
use Rattle.reflect_format.specs.declared.target.Target.{Target}
use Rattle.reflect_format.specs.declared.target.Target.TheVariants as targets

-- the group whose type has the name, where no other field has it
abbrev pub FindsGroup : MessageDescriptor → Text → FieldDescriptor → Type 0
FindsGroup m w f = (f.message ≡ m) × LacksField m w
    × FindsField (λ g. g.name ≡ map to_ascii_lowercase w) m (Some f) × IsGroupCalled f w

-- the field that a text calls so: one of no floating-point numbers by its name, or a group by that
-- of its type
abbrev pub NamesField : MessageDescriptor → Text → Target → Type 0
NamesField m w (targets.Field f) =
    (FindsPlain m w f × (HoldsFloats (field_pool f) (field_type f) → ⊥)) ⊎ FindsGroup m w f
NamesField m w (targets.Extension x) = ⊥

-- no field is called so, or one that holds floating-point numbers
abbrev pub NoFieldNamed : MessageDescriptor → Text → Type 0
NoFieldNamed m w = (LacksField m w × LacksGroup m w) ⊎ HasFloatField m w

-- the extension of the full name
abbrev pub FindsExtension : MessageDescriptor → Text → ExtensionDescriptor → Type 0
FindsExtension m w x = Extends m x
    × FindsAny (λ y. (y.extendee ≡ m.index) × (y.field.full_name ≡ w)) m.pool.now (Some x)

abbrev pub NamesExtension : MessageDescriptor → Text → Target → Type 0
NamesExtension m w (targets.Extension x) = FindsExtension m w x
    × (HoldsFloats (extension_pool x) (extension_type x) → ⊥)
NamesExtension m w (targets.Field f) = ⊥

abbrev pub NoExtensionNamed : MessageDescriptor → Text → Type 0
NoExtensionNamed m w = LacksExtension m w
    ⊎ ((x : ExtensionDescriptor) × FindsExtension m w x
    × HoldsFloats (extension_pool x) (extension_type x))
