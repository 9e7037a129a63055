-- What the refusals of names tell of the types.
use Rattle.std.specs.Prelude.{◌≡◌, ◌⊎◌, true, ℕ, List, None, Some, IsSome, string_bytes}
use Rattle.std.specs.List.{Any}
use Rattle.reflect_tables.specs.Finding.{IsFirst}
use Rattle.reflect_tables.specs.Types.{FieldType, type_at, enum_at, extension_at}
use Rattle.reflect_pool.specs.FieldsLeft.{field_type}
use Rattle.reflect_pool.specs.declared.enums.EnumDescriptor.{EnumDescriptor}
use Rattle.reflect_pool.specs.declared.message.MessageDescriptor.{MessageDescriptor}
use Rattle.reflect_pool.specs.declared.kind.Kind.{Kind}
use Rattle.reflect_pool.specs.declared.kind.Kind.TheVariants as values
use Rattle.reflect_pool.specs.declared.oneof.OneofDescriptor.{OneofDescriptor}
use Rattle.reflect_pool.specs.Parts.{members_of, type_of_oneof}
use Rattle.reflect_scalar.specs.FieldTypes.{extension_type}
use Rattle.reflect_entries.specs.Entries.{value_at}
use Rattle.reflect_numbered.specs.Called.{HasNumber, TellsMeant}
use Rattle.reflect_message.specs.Held.{fields_of, extensions_of}
use Rattle.reflect_message.specs.Names.{DynamicMessage}
use Rattle.reflect_format.specs.Lacks.{IsGroupCalled, IsNoGroup, LacksField, LacksGroup, HasFloatField, LacksExtension, HasFloatExtension}
use Rattle.reflect_format.specs.declared.target.Target.{Target}
use Rattle.reflect_format.specs.declared.target.Target.TheVariants as targets
use Rattle.protox_lex.specs.declared.span.Span.{Span}
use Rattle.text_scalars.specs.Refusals.{is_of_text}
use Rattle.text_error.specs.declared.error.ParseErrorKind.{ParseErrorKind}
use Rattle.text_error.specs.declared.error.ParseErrorKind.TheVariants as kinds

-- It tells this enum by its full name and this name of a value, which stands there.
abbrev pub TellsValue : EnumDescriptor → List ℕ → Span → ParseErrorKind → Type 0
TellsValue e name bytes (kinds.EnumValueNotFound value enumeration span) =
    (string_bytes value ≡ name)
    × (string_bytes enumeration ≡ (enum_at e.pool.now e.index).full_name) × (span ≡ bytes)
TellsValue e name bytes _ = ⊥

-- A refusal of an enum's value: the enum that it tells has no value of the name that it tells; the
-- others are of the text alone.
abbrev pub RefusesValue : EnumDescriptor → ParseErrorKind → Type 0
RefusesValue e (kinds.EnumValueNotFound value enumeration span) =
    (string_bytes enumeration ≡ (enum_at e.pool.now e.index).full_name)
    × IsFirst (λ v. v.name ≡ string_bytes value) (enum_at e.pool.now e.index).values None
RefusesValue e kind = is_of_text kind ≡ true

-- It tells this message type by its full name and this name of a field.
abbrev pub TellsField : MessageDescriptor → List ℕ → ParseErrorKind → Type 0
TellsField m name (kinds.FieldNotFound field message span) =
    (string_bytes field ≡ name) × (string_bytes message ≡ (type_at m.pool.now m.index).full_name)
TellsField m name _ = ⊥

-- It tells this message type by its full name and this name of a field that holds floating-point
-- numbers.
abbrev pub TellsFloatField : MessageDescriptor → List ℕ → ParseErrorKind → Type 0
TellsFloatField m name (kinds.FloatField field message span) =
    (string_bytes field ≡ name) × (string_bytes message ≡ (type_at m.pool.now m.index).full_name)
TellsFloatField m name _ = ⊥

-- A refusal of a field's name: it is called unknown only where the type that it tells has no field
-- of the name but a group, and no group whose type has the name. One of floating-point numbers is
-- told with its type, or memory ran out.
abbrev pub RefusesField : MessageDescriptor → List ℕ → ParseErrorKind → Type 0
RefusesField m name (kinds.FieldNotFound field message span) =
    (string_bytes field ≡ name) × (string_bytes message ≡ (type_at m.pool.now m.index).full_name)
    × LacksField m name × LacksGroup m name
RefusesField m name (kinds.FloatField field message span) =
    (string_bytes field ≡ name) × (string_bytes message ≡ (type_at m.pool.now m.index).full_name)
    × HasFloatField m name
RefusesField m name kinds.Memory = Unit {0}
RefusesField m name _ = ⊥

-- It tells this message type by its full name and this full name of an extension.
abbrev pub TellsExtension : MessageDescriptor → List ℕ → ParseErrorKind → Type 0
TellsExtension m name (kinds.ExtensionNotFound extension message span) =
    (string_bytes extension ≡ name)
    × (string_bytes message ≡ (type_at m.pool.now m.index).full_name)
TellsExtension m name _ = ⊥

-- A refusal of an extension's full name: it is called unknown only where the type that it tells has
-- no extension of the name. One of floating-point numbers is told with its type, or memory ran out.
abbrev pub RefusesExtension : MessageDescriptor → List ℕ → ParseErrorKind → Type 0
RefusesExtension m name (kinds.ExtensionNotFound extension message span) =
    (string_bytes extension ≡ name)
    × (string_bytes message ≡ (type_at m.pool.now m.index).full_name) × LacksExtension m name
RefusesExtension m name (kinds.FloatField field message span) =
    (string_bytes message ≡ (type_at m.pool.now m.index).full_name)
    × HasFloatExtension m (string_bytes field)
RefusesExtension m name kinds.Memory = Unit {0}
RefusesExtension m name _ = ⊥

-- It tells this name of a message type.
abbrev pub TellsMessage : List ℕ → ParseErrorKind → Type 0
TellsMessage name (kinds.MessageNotFound message span) = string_bytes message ≡ name
TellsMessage name _ = ⊥

-- It tells this name of a field that is set.
abbrev pub TellsSet : List ℕ → ParseErrorKind → Type 0
TellsSet name (kinds.FieldAlreadySet field span) = string_bytes field ≡ name
TellsSet name _ = ⊥

-- It tells this oneof by its name.
abbrev pub TellsOneof : OneofDescriptor → ParseErrorKind → Type 0
TellsOneof o (kinds.OneofAlreadySet oneof span) = string_bytes oneof
    ≡ (type_of_oneof o.message.pool.now o.message.index o.index).name
TellsOneof o _ = ⊥

-- the oneof is one of the field's type, and the field is a member of it
abbrev pub Shares : Target → OneofDescriptor → Type 0
Shares (targets.Field f) o = (o.message ≡ f.message) × ((field_type f).oneof ≡ Some o.index)
Shares (targets.Extension x) o = ⊥

-- a text sets it by this name: a group by its type's, any other field by its own, an extension by
-- the one in brackets
abbrev pub IsTextName : Target → List ℕ → Type 0
IsTextName (targets.Field f) name =
    IsGroupCalled f name ⊎ (IsNoGroup f × ((field_type f).name ≡ name))
IsTextName (targets.Extension x) name = (extension_at x.pool.now x.index).json_name ≡ name

-- the message holds something under the number
abbrev pub HoldsTarget : DynamicMessage → Target → Type 0
HoldsTarget m (targets.Field f) = IsSome (value_at (fields_of m) (field_type f).number)
HoldsTarget m (targets.Extension x) = IsSome (value_at (extensions_of m) (extension_type x).number)

-- some of the fields is set
abbrev pub HoldsAmong : DynamicMessage → List FieldType → Type 0
HoldsAmong m fs = Any (λ f. TellsMeant (HasNumber f.number) m true) fs

-- and of some member of the oneof
abbrev pub HoldsMember : DynamicMessage → OneofDescriptor → Type 0
HoldsMember m o = HoldsAmong m (members_of o.message.pool.now o.message.index o.index)

-- A refusal of a second value: the message holds one of what is told; or a oneof is told that has
-- the field for a member, and of which the message holds one; or memory ran out.
abbrev pub RefusesSecond : DynamicMessage → Target → ParseErrorKind → Type 0
RefusesSecond m t (kinds.FieldAlreadySet field span) =
    HoldsTarget m t × IsTextName t (string_bytes field)
RefusesSecond m t (kinds.OneofAlreadySet oneof span) = (o : OneofDescriptor) × Shares t o
    × HoldsMember m o × TellsOneof o (kinds.OneofAlreadySet oneof span)
RefusesSecond m t kinds.Memory = Unit {0}
RefusesSecond m t _ = ⊥

-- A refusal of a value that is no message: of an enum's, its name; else one of the text alone.
abbrev pub RefusesScalar : Kind → ParseErrorKind → Type 0
RefusesScalar (values.Enum e) kind = RefusesValue e kind
RefusesScalar _ kind = is_of_text kind ≡ true
