-- Refusals that are true of the pool whose types a text is read by.
use Rattle.std.specs.Prelude.{◌≡◌, ◌⊎◌, true, false, ℕ, List, None, string_bytes}
use Rattle.reflect_tables.specs.Finding.{IsFirst}
use Rattle.reflect_tables.specs.Types.{PoolType, type_at, enum_at}
use Rattle.reflect_pool.specs.FindsNames.{FindsMessage}
use Rattle.reflect_pool.specs.declared.enums.EnumDescriptor.{EnumDescriptor}
use Rattle.reflect_pool.specs.declared.message.MessageDescriptor.{MessageDescriptor}
use Rattle.reflect_pool.specs.declared.kind.Kind.{Kind}
use Rattle.reflect_pool.specs.declared.kind.Kind.TheVariants as values
use Rattle.reflect_any.specs.Any.{IsAny}
use Rattle.reflect_format.specs.Lacks.{LacksField, LacksGroup, LacksExtension, HasFloatField, HasFloatExtension}
use Rattle.reflect_format.specs.Refusals.{IsTextName, Shares, TellsOneof}
use Rattle.reflect_format.specs.Takes.{holds_many, target_pool}
use Rattle.reflect_pool.specs.declared.oneof.OneofDescriptor.{OneofDescriptor}
use Rattle.reflect_format.specs.declared.target.Target.{Target}
use Rattle.text_scalars.specs.Refusals.{is_of_text}
use Rattle.text_error.specs.declared.error.ParseErrorKind.{ParseErrorKind}
use Rattle.text_error.specs.declared.error.ParseErrorKind.TheVariants as kinds

-- the type is one of the pool, and has the full name
abbrev pub IsType : PoolType → MessageDescriptor → List ℕ → Type 0
IsType pool m name = (m.pool.now ≡ pool) × (name ≡ (type_at m.pool.now m.index).full_name)

-- the enum is one of the pool, and has the full name
abbrev pub IsEnum : PoolType → EnumDescriptor → List ℕ → Type 0
IsEnum pool e name = (e.pool.now ≡ pool) × (name ≡ (enum_at e.pool.now e.index).full_name)

-- a field of the name, or an extension that stands so in brackets, holds floating-point numbers
abbrev pub HasFloats : MessageDescriptor → List ℕ → Type 0
HasFloats m name = HasFloatField m name ⊎ HasFloatExtension m name

-- What a refusal says of a pool is so: a field, an extension or a value is called unknown where the
-- type that is told has none of the name, a message type where no type of the pool has the name,
-- and floating-point numbers are told where a field holds them. A field or extension that is told
-- to be set is one of the pool that holds one value, and so is a member of a oneof that is told. A
-- type that is told not to keep a message of any type is one of the pool that does not. The other
-- refusals say nothing of types. A map's key is never refused, and no message is too long.
abbrev pub TrueOf : PoolType → ParseErrorKind → Type 0
TrueOf pool (kinds.FieldNotFound field message span) = (m : MessageDescriptor)
    × IsType pool m (string_bytes message) × LacksField m (string_bytes field)
    × LacksGroup m (string_bytes field)
TrueOf pool (kinds.ExtensionNotFound extension message span) = (m : MessageDescriptor)
    × IsType pool m (string_bytes message) × LacksExtension m (string_bytes extension)
TrueOf pool (kinds.MessageNotFound message span) = FindsMessage pool (string_bytes message) None
TrueOf pool (kinds.EnumValueNotFound value enumeration span) =
    (e : EnumDescriptor) × IsEnum pool e (string_bytes enumeration)
    × IsFirst (λ v. v.name ≡ string_bytes value) (enum_at e.pool.now e.index).values None
TrueOf pool (kinds.FloatField field message span) = (m : MessageDescriptor)
    × IsType pool m (string_bytes message) × HasFloats m (string_bytes field)
TrueOf pool (kinds.FieldAlreadySet field span) = (t : Target) × (target_pool t ≡ pool)
    × (holds_many t ≡ false) × IsTextName t (string_bytes field)
TrueOf pool (kinds.OneofAlreadySet oneof span) = (t : Target) × (target_pool t ≡ pool)
    × (holds_many t ≡ false) × (o : OneofDescriptor) × Shares t o
    × TellsOneof o (kinds.OneofAlreadySet oneof span)
TrueOf pool (kinds.InvalidTypeForAny span) = (m : MessageDescriptor) × (m.pool.now ≡ pool)
    × (IsAny m → ⊥)
TrueOf pool kinds.InvalidMapKey = ⊥
TrueOf pool (kinds.TooLong span) = ⊥
TrueOf pool _ = Unit {0}

-- a refusal of a value of the kind is true of the pool that its type stands in, or of the text
-- alone
abbrev pub TrueFor : Kind → ParseErrorKind → Type 0
TrueFor (values.Message d) kind = TrueOf d.pool.now kind
TrueFor (values.Enum e) kind = TrueOf e.pool.now kind
TrueFor _ kind = is_of_text kind ≡ true
