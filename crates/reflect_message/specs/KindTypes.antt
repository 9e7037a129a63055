-- Kinds that have single values, and kinds that have messages.
use Rattle.reflect_tables.specs.Types.{KindType, double, float, message}

-- all kinds but messages and floating-point numbers
abbrev pub IsScalarType : KindType → Type 0
IsScalarType double = ⊥
IsScalarType float = ⊥
IsScalarType (message i) = ⊥
IsScalarType _ = Unit {0}

abbrev pub IsMessageType : KindType → Type 0
IsMessageType (message i) = Unit {0}
IsMessageType _ = ⊥
