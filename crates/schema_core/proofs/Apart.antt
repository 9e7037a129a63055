-- What is told other than want of memory, or of room: each type here has nothing at that alone, so
-- that two refusals are told apart without a look at what is known of them.
use Rattle.protox_parse.specs.declared.error.ParseError.{ParseError}
use Rattle.protox_parse.specs.declared.error.ParseError.TheVariants as parsed
use Rattle.reflect_wire.specs.declared.wire_error.WireError.{WireError}
use Rattle.reflect_wire.specs.declared.wire_error.WireError.TheVariants as wire
use Rattle.text_error.specs.declared.error.ParseErrorKind.{ParseErrorKind}
use Rattle.text_error.specs.declared.error.ParseErrorKind.TheVariants as texts
use Rattle.schema_core.specs.declared.error.SchemaError.{SchemaError}
use Rattle.schema_core.specs.declared.error.SchemaError.TheVariants.{Memory}

-- of bytes
abbrev pub NoMemory : WireError → Type 0
NoMemory wire.Memory = ⊥
NoMemory _ = Unit {0}

abbrev pub NoLength : WireError → Type 0
NoLength wire.TooLong = ⊥
NoLength _ = Unit {0}

-- of a text
abbrev pub NoTextMemory : ParseErrorKind → Type 0
NoTextMemory texts.Memory = ⊥
NoTextMemory _ = Unit {0}

-- of a source
abbrev pub NoSourceMemory : ParseError → Type 0
NoSourceMemory parsed.Memory = ⊥
NoSourceMemory _ = Unit {0}

-- of a schema
abbrev pub NoSchemaMemory : SchemaError → Type 0
NoSchemaMemory Memory = ⊥
NoSchemaMemory _ = Unit {0}
