-- What is said of refusals by a schema.
use Rattle.std.specs.Prelude.{ℕ, List, ◌++◌, codes, string_bytes}
use Rattle.protox_parse.specs.Refusals as source
use Rattle.reflect_faults.specs.FaultTexts as link
use Rattle.reflect_passes.specs.Texts.{place_text}
use Rattle.reflect_wire.specs.Texts as wire
use Rattle.option_parts.specs.Texts as option
use Rattle.text_error.specs.Texts as text
use Rattle.schema_core.specs.Places.{told_file, told_position}
use Rattle.schema_core.specs.declared.error.SchemaError.{SchemaError}
use Rattle.schema_core.specs.declared.error.SchemaError.TheVariants.{Parse, Link, Options, Wire, Text, UnknownType, Memory, TooLong}
use Rattle.schema_core.specs.declared.payload.Fault.{Fault}
use Rattle.schema_core.specs.declared.payload.Fault.TheVariants as fault

-- the words of a refusal, without its place
abbrev pub words : SchemaError → List ℕ
words (Parse e) = source.told e
words (Link e) = link.said e.first
words (Options e) = option.said e.kind
words (Wire e) = wire.said e
words (Text e) = text.said e.kind
words (UnknownType name) = codes "message type '" ++ (string_bytes name ++ codes "' not found")
words Memory = codes "out of memory"
words TooLong = codes "encoded length too large"

-- the line of a refusal, behind its file and its place, where these are known
abbrev pub said : SchemaError → List ℕ
said e = place_text (told_file e) (told_position e) ++ words e

-- what is said of a payload that is not answered
abbrev pub told : Fault → List ℕ
told (fault.Schema e) = said e
told fault.NotHex = codes "the input is not hexadecimal"
told fault.NotUtf8 = codes "the input is not UTF-8"
told fault.Read = codes "the input cannot be read"
told fault.Write = codes "the output cannot be written"
told fault.Memory = codes "out of memory"
