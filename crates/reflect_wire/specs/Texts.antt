-- What is said of bytes that were not read, and of values that were not written.
use Rattle.std.specs.Prelude.{ℕ, List, codes}
use Rattle.reflect_wire.specs.declared.wire_error.WireError.{WireError}
use Rattle.reflect_wire.specs.declared.wire_error.WireError.TheVariants as wire

abbrev pub said : WireError → List ℕ
said wire.Truncated = codes "the input ends inside a record"
said wire.BadVarint = codes "a varint has more than ten bytes or more than 64 bits"
said wire.BadKey = codes "a key has no valid field number or wire type"
said wire.BadWireType = codes "a field has a wire type that is not its own"
said wire.EndGroupMismatch = codes "an end of a group does not fit its start"
said wire.TooDeep = codes "messages and groups are nested more than 100 levels deep"
said wire.BadUtf8 = codes "a string is not valid UTF-8"
said wire.TooLong = codes "a length passes the largest that can be written"
said wire.Memory = codes "out of memory"
