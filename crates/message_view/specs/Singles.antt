-- Single values of messages, and their kinds, in the words of the model.
use Rattle.reflect_tables.specs.Types.{KindType}
use Rattle.reflect_tables.specs.Types as types
use Rattle.protobuf_model.specs.Values.{Single, truth, int32, int64, uint32, uint64, text, blob, enumerated}
use Rattle.protobuf_model.specs.Types.{Scalar}
use Rattle.protobuf_model.specs.Types as kinds
use Rattle.reflect_scalar.specs.Singles as held

-- what values of a type that is no message are; of floating-point numbers, which messages do not
-- hold, their bits
abbrev pub scalar_of : KindType → Scalar
scalar_of types.double = kinds.fixed64
scalar_of types.float = kinds.fixed32
scalar_of types.int32 = kinds.int32
scalar_of types.int64 = kinds.int64
scalar_of types.uint32 = kinds.uint32
scalar_of types.uint64 = kinds.uint64
scalar_of types.sint32 = kinds.sint32
scalar_of types.sint64 = kinds.sint64
scalar_of types.fixed32 = kinds.fixed32
scalar_of types.fixed64 = kinds.fixed64
scalar_of types.sfixed32 = kinds.sfixed32
scalar_of types.sfixed64 = kinds.sfixed64
scalar_of types.bool = kinds.bool
scalar_of types.string = kinds.string
scalar_of types.bytes = kinds.bytes
scalar_of (types.enumeration i) = kinds.enumeration
scalar_of (types.message i) = kinds.bytes

abbrev pub single_view : held.Single → Single
single_view (held.truth b) = truth b
single_view (held.int32 z) = int32 z
single_view (held.int64 z) = int64 z
single_view (held.uint32 n) = uint32 n
single_view (held.uint64 n) = uint64 n
single_view (held.text t) = text t
single_view (held.blob b) = blob b
single_view (held.enumerated z) = enumerated z
