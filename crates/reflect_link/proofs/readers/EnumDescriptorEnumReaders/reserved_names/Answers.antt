use Rattle.std.proofs.Common.{ap, map, string_bytes}
use Rattle.reflect_link.proofs.readers.EnumDescriptorEnumReaders.reserved_names.Goals as goal

pub returns : goal.returns
returns c = (c.enum_descriptor_proto.result.now, c.enum_descriptor_proto.ensures, ap (map string_bytes) c.as_slice.ensures.value)
