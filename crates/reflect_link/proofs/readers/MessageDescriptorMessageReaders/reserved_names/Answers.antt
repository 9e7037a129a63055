use Rattle.std.proofs.Common.{ap, map, string_bytes}
use Rattle.reflect_link.proofs.readers.MessageDescriptorMessageReaders.reserved_names.Goals as goal

pub returns : goal.returns
returns c = (
  c.descriptor_proto.result.now,
  c.descriptor_proto.ensures,
  ap (map string_bytes) c.as_slice.ensures.value,
)
