use Rattle.std.proofs.Common.{ap, map}
use Rattle.reflect_link.specs.Reserved.{extension_bounds}
use Rattle.reflect_link.proofs.readers.MessageDescriptorMessageReaders.extension_ranges.Goals as goal

pub returns : goal.returns
returns c = (
  c.descriptor_proto.result.now,
  c.descriptor_proto.ensures,
  ap (map extension_bounds) c.as_slice.ensures.value,
)
