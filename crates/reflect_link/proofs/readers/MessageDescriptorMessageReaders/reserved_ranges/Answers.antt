use Rattle.std.proofs.Common.{ap, map}
use Rattle.reflect_link.specs.Reserved.{reserved_bounds}
use Rattle.reflect_link.proofs.readers.MessageDescriptorMessageReaders.reserved_ranges.Goals as goal

pub returns : goal.returns
returns c = (
  c.descriptor_proto.result.now,
  c.descriptor_proto.ensures,
  ap (map reserved_bounds) c.as_slice.ensures.value,
)
