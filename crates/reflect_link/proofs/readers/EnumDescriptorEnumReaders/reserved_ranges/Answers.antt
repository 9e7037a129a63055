use Rattle.std.proofs.Common.{ap, map}
use Rattle.reflect_link.specs.Reserved.{enum_bounds}
use Rattle.reflect_link.proofs.readers.EnumDescriptorEnumReaders.reserved_ranges.Goals as goal

pub returns : goal.returns
returns c = (c.enum_descriptor_proto.result.now, c.enum_descriptor_proto.ensures, ap (map enum_bounds) c.as_slice.ensures.value)
