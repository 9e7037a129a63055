use Rattle.std.proofs.Common.{take}
use Rattle.reflect_codec.specs.Raw.{fields_view}
use Rattle.reflect_codec.specs.Reading.{values_at, ArePayloads}
use Rattle.reflect_codec.proofs.fields.Fields.joined_bytes.Given as goal

abbrev pub invariant-loop-field : goal.invariant-loop-field
invariant-loop-field l = ArePayloads (values_at l.wanted (fields_view (take l.field-index l.field-items))) l.bytes.items
