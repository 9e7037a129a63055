use Rattle.std.proofs.Common.{take}
use Rattle.reflect_codec.specs.Raw.{fields_view}
use Rattle.reflect_codec.specs.Reading.{values_at, AreNumbers}
use Rattle.reflect_codec.proofs.fields.Fields.int32s.Given as goal

abbrev pub invariant-loop-field : goal.invariant-loop-field
invariant-loop-field l = AreNumbers (values_at l.wanted (fields_view (take l.field-index l.field-items))) l.list.items
