use Rattle.std.proofs.Common.{take}
use Rattle.reflect_codec.specs.Raw.{fields_view}
use Rattle.reflect_codec.specs.Reading.{values_at, IsLast}
use Rattle.reflect_codec.proofs.fields.Fields.last.Given as goal

abbrev pub invariant-loop-field : goal.invariant-loop-field
invariant-loop-field g l = IsLast (g.T.FieldValue.means l.self.levels) (values_at l.wanted (fields_view (take l.field-index l.field-items))) l.found
