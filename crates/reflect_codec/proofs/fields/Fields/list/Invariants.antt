use Rattle.std.proofs.Common.{take}
use Rattle.std.specs.List.{AllZip}
use Rattle.reflect_codec.specs.Raw.{fields_view}
use Rattle.reflect_codec.specs.Reading.{values_at}
use Rattle.reflect_codec.proofs.fields.Fields.list.Given as goal

abbrev pub invariant-loop-field : goal.invariant-loop-field
invariant-loop-field g l = AllZip (g.T.FieldValue.means l.self.levels) (values_at l.wanted (fields_view (take l.field-index l.field-items))) l.list.items
