use Rattle.std.proofs.Common.{◌≡◌, ◌≤◌, length, take}
use Rattle.reflect_codec.specs.Raw.{fields_view}
use Rattle.reflect_codec.specs.Reading.{values_at}
use Rattle.reflect_codec.proofs.fields.Fields.count.Given as goal

abbrev pub invariant-loop-field : goal.invariant-loop-field
invariant-loop-field l = (l.count ≤ l.field-index)
    × (l.count ≡ length (values_at l.wanted (fields_view (take l.field-index l.field-items))))
