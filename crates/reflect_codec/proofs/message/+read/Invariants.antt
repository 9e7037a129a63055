use Rattle.std.proofs.Common.{◌+◌, ◌*◌, take}
use Rattle.std.specs.List.{AllZip}
use Rattle.reflect_codec.specs.Raw.{fields_view}
use Rattle.reflect_codec.specs.Reading.{values_at}
use Rattle.reflect_codec.specs.Meaning.{IsMessage}
use Rattle.reflect_codec.proofs.message.+read.Given as goal

abbrev pub decreases-message_types : goal.decreases-message_types
decreases-message_types l = 3 * l.fields.now.levels + 1

abbrev pub decreases-message_type : goal.decreases-message_type
decreases-message_type l = 3 * l.levels

abbrev pub decreases-message_from_fields : goal.decreases-message_from_fields
decreases-message_from_fields l = 3 * l.fields.now.levels + 2

abbrev pub invariant-message_types-loop-field : goal.invariant-message_types-loop-field
invariant-message_types-loop-field l = AllZip (IsMessage l.fields.levels) (values_at l.wanted (fields_view (take l.field-index l.field-items))) l.list.items
