use Rattle.std.proofs.Common.{take}
use Rattle.std.specs.Prelude.{option_map}
use Rattle.reflect_codec.specs.Raw.{fields_view}
use Rattle.reflect_codec.specs.Reading.{values_at, AreJoined}
use Rattle.reflect_codec.proofs.fields.Fields.joined.Given as goal

abbrev pub invariant-loop-field : goal.invariant-loop-field
invariant-loop-field l = AreJoined l.self.levels l.levels (values_at l.wanted (fields_view (take l.field-index l.field-items))) (option_map (λ v. fields_view v.items) l.found)
