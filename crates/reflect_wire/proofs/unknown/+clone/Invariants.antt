use Rattle.std.proofs.Common.{◌≡◌, map, take}
use Rattle.reflect_wire.specs.Views.{field_view}
use Rattle.reflect_wire.proofs.unknown.+clone.Given as goal

abbrev pub invariant-UnknownFieldSet::clone-loop-field : goal.invariant-UnknownFieldSet::clone-loop-field
invariant-UnknownFieldSet::clone-loop-field l = map field_view l.fields.items ≡ map field_view (take l.field-index l.field-items)
