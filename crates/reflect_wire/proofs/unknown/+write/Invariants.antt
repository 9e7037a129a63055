use Rattle.std.proofs.Common.{◌≡◌, ◌++◌, take}
use Rattle.std.specs.List.{flat_map}
use Rattle.reflect_wire.specs.Encoding.{field_bytes}
use Rattle.reflect_wire.specs.Views.{field_view}
use Rattle.reflect_wire.proofs.unknown.+write.Given as goal

abbrev pub invariant-UnknownFieldSet::write-loop-field : goal.invariant-UnknownFieldSet::write-loop-field
invariant-UnknownFieldSet::write-loop-field l = l.out.items ≡ l.initial.out.items ++ flat_map (λ f. field_bytes (field_view f)) (take l.field-index l.field-items)
