use Rattle.std.proofs.Common.{◌≡◌, ◌<◌, ◌^◌, length, take}
use Rattle.std.specs.List.{flat_map}
use Rattle.reflect_wire.specs.Encoding.{field_bytes}
use Rattle.reflect_wire.specs.Views.{field_view}
use Rattle.reflect_wire.proofs.unknown.+length.Given as goal

abbrev pub invariant-UnknownFieldSet::encoded_len-loop-field : goal.invariant-UnknownFieldSet::encoded_len-loop-field
invariant-UnknownFieldSet::encoded_len-loop-field l = record {
  counted : l.len ≡ length (flat_map (λ f. field_bytes (field_view f)) (take l.field-index l.field-items));
  small : l.len < 2 ^ 64;
}
