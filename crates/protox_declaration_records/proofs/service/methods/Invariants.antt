use Rattle.std.proofs.Common.{◌≡◌, map, take}
use Rattle.std.specs.List.{flat_map}
use Rattle.descriptor_records.specs.Content.{method_view}
use Rattle.protox_declaration_records.specs.ServiceRecords.{method_at}
use Rattle.protox_declaration_records.proofs.service.methods.Given as goal

abbrev pub invariant-each : goal.invariant-each
invariant-each l = map method_view l.methods.items ≡ flat_map method_at (take l.item-index l.item-items)
