use Rattle.std.proofs.Common.{◌≡◌, map, take}
use Rattle.std.specs.List.{flat_map}
use Rattle.descriptor_records.specs.Content.{service_view}
use Rattle.protox_record.specs.FileRecords.{service_at}
use Rattle.protox_record.proofs.file.services.Given as goal

abbrev pub invariant-each : goal.invariant-each
invariant-each l = map service_view l.services.items ≡ flat_map service_at (take l.item-index l.item-items)
