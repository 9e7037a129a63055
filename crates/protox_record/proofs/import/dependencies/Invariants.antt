use Rattle.std.proofs.Common.{◌≡◌, take}
use Rattle.std.specs.List.{flat_map}
use Rattle.descriptor_records.specs.Content.{texts_view}
use Rattle.protox_record.specs.FileRecords.{import_at, names_of}
use Rattle.protox_record.proofs.import.dependencies.Given as goal

abbrev pub invariant-each : goal.invariant-each
invariant-each l = texts_view l.names ≡ names_of (flat_map import_at (take l.item-index l.item-items))
