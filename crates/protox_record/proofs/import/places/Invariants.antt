use Rattle.std.proofs.Common.{◌≡◌, ◌≤◌, length, take}
use Rattle.std.specs.List.{flat_map}
use Rattle.protox_record.specs.FileRecords.{import_at, places_from}
use Rattle.protox_record.proofs.import.places.Given as goal

abbrev pub invariant-each : goal.invariant-each
invariant-each l = record {
  count : l.place ≡ length (flat_map import_at (take l.item-index l.item-items));
  within : l.place ≤ l.item-index;
  so_far : l.places.items ≡ places_from l.kind 0 (flat_map import_at (take l.item-index l.item-items));
}
