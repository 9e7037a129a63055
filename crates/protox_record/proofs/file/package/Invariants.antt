use Rattle.std.proofs.Common.{◌≡◌, None, string_bytes, take}
use Rattle.std.specs.List.{fold}
use Rattle.std.specs.Option.{option_map}
use Rattle.protox_record.specs.FileRecords.{package_after}
use Rattle.protox_record.proofs.file.package.Given as goal

abbrev pub invariant-each : goal.invariant-each
invariant-each l = option_map string_bytes l.package ≡ fold package_after None (take l.item-index l.item-items)
