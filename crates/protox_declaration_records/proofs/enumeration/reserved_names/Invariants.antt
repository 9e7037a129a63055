use Rattle.std.proofs.Common.{◌≡◌, take}
use Rattle.std.specs.List.{flat_map}
use Rattle.descriptor_records.specs.Content.{texts_view}
use Rattle.protox_declaration_records.specs.EnumRecords.{names_at}
use Rattle.protox_declaration_records.proofs.enumeration.reserved_names.Given as goal

abbrev pub invariant-each : goal.invariant-each
invariant-each l = texts_view l.names ≡ flat_map names_at (take l.item-index l.item-items)
