use Rattle.std.proofs.Common.{◌≡◌, ◌++◌, map, string_bytes, take}
use Rattle.protox_declaration_records.specs.Texts.{text_of}
use Rattle.protox_declaration_records.proofs.texts.add_texts.Given as goal

abbrev pub invariant-each : goal.invariant-each
invariant-each l = map string_bytes l.added.items ≡ map string_bytes l.initial.added.items ++ map text_of (take l.string-index l.string-items)
