use Rattle.std.proofs.Common.{◌++◌, map, take}
use Rattle.descriptor_records.specs.Content.{field_view}
use Rattle.protox_message_records.specs.SyntheticOneofs.{AreSame, field_names}
use Rattle.protox_message_records.proofs.names.add_fields.Given as goal

abbrev pub invariant-each : goal.invariant-each
invariant-each l = AreSame (map (λ n. n.now) l.names.keys) (map (λ n. n.now) l.initial.names.keys ++ field_names (map field_view (take l.field-index l.field-items)))
