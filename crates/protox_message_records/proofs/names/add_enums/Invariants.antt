use Rattle.std.proofs.Common.{◌++◌, map, take}
use Rattle.descriptor_records.specs.Content.{enum_view}
use Rattle.protox_message_records.specs.SyntheticOneofs.{AreSame, enum_names}
use Rattle.protox_message_records.proofs.names.add_enums.Given as goal

abbrev pub invariant-each : goal.invariant-each
invariant-each l = AreSame (map (λ n. n.now) l.names.keys) (map (λ n. n.now) l.initial.names.keys ++ enum_names (map enum_view (take l.enumeration-index l.enumeration-items)))
