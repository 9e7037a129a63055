use Rattle.std.proofs.Common.{◌++◌, map, take}
use Rattle.descriptor_records.specs.Content.{oneof_view}
use Rattle.protox_message_records.specs.SyntheticOneofs.{AreSame, oneof_names}
use Rattle.protox_message_records.proofs.names.add_oneofs.Given as goal

abbrev pub invariant-each : goal.invariant-each
invariant-each l = AreSame (map (λ n. n.now) l.names.keys) (map (λ n. n.now) l.initial.names.keys ++ oneof_names (map oneof_view (take l.oneof-index l.oneof-items)))
