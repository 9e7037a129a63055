use Rattle.std.proofs.Common.{◌++◌, map, take}
use Rattle.descriptor_records.specs.Content.{message_view, messages_of}
use Rattle.protox_message_records.specs.SyntheticOneofs.{AreSame, type_names}
use Rattle.protox_message_records.proofs.names.add_types.Given as goal

abbrev pub invariant-each : goal.invariant-each
invariant-each l = AreSame (map (λ n. n.now) l.names.keys) (map (λ n. n.now) l.initial.names.keys ++ type_names (messages_of (map message_view (take l.nested-index l.nested-items))))
