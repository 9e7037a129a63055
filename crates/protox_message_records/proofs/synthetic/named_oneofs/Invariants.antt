use Rattle.std.proofs.Common.{map, take}
use Rattle.std.specs.List.{flat_map}
use Rattle.descriptor_records.specs.Content.{oneof_view}
use Rattle.protox_message_records.specs.MessageRecords.{alone_at}
use Rattle.protox_message_records.specs.SyntheticOneofs.{AreNamedAfter}
use Rattle.protox_message_records.proofs.synthetic.named_oneofs.Given as goal

abbrev pub invariant-each : goal.invariant-each
invariant-each l = AreNamedAfter (map (λ n. n.now) l.taken.keys) (flat_map (alone_at l.syntax) (take l.item-index l.item-items)) (map oneof_view l.oneofs.items)
