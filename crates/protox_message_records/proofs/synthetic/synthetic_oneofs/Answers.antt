use Rattle.std.proofs.Common.{map}
use Rattle.std.proofs.lemmas.Result.{IfOk-weaker}
use Rattle.std.specs.List.{flat_map}
use Rattle.descriptor_records.specs.Content.{message_view, oneof_view}
use Rattle.protox_message_records.proofs.Oneofs.{named_same}
use Rattle.protox_message_records.specs.MessageRecords.{alone_at}
use Rattle.protox_message_records.specs.SyntheticOneofs.{AreNamedAfter, names_in}
use Rattle.protox_message_records.proofs.synthetic.synthetic_oneofs.Goals as goal

pub returns : goal.returns
returns c =
    let names = flat_map (alone_at c.args.syntax) c.args.items.now.items in
    let taken = map (λ n. n.now) c.in_ok-taken.taken.keys in
    let free = names_in (message_view c.args.message.now) in
    IfOk-weaker c.named_oneofs.result (λ oneofs. AreNamedAfter taken names (map oneof_view oneofs.items)) (λ oneofs. AreNamedAfter free names (map oneof_view oneofs.items))
    (λ oneofs. named_same taken free names (map oneof_view oneofs.items) c.in_ok-taken.ensures) c.named_oneofs.ensures
