use Rattle.std.proofs.Common.{◌≡◌, ◌∙◌, ◌+◌, ◌++◌, map, take, ap, sym, subst}
use Rattle.std.proofs.lemmas.List.{append-nil, map_push}
use Rattle.descriptor_records.proofs.Messages.{message_view-out}
use Rattle.descriptor_records.specs.Content.{message_view, messages_of, more_messages, no_messages, text_view}
use Rattle.descriptor_records.specs.declared.message.DescriptorProto.TheViews.{out-DescriptorProto}
use Rattle.protox_field_records.proofs.Loops.{one_more}
use Rattle.protox_message_records.proofs.Taken.{same_then, type_names-push}
use Rattle.protox_message_records.specs.SyntheticOneofs.{AreSame, if_named, type_names}
use Rattle.protox_message_records.proofs.names.add_types.Goals as goal

pub each-preserved : goal.each-preserved
each-preserved c =
    let xs = c.deref-nested-items.result.now in
    let i = c.each.nested-index in
    let x = c.nested-item.result in
    let name = if_named (text_view (out-DescriptorProto x).name) in
    let before = type_names (messages_of (map message_view (take i xs))) in
    let initial = map (λ n. n.now) c.args.names.now.keys in
    let old = map (λ n. n.now) c.each.names.keys in
    let new = map (λ n. n.now) c.add_name.new.names.keys in
    let one : type_names (more_messages (message_view x) no_messages) ≡ name =
    ap (λ m. type_names (more_messages m no_messages)) (message_view-out x) ∙ append-nil name in
    let more : type_names (messages_of (map message_view (take (i + 1) xs))) ≡ before ++ name =
    ap (λ ys. type_names (messages_of (map message_view ys))) (one_more xs i x c.each-test.true c.nested-item.is)
    ∙ ap (λ ms. type_names (messages_of ms)) (map_push message_view (take i xs) x)
    ∙ type_names-push (map message_view (take i xs)) (message_view x) ∙ ap (λ ns. before ++ ns) one in
    subst (λ ns. AreSame new (initial ++ ns)) (sym more) (same_then initial old new before name c.each.invariant c.in_ok-add_name.ensures)
