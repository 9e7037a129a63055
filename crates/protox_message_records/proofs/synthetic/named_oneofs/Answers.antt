use Rattle.std.proofs.Common.{◌≡◌, ◌∙◌, ◌++◌, ◌∷◌, [], true, if◌then◌else◌, map, take, rules, ap, sym, subst, string_bytes}
use Rattle.std.proofs.lemmas.List.{map_push}
use Rattle.std.specs.List.{flat_map}
use Rattle.descriptor_records.specs.Content.{oneof_view}
use Rattle.protox_field_records.proofs.Loops.{next}
use Rattle.protox_message_records.proofs.Oneofs.{named_more}
use Rattle.protox_field_records.specs.FieldName.{field_name_of}
use Rattle.protox_field_records.specs.FieldRecords.{is_group}
use Rattle.protox_message_records.specs.MessageRecords.{alone_at, if_alone, tells_presence}
use Rattle.protox_message_records.specs.SyntheticOneofs.{AreNamedAfter, IsNamedAfter}
use Rattle.protox_tree.specs.NestView.{kind_view}
use Rattle.protox_tree.specs.declared.message.MessageItem.{the_lemmas}
use Rattle.protox_message_records.proofs.synthetic.named_oneofs.Goals as goal

pub each-preserved : goal.each-preserved
each-preserved c =
    let s = c.args.syntax in
    let taken = map (λ n. n.now) c.args.taken.now.keys in
    let xs = c.deref-item-items.result.now in
    let i = c.each.item-index in
    let x = c.item-item.result in
    let f = c.in-Field.field in
    let name = field_name_of (string_bytes f.name.value) (is_group (kind_view f.kind)) in
    let made = c.in_ok-synthetic_oneof.field-0 in
    let before = flat_map (alone_at s) (take i xs) in
    let tells : tells_presence s f.label ≡ true = search rules in
    let alone : alone_at s x ≡ if_alone s f = search (rules, the_lemmas) in
    let named = c.as_str-in-each.ensures.value ∙ c.in_ok-name.ensures ∙ ap (λ n. field_name_of n c.is_group.result) c.as_str.ensures.value ∙ ap (field_name_of (string_bytes f.name.value)) c.is_group.ensures in
    let is : IsNamedAfter taken name (oneof_view made) = subst (λ n. IsNamedAfter taken n (oneof_view made)) named c.in_ok-synthetic_oneof.ensures in
    let more = next (alone_at s) xs i x c.each-test.true c.item-item.is ∙ ap (λ ys. before ++ ys) (alone ∙ ap (λ b. if b then name ∷ [] else []) tells) in
    let pushed : map oneof_view c.push.new.self.items ≡ map oneof_view c.each.oneofs.items ++ oneof_view made ∷ [] = ap (map oneof_view) c.in_ok-push.ensures.items ∙ map_push oneof_view c.each.oneofs.items made in
    subst (λ ns. AreNamedAfter taken ns (map oneof_view c.push.new.self.items)) (sym more)
    (subst (AreNamedAfter taken (before ++ name ∷ [])) (sym pushed) (named_more taken before (map oneof_view c.each.oneofs.items) name (oneof_view made) c.each.invariant is))
