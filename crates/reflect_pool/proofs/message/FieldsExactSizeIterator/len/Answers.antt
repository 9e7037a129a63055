use Rattle.std.proofs.Common.{rules, ◌≡◌, ◌∙◌, ◌-◌, ap, length, sym}
use Rattle.std.proofs.lemmas.List.{length-map}
use Rattle.reflect_tables.specs.Types.{MessageType, type_at}
use Rattle.reflect_tables.specs.Views.{field_of}
use Rattle.reflect_pool.proofs.PlacesLeft.{count_left}
use Rattle.reflect_pool.proofs.message.FieldsExactSizeIterator.len.Goals as goal

pub returns-clause-value : goal.returns-clause-value
returns-clause-value c =
    let s = c.args.self.now in
    let there = length (type_at s.message.pool.now s.message.index).fields in
    let count : there ≡ length c.stored.result.now.fields.list.items =
    ap (λ (t : MessageType). length t.fields) (sym c.stored.ensures.view) ∙ length-map c.stored.result.now.fields.list.items field_of in
    let left : c.saturating_sub.result ≡ length c.stored.result.now.fields.list.items - s.next = search (rules, count) in
    left ∙ ap (λ n. n - s.next) (sym count) ∙ sym (count_left s.message s.next there)
