use Rattle.std.proofs.Common.{rules, ◌≡◌, ◌∙◌, ◌-◌, ap, length, sym}
use Rattle.std.proofs.lemmas.List.{length-map}
use Rattle.reflect_tables.specs.Types.{EnumType, enum_at}
use Rattle.reflect_tables.specs.Views.{value_of}
use Rattle.reflect_pool.proofs.PlacesLeft.{count_left}
use Rattle.reflect_pool.proofs.enums.EnumValuesExactSizeIterator.len.Goals as goal

pub returns-clause-value : goal.returns-clause-value
returns-clause-value c =
    let s = c.args.self.now in
    let there = length (enum_at s.enumeration.pool.now s.enumeration.index).values in
    let count : there ≡ length c.stored.result.now.values.list.items =
    ap (λ (t : EnumType). length t.values) (sym c.stored.ensures.view) ∙ length-map c.stored.result.now.values.list.items value_of in
    let left : c.saturating_sub.result ≡ length c.stored.result.now.values.list.items - s.next = search (rules, count) in
    left ∙ ap (λ n. n - s.next) (sym count) ∙ sym (count_left s.enumeration s.next there)
