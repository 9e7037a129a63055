use Rattle.std.proofs.Common.{◌≡◌, [], false, refl, sym, ap, ◌∙◌, rules}
use Rattle.std.specs.List.{list_any}
use Rattle.reflect_link.specs.Reserved.{ranges_left}
use Rattle.option_parts.specs.OptionTypes.{is_custom}
use Rattle.option_parts.proofs.OptionTypes.{other_passed, ranges_decide}
use Rattle.option_parts.proofs.option_types.has_extensions.Goals as goal

pub loop-range-init : goal.loop-range-init
loop-range-init c = refl

pub loop-range-preserved : goal.loop-range-preserved
loop-range-preserved c =
    c.loop-range.invariant ∙ ap (list_any is_custom) c.in-Some.ensures.steps
    ∙ other_passed c.in-Some.range.start c.in-Some.range.end (ranges_left c.next.new.self) c.else-range-eq-FIRST_EXTENSION.either

pub returns : goal.returns
returns c =
    let o = c.args.options in
    let all = c.extension_ranges-range-items in
    let same : c.into_iter-range-iterator.result ≡ all.result = c.into_iter-range-iterator.ensures.into_iter_gives in
    let none : ranges_left c.loop-range.range-iterator ≡ [] = search rules in
    let told = ap (λ i. list_any is_custom (ranges_left i)) (sym same) ∙ c.loop-range.invariant ∙ ap (list_any is_custom) none in
    ranges_decide o.pool.now o.index all.ensures.0 (ranges_left all.result) false all.ensures.1 all.ensures.2 told
