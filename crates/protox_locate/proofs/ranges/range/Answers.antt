use Rattle.std.proofs.Common.{◌≡◌, ◌∷◌, [], ap, subst, ◌∙◌, rules}
use Rattle.descriptor_records.specs.declared.tag.reserved_range.TheConstants as ranges
use Rattle.protox_locate.specs.Collected.{meet, state}
use Rattle.protox_locate.specs.Located.{part}
use Rattle.protox_tree.specs.Places.{end_span, range_span}
use Rattle.protox_locate.proofs.ranges.range.Goals as goal

pub returns : goal.returns
returns c =
    let path = c.args.path.now in
    let r = c.args.range.now in
    let whole = part path [] (range_span r) in
    let start = part path (ranges.START ∷ []) r.start.span in
    let end = part path (ranges.END ∷ []) (end_span r.start r.end) in
    let first : state c.add.new.self ≡ meet (state c.args.locator.now) whole =
    subst (λ s. state c.add.new.self ≡ meet (state c.args.locator.now) (part path [] s)) c.span.ensures (search rules) in
    let second : state c.add-2.new.self ≡ meet (state c.add.new.self) start =
    subst (λ s. state c.add-2.new.self ≡ meet (state c.add.new.self) (part path (ranges.START ∷ []) s)) c.start_span.ensures (search rules) in
    let third : state c.add-3.new.self ≡ meet (state c.add-2.new.self) end =
    subst (λ s. state c.add-3.new.self ≡ meet (state c.add-2.new.self) (part path (ranges.END ∷ []) s)) c.end_span.ensures (search rules) in
    third ∙ ap (λ s. meet s end) (second ∙ ap (λ s. meet s start) first)
