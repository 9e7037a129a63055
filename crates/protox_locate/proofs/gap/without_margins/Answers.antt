use Rattle.std.proofs.Common.{◌≡◌, ◌+◌, ◌-◌, ◌++◌, ◌∷◌, [], drop, take, ap, ◌∙◌, refl, arith, rules}
use Rattle.protox_locate.specs.Gap.{without_margin}
use Rattle.protox_locate.proofs.Margins.{first_line, next_line, told_behind}
use Rattle.protox_locate.proofs.gap.without_margins.Goals as goal

pub lines-init : goal.lines-init
lines-init c =
    let z = c.args.text.now in
    let at = c.find-at.result in
    let made : c.extend_from_slice.new.self.items ≡ take at z = search rules in
    record {
      within = c.find-at.ensures.within.1;
      so_far = ap (λ x. x ++ told_behind (drop at z)) made ∙ first_line z at (omega (arith, c.find-at.ensures.first refl));
    }

pub lines-preserved : goal.lines-preserved
lines-preserved c =
    let z = c.args.text.now in
    let at = c.lines.at in
    let end = c.find-end.result in
    let line = take (end - (at + 1)) (drop (at + 1) z) in
    let pushed = c.lines.bytes.items ++ 10 ∷ [] in
    let made : c.extend_from_slice-in-lines.new.self.items ≡ pushed ++ without_margin line =
    c.in_ok-extend_from_slice-2.ensures.items ∙ ap (λ x. x ++ c.without_margin.result.now) c.in_ok-push.ensures.items ∙ ap (λ x. pushed ++ x) c.without_margin.ensures in
    record {
      within = c.find-end.ensures.within.1;
      so_far = ap (λ x. x ++ told_behind (drop end z)) made
          ∙ next_line z c.lines.bytes.items line at end c.lines-test.true (c.find-end.ensures.first refl) refl c.lines.invariant.so_far;
    }
