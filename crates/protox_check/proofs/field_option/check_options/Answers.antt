use Rattle.std.proofs.Common.{◌∙◌, ◌++◌, [], ap, sym, take, append_assoc, codes}
use Rattle.std.specs.Option.{option_or}
use Rattle.protox_check.proofs.Behind.{told_more, first_more}
use Rattle.protox_check.specs.FieldOptions.{named, option_faults, option_faults_after}
use Rattle.protox_check.specs.Words.{each_behind, first_in}
use Rattle.protox_tree.specs.NestView.{kind_view}
use Rattle.protox_tree.specs.View.{body_view, bodies_view}
use Rattle.protox_check.proofs.field_option.check_options.Goals as goal

pub each-preserved : goal.each-preserved
each-preserved c =
    let s = c.args.syntax in
    let label = c.args.field.now.label in
    let kind = kind_view c.args.field.now.kind in
    let old = c.args.faults.now.items in
    let xs = c.deref-option-items.result.now in
    let i = c.each.option-index in
    let x = c.option-item.result in
    let before = bodies_view (take i xs) in
    let default = first_in (named (codes "default")) before in
    let json_name = first_in (named (codes "json_name")) before in
    let earlier = each_behind (option_faults s label kind) [] before in
    record {
      told = c.in_ok-check_option.ensures
          ∙ ap (λ ks. ks ++ option_faults_after s label kind c.each.met.default c.each.met.json_name (body_view x)) c.each.invariant.told
          ∙ ap (λ d. (old ++ earlier) ++ option_faults_after s label kind d c.each.met.json_name (body_view x)) c.each.invariant.default
          ∙ ap (λ j. (old ++ earlier) ++ option_faults_after s label kind default j (body_view x)) c.each.invariant.json_name
          ∙ append_assoc old earlier (option_faults s label kind before (body_view x))
          ∙ ap (λ ks. old ++ ks) (sym (told_more body_view (option_faults s label kind) xs i x c.each-test.true c.option-item.is));
      default = c.or.ensures
          ∙ ap (λ d. option_or d c.named.result) c.each.invariant.default
          ∙ ap (option_or default) c.named.ensures
          ∙ sym (first_more body_view (named (codes "default")) xs i x c.each-test.true c.option-item.is);
      json_name = c.or-in-each.ensures
          ∙ ap (λ j. option_or j c.named-in-each.result) c.each.invariant.json_name
          ∙ ap (option_or json_name) c.named-in-each.ensures
          ∙ sym (first_more body_view (named (codes "json_name")) xs i x c.each-test.true c.option-item.is);
    }
