use Rattle.std.proofs.Common.{◌≡◌, map, ap, subst, rules}
use Rattle.std.specs.Cmp.Lexicographic.{slice_cmp}
use Rattle.std.specs.Ordering.{int_cmp, is_lt}
use Rattle.std.proofs.lemmas.Cmp.{int_cmp_total, lists_total}
use Rattle.std.proofs.lemmas.List.Sorted.{answers_always, ranks_by}
use Rattle.descriptor_records.specs.Content.{LocationContent, location_view}
use Rattle.descriptor_records.specs.declared.source_info.Location.{Location}
use Rattle.protox_locate.specs.Files.{AreByPath, is_before}
use Rattle.protox_locate.specs.Collected.{State}
use Rattle.protox_lex.proofs.Sorting.{ascend_viewed, stable_viewed}
use Rattle.protox_locate.proofs.locator.Locator.finish.Goals as goal

pub returns : goal.returns
returns c =
    let before = λ (a b : Location). is_before (location_view a) (location_view b) in
    let order = ranks_by (lists_total int_cmp_total) (λ (l : Location). l.path.items) in
    let found = c.read_gap.new.self.locations.items in
    let made = c.sort_by.new.self.items in
    let sorted = c.in_ok-sort_by.ensures.sorted before order (answers_always _ (λ a r. is_lt r ≡ before a.0.now a.1.0.now) _ (λ f a r g called. search rules)) in
    let stable = c.in_ok-sort_by.ensures.stable before order (answers_always _ (λ a r. is_lt r ≡ before a.0.now a.1.0.now) _ (λ f a r g called. search rules)) in
    subst (λ ls. AreByPath ls (map location_view made)) (ap (λ (s : State). s.locations) c.in_ok-read_gap.ensures.read) (record {
      ascend = ascend_viewed location_view is_before made sorted;
      same = stable_viewed location_view (slice_cmp int_cmp) (lists_total int_cmp_total) (λ (l : LocationContent). l.path) found made stable;
    })
