use Rattle.std.proofs.Common.{◌≡◌, sym, ap, subst, ◌∙◌, ◌+◌, [], ◌∷◌, ◌++◌, take}
use Rattle.std.proofs.lemmas.List.{take_more, take_all}
use Rattle.std.specs.BTreeMap.{is_at}
use Rattle.std.specs.Map.{lookup}
use Rattle.std.specs.Ordering.{int_cmp}
use Rattle.std.specs.Cmp.Lexicographic.{slice_cmp}
use Rattle.reflect_faults.specs.Spans.{AreSpans, span_of}
use Rattle.reflect_faults.proofs.SpanRuns.{spans_untold, spans_kept, spans_put}
use Rattle.reflect_faults.proofs.spans.FileSpans.new.Goals as goal
use Rattle.reflect_faults.proofs.spans.FileSpans.new.Goals.{in-Some+then-not-contains_key+in_ok-from_slice+in_ok-insert, in-Some+else-not-contains_key, in_default}

-- src/spans.rt:29:9
pub locations-init : goal.locations-init
locations-init c path = ap (lookup (is_at (λ q. slice_cmp int_cmp path.items q.items))) c.new-by_path.ensures.empty

-- src/spans.rt:29:9
pub locations-preserved : goal.locations-preserved
locations-preserved c =
    let ls = c.args.locations.now in
    let k = c.locations.location-index in
    let l = c.location-item.result in
    let m = c.locations.by_path in
    let read : span_of l.span.items ≡ c.from_location.result = sym (c.from_location.ensures ∙ ap span_of c.as_slice.ensures.value) in
    let more : take (k + 1) ls ≡ take k ls ++ l ∷ [] = take_more ls k l c.locations-test.true ∙ ap (λ x. take k ls ++ x ∷ []) (sym c.location-item.is) in
    subst (AreSpans c.match-from_location.by_path) (sym more) (elim c.match-from_location.branch [
      | in-Some+then-not-contains_key+in_ok-from_slice+in_ok-insert w ↦
          let is = w.in_ok-from_slice.ensures.items ∙ w.as_slice-then-not-contains_key.ensures.value in
          subst (λ n. AreSpans n (take k ls ++ l ∷ [])) (sym w.by_path-is)
          (spans_put m w.insert.new.self (take k ls) l w.in_ok-from_slice.field-0 w.in-Some.span c.locations.invariant (sym w.contains_key.ensures ∙ w.if-not-contains_key.true) is (read ∙ w.in-Some.is) w.in_ok-insert.ensures.updates.0)
      | in-Some+else-not-contains_key w ↦
          subst (λ n. AreSpans n (take k ls ++ l ∷ [])) (sym w.by_path-is) (spans_kept m (take k ls) l c.locations.invariant (sym w.contains_key.ensures ∙ w.if-not-contains_key.false))
      | in_default w ↦
          subst (λ n. AreSpans n (take k ls ++ l ∷ [])) (sym w.by_path-is) (spans_untold m (take k ls) l c.locations.invariant (read ∙ w.in_default.is))
    ])

-- src/spans.rt:36:9
pub invariant_of-result : goal.invariant_of-result
invariant_of-result c = record { told = subst (AreSpans c.locations.by_path) (take_all c.locations.location-index c.args.locations.now c.locations-test.false) c.locations.invariant }
