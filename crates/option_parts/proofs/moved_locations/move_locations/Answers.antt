use Rattle.std.proofs.Common.{rules, ◌≡◌, ◌++◌, ◌∷◌, [], ◌+◌, ◌-◌, ◌^◌, ◌∙◌, min, refl, sym, ap, subst, append_assoc, append-nil, get_or, option_map, Some, None}
use Rattle.std.proofs.lemmas.List.{drop_all}
use Rattle.option_parts.specs.Moves.{MovesTo, EditsLocation, EditsLocations, targets_of}
use Rattle.option_parts.proofs.Moves.{edits_all, edits_more, next_place}
use Rattle.option_parts.proofs.moved_locations.move_locations.Goals.{in-Some-2+in_ok-push, in_default-2}
use Rattle.option_parts.proofs.moved_locations.move_locations.Goals as goal
use Rattle.reflect_growth.specs.declared.settle.Edit.TheVariants as edits
use Rattle.reflect_faults.specs.Spans.{locations}

pub locations-init : goal.locations-init
locations-init c = record {
  place = refl;
  edits = ([], λ rest more. more, sym (append-nil c.args.edits.now.items));
}

pub locations-preserved : goal.locations-preserved
locations-preserved c =
    let targets = targets_of c.args.moved.now in
    let file = c.args.file in
    let ls = c.deref-location-items.result.now in
    let n = c.locations.location-index in
    let l = c.location-item.result in
    let found = c.in_ok-path.field-0 in
    let before = c.locations.invariant in
    let es = before.edits.0 in
    let path : c.as_slice.result.now ≡ (get_or ls n l).path.items = search rules in
    let moves = subst (λ p. MovesTo targets p (option_map (λ v. v.items) found)) path c.in_ok-path.ensures in
    record {
      place = c.saturating_add-place.ensures ∙ sym (next_place n ∙ ap (λ p. min (p + 1) (2 ^ 32 - 1)) (sym before.place));
      edits = elim c.match-branch-2.branch [
        | in-Some-2+in_ok-push w ↦
            let own = edits.Location file c.locations.place w.in-Some-2.path ∷ [] in
            let edit = subst (λ o. EditsLocation file n (option_map (λ v. v.items) o) own) (sym w.in-Some-2.is)
            (w.in-Some-2.path, refl, ap (λ p. edits.Location file p w.in-Some-2.path ∷ []) before.place) in (
              es ++ own,
              edits_more targets file ls n l es own _ c.locations-test.true moves edit before.edits.1,
              ap (λ v. v.items) w.edits-is ∙ w.in_ok-push.ensures.items ∙ ap (λ xs. xs ++ own) before.edits.2
                  ∙ append_assoc c.args.edits.now.items es own,
            )
        | in_default-2 w ↦
            let none : found ≡ None = search rules in
            let edit = subst (λ o. EditsLocation file n (option_map (λ v. v.items) o) []) (sym none) refl in (
              es ++ [],
              edits_more targets file ls n l es [] _ c.locations-test.true moves edit before.edits.1,
              ap (λ v. v.items) w.edits-is ∙ before.edits.2 ∙ ap (λ xs. c.args.edits.now.items ++ xs) (sym (append-nil es)),
            )
      ];
    }

pub returns : goal.returns
returns c =
    let targets = targets_of c.args.moved.now in
    let ls = c.deref-location-items.result.now in
    let n = c.locations.location-index in
    let at = c.locations.invariant.edits in
    let all = edits_all targets c.args.file ls n at.0 (drop_all n ls c.locations-test.false) at.1 in
    let same : ls ≡ locations c.args.proto.now =
    c.deref-location-items.ensures.value ∙ sym (ap (λ o. elim o [ None ↦ [] | Some info ↦ info.location.items ]) c.in-Some.is) in
    (at.0, subst (λ xs. EditsLocations targets c.args.file 0 xs at.0) same all, at.2)
