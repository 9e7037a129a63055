use Rattle.std.proofs.Common.{◌≡◌, ◌∙◌, ◌+◌, ◌++◌, ◌∷◌, [], length, take, ap, sym, arith, zero-add}
use Rattle.std.proofs.lemmas.List.{length-append}
use Rattle.std.specs.List.{flat_map}
use Rattle.protox_field_records.proofs.Loops.{next}
use Rattle.protox_record.proofs.Imports.{places_more}
use Rattle.protox_record.specs.FileRecords.{import_at, place_at, places_from}
use Rattle.protox_record.proofs.import.places.Goals as goal

pub each-preserved : goal.each-preserved
each-preserved c =
    let xs = c.deref-item-items.result.now in
    let i = c.each.item-index in
    let x = c.item-item.result in
    let kind = c.args.kind in
    let before = c.each.invariant in
    let all = flat_map import_at (take i xs) in
    let more : flat_map import_at (take (i + 1) xs) ≡ all ++ c.in-Import.import ∷ [] =
    next import_at xs i x c.each-test.true c.item-item.is ∙ ap (λ o. all ++ import_at o) c.in-Import.is in
    record {
      count = ap (λ n. n + 1) before.count ∙ sym (ap length more ∙ length-append all (c.in-Import.import ∷ []));
      within = omega (arith, before.within);
      so_far = c.in_ok-add_place.ensures ∙ ap (λ ys. ys ++ place_at kind c.each.place c.in-Import.import) before.so_far
          ∙ ap (λ n. places_from kind 0 all ++ place_at kind n c.in-Import.import) (before.count ∙ sym (zero-add (length all)))
          ∙ sym (places_more kind 0 all c.in-Import.import) ∙ ap (places_from kind 0) (sym more);
    }
