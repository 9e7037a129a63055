-- The later of the last place and the next ends last of all up to there.
use Rattle.std.proofs.Common.{◌∷◌, [], length, ap, ◌∙◌, arith}
use Rattle.std.proofs.lemmas.List.{length-append}
use Rattle.reflect_tables.proofs.Furthest.{one_more, still_last}
use Rattle.reflect_tables.proofs.ranges.furthest_places.Goals as goal

pub loop-at-preserved : goal.loop-at-preserved
loop-at-preserved c =
    let rs = c.args.ranges.now in
    let old = c.loop-at.invariant in
    let next = c.later-last.result in
    let ends = still_last rs c.loop-at.at c.loop-at.last next old.here old.furthest c.later-last.ensures.either c.later-last.ensures.not_before_first c.later-last.ensures.not_before_second in
    let more = ap length c.in_ok-push.ensures.items ∙ length-append c.loop-at.places.items (next ∷ []) in
    record {
      each = omega (arith, more, old.each);
      within = omega (arith, c.loop-at-test.true);
      so_far = rw c.in_ok-push.ensures.items (one_more rs c.loop-at.places.items c.loop-at.at next old.each old.so_far ends);
      here = omega (arith, ends.0);
      inside = λ some. omega (arith, ends.0, c.loop-at-test.true);
      furthest = λ j h. ends.1 j (omega (arith, h));
    }
