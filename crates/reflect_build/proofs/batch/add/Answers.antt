use Rattle.std.proofs.Common.{rules, arith, ◌≡◌, ◌<◌, ◌^◌, subst, length, map}
use Rattle.std.proofs.lemmas.Grind.{common_steps}
use Rattle.std.proofs.Math.ListN.{length-map}
use Rattle.reflect_tables.specs.Views.{file_of, pool_of}
use Rattle.reflect_growth.specs.Cut.{cut_to}
use Rattle.reflect_growth.specs.Tested.{AreFrom}
use Rattle.reflect_build.proofs.Pooled.{pooled_more}
use Rattle.reflect_build.proofs.Back.{cut_back}
use Rattle.reflect_build.proofs.batch.add.Goals as goal

pub returns-clause-pooled : goal.returns-clause-pooled
returns-clause-pooled c =
    let more = c.args.more in
    let counts = c.in_ok-counts.counts in
    pooled_more c.args.tables.now more c.append.new.tables counts c.in_ok-append.ensures.appended c.in_ok-counts.ensures.together c.in_ok-counts.ensures.few c.requires.pooled (c.if-not-are_within.ensures.0 (search rules)) c.requires.listed

pub returns-clause-grown : goal.returns-clause-grown
returns-clause-grown c =
    let old = c.args.tables.now in
    let more = c.args.more in
    let first = c.in_ok-first.first in
    let small : first < 2 ^ 31 = search rules in
    let same : first ≡ length (map file_of old.files.items) = grind (arith, common_steps, c.in_ok-first.ensures, c.len.ensures, length-map) in
    subst (λ n. cut_to (pool_of c.append.new.tables) n ≡ pool_of old) (length-map old.files.items file_of)
    (cut_back old more c.append.new.tables c.in_ok-append.ensures.appended (subst (λ n. AreFrom n more) same (c.if-not-are_from.ensures.0 (search rules))) c.requires.pooled)
