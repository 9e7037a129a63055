use Rattle.std.proofs.Common.{◌≡◌, ◌++◌, sym, subst, ap, ◌∙◌, arith, length, append-nil}
use Rattle.std.specs.List.Sorted.{IsNonDecreasing}
use Rattle.memchr.specs.Find.{places, is_byte}
use Rattle.memchr.proofs.lemmas.CallerLemmas.{length-places-le}
use Rattle.protox_lex.proofs.Places.{ascending}
use Rattle.protox_lex.proofs.lines.LineResolver.new.Goals as goal

pub invariant_of-result : goal.invariant_of-result
invariant_of-result c =
    let ends = c.feeds.ends.items in
    let all : ends ≡ places (is_byte 10) c.args.source.now =
    sym (append-nil ends) ∙ ap (λ f. ends ++ f) (sym c.in_default.ensures.steps.0) ∙ c.feeds.invariant in
    record {
      ascending = subst IsNonDecreasing (sym all) (ascending (is_byte 10) c.args.source.now);
      few = omega (arith, ap length all, length-places-le (is_byte 10) c.args.source.now);
    }
