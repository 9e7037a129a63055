use Rattle.std.proofs.Common.{rules, ◌≡◌, [], ◌∷◌, ◌++◌}
use Rattle.reflect_codec.specs.Held.{held}
use Rattle.reflect_encode.proofs.Putting.{row_more}
use Rattle.reflect_encode.proofs.encode.put_row.Goals as goal

pub values-preserved : goal.values-preserved
values-preserved c =
    let left = c.values.value-iterator.iter.rest.now in
    let front = c.next.new.self.iter.rest.now in
    let step : left ≡ front ++ c.in-Some.value.now ∷ [] = search rules in
    row_more c.args.kind.now left front c.in-Some.value.now _ (held c.values.out) (held c.put_bare.new.out) _ step c.values.invariant c.in_ok-put_bare.ensures.put c.as_scalar.ensures
