use Rattle.std.proofs.Common.{rules, ◌<◌, subst}
use Rattle.std.proofs.lemmas.Bool.Decides.{not_from_Decides}
use Rattle.std.specs.List.{All}
use Rattle.reflect_tables.specs.Views.{oneof_of}
use Rattle.reflect_growth.proofs.More.{one_fails}
use Rattle.reflect_growth.proofs.within.have_members.Goals as goal

-- the oneof has a member that is not there
pub returns-then-not-are_below : goal.returns-then-not-are_below
returns-then-not-are_below c =
    let lacks = subst (λ places. All (λ place. place < c.args.fields) places → ⊥) c.as_slice.ensures.value (not_from_Decides c.are_below.result c.are_below.ensures (search rules)) in
    one_fails (λ o. All (λ place. place < c.args.fields) o.fields) oneof_of c.args.oneofs.now c.loop-oneof.oneof-index c.oneof-item.result (search) (search) lacks
