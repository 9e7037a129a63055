use Rattle.std.proofs.Common.{◌<◌, All, List, ℕ, length, subst}
use Rattle.std.proofs.lemmas.List.Elements.{All-tail}
use Rattle.reflect_tables.specs.Types.{type_at}
use Rattle.reflect_pool.proofs.oneof.OneofFieldsIterator.next.Goals as goal

pub invariant_of-self : goal.invariant_of-self
invariant_of-self c =
    let self = c.args.self.now in
    let inside : ℕ → Type 0 = λ place. place < length (type_at self.message.pool.now self.message.index).fields in
    record { inside = All-tail inside c.in_ok-place.place.now c.in_ok-place.others.now (subst (λ (places : List ℕ). All inside places) c.in_ok-place.ensures.cases.0 self.inside) }
