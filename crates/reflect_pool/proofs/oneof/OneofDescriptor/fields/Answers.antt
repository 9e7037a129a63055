use Rattle.std.proofs.Common.{◌∙◌, ◌<◌, All, map, length, List, ℕ, ap, sym, subst}
use Rattle.std.proofs.lemmas.Simd.{map-map}
use Rattle.reflect_tables.specs.Types.{OneofType, type_at}
use Rattle.reflect_pool.specs.FieldsLeft.{type_in}
use Rattle.reflect_pool.specs.Parts.{type_of_oneof}
use Rattle.reflect_pool.specs.PlacesLeft.{places_in}
use Rattle.reflect_pool.proofs.oneof.OneofDescriptor.fields.Goals as goal

pub invariant_of-result : goal.invariant_of-result
invariant_of-result c =
    let self = c.args.self.now in
    record { inside = subst (λ (places : List ℕ). All (λ place. place < length (type_at self.message.pool.now self.message.index).fields) places) (sym c.as_slice.ensures.value) c.stored.ensures.within }

pub returns-clause-places : goal.returns-clause-places
returns-clause-places c = ap (places_in c.args.self.now.message) (c.as_slice.ensures.value ∙ ap (λ (o : OneofType). o.fields) c.stored.ensures.view)

pub returns-clause-members : goal.returns-clause-members
returns-clause-members c =
    let self = c.args.self.now in
    ap (map type_in) (returns-clause-places c)
    ∙ map-map type_in (λ k. (self.message, k)) (type_of_oneof self.message.pool.now self.message.index self.index).fields
    ∙ c.stored.ensures.members
