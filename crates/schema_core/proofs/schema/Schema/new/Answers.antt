use Rattle.std.proofs.Common.{[], ◌∷◌, IfSome, refl, subst, sym}
use Rattle.std.proofs.lemmas.Result.{err_from_is_err_and}
use Rattle.option_parts.specs.OptionTypes.{TellsRequired}
use Rattle.schema_core.specs.Refusals.{DescriptorRefused, SourcesLinked, SourcesRefused, descriptor_name}
use Rattle.schema_core.proofs.Refused.{lacks_types, refused_descriptor}
use Rattle.schema_core.proofs.schema.Schema.new.Goals as goal

pub returns-in_err-add_sources-clause-err : goal.returns-in_err-add_sources-clause-err
returns-in_err-add_sources-clause-err c =
    let batch = (descriptor_name, c.args.descriptor_source.now) ∷ [] in
    let p = err_from_is_err_and c.from_residual.result c.from_residual.ensures.1 in
    let e = c.in_err-add_sources.field-0.0 in
    rw (p.1, p.2) (refused_descriptor batch e (subst (λ pool. SourcesRefused pool batch e) c.bare-schema.ensures c.in_err-add_sources.ensures.err))

pub returns-in-Some-clause-err : goal.returns-in-Some-clause-err
returns-in-Some-clause-err c =
    let batch = (descriptor_name, c.args.descriptor_source.now) ∷ [] in
    let new = c.add_sources.new.self.pool in
    let linked = subst (λ p. SourcesLinked p batch new) c.bare-schema.ensures c.in_ok-add_sources.ensures.linked in
    let told = subst (λ fault. IfSome fault (TellsRequired new)) c.in-Some.is c.in_ok-kind.ensures.told in
    subst (DescriptorRefused batch) (sym c.from.ensures)
    (lacks_types batch new c.new.result c.new.result.kind refl linked c.pools_are_whole.ensures c.add_sources.new.self.sound c.new.ensures.place (subst (TellsRequired new) (sym c.new.ensures.kind) told))

pub returns-in-None-clause-linked : goal.returns-in-None-clause-linked
returns-in-None-clause-linked c = subst (λ p. SourcesLinked p ((descriptor_name, c.args.descriptor_source.now) ∷ []) c.add_sources.new.self.pool) c.bare-schema.ensures c.in_ok-add_sources.ensures.linked

pub returns-in-None-clause-small : goal.returns-in-None-clause-small
returns-in-None-clause-small c = c.in_ok-add_sources.ensures.small.0
