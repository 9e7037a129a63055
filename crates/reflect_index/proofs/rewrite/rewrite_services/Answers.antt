use Rattle.std.proofs.Common.{List, ◌∙◌, ap, rules}
use Rattle.std.proofs.Math.Seq.{map-set_same}
use Rattle.descriptor_records.specs.Content.{MethodContent, text_view, service_view}
use Rattle.reflect_names.specs.References.{Target}
use Rattle.reflect_known.specs.GivenNames.{ServiceNames, service_names}
use Rattle.reflect_index.specs.Rewriting.{write_service}
use Rattle.reflect_index.proofs.Writing.{viewed_step}
use Rattle.reflect_index.proofs.rewrite.rewrite_services.Goals as goal

pub services-preserved : goal.services-preserved
services-preserved c =
    let was = c.index_mut.result.now in
    let items = c.services.services.items in
    let place = c.services.place in
    let new = record was { method = c.rewrite_methods.new.methods } in
    let before = c.services.invariant in
    let same = ap {B = ServiceNames} (λ ms. record { name = text_view was.name; methods = ms })
    c.rewrite_methods.ensures.names in
    let here = ap (λ (p : List MethodContent × List Target).
    (record (service_view was) { method = p.0 }, p.1)) c.rewrite_methods.ensures.written in
    record {
      names =
          map-set_same service_names items place new was
          (same ∙ ap service_names c.index_mut.ensures.value) ∙ before.names;
      written =
          viewed_step service_view write_service items place was new _ _ _ (search rules)
          c.index_mut.ensures.value here before.written;
      count = search rules;
    }
