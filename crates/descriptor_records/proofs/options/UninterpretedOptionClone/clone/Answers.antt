use Rattle.std.specs.List.{each_same}
use Rattle.descriptor_records.specs.Content.{double_view, name_view}
use Rattle.descriptor_records.proofs.Clones.{same_option, same_option_by, same_text, same_views}
use Rattle.descriptor_records.proofs.options.UninterpretedOptionClone.clone.Goals as goal

pub returns : goal.returns
returns c = record {
  cases = cc (
    same_views name_view c.args.self.now.name.items c.in_ok-clone.field-0.items c.in_ok-clone.ensures.cases.0,
    same_text c.args.self.now.identifier_value c.in_ok-clone-2.field-0 c.in_ok-clone-2.ensures.cases,
    same_option double_view c.args.self.now.double_value c.in_ok-clone-3.field-0 c.in_ok-clone-3.ensures.cases,
    same_option_by _ _ (λ v w h. each_same v.items w.items h.0) c.args.self.now.string_value c.in_ok-clone-4.field-0 c.in_ok-clone-4.ensures.cases,
    same_text c.args.self.now.aggregate_value c.in_ok-clone-5.field-0 c.in_ok-clone-5.ensures.cases,
  );
}
