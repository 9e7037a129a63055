use Rattle.std.specs.List.{each_same}
use Rattle.descriptor_records.specs.Content.{option_view}
use Rattle.descriptor_records.proofs.Clones.{same_views}
use Rattle.descriptor_records.proofs.options.OptionsClone.clone.Goals as goal

pub returns : goal.returns
returns c = record {
  cases = cc (
    each_same c.args.self.now.encoded.items c.in_ok-clone.field-0.items c.in_ok-clone.ensures.cases.0,
    same_views option_view c.args.self.now.uninterpreted_option.items c.in_ok-clone-2.field-0.items c.in_ok-clone-2.ensures.cases.0,
  );
}
