use Rattle.std.proofs.Common.{string_bytes}
use Rattle.std.specs.List.{each_same}
use Rattle.descriptor_records.proofs.Clones.{same_text, same_views}
use Rattle.descriptor_records.proofs.source_info.LocationClone.clone.Goals as goal

pub returns : goal.returns
returns c = record {
  cases = cc (
    each_same c.args.self.now.path.items c.in_ok-clone.field-0.items c.in_ok-clone.ensures.cases.0,
    each_same c.args.self.now.span.items c.in_ok-clone-2.field-0.items c.in_ok-clone-2.ensures.cases.0,
    same_text c.args.self.now.leading_comments c.in_ok-clone-3.field-0 c.in_ok-clone-3.ensures.cases,
    same_text c.args.self.now.trailing_comments c.in_ok-clone-4.field-0 c.in_ok-clone-4.ensures.cases,
    same_views string_bytes c.args.self.now.leading_detached_comments.items c.in_ok-clone-5.field-0.items c.in_ok-clone-5.ensures.cases.0,
  );
}
