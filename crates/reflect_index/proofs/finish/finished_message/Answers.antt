use Rattle.std.proofs.Common.{◌≡◌, ◌∙◌, map, ap, sym, subst, refl}
use Rattle.reflect_tables.specs.Types.{AreListed}
use Rattle.reflect_tables.specs.Views.{field_of, oneof_of}
use Rattle.reflect_index.specs.Grown.{declared_field}
use Rattle.reflect_index.specs.Members.{AreMarked}
use Rattle.reflect_index.proofs.Members.{listed_same}
use Rattle.reflect_index.proofs.finish.finished_message.Goals as goal

pub returns : goal.returns
returns c =
    let oneofs = c.mark_oneofs.new.oneofs.items in
    let kept : c.in_ok-fields.fields.list.items ≡ c.args.draft.fields.items = c.in_ok-fields.ensures in
    record {
      name = refl;
      ranges = refl;
      head = refl;
      fields = ap (map declared_field) kept;
      oneofs = c.mark_oneofs.ensures.names ∙ c.in_ok-list_members.ensures.names;
      children = refl;
      listed = subst (λ l. AreListed (map oneof_of oneofs) (map field_of l)) (c.as_slice.ensures.value ∙ sym kept)
          (listed_same c.list_members.new.oneofs.items oneofs (map field_of c.as_slice.result.now) c.mark_oneofs.ensures.members c.in_ok-list_members.ensures.listed);
      entry = c.entry_of-entry.ensures;
      marked = subst (λ l. AreMarked l oneofs) (c.as_slice-2.ensures.value ∙ sym kept) c.mark_oneofs.ensures.marked;
    }
