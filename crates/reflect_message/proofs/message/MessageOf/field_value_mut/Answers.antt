-- What is written goes over what stood under the number.
use Rattle.std.proofs.Common.{Some, refl, ap, ◌∙◌}
use Rattle.reflect_entries.specs.Entries.{value_at}
use Rattle.reflect_message.specs.declared.parts.HeldOf.TheViews.{outs-Block}
use Rattle.reflect_message.proofs.Blocks.{fields_had, puts_field, stays}
use Rattle.reflect_message.proofs.message.MessageOf.field_value_mut.Goals as goal

pub returns-in-Block : goal.returns-in-Block
returns-in-Block g c =
    let d = c.args.self.now.descriptor in
    let alloc = c.args.self.now.alloc in
    let b = c.in-Block.parts in
    let p = c.deref_mut.result.now in
    let at = c.deref_mut.ensures.value ∙ ap (λ block. block.value) c.in-Block.parts-is in
    let number = c.args.number in
    let lent = c.get_mut.follows in
    rw (c.in-Block.is, outs-Block b) (
      (
        refl,
        (λ w is. puts_field b p at d alloc (record p { fields = lent.lender w }) number (Some w) (lent.holds w is) refl refl refl),
        stays b p at d alloc (record p { fields = lent.lender-at-none }) lent.holds-at-none refl refl refl,
      ),
      record {
        writes_back = tt;
        value = c.get_mut.ensures.value ∙ ap (λ es. value_at es number) (fields_had b p at);
      },
    )
