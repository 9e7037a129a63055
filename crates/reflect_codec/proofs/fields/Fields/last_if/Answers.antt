use Rattle.std.proofs.Common.{◌≡◌, ℤ, sym, subst, rules, to_z, of_z, w32}
use Rattle.std.specs.Prelude.{unsigned_abs}
use Rattle.reflect_codec.specs.Faults.{OneIf, OneOf}
use Rattle.reflect_codec.specs.Raw.{fields_view}
use Rattle.reflect_codec.specs.Reading.{ReadsMeant, IsLast, IsLastIf, values_at}
use Rattle.reflect_codec.proofs.fields.Fields.last_if.Goals as goal

pub returns-then-wanted : goal.returns-then-wanted
returns-then-wanted g c =
    let bits : to_z w32 (of_z w32 c.args.number) ≡ c.args.number = search rules in
    let means = g.T.FieldValue.means c.args.self.now.levels in
    let faults = g.T.FieldValue.faults c.args.self.now.levels in
    let fs = fields_view c.args.self.now.list.items in
    subst (λ b. ReadsMeant (IsLastIf b means) (OneIf b faults) (values_at (unsigned_abs c.args.number) fs) c.last.result) (sym c.if-wanted.true)
    (subst (λ (z : ℤ). ReadsMeant (IsLast means) (OneOf faults) (values_at (unsigned_abs z) fs) c.last.result) bits c.last.ensures)
