use Rattle.std.proofs.Common.{◌≡◌, [], ap, ◌∙◌}
use Rattle.std.proofs.Math.Facts.{to_z-of_z}
use Rattle.reflect_tables.specs.Index.{key_view, value_key}
use Rattle.reflect_tables.specs.Views.{value_of}
use Rattle.reflect_tables.specs.declared.keys.By.TheVariants as by
use Rattle.reflect_tables.proofs.Alike.{looked_up}
use Rattle.reflect_tables.proofs.lists.ValueList.of_number.Goals as goal

pub returns : goal.returns
returns c =
    let self = c.args.self.now in
    looked_up (value_key by.Number) value_of (λ v. v.number ≡ c.args.number) (key_view c.of_value.result) (c.args.number, [])
    (c.of_value.ensures ∙ ap (λ z. (z, [])) (to_z-of_z c.ranges.number))
    (λ x e. ap (λ k. k.0) e) (λ x e. ap (λ n. (n, [])) e)
    self.list.items c.as_slice.result.now self.by_number.items c.as_slice-2.result.now c.first.result c.as_slice.ensures.value c.as_slice-2.ensures.value self.numbers c.first.ensures
