use Rattle.std.proofs.Common.{◌≡◌, pos, ap}
use Rattle.reflect_tables.specs.Index.{key_view, field_key}
use Rattle.reflect_tables.specs.Views.{field_of}
use Rattle.reflect_tables.specs.declared.keys.By.TheVariants as by
use Rattle.reflect_tables.proofs.Alike.{looked_up}
use Rattle.reflect_tables.proofs.lists.FieldList.of_name.Goals as goal

pub returns : goal.returns
returns c =
    let self = c.args.self.now in
    looked_up (field_key by.Name) field_of (λ f. f.name ≡ c.args.name.now) (key_view c.of_name.result) (pos 0, c.args.name.now)
    c.of_name.ensures (λ x e. ap (λ k. k.1) e) (λ x e. ap (λ n. (pos 0, n)) e)
    self.list.items c.as_slice.result.now self.by_name.items c.as_slice-2.result.now c.first.result c.as_slice.ensures.value c.as_slice-2.ensures.value self.names c.first.ensures
