use Rattle.std.proofs.Common.{◌≡◌, ℕ, ℤ, pos, negsuc, [], ap}
use Rattle.reflect_tables.specs.Index.{key_view, field_key}
use Rattle.reflect_tables.specs.Views.{field_of}
use Rattle.reflect_tables.specs.declared.keys.By.TheVariants as by
use Rattle.reflect_tables.proofs.Alike.{looked_up}
use Rattle.reflect_tables.proofs.lists.FieldList.of_number.Goals as goal

abbrev size : ℤ → ℕ
size (pos n) = n
size (negsuc n) = n

pub returns : goal.returns
returns c =
    let self = c.args.self.now in
    looked_up (field_key by.Number) field_of (λ f. f.number ≡ c.args.number) (key_view c.of_number.result) (pos c.args.number, [])
    c.of_number.ensures (λ x e. ap (λ k. size k.0) e) (λ x e. ap (λ n. (pos n, [])) e)
    self.list.items c.as_slice.result.now self.by_number.items c.as_slice-2.result.now c.first.result c.as_slice.ensures.value c.as_slice-2.ensures.value self.numbers c.first.ensures
