use Rattle.std.proofs.Common.{◌≡◌, ℕ, ℤ, pos, negsuc, List, [], Option, Some, None, String, ap, arith}
use Rattle.std.specs.Option.{unwrap_or}
use Rattle.std.specs.declared.alloc.Global.{Global}
use Rattle.reflect_tables.specs.Index.{key_view, field_key, json_key}
use Rattle.reflect_tables.specs.Views.{field_of, name_of}
use Rattle.reflect_tables.specs.declared.keys.By.TheVariants as by
use Rattle.reflect_tables.proofs.Alike.{looked_up}
use Rattle.reflect_tables.proofs.lists.FieldList.of_json_name.Goals as goal

abbrev size : ℤ → ℕ
size (pos n) = n
size (negsuc n) = n

abbrev count : Option (List ℕ) → ℕ
count None = 0
count (Some name) = 1

-- the key of a name that was written tells the name, and no other key does
named : (o : Option (String Global)) (name : List ℕ) → json_key o ≡ (pos 1, name) → name_of o ≡ Some name
named None name e = let same : 0 ≡ 1 = ap (λ k. size k.0) e in absurd (omega (arith, same))
named (Some s) name e = ap (λ k. Some k.1) e

keyed : (o : Option (String Global)) (name : List ℕ) → name_of o ≡ Some name → json_key o ≡ (pos 1, name)
keyed None name e = let same : 0 ≡ 1 = ap count e in absurd (omega (arith, same))
keyed (Some s) name e = ap (λ o. (pos 1, unwrap_or o [])) e

pub returns : goal.returns
returns c =
    let self = c.args.self.now in
    looked_up (field_key by.JsonName) field_of (λ f. f.json_name ≡ Some c.args.name.now) (key_view c.of_json_name.result) (pos 1, c.args.name.now)
    c.of_json_name.ensures (λ x e. named x.json_name c.args.name.now e) (λ x e. keyed x.json_name c.args.name.now e)
    self.list.items c.as_slice.result.now self.by_json_name.items c.as_slice-2.result.now c.first.result c.as_slice.ensures.value c.as_slice-2.ensures.value self.json_names c.first.ensures
