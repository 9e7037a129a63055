-- Values of enums by their names.
use Rattle.std.proofs.Common.{◌≡◌, ℕ, ℤ, List, Some, subst, sym, ap, ◌∙◌}
use Rattle.reflect_tables.specs.Types.{enumeration}
use Rattle.reflect_pool.specs.Finds.{FindsValue}
use Rattle.reflect_pool.specs.Parts.{type_of_value}
use Rattle.reflect_pool.specs.declared.enums.EnumDescriptor.{EnumDescriptor}
use Rattle.reflect_pool.specs.declared.enums.EnumValueDescriptor.{EnumValueDescriptor}
use Rattle.reflect_print.specs.Named.{Named, IsEnumText}

pub value_named : (kind : Named) (d : EnumDescriptor) (v : EnumValueDescriptor) (z : ℤ) (name : List ℕ)
    → kind ≡ Some (d.pool.now, enumeration d.index) → FindsValue (λ v. v.number ≡ z) d (Some v) → v.enumeration ≡ d
    → name ≡ (type_of_value v.enumeration.pool.now v.enumeration.index v.index).name → IsEnumText kind z name
value_named kind d v z name k first same e =
    subst (λ q. IsEnumText q z name) (sym k)
    (Some v.index, first, e ∙ ap (λ (d : EnumDescriptor). (type_of_value d.pool.now d.index v.index).name) same)
