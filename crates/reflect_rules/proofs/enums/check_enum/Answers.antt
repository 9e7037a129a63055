use Rattle.std.proofs.Common.{◌≡◌, ℤ, List, [], ◌∷◌, ◌++◌, Bool, Some, slice_get, ap, sym, subst, rules}
use Rattle.descriptor_records.specs.declared.enums.EnumDescriptorProto.{EnumDescriptorProto}
use Rattle.descriptor_records.specs.declared.enums.EnumValueDescriptorProto.{EnumValueDescriptorProto}
use Rattle.reflect_faults.specs.Faults.{Adds, place_at}
use Rattle.reflect_names.specs.Names.{Places}
use Rattle.reflect_faults.proofs.Added.{adds_on, same_places}
use Rattle.reflect_rules.specs.EnumRules.{alias_faults, first_faults, value_faults}
use Rattle.reflect_rules.proofs.enums.check_enum.Goals as goal

-- the faults of an enum that has a first value
of_first : (at : Places) (path : List ℤ) (is_proto3 : Bool) (e : EnumDescriptorProto) (vs : List EnumValueDescriptorProto) (v : EnumValueDescriptorProto) → slice_get vs 0 ≡ Some v
    → value_faults at path is_proto3 e vs ≡ first_faults at path is_proto3 v.number ++ alias_faults at path e
of_first at path is_proto3 e [] v h = absurd (cc)
of_first at path is_proto3 e (x ∷ vs) v h = let same : x ≡ v = cc in ap (λ y. first_faults at path is_proto3 y.number ++ alias_faults at path e) same

pub returns : goal.returns
returns c =
    let s = c.args.faults.now in
    let t = c.check_first.new.faults in
    let u = c.check_values.new.faults in
    let e = c.args.enumeration.now in
    let v = c.in-Some.first.now in
    let path = c.args.path.now in
    let got : slice_get e.value.items 0 ≡ Some v = search rules in
    let first = c.in_ok-check_first.ensures in
    let values = subst (λ at. Adds t u (alias_faults at path e)) (same_places s t _ first c.args.file) c.in_ok-check_values.ensures in
    subst (Adds s u) (sym (of_first (place_at s c.args.file) path c.args.is_proto3 e e.value.items v got)) (adds_on s t u _ _ first values)
