-- Which numbers stand for labels and for types.
use Rattle.std.proofs.Common.{◌≡◌, ◌∙◌, ◌<◌, ◌&&◌, nat_le, ℕ, suc, ℤ, true, false, Option, Some, None, is_some, refl, sym, ap, subst, arith}
use Rattle.descriptor_records.specs.declared.field.Label.{Label}
use Rattle.descriptor_records.specs.declared.field.Label.TheVariants as labels
use Rattle.descriptor_records.specs.declared.field.FieldType.{FieldType}
use Rattle.descriptor_records.specs.declared.field.FieldType.TheVariants as types
use Rattle.descriptor_records.specs.FieldNumbers.{label_number, type_number, IsLabelOf, IsTypeOf}
use Rattle.descriptor_records.proofs.FieldNumbers.{no_label, no_type}
use Rattle.reflect_names.specs.References.{is_in}

-- no number past the last is one of the first
past_last : (n last : ℕ) → last < n → (nat_le 1 n && nat_le n last) ≡ false
past_last n last lt =
    let low : nat_le 1 n ≡ true = grind (arith, lt) in
    let high : nat_le n last ≡ false = grind (arith, lt) in
    ap (λ b. b && nat_le n last) low ∙ high

a_label : (l : Label) → true ≡ is_in (label_number l) 3
a_label labels.Optional = refl
a_label labels.Required = refl
a_label labels.Repeated = refl

pub label_in : (n : ℤ) (o : Option Label) → IsLabelOf n o → is_some o ≡ is_in n 3
label_in n (Some l) h = subst (λ m. true ≡ is_in m 3) h (a_label l)
label_in n None h = no_label (λ m. false ≡ is_in m 3) (λ k. refl) refl (λ k. sym (past_last (suc (suc (suc (suc k)))) 3 (omega arith))) n h

a_type : (t : FieldType) → true ≡ is_in (type_number t) 18
a_type types.Double = refl
a_type types.Float = refl
a_type types.Int64 = refl
a_type types.Uint64 = refl
a_type types.Int32 = refl
a_type types.Fixed64 = refl
a_type types.Fixed32 = refl
a_type types.Bool = refl
a_type types.String = refl
a_type types.Group = refl
a_type types.Message = refl
a_type types.Bytes = refl
a_type types.Uint32 = refl
a_type types.Enum = refl
a_type types.Sfixed32 = refl
a_type types.Sfixed64 = refl
a_type types.Sint32 = refl
a_type types.Sint64 = refl

pub type_in : (n : ℤ) (o : Option FieldType) → IsTypeOf n o → is_some o ≡ is_in n 18
type_in n (Some t) h = subst (λ m. true ≡ is_in m 18) h (a_type t)
type_in n None h = no_type (λ m. false ≡ is_in m 18) (λ k. refl) refl (λ k. sym (past_last (suc (suc (suc (suc (suc (suc (suc (suc (suc (suc (suc (suc (suc (suc (suc (suc (suc (suc (suc k))))))))))))))))))) 18 (omega arith))) n h
