-- Numbers that no label and no type has: those below 1 and those past the last.
use Rattle.std.proofs.Common.{ℕ, zero, suc, ℤ, pos, negsuc, None, refl}
use Rattle.descriptor_records.specs.FieldNumbers.{IsLabelOf, IsTypeOf}
use Rattle.descriptor_records.specs.declared.field.Label.TheVariants as labels
use Rattle.descriptor_records.specs.declared.field.FieldType.TheVariants as types

pub no_label : (P : ℤ → Type 0) → ((n : ℕ) → P (negsuc n)) → P (pos 0) → ((n : ℕ) → P (pos (suc (suc (suc (suc n)))))) → (n : ℤ) → IsLabelOf n None → P n
no_label P below none past (negsuc n) h = below n
no_label P below none past (pos zero) h = none
no_label P below none past (pos (suc zero)) h = absurd (h labels.Optional refl)
no_label P below none past (pos (suc (suc zero))) h = absurd (h labels.Required refl)
no_label P below none past (pos (suc (suc (suc zero)))) h = absurd (h labels.Repeated refl)
no_label P below none past (pos (suc (suc (suc (suc n))))) h = past n

pub no_type : (P : ℤ → Type 0) → ((n : ℕ) → P (negsuc n)) → P (pos 0) → ((n : ℕ) → P (pos (suc (suc (suc (suc (suc (suc (suc (suc (suc (suc (suc (suc (suc (suc (suc (suc (suc (suc (suc n))))))))))))))))))))) → (n : ℤ) → IsTypeOf n None → P n
no_type P below none past (negsuc n) h = below n
no_type P below none past (pos zero) h = none
no_type P below none past (pos (suc zero)) h = absurd (h types.Double refl)
no_type P below none past (pos (suc (suc zero))) h = absurd (h types.Float refl)
no_type P below none past (pos (suc (suc (suc zero)))) h = absurd (h types.Int64 refl)
no_type P below none past (pos (suc (suc (suc (suc zero))))) h = absurd (h types.Uint64 refl)
no_type P below none past (pos (suc (suc (suc (suc (suc zero)))))) h = absurd (h types.Int32 refl)
no_type P below none past (pos (suc (suc (suc (suc (suc (suc zero))))))) h = absurd (h types.Fixed64 refl)
no_type P below none past (pos (suc (suc (suc (suc (suc (suc (suc zero)))))))) h = absurd (h types.Fixed32 refl)
no_type P below none past (pos (suc (suc (suc (suc (suc (suc (suc (suc zero))))))))) h = absurd (h types.Bool refl)
no_type P below none past (pos (suc (suc (suc (suc (suc (suc (suc (suc (suc zero)))))))))) h = absurd (h types.String refl)
no_type P below none past (pos (suc (suc (suc (suc (suc (suc (suc (suc (suc (suc zero))))))))))) h = absurd (h types.Group refl)
no_type P below none past (pos (suc (suc (suc (suc (suc (suc (suc (suc (suc (suc (suc zero)))))))))))) h = absurd (h types.Message refl)
no_type P below none past (pos (suc (suc (suc (suc (suc (suc (suc (suc (suc (suc (suc (suc zero))))))))))))) h = absurd (h types.Bytes refl)
no_type P below none past (pos (suc (suc (suc (suc (suc (suc (suc (suc (suc (suc (suc (suc (suc zero)))))))))))))) h = absurd (h types.Uint32 refl)
no_type P below none past (pos (suc (suc (suc (suc (suc (suc (suc (suc (suc (suc (suc (suc (suc (suc zero))))))))))))))) h = absurd (h types.Enum refl)
no_type P below none past (pos (suc (suc (suc (suc (suc (suc (suc (suc (suc (suc (suc (suc (suc (suc (suc zero)))))))))))))))) h = absurd (h types.Sfixed32 refl)
no_type P below none past (pos (suc (suc (suc (suc (suc (suc (suc (suc (suc (suc (suc (suc (suc (suc (suc (suc zero))))))))))))))))) h = absurd (h types.Sfixed64 refl)
no_type P below none past (pos (suc (suc (suc (suc (suc (suc (suc (suc (suc (suc (suc (suc (suc (suc (suc (suc (suc zero)))))))))))))))))) h = absurd (h types.Sint32 refl)
no_type P below none past (pos (suc (suc (suc (suc (suc (suc (suc (suc (suc (suc (suc (suc (suc (suc (suc (suc (suc (suc zero))))))))))))))))))) h = absurd (h types.Sint64 refl)
no_type P below none past (pos (suc (suc (suc (suc (suc (suc (suc (suc (suc (suc (suc (suc (suc (suc (suc (suc (suc (suc (suc n)))))))))))))))))))) h = past n
