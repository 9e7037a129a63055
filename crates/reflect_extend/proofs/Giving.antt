-- The entry that a message of a type of entries gives.
use Rattle.std.proofs.Common.{◌≡◌, ℕ, ◌==◌, Bool, true, false, cond, List, Option, None, Some, IfSome, option_map, refl, sym, ap, ◌∙◌, subst, arith, true≢false, is_some}
use Rattle.std.specs.Option.{IsSome}
use Rattle.reflect_tables.specs.Types.{FieldType, type_at, type_of_field}
use Rattle.reflect_tables.specs.declared.stored.StoredEntry.{StoredEntry}
use Rattle.reflect_pool.specs.FieldsLeft.{field_type}
use Rattle.reflect_pool.specs.declared.field.FieldDescriptor.{FieldDescriptor}
use Rattle.reflect_pool.specs.declared.message.MessageDescriptor.{MessageDescriptor}
use Rattle.reflect_entries.specs.Entries.{Updates, value_at}
use Rattle.reflect_scalar.specs.FieldTypes.{field_pool}
use Rattle.reflect_message.specs.Held.{fields_of}
use Rattle.reflect_message.specs.MapKeys.{key_of_value}
use Rattle.reflect_message.specs.Names.{DynamicMessage, Value}
use Rattle.reflect_extend.specs.Gives.{Entry, GivesAs, GivesEntry, IsSetOrDefault, left_under}

-- what stands under a number once another is unset
left_same : (old new : List (ℕ × Value)) (taken n : ℕ) → Updates old new taken None
    → value_at new n ≡ left_under taken old n
left_same old new taken n updates = by (n == taken) refl where
  by : (b : Bool) → (n == taken) ≡ b → value_at new n ≡ cond b None (value_at old n)
  by true e = let same : n ≡ taken = grind (arith, e) in ap (value_at new) same ∙ updates.here
  by false e = updates.others n (λ same. grind (arith, e, same))

-- a field that stands at a place of a type
part_at : (d : MessageDescriptor) (f : FieldDescriptor) (place : ℕ) (held : ℕ → Option Value)
    (v : Value) → f.message ≡ d → f.index ≡ place
    → IsSetOrDefault (field_pool f) (field_type f) (held (field_type f).number) v
    → (type : FieldType) × (type ≡ type_of_field d.pool.now d.index place)
    × (type ≡ field_type f) × IsSetOrDefault d.pool.now type (held type.number) v
part_at d f place held v message index part = (
  field_type f,
  ap (λ (m : MessageDescriptor). type_of_field m.pool.now m.index f.index) message
      ∙ ap (type_of_field d.pool.now d.index) index,
  refl,
  subst (λ (m : MessageDescriptor). IsSetOrDefault m.pool.now (field_type f) (held (field_type f).number) v)
      message part,
)

module _ (m : DynamicMessage) (d : MessageDescriptor) (keys values : FieldDescriptor)
    (left : List (ℕ × Value)) (key value : Value) (given : Option Entry)
    (same : d ≡ m.descriptor) (some : IsSome (type_at d.pool.now d.index).entry)
    (keys_of : keys.message ≡ d)
    (first : IfSome (type_at d.pool.now d.index).entry (λ e. keys.index ≡ e.key))
    (values_of : values.message ≡ d)
    (second : IfSome (type_at d.pool.now d.index).entry (λ e. values.index ≡ e.value))
    (key_part : IsSetOrDefault (field_pool keys) (field_type keys)
    (value_at (fields_of m) (field_type keys).number) key)
    (taken : Updates (fields_of m) left (field_type keys).number None)
    (value_part : IsSetOrDefault (field_pool values) (field_type values)
    (value_at left (field_type values).number) value)
    (is : given ≡ option_map (λ k. (k, value)) (key_of_value key)) where
  pub gives : GivesEntry m given
  gives = subst (λ (d : MessageDescriptor). GivesAs d.pool.now d.index
      (type_at d.pool.now d.index).entry (fields_of m) given) same
      (by (type_at d.pool.now d.index).entry refl) where
        by : (o : Option StoredEntry) → (type_at d.pool.now d.index).entry ≡ o
            → GivesAs d.pool.now d.index o (fields_of m) given
        by None none = absurd (true≢false (sym some ∙ ap is_some none))
        by (Some e) there =
            let k = part_at d keys e.key (value_at (fields_of m)) key keys_of
            (subst (λ o. IfSome o (λ (e : StoredEntry). keys.index ≡ e.key)) there first) key_part in
            let v = part_at d values e.value (value_at left) value values_of
            (subst (λ o. IfSome o (λ (e : StoredEntry). values.index ≡ e.value)) there second) value_part in
            let behind = subst (λ o. IsSetOrDefault d.pool.now v.0 o value)
            (left_same (fields_of m) left (field_type keys).number v.0.number taken) v.3 in (
              key,
              value,
              subst (λ (f : FieldType). IsSetOrDefault d.pool.now f (value_at (fields_of m) f.number) key) k.1 k.3,
              subst (λ (f : FieldType). IsSetOrDefault d.pool.now f (left_under (type_of_field d.pool.now d.index e.key).number (fields_of m) f.number) value) v.1
                  (subst (λ (f : FieldType). IsSetOrDefault d.pool.now v.0 (left_under f.number (fields_of m) v.0.number) value) (sym k.2 ∙ k.1) behind),
              is,
            )
