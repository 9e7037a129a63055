-- The fields of the type of a map's entries: a key and a value, each of one value.
use Rattle.std.proofs.Common.{◌≡◌, ◌⊎◌, inl, inr, ◌&&◌, ◌||◌, ℕ, ℤ, pos, Bool, true, false, List, [], ◌∷◌, Option, None, Some, refl, ap, codes}
use Rattle.std.proofs.lemmas.Bool.Decides.{Decides-int_eq}
use Rattle.descriptor_records.specs.declared.field.FieldDescriptorProto.{FieldDescriptorProto}
use Rattle.reflect_rules.specs.MapEntries.{is_equal, is_optional, is_key_type, is_part, has_name, are_key_and_value, has_entry_shape}
use Rattle.reflect_index.proofs.Among.{Among}
use Rattle.reflect_index.proofs.Declared.{both_true}

-- a field that has the number, and the label of one value if any
pub record IsEntryField (n : ℤ) (r : FieldDescriptorProto) : Type 0 where
  pub number : r.number ≡ Some n
  pub optional : is_optional r.label ≡ true

-- one field is the key, the other the value
pub record AreKeyAndValue (key value : FieldDescriptorProto) : Type 0 where
  pub first : IsEntryField (pos 1) key
  pub second : IsEntryField (pos 2) value
  pub type : is_key_type key.field_type ≡ true

-- the fields are these two, in either order
pub record HasKeyAndValue (rs : List FieldDescriptorProto) : Type 0 where
  pub key : FieldDescriptorProto
  pub value : FieldDescriptorProto
  pub are : AreKeyAndValue key value
  pub key_among : Among key rs
  pub value_among : Among value rs
  pub only : (r : FieldDescriptorProto) → Among r rs → (key ≡ r) ⊎ (value ≡ r)

equal_number : (o : Option ℤ) (n : ℤ) → is_equal o n ≡ true → o ≡ Some n
equal_number None n e = absurd (cc e)
equal_number (Some m) n e = ap Some ((Decides-int_eq m n).0 e)

part_read : (r : FieldDescriptorProto) (name : List ℕ) (n : ℤ) → is_part r name n ≡ true
    → IsEntryField n r
part_read r name n e =
    let first = both_true (has_name r name && is_equal r.number n) (is_optional r.label) e in
    record {
      number = equal_number r.number n (both_true (has_name r name) _ first.0).1;
      optional = first.1;
    }

key_and_value : (a b : FieldDescriptorProto) → are_key_and_value a b ≡ true → AreKeyAndValue a b
key_and_value a b e =
    let k = is_part a (codes "key") (pos 1) in
    let v = is_part b (codes "value") (pos 2) in
    let t = is_key_type a.field_type in
    let first = both_true (k && v && t) _ e in
    let second = both_true (k && v) t first.0 in
    let third = both_true k v second.0 in
    record {
      first = part_read a _ _ third.0;
      second = part_read b _ _ third.1;
      type = second.1;
    }

one_true : (a b : Bool) → (a || b) ≡ true → (a ≡ true) ⊎ (b ≡ true)
one_true true b e = inl refl
one_true false b e = inr e

pub entry_shaped : (rs : List FieldDescriptorProto) → has_entry_shape rs ≡ true → HasKeyAndValue rs
entry_shaped [] e = absurd (cc e)
entry_shaped (a ∷ []) e = absurd (cc e)
entry_shaped (a ∷ b ∷ c ∷ rs) e = absurd (cc e)
entry_shaped (a ∷ b ∷ []) e =
    by (one_true (are_key_and_value a b) (are_key_and_value b a) e) where
      by : (are_key_and_value a b ≡ true) ⊎ (are_key_and_value b a ≡ true)
          → HasKeyAndValue (a ∷ b ∷ [])
      by (inl in_order) = record {
        key = a;
        value = b;
        are = key_and_value a b in_order;
        key_among = inl refl;
        value_among = inr (inl refl);
        only = λ r h. elim h [
          | inl same ↦ inl same
          | inr later ↦ elim later [ inl same ↦ inr same | inr none ↦ absurd none ]
        ];
      }
      by (inr turned) = record {
        key = b;
        value = a;
        are = key_and_value b a turned;
        key_among = inr (inl refl);
        value_among = inl refl;
        only = λ r h. elim h [
          | inl same ↦ inr same
          | inr later ↦ elim later [ inl same ↦ inl same | inr none ↦ absurd none ]
        ];
      }
