-- The types of maps' entries: messages of a `key` and a `value`, that say what they are.
use Rattle.std.specs.Prelude.{ℕ, ℤ, pos, List, [], ◌∷◌, Bool, true, false, not, ◌||◌, ◌&&◌, ◌==◌, nat_le, Option, Some, None, string_bytes, codes}
use Rattle.std.specs.Ordering.{int_eq}
use Rattle.std.specs.Str.{bytes_eq}
use Rattle.descriptor_records.specs.declared.field.FieldDescriptorProto.{FieldDescriptorProto}

abbrev pub has_name : FieldDescriptorProto → List ℕ → Bool
has_name f name = elim f.name [ None ↦ false | Some s ↦ bytes_eq (string_bytes s) name ]

abbrev pub is_optional : Option ℤ → Bool
is_optional None = true
is_optional (Some n) = int_eq n (pos 1)

abbrev pub is_equal : Option ℤ → ℤ → Bool
is_equal None n = false
is_equal (Some m) n = int_eq m n

abbrev pub is_part : FieldDescriptorProto → List ℕ → ℤ → Bool
is_part f name n = has_name f name && is_equal f.number n && is_optional f.label

-- integers, truth values and strings: no floats (1, 2), groups, messages and bytes (10 to 12) or
-- enums (14)
abbrev pub is_key_type : Option ℤ → Bool
is_key_type (Some (pos n)) = (nat_le 3 n && nat_le n 9)
    || ((n == 13) || (nat_le 15 n && nat_le n 18))
is_key_type _ = false

abbrev pub share_oneof : Option ℤ → Option ℤ → Bool
share_oneof (Some a) (Some b) = int_eq a b
share_oneof _ _ = false

abbrev pub are_key_and_value : FieldDescriptorProto → FieldDescriptorProto → Bool
are_key_and_value key value =
    is_part key (codes "key") (pos 1) && is_part value (codes "value") (pos 2)
    && is_key_type key.field_type && not (share_oneof key.oneof_index value.oneof_index)

-- two fields, in either order
abbrev pub has_entry_shape : List FieldDescriptorProto → Bool
has_entry_shape (a ∷ b ∷ []) = are_key_and_value a b || are_key_and_value b a
has_entry_shape _ = false
