-- Message types, one level at a time.
use Rattle.std.proofs.Common.{◌≡◌, ℕ, ◌+◌, List, [], ◌∷◌, ◌++◌, map, refl, sym, ap, ◌∙◌, append_assoc, append-nil, arith}
use Rattle.std.specs.List.{concat}
use Rattle.std.proofs.lemmas.Grind.{flat_map-append}
use Rattle.descriptor_records.specs.declared.message.DescriptorProto.{DescriptorProto}
use Rattle.descriptor_records.specs.declared.message.DescriptorProto.TheOpen.{DescriptorProto-F}
use Rattle.descriptor_records.specs.declared.message.DescriptorProto.TheFolds.{fold-DescriptorProto, fold_out-DescriptorProto}
use Rattle.descriptor_records.specs.declared.message.DescriptorProto.TheViews.{out-DescriptorProto}
use Rattle.reflect_codec.specs.Fields.{payload_field, text_field, texts_field, records_field, options_field}
use Rattle.reflect_codec.specs.Written.{field_bytes, oneof_bytes, enum_bytes, extension_range_bytes, reserved_range_bytes, message_step, message_bytes}

abbrev total : List ℕ → ℕ
total [] = 0
total (n ∷ ns) = n + total ns

abbrev weight_step : DescriptorProto-F ℕ → ℕ
weight_step m = 1 + total m.nested_type.items

-- how many message types stand in one, with itself
abbrev pub weight : DescriptorProto → ℕ
weight = fold-DescriptorProto ℕ weight_step

abbrev pub weights : List DescriptorProto → ℕ
weights ms = total (map weight ms)

pub weights-push : (ms : List DescriptorProto) (m : DescriptorProto) → weights (ms ++ m ∷ []) ≡ weights ms + weight m
weights-push [] m = omega arith
weights-push (n ∷ ms) m = omega (arith, weights-push ms m)

records_field-map : (n : ℕ) (ms : List DescriptorProto) → records_field (λ bytes. bytes) n (map message_bytes ms) ≡ records_field message_bytes n ms
records_field-map n [] = refl
records_field-map n (m ∷ ms) = ap (λ bs. payload_field n (message_bytes m) ++ bs) (records_field-map n ms)

-- a message type's bytes, by its fields
pub message_bytes-out : (m : DescriptorProto) → let o = out-DescriptorProto m in message_bytes m ≡ concat (
    text_field 1 o.name ∷ records_field field_bytes 2 o.field.items ∷ records_field message_bytes 3 o.nested_type.items ∷ records_field enum_bytes 4 o.enum_type.items
    ∷ records_field extension_range_bytes 5 o.extension_range.items ∷ records_field field_bytes 6 o.extension.items ∷ options_field 7 o.options
    ∷ records_field oneof_bytes 8 o.oneof_decl.items ∷ records_field reserved_range_bytes 9 o.reserved_range.items ∷ texts_field 10 o.reserved_name.items ∷ [])
message_bytes-out m = rw (← records_field-map 3 (out-DescriptorProto m).nested_type.items) (fold_out-DescriptorProto (List ℕ) message_step m)

-- one record more in front of those that were written
pub records_step : {R : Type 0} (bytes : R → List ℕ) (n : ℕ) (front list : List R) (last : R) (old new whole : List ℕ) → list ≡ front ++ last ∷ [] → new ≡ payload_field n (bytes last) ++ old
    → records_field bytes n list ++ old ≡ whole → records_field bytes n front ++ new ≡ whole
records_step {R} bytes n front list last old new whole e f g =
    let split : records_field bytes n list ≡ records_field bytes n front ++ (payload_field n (bytes last) ++ []) = ap (records_field bytes n) e ∙ flat_map-append (λ (r : R). payload_field n (bytes r)) front (last ∷ []) in
    ap (λ bs. records_field bytes n front ++ bs) f ∙ sym (append_assoc (records_field bytes n front) (payload_field n (bytes last)) old)
    ∙ ap (λ bs. (records_field bytes n front ++ bs) ++ old) (sym (append-nil (payload_field n (bytes last)))) ∙ ap (λ bs. bs ++ old) (sym split) ∙ g

-- one part more in front of those that were written
pub then_part : (s b c t rest old : List ℕ) → s ≡ b ++ t → b ≡ c → t ≡ rest ++ old → s ≡ (c ++ rest) ++ old
then_part s b c t rest old e f g = e ∙ ap (λ part. part ++ t) f ∙ ap (λ t. c ++ t) g ∙ sym (append_assoc c rest old)
