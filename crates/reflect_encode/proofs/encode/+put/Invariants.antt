use Rattle.std.proofs.Common.{◌≡◌, ◌++◌, map, reverse, length}
use Rattle.std.specs.List.{flat_map, zip}
use Rattle.reflect_codec.specs.Held.{held}
use Rattle.reflect_pool.specs.FieldsLeft.{field_type}
use Rattle.reflect_scalar.specs.FieldTypes.{either_pool, either_type}
use Rattle.reflect_entries.specs.Left.{unwritten}
use Rattle.reflect_entries.specs.Undeclared.{undeclared}
use Rattle.reflect_message.specs.Bytes.{form_of, forms, declared_bytes, others_down, list_bytes, entry_bytes}
use Rattle.reflect_encode.proofs.encode.+put.Given as goal

-- what is left stands before what was put
abbrev pub invariant-put_fields-fields : goal.invariant-put_fields-fields
invariant-put_fields-fields l = record {
  left : flat_map (declared_bytes l.descriptor.pool.now l.descriptor.index) (forms (zip l.number-iterator.a.iter.rest.now l.number-iterator.b.iter.rest.now)) ++ held l.out
      ≡ flat_map (declared_bytes l.descriptor.pool.now l.descriptor.index) (forms l.parts.fields) ++ held l.initial.out;
  even : length l.number-iterator.a.iter.rest.now ≡ length l.number-iterator.b.iter.rest.now;
}

abbrev pub invariant-put_others-extensions : goal.invariant-put_others-extensions
invariant-put_others-extensions l = record {
  left : others_down l.descriptor.pool.now l.descriptor.index (reverse (forms (zip l.number-iterator.a.iter.rest.now l.number-iterator.b.iter.rest.now))) (unwritten l.unknown) ++ held l.out
      ≡ others_down l.descriptor.pool.now l.descriptor.index (reverse (forms l.parts.extensions)) (undeclared l.parts.unknown) ++ held l.initial.out;
  even : length l.number-iterator.a.iter.rest.now ≡ length l.number-iterator.b.iter.rest.now;
}

abbrev pub invariant-put_list-values : goal.invariant-put_list-values
invariant-put_list-values l = list_bytes (either_type l.field) (map form_of l.value-iterator.iter.rest.now) ++ held l.out ≡ list_bytes (either_type l.field) (map form_of l.values) ++ held l.initial.out

abbrev pub invariant-put_map-entries : goal.invariant-put_map-entries
invariant-put_map-entries l =
    flat_map (entry_bytes (either_pool l.field) (either_type l.field) (field_type l.keys) (field_type l.values)) (map (λ e. (e.0, form_of e.1)) l.key-iterator.iter) ++ held l.out
    ≡ flat_map (entry_bytes (either_pool l.field) (either_type l.field) (field_type l.keys) (field_type l.values)) (map (λ e. (e.0, form_of e.1)) l.entries.entries) ++ held l.initial.out
