use Rattle.std.proofs.Common.{◌≡◌, ◌+◌, ◌<◌, ◌^◌, length, map, take}
use Rattle.std.specs.List.{flat_map, zip}
use Rattle.reflect_pool.specs.FieldsLeft.{field_type}
use Rattle.reflect_scalar.specs.FieldTypes.{either_pool, either_type}
use Rattle.reflect_scalar.specs.declared.map_key.MapKey.{MapKey}
use Rattle.reflect_message.specs.Bytes.{declared_bytes, entry_bytes, extension_bytes, form_of, forms, list_bytes}
use Rattle.reflect_message.specs.Names.{Value}
use Rattle.reflect_encode.proofs.lengths.+length.Given as goal

-- the length that is counted and that of what is left are the whole

abbrev pub invariant-extensions_len-extensions : goal.invariant-extensions_len-extensions
invariant-extensions_len-extensions l = record {
  counted : l.len + length (flat_map (extension_bytes l.descriptor.pool.now l.descriptor.index) (forms (zip l.number-iterator.a.rest.now l.number-iterator.b.rest.now)))
      ≡ length (flat_map (extension_bytes l.descriptor.pool.now l.descriptor.index) (forms l.parts.extensions));
  small : l.len < 2 ^ 64;
  even : length l.number-iterator.a.rest.now ≡ length l.number-iterator.b.rest.now;
}

abbrev pub invariant-fields_len-fields : goal.invariant-fields_len-fields
invariant-fields_len-fields l = record {
  counted : l.len + length (flat_map (declared_bytes l.descriptor.pool.now l.descriptor.index) (forms (zip l.number-iterator.a.rest.now l.number-iterator.b.rest.now)))
      ≡ length (flat_map (declared_bytes l.descriptor.pool.now l.descriptor.index) (forms l.parts.fields));
  small : l.len < 2 ^ 64;
  even : length l.number-iterator.a.rest.now ≡ length l.number-iterator.b.rest.now;
}

abbrev pub invariant-list_len-values : goal.invariant-list_len-values
invariant-list_len-values l = record {
  counted : l.len ≡ length (list_bytes (either_type l.field) (map form_of (take l.value-index l.values)));
  small : l.len < 2 ^ 64;
}

abbrev pub invariant-map_len-entries : goal.invariant-map_len-entries
invariant-map_len-entries l = record {
  counted : l.len + length (flat_map (entry_bytes (either_pool l.field) (either_type l.field) (field_type l.keys) (field_type l.values)) (map (λ (e : MapKey × Value). (e.0, form_of e.1)) l.key-iterator))
      ≡ length (flat_map (entry_bytes (either_pool l.field) (either_type l.field) (field_type l.keys) (field_type l.values)) (map (λ (e : MapKey × Value). (e.0, form_of e.1)) l.entries.entries));
  small : l.len < 2 ^ 64;
}
