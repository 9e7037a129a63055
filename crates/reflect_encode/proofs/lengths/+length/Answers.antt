use Rattle.std.proofs.Common.{rules, ◌≡◌, ℕ, ◌+◌, ◌++◌, ◌∷◌, length, map, None, Some, option_map, refl, sym, ap, ◌∙◌, arith}
use Rattle.std.specs.List.{flat_map, zip}
use Rattle.std.proofs.lemmas.List.{take_all}
use Rattle.reflect_wire.proofs.Lengths.{none_told}
use Rattle.reflect_wire.specs.Encoding.{key_bytes}
use Rattle.reflect_wire.specs.Records.{key_of}
use Rattle.reflect_wire.specs.declared.wire_key.WireType.{WireType}
use Rattle.reflect_codec.specs.Fields.{payload_field}
use Rattle.reflect_pool.specs.FieldsLeft.{field_type}
use Rattle.reflect_pool.specs.declared.message.MessageDescriptor.{MessageDescriptor}
use Rattle.reflect_scalar.specs.FieldTypes.{either_pool, either_type, extension_pool, extension_type, field_pool}
use Rattle.reflect_scalar.specs.Keys.{key_view}
use Rattle.reflect_scalar.specs.declared.map_key.MapKey.{MapKey}
use Rattle.reflect_entries.proofs.Zips.{even_parts, zip_ended, zip_next, zip_parts}
use Rattle.reflect_entries.specs.Pairs.{on_value}
use Rattle.reflect_entries.specs.Undeclared.{undeclared}
use Rattle.reflect_message.specs.Bytes.{Form, content_bytes, declared_bytes, entry_bytes, extension_bytes, form_of, forms, key_part, message_bytes}
use Rattle.reflect_message.specs.Known.{known_field, known_extension}
use Rattle.reflect_message.specs.Names.{Value}
use Rattle.reflect_encode.proofs.Before.{map_known}
use Rattle.reflect_encode.proofs.Forms.{message_formed}
use Rattle.reflect_encode.proofs.Measuring.{framed_length, group_length, known_length, more_length, most_length, next_length, none_length, parts_length, payload_length, told, unknown_length}
use Rattle.reflect_encode.proofs.lengths.+length.Goals as goal

pub extensions_len-extensions-init : goal.extensions_len-extensions-init
extensions_len-extensions-init t c =
    let d = c.args.descriptor in
    let es = c.args.parts.now.extensions in
    let ns = c.into_iter-number-iterator.result.a.rest.now in
    let vs = c.into_iter-number-iterator.result.b.rest.now in
    let a : ns ≡ map (λ (e : ℕ × Value). e.0) es = search rules in
    let b : vs ≡ map (λ (e : ℕ × Value). e.1) es = search rules in
    let whole = ap (λ l. length (flat_map (extension_bytes d.pool.now d.index) (forms l))) (zip_parts es ns vs a b) in
    record { counted = omega (arith, whole); small = omega arith; even = even_parts es ns vs a b }

pub extensions_len-returns-in_err-content_len : goal.extensions_len-returns-in_err-content_len
extensions_len-returns-in_err-content_len t c =
    let d = c.args.descriptor in
    let ns = c.extensions.number-iterator.a.rest.now in
    let vs = c.extensions.number-iterator.b.rest.now in
    let ms = c.next.new.self.a.rest.now in
    let ws = c.next.new.self.b.rest.now in
    let n = c.in-Some.number.now in
    let v = c.in-Some.value.now in
    let a : ns ≡ n ∷ ms = search rules in
    let b : vs ≡ v ∷ ws = search rules in
    let more = next_length (on_value form_of) (extension_bytes d.pool.now d.index) (zip ns vs) (zip ms ws) (n, v) (zip_next ns ms vs ws n v a b) in
    let x = c.in-Some-declared_extension.extension in
    let is : option_map extension_type c.declared_extension.result ≡ Some (extension_type x) = search rules in
    let same = known_length d.pool.now (form_of v) (option_map extension_type c.declared_extension.result) (known_extension d.pool.now d.index n) (extension_pool x) (extension_type x) c.declared_extension.ensures.known is c.in-Some-declared_extension.ensures.owns.0.0 in
    none_told _ c.from_residual.result c.from_residual.ensures (omega (arith, more, same, c.extensions.invariant.counted, c.in_err-content_len.ensures))

pub extensions_len-returns-in_err-len : goal.extensions_len-returns-in_err-len
extensions_len-returns-in_err-len t c =
    let d = c.args.descriptor in
    let ns = c.extensions.number-iterator.a.rest.now in
    let vs = c.extensions.number-iterator.b.rest.now in
    let ms = c.next.new.self.a.rest.now in
    let ws = c.next.new.self.b.rest.now in
    let n = c.in-Some.number.now in
    let v = c.in-Some.value.now in
    let a : ns ≡ n ∷ ms = search rules in
    let b : vs ≡ v ∷ ws = search rules in
    let more = next_length (on_value form_of) (extension_bytes d.pool.now d.index) (zip ns vs) (zip ms ws) (n, v) (zip_next ns ms vs ws n v a b) in
    let x = c.in-Some-declared_extension.extension in
    let is : option_map extension_type c.declared_extension.result ≡ Some (extension_type x) = search rules in
    let same = known_length d.pool.now (form_of v) (option_map extension_type c.declared_extension.result) (known_extension d.pool.now d.index n) (extension_pool x) (extension_type x) c.declared_extension.ensures.known is c.in-Some-declared_extension.ensures.owns.0.0 in
    none_told _ c.from_residual-in_err-len.result c.from_residual-in_err-len.ensures (omega (arith, more, same, c.extensions.invariant.counted, c.in_err-len.ensures, c.in_ok-content_len.ensures))

pub extensions_len-extensions-preserved-in-Some-declared_extension : goal.extensions_len-extensions-preserved-in-Some-declared_extension
extensions_len-extensions-preserved-in-Some-declared_extension t c =
    let d = c.args.descriptor in
    let ns = c.extensions.number-iterator.a.rest.now in
    let vs = c.extensions.number-iterator.b.rest.now in
    let ms = c.next.new.self.a.rest.now in
    let ws = c.next.new.self.b.rest.now in
    let n = c.in-Some.number.now in
    let v = c.in-Some.value.now in
    let a : ns ≡ n ∷ ms = search rules in
    let b : vs ≡ v ∷ ws = search rules in
    let more = next_length (on_value form_of) (extension_bytes d.pool.now d.index) (zip ns vs) (zip ms ws) (n, v) (zip_next ns ms vs ws n v a b) in
    let x = c.in-Some-declared_extension.extension in
    let is : option_map extension_type c.declared_extension.result ≡ Some (extension_type x) = search rules in
    let same = known_length d.pool.now (form_of v) (option_map extension_type c.declared_extension.result) (known_extension d.pool.now d.index n) (extension_pool x) (extension_type x) c.declared_extension.ensures.known is c.in-Some-declared_extension.ensures.owns.0.0 in
    record {
      counted = omega (arith, more, same, c.extensions.invariant.counted, c.in_ok-len.ensures, c.in_ok-content_len.ensures);
      small = omega (arith, c.in_ok-len.ensures);
      even = omega (arith, c.extensions.invariant.even, ap length a, ap length b);
    }

pub extensions_len-extensions-preserved : goal.extensions_len-extensions-preserved
extensions_len-extensions-preserved t c =
    let d = c.args.descriptor in
    let ns = c.extensions.number-iterator.a.rest.now in
    let vs = c.extensions.number-iterator.b.rest.now in
    let ms = c.next.new.self.a.rest.now in
    let ws = c.next.new.self.b.rest.now in
    let n = c.in-Some.number.now in
    let v = c.in-Some.value.now in
    let a : ns ≡ n ∷ ms = search rules in
    let b : vs ≡ v ∷ ws = search rules in
    let more = next_length (on_value form_of) (extension_bytes d.pool.now d.index) (zip ns vs) (zip ms ws) (n, v) (zip_next ns ms vs ws n v a b) in
    let none : option_map extension_type c.declared_extension.result ≡ None = search rules in
    let same = unknown_length d.pool.now (form_of v) (option_map extension_type c.declared_extension.result) (known_extension d.pool.now d.index n) c.declared_extension.ensures.known none in
    record {
      counted = omega (arith, more, same, c.extensions.invariant.counted);
      small = c.extensions.invariant.small;
      even = omega (arith, c.extensions.invariant.even, ap length a, ap length b);
    }

pub extensions_len-returns : goal.extensions_len-returns
extensions_len-returns t c =
    let d = c.args.descriptor in
    let ns = c.extensions.number-iterator.a.rest.now in
    let vs = c.extensions.number-iterator.b.rest.now in
    let rest = none_length (on_value form_of) (extension_bytes d.pool.now d.index) (zip ns vs) (zip_ended ns vs (search rules)) in
    (omega (arith, rest, c.extensions.invariant.counted, c.extensions.invariant.small), omega (arith, rest, c.extensions.invariant.counted))

pub fields_len-fields-init : goal.fields_len-fields-init
fields_len-fields-init t c =
    let d = c.args.descriptor in
    let es = c.args.parts.now.fields in
    let ns = c.into_iter-number-iterator.result.a.rest.now in
    let vs = c.into_iter-number-iterator.result.b.rest.now in
    let a : ns ≡ map (λ (e : ℕ × Value). e.0) es = search rules in
    let b : vs ≡ map (λ (e : ℕ × Value). e.1) es = search rules in
    let whole = ap (λ l. length (flat_map (declared_bytes d.pool.now d.index) (forms l))) (zip_parts es ns vs a b) in
    record { counted = omega (arith, whole); small = omega arith; even = even_parts es ns vs a b }

pub fields_len-returns-in_err-content_len : goal.fields_len-returns-in_err-content_len
fields_len-returns-in_err-content_len t c =
    let d = c.args.descriptor in
    let ns = c.fields.number-iterator.a.rest.now in
    let vs = c.fields.number-iterator.b.rest.now in
    let ms = c.next.new.self.a.rest.now in
    let ws = c.next.new.self.b.rest.now in
    let n = c.in-Some.number.now in
    let v = c.in-Some.value.now in
    let a : ns ≡ n ∷ ms = search rules in
    let b : vs ≡ v ∷ ws = search rules in
    let more = next_length (on_value form_of) (declared_bytes d.pool.now d.index) (zip ns vs) (zip ms ws) (n, v) (zip_next ns ms vs ws n v a b) in
    let x = c.in-Some-declared_field.field in
    let is : option_map field_type c.declared_field.result ≡ Some (field_type x) = search rules in
    let same = known_length d.pool.now (form_of v) (option_map field_type c.declared_field.result) (known_field d.pool.now d.index n) (field_pool x) (field_type x) c.declared_field.ensures.known is (ap (λ (d : MessageDescriptor). d.pool.now) c.in-Some-declared_field.ensures.message) in
    none_told _ c.from_residual.result c.from_residual.ensures (omega (arith, more, same, c.fields.invariant.counted, c.in_err-content_len.ensures))

pub fields_len-returns-in_err-len : goal.fields_len-returns-in_err-len
fields_len-returns-in_err-len t c =
    let d = c.args.descriptor in
    let ns = c.fields.number-iterator.a.rest.now in
    let vs = c.fields.number-iterator.b.rest.now in
    let ms = c.next.new.self.a.rest.now in
    let ws = c.next.new.self.b.rest.now in
    let n = c.in-Some.number.now in
    let v = c.in-Some.value.now in
    let a : ns ≡ n ∷ ms = search rules in
    let b : vs ≡ v ∷ ws = search rules in
    let more = next_length (on_value form_of) (declared_bytes d.pool.now d.index) (zip ns vs) (zip ms ws) (n, v) (zip_next ns ms vs ws n v a b) in
    let x = c.in-Some-declared_field.field in
    let is : option_map field_type c.declared_field.result ≡ Some (field_type x) = search rules in
    let same = known_length d.pool.now (form_of v) (option_map field_type c.declared_field.result) (known_field d.pool.now d.index n) (field_pool x) (field_type x) c.declared_field.ensures.known is (ap (λ (d : MessageDescriptor). d.pool.now) c.in-Some-declared_field.ensures.message) in
    none_told _ c.from_residual-in_err-len.result c.from_residual-in_err-len.ensures (omega (arith, more, same, c.fields.invariant.counted, c.in_err-len.ensures, c.in_ok-content_len.ensures))

pub fields_len-fields-preserved-in-Some-declared_field : goal.fields_len-fields-preserved-in-Some-declared_field
fields_len-fields-preserved-in-Some-declared_field t c =
    let d = c.args.descriptor in
    let ns = c.fields.number-iterator.a.rest.now in
    let vs = c.fields.number-iterator.b.rest.now in
    let ms = c.next.new.self.a.rest.now in
    let ws = c.next.new.self.b.rest.now in
    let n = c.in-Some.number.now in
    let v = c.in-Some.value.now in
    let a : ns ≡ n ∷ ms = search rules in
    let b : vs ≡ v ∷ ws = search rules in
    let more = next_length (on_value form_of) (declared_bytes d.pool.now d.index) (zip ns vs) (zip ms ws) (n, v) (zip_next ns ms vs ws n v a b) in
    let x = c.in-Some-declared_field.field in
    let is : option_map field_type c.declared_field.result ≡ Some (field_type x) = search rules in
    let same = known_length d.pool.now (form_of v) (option_map field_type c.declared_field.result) (known_field d.pool.now d.index n) (field_pool x) (field_type x) c.declared_field.ensures.known is (ap (λ (d : MessageDescriptor). d.pool.now) c.in-Some-declared_field.ensures.message) in
    record {
      counted = omega (arith, more, same, c.fields.invariant.counted, c.in_ok-len.ensures, c.in_ok-content_len.ensures);
      small = omega (arith, c.in_ok-len.ensures);
      even = omega (arith, c.fields.invariant.even, ap length a, ap length b);
    }

pub fields_len-fields-preserved : goal.fields_len-fields-preserved
fields_len-fields-preserved t c =
    let d = c.args.descriptor in
    let ns = c.fields.number-iterator.a.rest.now in
    let vs = c.fields.number-iterator.b.rest.now in
    let ms = c.next.new.self.a.rest.now in
    let ws = c.next.new.self.b.rest.now in
    let n = c.in-Some.number.now in
    let v = c.in-Some.value.now in
    let a : ns ≡ n ∷ ms = search rules in
    let b : vs ≡ v ∷ ws = search rules in
    let more = next_length (on_value form_of) (declared_bytes d.pool.now d.index) (zip ns vs) (zip ms ws) (n, v) (zip_next ns ms vs ws n v a b) in
    let none : option_map field_type c.declared_field.result ≡ None = search rules in
    let same = unknown_length d.pool.now (form_of v) (option_map field_type c.declared_field.result) (known_field d.pool.now d.index n) c.declared_field.ensures.known none in
    record {
      counted = omega (arith, more, same, c.fields.invariant.counted);
      small = c.fields.invariant.small;
      even = omega (arith, c.fields.invariant.even, ap length a, ap length b);
    }

pub fields_len-returns : goal.fields_len-returns
fields_len-returns t c =
    let d = c.args.descriptor in
    let ns = c.fields.number-iterator.a.rest.now in
    let vs = c.fields.number-iterator.b.rest.now in
    let rest = none_length (on_value form_of) (declared_bytes d.pool.now d.index) (zip ns vs) (zip_ended ns vs (search rules)) in
    (omega (arith, rest, c.fields.invariant.counted, c.fields.invariant.small), omega (arith, rest, c.fields.invariant.counted))

pub list_len-values-init : goal.list_len-values-init
list_len-values-init t c = record { counted = refl; small = omega arith }

pub list_len-returns-in_err-record_len : goal.list_len-returns-in_err-record_len
list_len-returns-in_err-record_len t c =
    let values = c.args.values.now in
    let more = more_length form_of (λ (w : Form). w.one (either_type c.args.field)) values c.values.value-index c.value-item.result c.values-test.true c.value-item.is in
    let most = most_length form_of (λ (w : Form). w.one (either_type c.args.field)) values (c.values.value-index + 1) in
    none_told _ c.from_residual.result c.from_residual.ensures (omega (arith, more, most, c.in_err-record_len.ensures))

pub list_len-returns-in_err-len : goal.list_len-returns-in_err-len
list_len-returns-in_err-len t c =
    let values = c.args.values.now in
    let more = more_length form_of (λ (w : Form). w.one (either_type c.args.field)) values c.values.value-index c.value-item.result c.values-test.true c.value-item.is in
    let most = most_length form_of (λ (w : Form). w.one (either_type c.args.field)) values (c.values.value-index + 1) in
    none_told _ c.from_residual-in_err-len.result c.from_residual-in_err-len.ensures (omega (arith, more, most, c.values.invariant.counted, c.in_err-len.ensures, c.in_ok-record_len.ensures))

pub list_len-values-preserved : goal.list_len-values-preserved
list_len-values-preserved t c =
    let values = c.args.values.now in
    let more = more_length form_of (λ (w : Form). w.one (either_type c.args.field)) values c.values.value-index c.value-item.result c.values-test.true c.value-item.is in
    record { counted = omega (arith, more, c.values.invariant.counted, c.in_ok-len.ensures, c.in_ok-record_len.ensures); small = omega (arith, c.in_ok-len.ensures) }

pub list_len-returns : goal.list_len-returns
list_len-returns t c =
    let values = c.args.values.now in
    let whole = ap (λ l. length (flat_map (λ (w : Form). w.one (either_type c.args.field)) (map form_of l))) (take_all c.values.value-index values (omega (arith, c.values-test.false))) in
    (omega (arith, whole, c.values.invariant.counted, c.values.invariant.small), omega (arith, whole, c.values.invariant.counted))

pub map_len-entries-init : goal.map_len-entries-init
map_len-entries-init t c =
    let pool = either_pool c.args.field in
    let f = either_type c.args.field in
    let k = field_type c.in-Some.keys in
    let w = field_type c.in-Some.values in
    let all : c.into_iter-key-iterator.result ≡ c.args.entries.now.entries = search rules in
    let whole = ap (λ l. length (flat_map (entry_bytes pool f k w) (map (λ (e : MapKey × Value). (e.0, form_of e.1)) l))) all in
    record { counted = omega (arith, whole); small = omega arith }

pub map_len-returns-in_err-entry_len : goal.map_len-returns-in_err-entry_len
map_len-returns-in_err-entry_len t c =
    let pool = either_pool c.args.field in
    let f = either_type c.args.field in
    let k = field_type c.in-Some.keys in
    let w = field_type c.in-Some.values in
    let fields = c.in-Some.ensures.some pool f.kind c.kind.ensures in
    let key = c.in-Some-2.key.now in
    let v = c.in-Some-2.value.now in
    let step : c.entries.key-iterator ≡ (key, v) ∷ c.next.new.self = search rules in
    let more = next_length (λ (e : MapKey × Value). (e.0, form_of e.1)) (entry_bytes pool f k w) c.entries.key-iterator c.next.new.self (key, v) step in
    let same : length (entry_bytes pool f k w (key, form_of v)) ≡ length (payload_field c.number.result (key_part (field_pool c.in-Some.keys) k (key_view key) ++ content_bytes (field_pool c.in-Some.values) w (form_of v))) =
    ap (λ p. length (payload_field f.number (key_part p k (key_view key) ++ content_bytes pool w (form_of v)))) (sym fields.0) ∙ ap (λ p. length (payload_field f.number (key_part (field_pool c.in-Some.keys) k (key_view key) ++ content_bytes p w (form_of v)))) (sym fields.1)
    ∙ ap (λ n. length (payload_field n (key_part (field_pool c.in-Some.keys) k (key_view key) ++ content_bytes (field_pool c.in-Some.values) w (form_of v)))) (sym c.number.ensures) in
    let whole = ap length (map_known pool f k w (map (λ (e : MapKey × Value). (e.0, form_of e.1)) c.args.entries.now.entries) fields.2 fields.3) in
    none_told _ c.from_residual.result c.from_residual.ensures (omega (arith, more, same, whole, c.entries.invariant.counted, c.in_err-entry_len.ensures))

pub map_len-returns-in_err-len : goal.map_len-returns-in_err-len
map_len-returns-in_err-len t c =
    let pool = either_pool c.args.field in
    let f = either_type c.args.field in
    let k = field_type c.in-Some.keys in
    let w = field_type c.in-Some.values in
    let fields = c.in-Some.ensures.some pool f.kind c.kind.ensures in
    let key = c.in-Some-2.key.now in
    let v = c.in-Some-2.value.now in
    let step : c.entries.key-iterator ≡ (key, v) ∷ c.next.new.self = search rules in
    let more = next_length (λ (e : MapKey × Value). (e.0, form_of e.1)) (entry_bytes pool f k w) c.entries.key-iterator c.next.new.self (key, v) step in
    let same : length (entry_bytes pool f k w (key, form_of v)) ≡ length (payload_field c.number.result (key_part (field_pool c.in-Some.keys) k (key_view key) ++ content_bytes (field_pool c.in-Some.values) w (form_of v))) =
    ap (λ p. length (payload_field f.number (key_part p k (key_view key) ++ content_bytes pool w (form_of v)))) (sym fields.0) ∙ ap (λ p. length (payload_field f.number (key_part (field_pool c.in-Some.keys) k (key_view key) ++ content_bytes p w (form_of v)))) (sym fields.1)
    ∙ ap (λ n. length (payload_field n (key_part (field_pool c.in-Some.keys) k (key_view key) ++ content_bytes (field_pool c.in-Some.values) w (form_of v)))) (sym c.number.ensures) in
    let whole = ap length (map_known pool f k w (map (λ (e : MapKey × Value). (e.0, form_of e.1)) c.args.entries.now.entries) fields.2 fields.3) in
    none_told _ c.from_residual-in_err-len.result c.from_residual-in_err-len.ensures (omega (arith, more, same, whole, c.entries.invariant.counted, c.in_err-len.ensures, c.in_ok-entry_len.ensures))

pub map_len-entries-preserved : goal.map_len-entries-preserved
map_len-entries-preserved t c =
    let pool = either_pool c.args.field in
    let f = either_type c.args.field in
    let k = field_type c.in-Some.keys in
    let w = field_type c.in-Some.values in
    let fields = c.in-Some.ensures.some pool f.kind c.kind.ensures in
    let key = c.in-Some-2.key.now in
    let v = c.in-Some-2.value.now in
    let step : c.entries.key-iterator ≡ (key, v) ∷ c.next.new.self = search rules in
    let more = next_length (λ (e : MapKey × Value). (e.0, form_of e.1)) (entry_bytes pool f k w) c.entries.key-iterator c.next.new.self (key, v) step in
    let same : length (entry_bytes pool f k w (key, form_of v)) ≡ length (payload_field c.number.result (key_part (field_pool c.in-Some.keys) k (key_view key) ++ content_bytes (field_pool c.in-Some.values) w (form_of v))) =
    ap (λ p. length (payload_field f.number (key_part p k (key_view key) ++ content_bytes pool w (form_of v)))) (sym fields.0) ∙ ap (λ p. length (payload_field f.number (key_part (field_pool c.in-Some.keys) k (key_view key) ++ content_bytes p w (form_of v)))) (sym fields.1)
    ∙ ap (λ n. length (payload_field n (key_part (field_pool c.in-Some.keys) k (key_view key) ++ content_bytes (field_pool c.in-Some.values) w (form_of v)))) (sym c.number.ensures) in
    record { counted = omega (arith, more, same, c.entries.invariant.counted, c.in_ok-len.ensures, c.in_ok-entry_len.ensures); small = omega (arith, c.in_ok-len.ensures) }

pub map_len-returns : goal.map_len-returns
map_len-returns t c =
    let pool = either_pool c.args.field in
    let f = either_type c.args.field in
    let k = field_type c.in-Some.keys in
    let w = field_type c.in-Some.values in
    let fields = c.in-Some.ensures.some pool f.kind c.kind.ensures in
    let whole = ap length (map_known pool f k w (map (λ (e : MapKey × Value). (e.0, form_of e.1)) c.args.entries.now.entries) fields.2 fields.3) in
    let rest = none_length (λ (e : MapKey × Value). (e.0, form_of e.1)) (entry_bytes pool f k w) c.entries.key-iterator (search rules) in
    (omega (arith, rest, whole, c.entries.invariant.counted, c.entries.invariant.small), omega (arith, rest, whole, c.entries.invariant.counted))

pub parts_len-returns-in_err-extensions_len : goal.parts_len-returns-in_err-extensions_len
parts_len-returns-in_err-extensions_len t c =
    let parts = c.args.parts.now in
    let d = c.args.descriptor in
    let whole = parts_length d.pool.now d.index (forms parts.fields) (forms parts.extensions) (undeclared parts.unknown) in
    none_told _ c.from_residual-in_err-extensions_len.result c.from_residual-in_err-extensions_len.ensures (omega (arith, whole, c.in_err-extensions_len.ensures))

pub parts_len-returns-in_err-declared : goal.parts_len-returns-in_err-declared
parts_len-returns-in_err-declared t c =
    let parts = c.args.parts.now in
    let d = c.args.descriptor in
    let whole = parts_length d.pool.now d.index (forms parts.fields) (forms parts.extensions) (undeclared parts.unknown) in
    none_told _ c.from_residual-in_err-declared.result c.from_residual-in_err-declared.ensures (omega (arith, whole, c.in_ok-fields.ensures, c.in_ok-extensions_len.ensures, c.in_err-declared.ensures))

pub parts_len-returns-in_err-unknown_len : goal.parts_len-returns-in_err-unknown_len
parts_len-returns-in_err-unknown_len t c =
    let parts = c.args.parts.now in
    let d = c.args.descriptor in
    let whole = parts_length d.pool.now d.index (forms parts.fields) (forms parts.extensions) (undeclared parts.unknown) in
    none_told _ c.from_residual-in_err-unknown_len.result c.from_residual-in_err-unknown_len.ensures (omega (arith, whole, c.in_err-unknown_len.ensures))

pub parts_len-returns : goal.parts_len-returns
parts_len-returns t c =
    let parts = c.args.parts.now in
    let d = c.args.descriptor in
    let whole = parts_length d.pool.now d.index (forms parts.fields) (forms parts.extensions) (undeclared parts.unknown) in
    told c.checked_add-2.result _ _ (omega (arith, whole, c.in_ok-fields.ensures, c.in_ok-extensions_len.ensures, c.in_ok-declared.ensures, c.in_ok-unknown_len.ensures)) c.checked_add-2.ensures

pub record_len-returns-in_err-message_len-in-Message : goal.record_len-returns-in_err-message_len-in-Message
record_len-returns-in_err-message_len-in-Message t c =
    let f = either_type c.args.field in
    let body = message_bytes c.in-Message.message in
    let formed = message_formed c.args.value.now c.in-Message.message f c.in-Message.is in
    let keys : (wire : WireType) → c.key_len_of-key.result ≡ length (key_bytes (key_of f.number wire)) = λ wire. c.key_len_of-key.ensures wire ∙ ap (λ n. length (key_bytes (key_of n wire))) c.number-number.ensures in
    let whole = ap length formed ∙ group_length f body c.key_len_of-key.result (sym c.is_group.ensures ∙ c.if-is_group.true) keys in
    none_told _ c.from_residual.result c.from_residual.ensures (omega (arith, whole, c.in_err-message_len-in-Message.ensures))

pub record_len-returns-in_err-checked_add-in-Message : goal.record_len-returns-in_err-checked_add-in-Message
record_len-returns-in_err-checked_add-in-Message t c =
    let f = either_type c.args.field in
    let body = message_bytes c.in-Message.message in
    let formed = message_formed c.args.value.now c.in-Message.message f c.in-Message.is in
    let keys : (wire : WireType) → c.key_len_of-key.result ≡ length (key_bytes (key_of f.number wire)) = λ wire. c.key_len_of-key.ensures wire ∙ ap (λ n. length (key_bytes (key_of n wire))) c.number-number.ensures in
    let whole = ap length formed ∙ group_length f body c.key_len_of-key.result (sym c.is_group.ensures ∙ c.if-is_group.true) keys in
    none_told _ c.from_residual-in_err-checked_add-in-Message.result c.from_residual-in_err-checked_add-in-Message.ensures (omega (arith, whole, c.in_ok-message_len-in-Message.ensures, c.in_err-checked_add-in-Message.ensures))

pub record_len-returns-in_ok-checked_add-in-Message : goal.record_len-returns-in_ok-checked_add-in-Message
record_len-returns-in_ok-checked_add-in-Message t c =
    let f = either_type c.args.field in
    let body = message_bytes c.in-Message.message in
    let formed = message_formed c.args.value.now c.in-Message.message f c.in-Message.is in
    let keys : (wire : WireType) → c.key_len_of-key.result ≡ length (key_bytes (key_of f.number wire)) = λ wire. c.key_len_of-key.ensures wire ∙ ap (λ n. length (key_bytes (key_of n wire))) c.number-number.ensures in
    let whole = ap length formed ∙ group_length f body c.key_len_of-key.result (sym c.is_group.ensures ∙ c.if-is_group.true) keys in
    told c.checked_add-in-Message.result _ _ (omega (arith, whole, c.in_ok-message_len-in-Message.ensures, c.in_ok-checked_add-in-Message.ensures)) c.checked_add-in-Message.ensures

pub record_len-returns-in_err-message_len-in-Message-2 : goal.record_len-returns-in_err-message_len-in-Message-2
record_len-returns-in_err-message_len-in-Message-2 t c =
    let f = either_type c.args.field in
    let body = message_bytes c.in-Message-2.message in
    let formed = message_formed c.args.value.now c.in-Message-2.message f c.in-Message-2.is in
    let whole = ap length formed ∙ framed_length f body (sym c.is_group.ensures ∙ c.if-is_group.false) ∙ payload_length f.number body _ refl in
    none_told _ c.from_residual-in_err-message_len-in-Message-2.result c.from_residual-in_err-message_len-in-Message-2.ensures (omega (arith, whole, c.in_err-message_len-in-Message-2.ensures))
