use Rattle.std.proofs.Common.{rules, ◌≡◌, ℕ, List, [], ◌∷◌, ◌++◌, map, reverse, None, Some, option_map, OnOk, sym, ap, ◌∙◌, subst}
use Rattle.std.specs.List.{zip, flat_map}
use Rattle.reflect_codec.specs.Held.{held}
use Rattle.reflect_codec.specs.Fields.{payload_field}
use Rattle.reflect_pool.specs.Kinds.{IsKind}
use Rattle.reflect_scalar.specs.Keys.{key_view}
use Rattle.reflect_scalar.specs.Singles.{scalar_view}
use Rattle.reflect_encode.proofs.Forms.{one_single}
use Rattle.reflect_pool.specs.FieldsLeft.{field_type}
use Rattle.reflect_pool.specs.declared.message.MessageDescriptor.{MessageDescriptor}
use Rattle.reflect_scalar.specs.FieldTypes.{either_pool, either_type, field_pool, extension_type}
use Rattle.reflect_entries.proofs.Zips.{even_parts, zip_parts}
use Rattle.reflect_entries.specs.Pairs.{on_value}
use Rattle.reflect_entries.specs.Left.{unwritten}
use Rattle.reflect_message.specs.Bytes.{form_of, forms, content_bytes, declared_bytes, others_down, entry_bytes, key_part, record_in}
use Rattle.reflect_message.specs.Known.{known_field, known_extension}
use Rattle.reflect_message.specs.Names.{Value}
use Rattle.reflect_encode.proofs.Before.{before, shorter, zip_ends, known_put, nothing_put, others_before, entry_put}
use Rattle.reflect_encode.proofs.encode.+put.Goals as goal

pub put_fields-fields-init : goal.put_fields-fields-init
put_fields-fields-init t c =
    let d = c.args.descriptor in
    let es = c.args.parts.now.fields in
    let ns = c.into_iter-number-iterator.result.a.iter.rest.now in
    let vs = c.into_iter-number-iterator.result.b.iter.rest.now in
    let a : ns ≡ map (λ (e : ℕ × Value). e.0) es = search rules in
    let b : vs ≡ map (λ (e : ℕ × Value). e.1) es = search rules in
    record {
      left = ap (λ l. flat_map (declared_bytes d.pool.now d.index) (forms l) ++ held c.args.out.now) (zip_parts es ns vs a b);
      even = even_parts es ns vs a b;
    }

pub put_fields-fields-preserved-in-Continue-1 : goal.put_fields-fields-preserved-in-Continue-1
put_fields-fields-preserved-in-Continue-1 t c =
    let d = c.args.descriptor in
    let f = c.in-Some-declared_field.field in
    let ns = c.fields.number-iterator.a.iter.rest.now in
    let vs = c.fields.number-iterator.b.iter.rest.now in
    let ms = c.next.new.self.a.iter.rest.now in
    let ws = c.next.new.self.b.iter.rest.now in
    let n = c.in-Some.number.now in
    let v = c.in-Some.value.now in
    let a : ns ≡ ms ++ n ∷ [] = search rules in
    let b : vs ≡ ws ++ v ∷ [] = search rules in
    let even = c.fields.invariant.even in
    let known : option_map field_type c.declared_field.result ≡ Some (field_type f) = search rules in
    let put : held c.put_content.new.out ≡ content_bytes d.pool.now (field_type f) (form_of v) ++ held c.fields.out =
    c.in_ok-put_content.ensures ∙ ap (λ (d : MessageDescriptor). content_bytes d.pool.now (field_type f) (form_of v) ++ held c.fields.out) c.in-Some-declared_field.ensures.message in
    let more = known_put d.pool.now (option_map field_type c.declared_field.result) (known_field d.pool.now d.index n) (field_type f) (form_of v) (held c.fields.out) (held c.put_content.new.out) c.declared_field.ensures.known known put in
    record {
      left = before (on_value form_of) (declared_bytes d.pool.now d.index) (zip ns vs) (zip ms ws) (n, v) (held c.fields.out) (held c.put_content.new.out) _ (zip_ends ns ms n vs ws v a b even) c.fields.invariant.left more;
      even = shorter ns ms n vs ws v a b even;
    }

pub put_fields-fields-preserved : goal.put_fields-fields-preserved
put_fields-fields-preserved t c =
    let d = c.args.descriptor in
    let ns = c.fields.number-iterator.a.iter.rest.now in
    let vs = c.fields.number-iterator.b.iter.rest.now in
    let ms = c.next.new.self.a.iter.rest.now in
    let ws = c.next.new.self.b.iter.rest.now in
    let n = c.in-Some.number.now in
    let v = c.in-Some.value.now in
    let a : ns ≡ ms ++ n ∷ [] = search rules in
    let b : vs ≡ ws ++ v ∷ [] = search rules in
    let even = c.fields.invariant.even in
    let none : option_map field_type c.declared_field.result ≡ None = search rules in
    let more = nothing_put d.pool.now (option_map field_type c.declared_field.result) (known_field d.pool.now d.index n) (form_of v) (held c.fields.out) c.declared_field.ensures.known none in
    record {
      left = before (on_value form_of) (declared_bytes d.pool.now d.index) (zip ns vs) (zip ms ws) (n, v) (held c.fields.out) (held c.fields.out) _ (zip_ends ns ms n vs ws v a b even) c.fields.invariant.left more;
      even = shorter ns ms n vs ws v a b even;
    }

pub put_others-extensions-init : goal.put_others-extensions-init
put_others-extensions-init t c =
    let d = c.args.descriptor in
    let es = c.args.parts.now.extensions in
    let ns = c.into_iter-number-iterator.result.a.iter.rest.now in
    let vs = c.into_iter-number-iterator.result.b.iter.rest.now in
    let a : ns ≡ map (λ (e : ℕ × Value). e.0) es = search rules in
    let b : vs ≡ map (λ (e : ℕ × Value). e.1) es = search rules in
    record {
      left = ap (λ l. others_down d.pool.now d.index (reverse (forms l)) (unwritten c.descent-unknown.result) ++ held c.args.out.now) (zip_parts es ns vs a b)
          ∙ ap (λ u. others_down d.pool.now d.index (reverse (forms es)) u ++ held c.args.out.now) c.descent-unknown.ensures;
      even = even_parts es ns vs a b;
    }

pub put_others-extensions-preserved-in-Continue-branch-2 : goal.put_others-extensions-preserved-in-Continue-branch-2
put_others-extensions-preserved-in-Continue-branch-2 t c =
    let d = c.args.descriptor in
    let x = c.in-Some-declared_extension.extension in
    let ns = c.extensions.number-iterator.a.iter.rest.now in
    let vs = c.extensions.number-iterator.b.iter.rest.now in
    let ms = c.next.new.self.a.iter.rest.now in
    let ws = c.next.new.self.b.iter.rest.now in
    let n = c.in-Some.number.now in
    let v = c.in-Some.value.now in
    let a : ns ≡ ms ++ n ∷ [] = search rules in
    let b : vs ≡ ws ++ v ∷ [] = search rules in
    let even = c.extensions.invariant.even in
    let mid = held c.put_above.new.out in
    let known : option_map extension_type c.declared_extension.result ≡ Some (extension_type x) = search rules in
    let put : held c.put_content.new.out ≡ content_bytes d.pool.now (extension_type x) (form_of v) ++ mid =
    c.in_ok-put_content.ensures ∙ ap (λ p. content_bytes p (extension_type x) (form_of v) ++ mid) c.in-Some-declared_extension.ensures.owns.0.0 in
    let more = known_put d.pool.now (option_map extension_type c.declared_extension.result) (known_extension d.pool.now d.index n) (extension_type x) (form_of v) mid (held c.put_content.new.out) c.declared_extension.ensures.known known put in
    record {
      left = others_before d.pool.now d.index n v (zip ns vs) (zip ms ws) (unwritten c.extensions.unknown) (unwritten c.put_above.new.self) (held c.extensions.out) mid (held c.put_content.new.out) _ (zip_ends ns ms n vs ws v a b even) c.extensions.invariant.left c.in_ok-put_above.ensures.written c.in_ok-put_above.ensures.rest more;
      even = shorter ns ms n vs ws v a b even;
    }

pub put_others-extensions-preserved : goal.put_others-extensions-preserved
put_others-extensions-preserved t c =
    let d = c.args.descriptor in
    let ns = c.extensions.number-iterator.a.iter.rest.now in
    let vs = c.extensions.number-iterator.b.iter.rest.now in
    let ms = c.next.new.self.a.iter.rest.now in
    let ws = c.next.new.self.b.iter.rest.now in
    let n = c.in-Some.number.now in
    let v = c.in-Some.value.now in
    let a : ns ≡ ms ++ n ∷ [] = search rules in
    let b : vs ≡ ws ++ v ∷ [] = search rules in
    let even = c.extensions.invariant.even in
    let mid = held c.put_above.new.out in
    let none : option_map extension_type c.declared_extension.result ≡ None = search rules in
    let more = nothing_put d.pool.now (option_map extension_type c.declared_extension.result) (known_extension d.pool.now d.index n) (form_of v) mid c.declared_extension.ensures.known none in
    record {
      left = others_before d.pool.now d.index n v (zip ns vs) (zip ms ws) (unwritten c.extensions.unknown) (unwritten c.put_above.new.self) (held c.extensions.out) mid mid _ (zip_ends ns ms n vs ws v a b even) c.extensions.invariant.left c.in_ok-put_above.ensures.written c.in_ok-put_above.ensures.rest more;
      even = shorter ns ms n vs ws v a b even;
    }

pub put_map-entries-preserved : goal.put_map-entries-preserved
put_map-entries-preserved t c =
    let pool = either_pool c.args.field in
    let f = either_type c.args.field in
    let k = field_type c.in-Some.keys in
    let w = field_type c.in-Some.values in
    let left = c.entries.key-iterator.iter in
    let front = c.next.new.self.iter in
    let key = c.in-Some-2.key.now in
    let v = c.in-Some-2.value.now in
    let step : left ≡ front ++ (key, v) ∷ [] = search rules in
    let kind : IsKind pool c.kind.result f.kind = c.kind.ensures in
    let fields = c.in-Some.ensures.some pool f.kind kind in
    let put = entry_put pool f (field_pool c.in-Some.keys) (field_pool c.in-Some.values) k w key (form_of v) (held c.entries.out) (held c.put_entry.new.out) fields.0 fields.1
    (c.in_ok-put_entry.ensures ∙ ap (λ n. payload_field n (key_part (field_pool c.in-Some.keys) k (key_view key) ++ content_bytes (field_pool c.in-Some.values) w (form_of v)) ++ held c.entries.out) c.number.ensures) in
    before (λ e. (e.0, form_of e.1)) (entry_bytes pool f k w) left front (key, v) (held c.entries.out) (held c.put_entry.new.out) _ step c.entries.invariant put

pub put_record-returns-in_default : goal.put_record-returns-in_default
put_record-returns-in_default t c =
    let f = either_type c.args.field in
    let v = c.args.value.now in
    let seen = option_map scalar_view c.as_scalar.result in
    let same : record_in f.kind c.number-number.result seen ≡ (form_of v).one f =
    ap (λ n. record_in f.kind n seen) c.number-number.ensures ∙ ap (record_in f.kind f.number) c.as_scalar.ensures ∙ sym (one_single v f c.in_default.not-Message) in
    subst (λ (b : List ℕ). OnOk c.put_single.result (held c.put_single.new.out ≡ b ++ held c.args.out.now)) same (c.put_single.ensures.written (either_pool c.args.field) f.kind c.kind.ensures)
