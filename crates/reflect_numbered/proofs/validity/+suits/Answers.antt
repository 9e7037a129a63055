use Rattle.std.proofs.Common.{rules, ◌≡◌, ℕ, ◌∷◌, map, length, None, Some, option_map, true, false, ◌&&◌, refl, sym, ap, ◌∙◌, subst, arith}
use Rattle.std.specs.List.{list_all, zip}
use Rattle.std.proofs.lemmas.List.{take_all}
use Rattle.reflect_pool.specs.FieldsLeft.{field_type}
use Rattle.reflect_pool.specs.Kinds.{IsKind}
use Rattle.reflect_scalar.specs.FieldTypes.{extension_type}
use Rattle.reflect_scalar.specs.Keys.{key_view}
use Rattle.reflect_scalar.specs.Singles.{scalar_view}
use Rattle.reflect_scalar.specs.declared.map_key.MapKey.{MapKey}
use Rattle.reflect_entries.proofs.Zips.{even_parts, zip_ended, zip_next, zip_parts}
use Rattle.reflect_entries.specs.Pairs.{on_value}
use Rattle.reflect_message.specs.Known.{known_field, known_extension}
use Rattle.reflect_message.specs.Names.{Value}
use Rattle.reflect_pool.specs.declared.message.MessageDescriptor.{MessageDescriptor}
use Rattle.reflect_numbered.specs.Fits.{entry_fits, extension_fits, field_fits, fit_of, fits_of, is_one}
use Rattle.reflect_numbered.proofs.Fitting.{all_good, entries_known, known_fits, next_bad, next_good, none_left, one_bad, one_more, one_single, suits_one, unknown_fits}
use Rattle.reflect_numbered.proofs.validity.+suits.Goals as goal
use Rattle.reflect_numbered.proofs.validity.+suits.Goals.{map_suits-then-not-is_valid-via-then-not-is_valid, map_suits-then-not-is_valid-via-else-not-is_valid+then-not-value_suits}

pub extensions_suit-extensions-init : goal.extensions_suit-extensions-init
extensions_suit-extensions-init t c =
    let es = c.args.parts.now.extensions in
    let ns = c.into_iter-number-iterator.result.a.rest.now in
    let vs = c.into_iter-number-iterator.result.b.rest.now in
    let a : ns ≡ map (λ (e : ℕ × Value). e.0) es = search rules in
    let b : vs ≡ map (λ (e : ℕ × Value). e.1) es = search rules in
    record {
      left = ap (λ l. list_all (extension_fits c.args.strictness c.args.descriptor.pool.now c.args.descriptor.index) (fits_of l)) (zip_parts es ns vs a b);
      even = even_parts es ns vs a b;
    }

pub extensions_suit-returns-in_default : goal.extensions_suit-returns-in_default
extensions_suit-returns-in_default t c =
    let d = c.args.descriptor in
    let ns = c.extensions.number-iterator.a.rest.now in
    let vs = c.extensions.number-iterator.b.rest.now in
    let ms = c.next.new.self.a.rest.now in
    let ws = c.next.new.self.b.rest.now in
    let n = c.in-Some.number.now in
    let v = c.in-Some.value.now in
    let a : ns ≡ n ∷ ms = search rules in
    let b : vs ≡ v ∷ ws = search rules in
    let none : option_map extension_type c.declared_extension.result ≡ None = search rules in
    let bad = unknown_fits c.args.strictness d.pool.now (fit_of v) (option_map extension_type c.declared_extension.result) (known_extension d.pool.now d.index n) c.declared_extension.ensures.known none in
    next_bad (on_value fit_of) (extension_fits c.args.strictness d.pool.now d.index) (zip ns vs) (zip ms ws) (n, v) _ (zip_next ns ms vs ws n v a b) c.extensions.invariant.left bad

pub extensions_suit-returns-then-not-content_suits : goal.extensions_suit-returns-then-not-content_suits
extensions_suit-returns-then-not-content_suits t c =
    let d = c.args.descriptor in
    let x = c.in-Some-declared_extension.extension in
    let ns = c.extensions.number-iterator.a.rest.now in
    let vs = c.extensions.number-iterator.b.rest.now in
    let ms = c.next.new.self.a.rest.now in
    let ws = c.next.new.self.b.rest.now in
    let n = c.in-Some.number.now in
    let v = c.in-Some.value.now in
    let a : ns ≡ n ∷ ms = search rules in
    let b : vs ≡ v ∷ ws = search rules in
    let known : option_map extension_type c.declared_extension.result ≡ Some (extension_type x) = search rules in
    let good = known_fits c.args.strictness d.pool.now (fit_of v) (option_map extension_type c.declared_extension.result) (known_extension d.pool.now d.index n) _ (extension_type x) c.content_suits.result c.declared_extension.ensures.known known c.in-Some-declared_extension.ensures.owns.0.0 c.content_suits.ensures in
    next_bad (on_value fit_of) (extension_fits c.args.strictness d.pool.now d.index) (zip ns vs) (zip ms ws) (n, v) _ (zip_next ns ms vs ws n v a b) c.extensions.invariant.left (good ∙ c.if-not-content_suits.true)

pub extensions_suit-extensions-preserved : goal.extensions_suit-extensions-preserved
extensions_suit-extensions-preserved t c =
    let d = c.args.descriptor in
    let x = c.in-Some-declared_extension.extension in
    let ns = c.extensions.number-iterator.a.rest.now in
    let vs = c.extensions.number-iterator.b.rest.now in
    let ms = c.next.new.self.a.rest.now in
    let ws = c.next.new.self.b.rest.now in
    let n = c.in-Some.number.now in
    let v = c.in-Some.value.now in
    let a : ns ≡ n ∷ ms = search rules in
    let b : vs ≡ v ∷ ws = search rules in
    let even = c.extensions.invariant.even in
    let known : option_map extension_type c.declared_extension.result ≡ Some (extension_type x) = search rules in
    let good = known_fits c.args.strictness d.pool.now (fit_of v) (option_map extension_type c.declared_extension.result) (known_extension d.pool.now d.index n) _ (extension_type x) c.content_suits.result c.declared_extension.ensures.known known c.in-Some-declared_extension.ensures.owns.0.0 c.content_suits.ensures in
    record {
      left = next_good (on_value fit_of) (extension_fits c.args.strictness d.pool.now d.index) (zip ns vs) (zip ms ws) (n, v) _ (zip_next ns ms vs ws n v a b) c.extensions.invariant.left (good ∙ c.if-not-content_suits.false);
      even = omega (arith, even, ap length a, ap length b);
    }

pub extensions_suit-returns : goal.extensions_suit-returns
extensions_suit-returns t c =
    let d = c.args.descriptor in
    let ns = c.extensions.number-iterator.a.rest.now in
    let vs = c.extensions.number-iterator.b.rest.now in
    none_left (on_value fit_of) (extension_fits c.args.strictness d.pool.now d.index) (zip ns vs) _ (zip_ended ns vs (search rules)) c.extensions.invariant.left

pub fields_suit-fields-init : goal.fields_suit-fields-init
fields_suit-fields-init t c =
    let es = c.args.parts.now.fields in
    let ns = c.into_iter-number-iterator.result.a.rest.now in
    let vs = c.into_iter-number-iterator.result.b.rest.now in
    let a : ns ≡ map (λ (e : ℕ × Value). e.0) es = search rules in
    let b : vs ≡ map (λ (e : ℕ × Value). e.1) es = search rules in
    record {
      left = ap (λ l. list_all (field_fits c.args.strictness c.args.descriptor.pool.now c.args.descriptor.index) (fits_of l)) (zip_parts es ns vs a b);
      even = even_parts es ns vs a b;
    }

pub fields_suit-returns-in_default : goal.fields_suit-returns-in_default
fields_suit-returns-in_default t c =
    let d = c.args.descriptor in
    let ns = c.fields.number-iterator.a.rest.now in
    let vs = c.fields.number-iterator.b.rest.now in
    let ms = c.next.new.self.a.rest.now in
    let ws = c.next.new.self.b.rest.now in
    let n = c.in-Some.number.now in
    let v = c.in-Some.value.now in
    let a : ns ≡ n ∷ ms = search rules in
    let b : vs ≡ v ∷ ws = search rules in
    let none : option_map field_type c.declared_field.result ≡ None = search rules in
    let bad = unknown_fits c.args.strictness d.pool.now (fit_of v) (option_map field_type c.declared_field.result) (known_field d.pool.now d.index n) c.declared_field.ensures.known none in
    next_bad (on_value fit_of) (field_fits c.args.strictness d.pool.now d.index) (zip ns vs) (zip ms ws) (n, v) _ (zip_next ns ms vs ws n v a b) c.fields.invariant.left bad

pub fields_suit-returns-then-not-content_suits : goal.fields_suit-returns-then-not-content_suits
fields_suit-returns-then-not-content_suits t c =
    let d = c.args.descriptor in
    let x = c.in-Some-declared_field.field in
    let ns = c.fields.number-iterator.a.rest.now in
    let vs = c.fields.number-iterator.b.rest.now in
    let ms = c.next.new.self.a.rest.now in
    let ws = c.next.new.self.b.rest.now in
    let n = c.in-Some.number.now in
    let v = c.in-Some.value.now in
    let a : ns ≡ n ∷ ms = search rules in
    let b : vs ≡ v ∷ ws = search rules in
    let known : option_map field_type c.declared_field.result ≡ Some (field_type x) = search rules in
    let good = known_fits c.args.strictness d.pool.now (fit_of v) (option_map field_type c.declared_field.result) (known_field d.pool.now d.index n) _ (field_type x) c.content_suits.result c.declared_field.ensures.known known (ap (λ (d : MessageDescriptor). d.pool.now) c.in-Some-declared_field.ensures.message) c.content_suits.ensures in
    next_bad (on_value fit_of) (field_fits c.args.strictness d.pool.now d.index) (zip ns vs) (zip ms ws) (n, v) _ (zip_next ns ms vs ws n v a b) c.fields.invariant.left (good ∙ c.if-not-content_suits.true)

pub fields_suit-fields-preserved : goal.fields_suit-fields-preserved
fields_suit-fields-preserved t c =
    let d = c.args.descriptor in
    let x = c.in-Some-declared_field.field in
    let ns = c.fields.number-iterator.a.rest.now in
    let vs = c.fields.number-iterator.b.rest.now in
    let ms = c.next.new.self.a.rest.now in
    let ws = c.next.new.self.b.rest.now in
    let n = c.in-Some.number.now in
    let v = c.in-Some.value.now in
    let a : ns ≡ n ∷ ms = search rules in
    let b : vs ≡ v ∷ ws = search rules in
    let even = c.fields.invariant.even in
    let known : option_map field_type c.declared_field.result ≡ Some (field_type x) = search rules in
    let good = known_fits c.args.strictness d.pool.now (fit_of v) (option_map field_type c.declared_field.result) (known_field d.pool.now d.index n) _ (field_type x) c.content_suits.result c.declared_field.ensures.known known (ap (λ (d : MessageDescriptor). d.pool.now) c.in-Some-declared_field.ensures.message) c.content_suits.ensures in
    record {
      left = next_good (on_value fit_of) (field_fits c.args.strictness d.pool.now d.index) (zip ns vs) (zip ms ws) (n, v) _ (zip_next ns ms vs ws n v a b) c.fields.invariant.left (good ∙ c.if-not-content_suits.false);
      even = omega (arith, even, ap length a, ap length b);
    }

pub fields_suit-returns : goal.fields_suit-returns
fields_suit-returns t c =
    let d = c.args.descriptor in
    let ns = c.fields.number-iterator.a.rest.now in
    let vs = c.fields.number-iterator.b.rest.now in
    none_left (on_value fit_of) (field_fits c.args.strictness d.pool.now d.index) (zip ns vs) _ (zip_ended ns vs (search rules)) c.fields.invariant.left

pub list_suits-values-init : goal.list_suits-values-init
list_suits-values-init t c = λ pool k is. refl

pub list_suits-returns-then-not-value_suits : goal.list_suits-returns-then-not-value_suits
list_suits-returns-then-not-value_suits t c = λ pool k is.
    one_bad c.args.strictness pool k c.args.values.now c.values.value-index c.value-item.result c.value_suits.result c.values-test.true c.value-item.is (c.value_suits.ensures pool k is) c.if-not-value_suits.true

pub list_suits-values-preserved : goal.list_suits-values-preserved
list_suits-values-preserved t c = λ pool k is.
    one_more c.args.strictness pool k c.args.values.now c.values.value-index c.value-item.result c.value_suits.result c.values-test.true c.value-item.is (c.value_suits.ensures pool k is) c.if-not-value_suits.false (c.values.invariant pool k is)

pub list_suits-returns : goal.list_suits-returns
list_suits-returns t c = λ pool k is.
    all_good c.args.strictness pool k c.args.values.now _ (take_all c.values.value-index c.args.values.now (omega (arith, c.values-test.false))) (c.values.invariant pool k is)

pub map_suits-entries-init : goal.map_suits-entries-init
map_suits-entries-init t c = λ pool k w is of. search rules

pub map_suits-returns-then-not-is_valid : goal.map_suits-returns-then-not-is_valid
map_suits-returns-then-not-is_valid t c = λ pool k is.
    let how = c.args.strictness in
    let fields = c.in-Some.ensures.some pool k is in
    let keys = field_type c.in-Some.keys in
    let values = field_type c.in-Some.values in
    let key = c.in-Some-2.key.now in
    let v = c.in-Some-2.value.now in
    let of_keys : IsKind pool c.kind-key_kind.result keys.kind = subst (λ p. IsKind p c.kind-key_kind.result keys.kind) fields.0 c.kind-key_kind.ensures in
    let of_values : IsKind pool c.kind-value_kind.result values.kind = subst (λ p. IsKind p c.kind-value_kind.result values.kind) fields.1 c.kind-value_kind.ensures in
    let step : c.entries.key-iterator ≡ (key, v) ∷ c.next.new.self = search rules in
    let suited : c.is_valid.result ≡ is_one keys.kind (key_view key) = c.is_valid.ensures ∙ suits_one pool c.kind-key_kind.result keys.kind (key_view key) of_keys in
    let bad : entry_fits how pool keys.kind values.kind (key, fit_of v) ≡ false = elim c.then-not-is_valid.branch [
      | map_suits-then-not-is_valid-via-then-not-is_valid w ↦ ap (λ b. b && (fit_of v).one how pool values.kind) (sym suited ∙ w.if-not-is_valid.true)
      | map_suits-then-not-is_valid-via-else-not-is_valid+then-not-value_suits w ↦ ap (λ b. b && (fit_of v).one how pool values.kind) (sym suited ∙ w.if-not-is_valid.false) ∙ sym (w.value_suits.ensures pool values.kind of_values) ∙ w.if-not-value_suits.true
    ] in
    next_bad (λ (e : MapKey × Value). (e.0, fit_of e.1)) (entry_fits how pool keys.kind values.kind) c.entries.key-iterator c.next.new.self (key, v) _ step (c.entries.invariant pool keys.kind values.kind of_keys of_values) bad
    ∙ sym (entries_known how pool k keys values _ fields.2 fields.3)

pub map_suits-entries-preserved : goal.map_suits-entries-preserved
map_suits-entries-preserved t c = λ pool k w is of.
    let how = c.args.strictness in
    let key = c.in-Some-2.key.now in
    let v = c.in-Some-2.value.now in
    let step : c.entries.key-iterator ≡ (key, v) ∷ c.next.new.self = search rules in
    let suited : c.is_valid.result ≡ is_one k (key_view key) = c.is_valid.ensures ∙ suits_one pool c.kind-key_kind.result k (key_view key) is in
    let good : entry_fits how pool k w (key, fit_of v) ≡ true =
    ap (λ b. b && (fit_of v).one how pool w) (sym suited ∙ c.if-not-is_valid.false) ∙ sym (c.value_suits.ensures pool w of) ∙ c.if-not-value_suits.false in
    next_good (λ (e : MapKey × Value). (e.0, fit_of e.1)) (entry_fits how pool k w) c.entries.key-iterator c.next.new.self (key, v) _ step (c.entries.invariant pool k w is of) good

pub map_suits-returns : goal.map_suits-returns
map_suits-returns t c = λ pool k is.
    let how = c.args.strictness in
    let fields = c.in-Some.ensures.some pool k is in
    let keys = field_type c.in-Some.keys in
    let values = field_type c.in-Some.values in
    let of_keys : IsKind pool c.kind-key_kind.result keys.kind = subst (λ p. IsKind p c.kind-key_kind.result keys.kind) fields.0 c.kind-key_kind.ensures in
    let of_values : IsKind pool c.kind-value_kind.result values.kind = subst (λ p. IsKind p c.kind-value_kind.result values.kind) fields.1 c.kind-value_kind.ensures in
    none_left (λ (e : MapKey × Value). (e.0, fit_of e.1)) (entry_fits how pool keys.kind values.kind) c.entries.key-iterator _ (search rules) (c.entries.invariant pool keys.kind values.kind of_keys of_values)
    ∙ sym (entries_known how pool k keys values _ fields.2 fields.3)

pub value_suits-returns-in-Some : goal.value_suits-returns-in-Some
value_suits-returns-in-Some t c = λ pool k is.
    c.is_valid.ensures ∙ suits_one pool c.args.kind.now k (scalar_view c.in-Some.scalar) is
    ∙ sym (one_single c.args.strictness pool k c.args.value.now (scalar_view c.in-Some.scalar) (search rules))
