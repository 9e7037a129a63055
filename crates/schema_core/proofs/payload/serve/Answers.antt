use Rattle.std.proofs.Common.{refl, ◌∙◌, subst, string_bytes, IsUtf8}
use Rattle.schema_core.specs.Payloads.{Decoded, Encoded, Recoded}
use Rattle.std.proofs.lemmas.Result.{err_from_is_err_and}
use Rattle.schema_core.specs.Refusals.{BytesRefused, TextRefused}
use Rattle.schema_core.specs.Serving.{Answers, RefusesInput, of_schema, shown}
use Rattle.schema_core.proofs.Answered.{answered}
use Rattle.schema_core.proofs.RefusedInputs.{of_decoded, of_input, of_recoded, refused_input, unprinted, unwritten}
use Rattle.schema_core.proofs.payload.serve.Goals as goal

pub returns-in_ok-bytes-in-Encode-clause-answered : goal.returns-in_ok-bytes-in-Encode-clause-answered
returns-in_ok-bytes-in-Encode-clause-answered g c =
    let text = c.in_ok-utf8-in-Encode.ensures.ok in
    let bytes = c.in_ok-bytes-in-Encode in
    answered (Answers c.args.action c.args.schema.now.pool c.args.type_name.now c.args.is_hex) _ _ _ _ c.in_ok-input.input.items (shown c.args.is_hex bytes.bytes.items) c.in_ok-input.ensures.bytes (rw c.in-Encode.is (subst IsUtf8 c.as_slice.ensures.value text.1, (bytes.bytes.items, subst (λ z. Encoded c.args.schema.now.pool c.args.type_name.now z bytes.bytes.items) (text.0 ∙ c.as_slice.ensures.value) bytes.ensures.ok, refl))) (rw c.as_slice-in-Encode.ensures.value at c.write_bytes.ensures.ok)

pub returns-in_ok-text-in-Decode-clause-answered : goal.returns-in_ok-text-in-Decode-clause-answered
returns-in_ok-text-in-Decode-clause-answered g c =
    let bytes = c.in_ok-bytes-in-Decode in
    answered (Answers c.args.action c.args.schema.now.pool c.args.type_name.now c.args.is_hex) _ _ _ _ c.in_ok-input.input.items (string_bytes c.in_ok-text-in-Decode.text) c.in_ok-input.ensures.bytes
    (rw c.in-Decode.is (bytes.bytes.items, bytes.ensures.ok, (string_bytes c.in_ok-decode-in-Decode.field-0, subst (λ b. Decoded c.args.schema.now.pool c.args.type_name.now b (string_bytes c.in_ok-decode-in-Decode.field-0)) c.as_slice-in-Decode.ensures.value c.in_ok-decode-in-Decode.ensures.ok, c.in_ok-text-in-Decode.ensures.ok))) (rw (c.as_bytes.ensures.value, c.as_str.ensures.value) at c.write_all.ensures.ok)

pub returns-in_ok-bytes-in-Recode-2-clause-answered : goal.returns-in_ok-bytes-in-Recode-2-clause-answered
returns-in_ok-bytes-in-Recode-2-clause-answered g c =
    let bytes = c.in_ok-bytes-in-Recode in
    let recoded = c.in_ok-bytes-in-Recode-2 in
    answered (Answers c.args.action c.args.schema.now.pool c.args.type_name.now c.args.is_hex) _ _ _ _ c.in_ok-input.input.items (shown c.args.is_hex recoded.bytes.items) c.in_ok-input.ensures.bytes
    (rw c.in-Recode.is (bytes.bytes.items, bytes.ensures.ok, (recoded.bytes.items, subst (λ b. Recoded c.args.schema.now.pool c.args.type_name.now b recoded.bytes.items) c.as_slice-in-Recode.ensures.value recoded.ensures.ok, refl))) (rw c.as_slice-in-Recode-2.ensures.value at c.write_bytes-in-Recode.ensures.ok)

pub returns-in_err-bytes-in-Encode-clause-refused : goal.returns-in_err-bytes-in-Encode-clause-refused
returns-in_err-bytes-in-Encode-clause-refused g c =
    let pool = c.args.schema.now.pool in
    let name = c.args.type_name.now in
    let text = c.in_ok-utf8-in-Encode.ensures.ok in
    let failed = c.in_err-bytes-in-Encode in
    let r = c.from_residual-in_err-bytes-in-Encode in
    let p = err_from_is_err_and r.result r.ensures.1 in
    let refused = subst (λ z. TextRefused pool name z failed.field-0.0) (text.0 ∙ c.as_slice.ensures.value) failed.ensures.err in
    rw (p.1, p.2) (refused_input (RefusesInput c.args.action pool name c.args.is_hex) _ c.in_ok-input.input.items (of_schema failed.field-0.0) c.in_ok-input.ensures.bytes
    (rw c.in-Encode.is (of_input pool name c.args.is_hex c.in_ok-input.input.items failed.field-0.0 refused)))

pub returns-in_err-decode-in-Decode-clause-refused : goal.returns-in_err-decode-in-Decode-clause-refused
returns-in_err-decode-in-Decode-clause-refused g c =
    let pool = c.args.schema.now.pool in
    let name = c.args.type_name.now in
    let bytes = c.in_ok-bytes-in-Decode in
    let failed = c.in_err-decode-in-Decode in
    let r = c.from_residual-in_err-decode-in-Decode in
    let p = err_from_is_err_and r.result r.ensures.1 in
    let refused = subst (λ b. BytesRefused pool name b failed.field-0.0) c.as_slice-in-Decode.ensures.value failed.ensures.err in
    rw (p.1, p.2) (refused_input (RefusesInput c.args.action pool name c.args.is_hex) _ c.in_ok-input.input.items (of_schema failed.field-0.0) c.in_ok-input.ensures.bytes
    (rw c.in-Decode.is (of_decoded pool name c.args.is_hex c.in_ok-input.input.items bytes.bytes.items failed.field-0.0 bytes.ensures.ok refused)))

pub returns-in_err-bytes-in-Recode-2-clause-refused : goal.returns-in_err-bytes-in-Recode-2-clause-refused
returns-in_err-bytes-in-Recode-2-clause-refused g c =
    let pool = c.args.schema.now.pool in
    let name = c.args.type_name.now in
    let bytes = c.in_ok-bytes-in-Recode in
    let failed = c.in_err-bytes-in-Recode-2 in
    let r = c.from_residual-in_err-bytes-in-Recode-2 in
    let p = err_from_is_err_and r.result r.ensures.1 in
    let refused = subst (λ b. BytesRefused pool name b failed.field-0.0) c.as_slice-in-Recode.ensures.value failed.ensures.err in
    rw (p.1, p.2) (refused_input (RefusesInput c.args.action pool name c.args.is_hex) _ c.in_ok-input.input.items (of_schema failed.field-0.0) c.in_ok-input.ensures.bytes
    (rw c.in-Recode.is (of_recoded pool name c.args.is_hex c.in_ok-input.input.items bytes.bytes.items failed.field-0.0 bytes.ensures.ok refused)))

pub returns-in_ok-bytes-in-Encode-clause-refused : goal.returns-in_ok-bytes-in-Encode-clause-refused
returns-in_ok-bytes-in-Encode-clause-refused g c =
    let text = c.in_ok-utf8-in-Encode.ensures.ok in
    let bytes = c.in_ok-bytes-in-Encode in
    unwritten (RefusesInput c.args.action c.args.schema.now.pool c.args.type_name.now c.args.is_hex) _ _ c.in_ok-input.input.items _ c.in_ok-input.ensures.bytes
    (rw c.in-Encode.is (shown c.args.is_hex bytes.bytes.items, (subst IsUtf8 c.as_slice.ensures.value text.1, (bytes.bytes.items, subst (λ z. Encoded c.args.schema.now.pool c.args.type_name.now z bytes.bytes.items) (text.0 ∙ c.as_slice.ensures.value) bytes.ensures.ok, refl)))) (rw c.in-Encode.is tt) c.write_bytes.ensures.err

pub returns-in_ok-text-in-Decode-clause-refused : goal.returns-in_ok-text-in-Decode-clause-refused
returns-in_ok-text-in-Decode-clause-refused g c =
    let bytes = c.in_ok-bytes-in-Decode in
    unprinted (RefusesInput c.args.action c.args.schema.now.pool c.args.type_name.now c.args.is_hex) _ _ c.in_ok-input.input.items c.in_ok-input.ensures.bytes
    (rw c.in-Decode.is (string_bytes c.in_ok-text-in-Decode.text, (bytes.bytes.items, bytes.ensures.ok, (string_bytes c.in_ok-decode-in-Decode.field-0, subst (λ b. Decoded c.args.schema.now.pool c.args.type_name.now b (string_bytes c.in_ok-decode-in-Decode.field-0)) c.as_slice-in-Decode.ensures.value c.in_ok-decode-in-Decode.ensures.ok, c.in_ok-text-in-Decode.ensures.ok)))) c.write_all.ensures.err

pub returns-in_ok-bytes-in-Recode-2-clause-refused : goal.returns-in_ok-bytes-in-Recode-2-clause-refused
returns-in_ok-bytes-in-Recode-2-clause-refused g c =
    let bytes = c.in_ok-bytes-in-Recode in
    let recoded = c.in_ok-bytes-in-Recode-2 in
    unwritten (RefusesInput c.args.action c.args.schema.now.pool c.args.type_name.now c.args.is_hex) _ _ c.in_ok-input.input.items _ c.in_ok-input.ensures.bytes
    (rw c.in-Recode.is (shown c.args.is_hex recoded.bytes.items, (bytes.bytes.items, bytes.ensures.ok, (recoded.bytes.items, subst (λ b. Recoded c.args.schema.now.pool c.args.type_name.now b recoded.bytes.items) c.as_slice-in-Recode.ensures.value recoded.ensures.ok, refl)))) (rw c.in-Recode.is tt) c.write_bytes-in-Recode.ensures.err
