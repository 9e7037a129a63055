use Rattle.std.proofs.Common.{inl, inr, refl}
use Rattle.std.proofs.lemmas.Result.{err_from_is_err_and}
use Rattle.reflect_codec.proofs.Values.{rejects}
use Rattle.reflect_codec.proofs.field.FieldDescriptorProtoReadRecord.from_fields.Goals as goal

pub returns-in_err-last : goal.returns-in_err-last
returns-in_err-last c =
    let p = err_from_is_err_and c.from_residual.result c.from_residual.ensures.1 in
    rw (p.1, p.2) (rejects (λ r m. (r.name, m.name)) (λ fault. record { why = inl (1, refl, fault) }) c.in_err-last.ensures)

pub returns-in_err-last-2 : goal.returns-in_err-last-2
returns-in_err-last-2 c =
    let p = err_from_is_err_and c.from_residual-in_err-last-2.result c.from_residual-in_err-last-2.ensures.1 in
    rw (p.1, p.2) (rejects (λ r m. (r.number, m.number)) (λ fault. record { why = inr (inl (3, refl, fault)) }) c.in_err-last-2.ensures)

pub returns-in_err-last-3 : goal.returns-in_err-last-3
returns-in_err-last-3 c =
    let p = err_from_is_err_and c.from_residual-in_err-last-3.result c.from_residual-in_err-last-3.ensures.1 in
    rw (p.1, p.2) (rejects (λ r m. (r.label, m.label)) (λ fault. record { why = inr (inl (4, refl, fault)) }) c.in_err-last-3.ensures)

pub returns-in_err-last-4 : goal.returns-in_err-last-4
returns-in_err-last-4 c =
    let p = err_from_is_err_and c.from_residual-in_err-last-4.result c.from_residual-in_err-last-4.ensures.1 in
    rw (p.1, p.2) (rejects (λ r m. (r.field_type, m.field_type)) (λ fault. record { why = inr (inl (5, refl, fault)) }) c.in_err-last-4.ensures)

pub returns-in_err-last-5 : goal.returns-in_err-last-5
returns-in_err-last-5 c =
    let p = err_from_is_err_and c.from_residual-in_err-last-5.result c.from_residual-in_err-last-5.ensures.1 in
    rw (p.1, p.2) (rejects (λ r m. (r.type_name, m.type_name)) (λ fault. record { why = inl (6, refl, fault) }) c.in_err-last-5.ensures)

pub returns-in_err-last-6 : goal.returns-in_err-last-6
returns-in_err-last-6 c =
    let p = err_from_is_err_and c.from_residual-in_err-last-6.result c.from_residual-in_err-last-6.ensures.1 in
    rw (p.1, p.2) (rejects (λ r m. (r.extendee, m.extendee)) (λ fault. record { why = inl (2, refl, fault) }) c.in_err-last-6.ensures)

pub returns-in_err-last-7 : goal.returns-in_err-last-7
returns-in_err-last-7 c =
    let p = err_from_is_err_and c.from_residual-in_err-last-7.result c.from_residual-in_err-last-7.ensures.1 in
    rw (p.1, p.2) (rejects (λ r m. (r.default_value, m.default_value)) (λ fault. record { why = inl (7, refl, fault) }) c.in_err-last-7.ensures)

pub returns-in_err-last-8 : goal.returns-in_err-last-8
returns-in_err-last-8 c =
    let p = err_from_is_err_and c.from_residual-in_err-last-8.result c.from_residual-in_err-last-8.ensures.1 in
    rw (p.1, p.2) (rejects (λ r m. (r.oneof_index, m.oneof_index)) (λ fault. record { why = inr (inl (9, refl, fault)) }) c.in_err-last-8.ensures)

pub returns-in_err-last-9 : goal.returns-in_err-last-9
returns-in_err-last-9 c =
    let p = err_from_is_err_and c.from_residual-in_err-last-9.result c.from_residual-in_err-last-9.ensures.1 in
    rw (p.1, p.2) (rejects (λ r m. (r.json_name, m.json_name)) (λ fault. record { why = inl (10, refl, fault) }) c.in_err-last-9.ensures)

pub returns-in_err-options : goal.returns-in_err-options
returns-in_err-options c =
    let p = err_from_is_err_and c.from_residual-in_err-options.result c.from_residual-in_err-options.ensures.1 in
    rw (p.1, p.2) (rejects (λ r m. (r.options, m.options)) (λ fault. record { why = inr (inr fault) }) c.in_err-options.ensures)

pub returns-in_err-last-10 : goal.returns-in_err-last-10
returns-in_err-last-10 c =
    let p = err_from_is_err_and c.from_residual-in_err-last-10.result c.from_residual-in_err-last-10.ensures.1 in
    rw (p.1, p.2) (rejects (λ r m. (r.proto3_optional, m.proto3_optional)) (λ fault. record { why = inr (inl (17, refl, fault)) }) c.in_err-last-10.ensures)
