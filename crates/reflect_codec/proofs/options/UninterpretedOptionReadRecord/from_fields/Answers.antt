use Rattle.std.proofs.Common.{inl, inr, refl}
use Rattle.std.proofs.lemmas.Result.{err_from_is_err_and}
use Rattle.reflect_codec.proofs.Values.{rejects}
use Rattle.reflect_codec.proofs.options.UninterpretedOptionReadRecord.from_fields.Goals as goal

pub returns-in_err-list : goal.returns-in_err-list
returns-in_err-list c =
    let p = err_from_is_err_and c.from_residual.result c.from_residual.ensures.1 in
    rw (p.1, p.2) (rejects (λ r m. (r.name, m.name)) (λ fault. record { why = inl (2, refl, fault) }) c.in_err-list.ensures)

pub returns-in_err-last : goal.returns-in_err-last
returns-in_err-last c =
    let p = err_from_is_err_and c.from_residual-in_err-last.result c.from_residual-in_err-last.ensures.1 in
    rw (p.1, p.2) (rejects (λ r m. (r.identifier_value, m.identifier_value)) (λ fault. record { why = inr (inl (3, refl, fault)) }) c.in_err-last.ensures)

pub returns-in_err-last-2 : goal.returns-in_err-last-2
returns-in_err-last-2 c =
    let p = err_from_is_err_and c.from_residual-in_err-last-2.result c.from_residual-in_err-last-2.ensures.1 in
    rw (p.1, p.2) (rejects (λ r m. (r.positive_int_value, m.positive_int_value)) (λ fault. record { why = inr (inr (inl (4, refl, fault))) }) c.in_err-last-2.ensures)

pub returns-in_err-last-3 : goal.returns-in_err-last-3
returns-in_err-last-3 c =
    let p = err_from_is_err_and c.from_residual-in_err-last-3.result c.from_residual-in_err-last-3.ensures.1 in
    rw (p.1, p.2) (rejects (λ r m. (r.negative_int_value, m.negative_int_value)) (λ fault. record { why = inr (inr (inl (5, refl, fault))) }) c.in_err-last-3.ensures)

pub returns-in_err-last-4 : goal.returns-in_err-last-4
returns-in_err-last-4 c =
    let p = err_from_is_err_and c.from_residual-in_err-last-4.result c.from_residual-in_err-last-4.ensures.1 in
    rw (p.1, p.2) (rejects (λ r m. (r.double_value, m.double_value)) (λ fault. record { why = inr (inr (inr (inl (6, refl, fault)))) }) c.in_err-last-4.ensures)

pub returns-in_err-last-5 : goal.returns-in_err-last-5
returns-in_err-last-5 c =
    let p = err_from_is_err_and c.from_residual-in_err-last-5.result c.from_residual-in_err-last-5.ensures.1 in
    rw (p.1, p.2) (rejects (λ r m. (r.string_value, m.string_value)) (λ fault. record { why = inr (inr (inr (inr (7, refl, fault)))) }) c.in_err-last-5.ensures)

pub returns-in_err-last-6 : goal.returns-in_err-last-6
returns-in_err-last-6 c =
    let p = err_from_is_err_and c.from_residual-in_err-last-6.result c.from_residual-in_err-last-6.ensures.1 in
    rw (p.1, p.2) (rejects (λ r m. (r.aggregate_value, m.aggregate_value)) (λ fault. record { why = inr (inl (8, refl, fault)) }) c.in_err-last-6.ensures)
