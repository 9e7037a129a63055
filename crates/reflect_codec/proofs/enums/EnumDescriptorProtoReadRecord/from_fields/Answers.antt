use Rattle.std.proofs.Common.{inl, inr, refl}
use Rattle.std.proofs.lemmas.Result.{err_from_is_err_and}
use Rattle.reflect_codec.proofs.Values.{rejects}
use Rattle.reflect_codec.proofs.enums.EnumDescriptorProtoReadRecord.from_fields.Goals as goal

pub returns-in_err-last : goal.returns-in_err-last
returns-in_err-last c =
    let p = err_from_is_err_and c.from_residual.result c.from_residual.ensures.1 in
    rw (p.1, p.2) (rejects (λ r m. (r.name, m.name)) (λ fault. record { why = inl (1, refl, fault) }) c.in_err-last.ensures)

pub returns-in_err-list : goal.returns-in_err-list
returns-in_err-list c =
    let p = err_from_is_err_and c.from_residual-in_err-list.result c.from_residual-in_err-list.ensures.1 in
    rw (p.1, p.2) (rejects (λ r m. (r.value, m.value)) (λ fault. record { why = inr (inl (2, refl, fault)) }) c.in_err-list.ensures)

pub returns-in_err-options : goal.returns-in_err-options
returns-in_err-options c =
    let p = err_from_is_err_and c.from_residual-in_err-options.result c.from_residual-in_err-options.ensures.1 in
    rw (p.1, p.2) (rejects (λ r m. (r.options, m.options)) (λ fault. record { why = inr (inr (inl fault)) }) c.in_err-options.ensures)

pub returns-in_err-list-2 : goal.returns-in_err-list-2
returns-in_err-list-2 c =
    let p = err_from_is_err_and c.from_residual-in_err-list-2.result c.from_residual-in_err-list-2.ensures.1 in
    rw (p.1, p.2) (rejects (λ r m. (r.reserved_range, m.reserved_range)) (λ fault. record { why = inr (inr (inr (4, refl, fault))) }) c.in_err-list-2.ensures)

pub returns-in_err-list-3 : goal.returns-in_err-list-3
returns-in_err-list-3 c =
    let p = err_from_is_err_and c.from_residual-in_err-list-3.result c.from_residual-in_err-list-3.ensures.1 in
    rw (p.1, p.2) (rejects (λ r m. (r.reserved_name, m.reserved_name)) (λ fault. record { why = inl (5, refl, fault) }) c.in_err-list-3.ensures)
