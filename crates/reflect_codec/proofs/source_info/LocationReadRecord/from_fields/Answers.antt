use Rattle.std.proofs.Common.{inl, inr, refl}
use Rattle.std.proofs.lemmas.Result.{err_from_is_err_and}
use Rattle.reflect_codec.proofs.Values.{rejects}
use Rattle.reflect_codec.proofs.source_info.LocationReadRecord.from_fields.Goals as goal

pub returns-in_err-int32s : goal.returns-in_err-int32s
returns-in_err-int32s c =
    let p = err_from_is_err_and c.from_residual.result c.from_residual.ensures.1 in
    rw (p.1, p.2) (rejects (λ r m. (r.path, m.path)) (λ fault. record { why = inl (1, refl, fault) }) c.in_err-int32s.ensures)

pub returns-in_err-int32s-2 : goal.returns-in_err-int32s-2
returns-in_err-int32s-2 c =
    let p = err_from_is_err_and c.from_residual-in_err-int32s-2.result c.from_residual-in_err-int32s-2.ensures.1 in
    rw (p.1, p.2) (rejects (λ r m. (r.span, m.span)) (λ fault. record { why = inl (2, refl, fault) }) c.in_err-int32s-2.ensures)

pub returns-in_err-last : goal.returns-in_err-last
returns-in_err-last c =
    let p = err_from_is_err_and c.from_residual-in_err-last.result c.from_residual-in_err-last.ensures.1 in
    rw (p.1, p.2) (rejects (λ r m. (r.leading_comments, m.leading_comments)) (λ fault. record { why = inr (3, refl, fault) }) c.in_err-last.ensures)

pub returns-in_err-last-2 : goal.returns-in_err-last-2
returns-in_err-last-2 c =
    let p = err_from_is_err_and c.from_residual-in_err-last-2.result c.from_residual-in_err-last-2.ensures.1 in
    rw (p.1, p.2) (rejects (λ r m. (r.trailing_comments, m.trailing_comments)) (λ fault. record { why = inr (4, refl, fault) }) c.in_err-last-2.ensures)

pub returns-in_err-list : goal.returns-in_err-list
returns-in_err-list c =
    let p = err_from_is_err_and c.from_residual-in_err-list.result c.from_residual-in_err-list.ensures.1 in
    rw (p.1, p.2) (rejects (λ r m. (r.leading_detached_comments, m.leading_detached_comments)) (λ fault. record { why = inr (6, refl, fault) }) c.in_err-list.ensures)
