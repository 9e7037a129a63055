use Rattle.std.proofs.Common.{inl, inr, refl}
use Rattle.std.proofs.lemmas.Result.{err_from_is_err_and}
use Rattle.reflect_codec.proofs.Values.{rejects}
use Rattle.reflect_codec.proofs.file.FileDescriptorProtoReadRecord.from_fields.Goals as goal

pub returns-in_err-last : goal.returns-in_err-last
returns-in_err-last c =
    let p = err_from_is_err_and c.from_residual.result c.from_residual.ensures.1 in
    rw (p.1, p.2) (rejects (λ r m. (r.name, m.name)) (λ fault. record { why = inl (1, refl, fault) }) c.in_err-last.ensures)

pub returns-in_err-last-2 : goal.returns-in_err-last-2
returns-in_err-last-2 c =
    let p = err_from_is_err_and c.from_residual-in_err-last-2.result c.from_residual-in_err-last-2.ensures.1 in
    rw (p.1, p.2) (rejects (λ r m. (r.package, m.package_name)) (λ fault. record { why = inl (2, refl, fault) }) c.in_err-last-2.ensures)

pub returns-in_err-list : goal.returns-in_err-list
returns-in_err-list c =
    let p = err_from_is_err_and c.from_residual-in_err-list.result c.from_residual-in_err-list.ensures.1 in
    rw (p.1, p.2) (rejects (λ r m. (r.dependency, m.dependency)) (λ fault. record { why = inl (3, refl, fault) }) c.in_err-list.ensures)

pub returns-in_err-int32s : goal.returns-in_err-int32s
returns-in_err-int32s c =
    let p = err_from_is_err_and c.from_residual-in_err-int32s.result c.from_residual-in_err-int32s.ensures.1 in
    rw (p.1, p.2) (rejects (λ r m. (r.public_dependency, m.public_dependency)) (λ fault. record { why = inr (inl (10, refl, fault)) }) c.in_err-int32s.ensures)

pub returns-in_err-int32s-2 : goal.returns-in_err-int32s-2
returns-in_err-int32s-2 c =
    let p = err_from_is_err_and c.from_residual-in_err-int32s-2.result c.from_residual-in_err-int32s-2.ensures.1 in
    rw (p.1, p.2) (rejects (λ r m. (r.weak_dependency, m.weak_dependency)) (λ fault. record { why = inr (inl (11, refl, fault)) }) c.in_err-int32s-2.ensures)

pub returns-in_err-message_types : goal.returns-in_err-message_types
returns-in_err-message_types c =
    let p = err_from_is_err_and c.from_residual-in_err-message_types.result c.from_residual-in_err-message_types.ensures.1 in
    rw (p.1, p.2) (rejects (λ r m. (r.message_type, m.message_type)) (λ fault. record { why = inr (inr (inl (4, refl, fault))) }) c.in_err-message_types.ensures)

pub returns-in_err-list-2 : goal.returns-in_err-list-2
returns-in_err-list-2 c =
    let p = err_from_is_err_and c.from_residual-in_err-list-2.result c.from_residual-in_err-list-2.ensures.1 in
    rw (p.1, p.2) (rejects (λ r m. (r.enum_type, m.enum_type)) (λ fault. record { why = inr (inr (inr (inl (5, refl, fault)))) }) c.in_err-list-2.ensures)

pub returns-in_err-list-3 : goal.returns-in_err-list-3
returns-in_err-list-3 c =
    let p = err_from_is_err_and c.from_residual-in_err-list-3.result c.from_residual-in_err-list-3.ensures.1 in
    rw (p.1, p.2) (rejects (λ r m. (r.service, m.service)) (λ fault. record { why = inr (inr (inr (inr (inl (6, refl, fault))))) }) c.in_err-list-3.ensures)

pub returns-in_err-list-4 : goal.returns-in_err-list-4
returns-in_err-list-4 c =
    let p = err_from_is_err_and c.from_residual-in_err-list-4.result c.from_residual-in_err-list-4.ensures.1 in
    rw (p.1, p.2) (rejects (λ r m. (r.extension, m.extension)) (λ fault. record { why = inr (inr (inr (inr (inr (inl (7, refl, fault)))))) }) c.in_err-list-4.ensures)

pub returns-in_err-options : goal.returns-in_err-options
returns-in_err-options c =
    let p = err_from_is_err_and c.from_residual-in_err-options.result c.from_residual-in_err-options.ensures.1 in
    rw (p.1, p.2) (rejects (λ r m. (r.options, m.options)) (λ fault. record { why = inr (inr (inr (inr (inr (inr (inl fault)))))) }) c.in_err-options.ensures)

pub returns-in_err-merged : goal.returns-in_err-merged
returns-in_err-merged c =
    let p = err_from_is_err_and c.from_residual-in_err-merged.result c.from_residual-in_err-merged.ensures.1 in
    rw (p.1, p.2) (rejects (λ r m. (r.source_code_info, m.source_code_info)) (λ fault. record { why = inr (inr (inr (inr (inr (inr (inr fault)))))) }) c.in_err-merged.ensures)

pub returns-in_err-last-3 : goal.returns-in_err-last-3
returns-in_err-last-3 c =
    let p = err_from_is_err_and c.from_residual-in_err-last-3.result c.from_residual-in_err-last-3.ensures.1 in
    rw (p.1, p.2) (rejects (λ r m. (r.syntax, m.syntax_name)) (λ fault. record { why = inl (12, refl, fault) }) c.in_err-last-3.ensures)
