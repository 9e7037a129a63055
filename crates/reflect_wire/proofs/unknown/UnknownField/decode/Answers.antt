use Rattle.std.proofs.Common.{◌-◌}
use Rattle.std.proofs.lemmas.Result.{err_from_is_err_and}
use Rattle.reflect_wire.specs.Views.{payload_view}
use Rattle.reflect_wire.proofs.Reading.{refuses_more}
use Rattle.reflect_wire.proofs.Groups.{no_key_no_field, no_value_no_field, field_there}
use Rattle.reflect_wire.proofs.unknown.UnknownField.decode.Goals as goal

pub returns-in_err-key-clause-err : goal.returns-in_err-key-clause-err
returns-in_err-key-clause-err c =
    let p = err_from_is_err_and c.from_residual.result c.from_residual.ensures.1 in
    rw (p.1, p.2) (refuses_more _ _ _ _ c.in_err-key.field-0.0 (no_key_no_field (100 - c.args.depth) c.args.bytes.now.now) c.in_err-key.ensures.read)

pub returns-in_err-value-clause-err : goal.returns-in_err-value-clause-err
returns-in_err-value-clause-err c =
    let r = c.from_residual-in_err-value in
    let p = err_from_is_err_and r.result r.ensures.1 in
    rw (p.1, p.2, ← c.saturating_sub.ensures) (refuses_more _ _ _ _ c.in_err-value.field-0.0 (no_value_no_field c.saturating_sub.result c.args.bytes.now.now c.in_ok-key.rest.now c.in_ok-key.key c.in_ok-key.ensures.read) c.in_err-value.ensures.read)

pub returns-clause-ok : goal.returns-clause-ok
returns-clause-ok c = rw (← c.saturating_sub.ensures) (field_there c.saturating_sub.result c.args.bytes.now.now c.in_ok-key.rest.now c.in_ok-value.rest.now c.in_ok-key.key (payload_view c.in_ok-value.value) c.in_ok-key.ensures.read c.in_ok-value.ensures.read)
