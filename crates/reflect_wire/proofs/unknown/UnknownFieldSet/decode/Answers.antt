use Rattle.std.proofs.Common.{◌≡◌, [], ◌∷◌, ◌++◌, refl, sym, ap, ◌∙◌, subst, append-nil, arith}
use Rattle.std.proofs.lemmas.Grind.{common_steps}
use Rattle.std.proofs.lemmas.Result.{err_from_is_err_and}
use Rattle.reflect_wire.specs.Reads.{Fronts}
use Rattle.reflect_wire.specs.Records.{SpellsRecords, IsField}
use Rattle.reflect_wire.specs.Views.{set_view, fields_of, records_view}
use Rattle.reflect_wire.specs.Faults.{FieldFault, SetFault}
use Rattle.reflect_wire.proofs.Faulty.{tells_as}
use Rattle.reflect_wire.proofs.Groups.{pushed_field}
use Rattle.reflect_wire.proofs.Reading.{refuses_whole}
use Rattle.reflect_wire.proofs.Views.{set_view-out}
use Rattle.reflect_wire.proofs.Whole.{no_field_no_records}
use Rattle.reflect_wire.proofs.unknown.UnknownFieldSet.decode.Goals as goal

pub returns-in_err-decode-clause-err : goal.returns-in_err-decode-clause-err
returns-in_err-decode-clause-err c =
    let more : c.loop-rest.rest.now ≡ [] → ⊥ = λ e. grind (arith, common_steps) in
    let p = err_from_is_err_and c.from_residual.result c.from_residual.ensures.1 in
    rw (p.1, p.2) (refuses_whole (IsField 100) (SpellsRecords 100) _ _ c.in_err-decode.field-0.0 (no_field_no_records 100 c.args.bytes.now c.loop-rest.rest.now (set_view c.loop-rest.set) c.loop-rest.invariant more) c.in_err-decode.ensures.err)

pub returns-clause-ok : goal.returns-clause-ok
returns-clause-ok c =
    let none : c.loop-rest.rest.now ≡ [] = grind (arith, common_steps) in
    let found = c.loop-rest.invariant in
    subst (λ bytes. SpellsRecords 100 bytes (set_view c.loop-rest.set)) (sym (found.2 ∙ ap (λ rest. found.0 ++ rest) none ∙ append-nil found.0)) found.1

pub loop-rest-preserved : goal.loop-rest-preserved
loop-rest-preserved c =
    let f = c.in_ok-decode.field-0 in
    let seen = set_view-out c.loop-rest.set in
    let done : Fronts (SpellsRecords 100) c.args.bytes.now (records_view (fields_of c.loop-rest.set)) c.loop-rest.rest.now = subst (λ rs. Fronts (SpellsRecords 100) c.args.bytes.now rs c.loop-rest.rest.now) seen c.loop-rest.invariant in
    let same : set_view c.insert.new.self ≡ records_view (fields_of c.loop-rest.set ++ f ∷ []) = c.in_ok-insert.ensures.view ∙ ap records_view c.in_ok-insert.ensures.ok in
    subst (λ rs. Fronts (SpellsRecords 100) c.args.bytes.now rs c.decode.new.bytes.now) (sym same)
    (pushed_field 100 c.args.bytes.now c.loop-rest.rest.now c.decode.new.bytes.now (fields_of c.loop-rest.set) f done c.in_ok-decode.ensures.ok)

pub loop-rest-init : goal.loop-rest-init
loop-rest-init c = ([], subst (λ rs. SpellsRecords 100 [] rs) (sym c.new-set.ensures) refl, refl)

pub returns-in_err-decode-clause-fault : goal.returns-in_err-decode-clause-fault
returns-in_err-decode-clause-fault c =
    let p = err_from_is_err_and c.from_residual.result c.from_residual.ensures.1 in
    rw (p.1, p.2) (tells_as (FieldFault 100) (SetFault 100) c.loop-rest.rest.now c.args.bytes.now c.in_err-decode.field-0.0
    (λ fault. (set_view c.loop-rest.set, (c.loop-rest.rest.now, c.loop-rest.invariant, fault))) c.in_err-decode.ensures.fault)
