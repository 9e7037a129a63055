use Rattle.std.proofs.Common.{◌≡◌, [], ◌++◌, refl, sym, ap, ◌∙◌, subst, append-nil, arith}
use Rattle.std.proofs.lemmas.Grind.{common_steps}
use Rattle.std.proofs.lemmas.Result.{err_from_is_err_and}
use Rattle.reflect_wire.specs.Records.{SpellsRecords, no_records}
use Rattle.reflect_codec.specs.declared.fields.RawField.{RawField}
use Rattle.reflect_codec.specs.Raw.{fields_view}
use Rattle.reflect_codec.specs.Reading.{fields_in, value_of}
use Rattle.reflect_codec.proofs.Spelled.{one_more, no_key_no_fields, no_value_no_fields}
use Rattle.reflect_codec.proofs.Values.{more_seen}
use Rattle.reflect_codec.proofs.fields.with_fields.Goals as goal

pub loop-rest-init : goal.loop-rest-init
loop-rest-init c = (no_records, ([], refl, refl), sym (append-nil _))

pub returns-in_err-key : goal.returns-in_err-key
returns-in_err-key c =
    let more : c.loop-rest.rest.now ≡ [] → ⊥ = λ e. grind (arith, common_steps) in
    let i = c.loop-rest.invariant in
    let p = err_from_is_err_and c.from_residual.result c.from_residual.ensures.1 in
    rw (p.1, p.2) (no_key_no_fields c.args.levels c.args.bytes.now c.loop-rest.rest.now i.0 i.1 more c.in_err-key.field-0.0 c.in_err-key.ensures.read c.in_err-key.ensures.fault)

pub returns-in_err-value : goal.returns-in_err-value
returns-in_err-value c =
    let more : c.loop-rest.rest.now ≡ [] → ⊥ = λ e. grind (arith, common_steps) in
    let i = c.loop-rest.invariant in
    let r = c.from_residual-in_err-value in
    let p = err_from_is_err_and r.result r.ensures.1 in
    rw (p.1, p.2) (no_value_no_fields c.args.levels c.args.bytes.now c.loop-rest.rest.now i.0 i.1 more c.in_ok-key.key c.in_ok-key.behind.now c.in_ok-key.ensures.read c.in_err-value.field-0.0
    c.in_err-value.ensures.read c.in_err-value.ensures.fault)

pub returns : goal.returns
returns c =
    let none : c.loop-rest.rest.now ≡ [] = grind (arith, common_steps) in
    let i = c.loop-rest.invariant in
    (fields_in i.0, (i.0, subst (λ bytes. SpellsRecords c.args.levels bytes i.0) (sym (i.1.2 ∙ ap (λ rest. i.1.0 ++ rest) none ∙ append-nil i.1.0)) i.1.1, refl), i.2)

pub loop-rest-preserved : goal.loop-rest-preserved
loop-rest-preserved c =
    let f : RawField = record { number = c.in_ok-key.key.number; value = c.in_ok-value.value } in
    let i = c.loop-rest.invariant in
    let v = c.in_ok-value.ensures.read in
    let m = one_more c.args.levels c.args.bytes.now c.loop-rest.rest.now c.in_ok-key.behind.now c.in_ok-value.behind.now i.0 c.in_ok-key.key v.0 v.1.0 i.1 c.in_ok-key.ensures.read v.1.1 v.2 in
    (m.0, m.1, ap fields_view c.in_ok-push.ensures.items ∙ more_seen c.loop-rest.list.items f (fields_view c.args.fields.items) (fields_in i.0) (fields_in m.0) (value_of v.1.0) i.2 v.1.2 m.2)
