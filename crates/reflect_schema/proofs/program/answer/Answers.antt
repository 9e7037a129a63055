use Rattle.std.proofs.Common.{◌≡◌, ◌⊎◌, ap, inl, inr, refl, subst, sym}
use Rattle.std.proofs.lemmas.Result.{err_from_is_err_and}
use Rattle.run_parts.specs.Streams.{between}
use Rattle.schema_core.specs.declared.error.SchemaError.TheVariants.{Memory}
use Rattle.schema_core.specs.declared.payload.Fault.TheVariants as fault
use Rattle.schema_words.specs.declared.request.Task.TheVariants.{Set}
use Rattle.reflect_schema.specs.Tasks.{DoesTask, RefusesTask}
use Rattle.reflect_schema.specs.declared.program.RunFault.{RunFault}
use Rattle.reflect_schema.specs.declared.program.RunFault.TheVariants as run
use Rattle.reflect_schema.proofs.Outcomes.{if_err, map_left, on_ok}
use Rattle.reflect_schema.proofs.program.answer.Goals as goal

pub returns-in-Set-clause-done : goal.returns-in-Set-clause-done
returns-in-Set-clause-done g c =
    let p = c.in_ok-schema.schema.pool in
    let read = between g.R.Read.remaining c.args.input.now c.args.input.now in
    let written = between g.W.Write.contents c.args.output.now c.write_set.new.output in
    on_ok c.write_set.result
    (λ gets. (p, c.in_ok-schema.ensures.made, subst (λ t. DoesTask t c.args.wanted.is_hex p read written) (sym c.in-Set.is) (refl, gets)))
    c.write_set.ensures.written

pub returns-in-Set-clause-refused : goal.returns-in-Set-clause-refused
returns-in-Set-clause-refused g c =
    let p = c.in_ok-schema.schema.pool in
    let before = g.R.Read.remaining c.args.input.now in
    let old = c.args.output.now in
    let new = c.write_set.new.output in
    let by : (e : RunFault) → (e ≡ run.Payload fault.Write) ⊎ (((e ≡ run.Schema Memory) ⊎ (e ≡ run.Payload fault.Memory)) × (new ≡ old))
    → RefusesTask Set c.args.wanted.is_hex p before e =
    λ e told. elim told [
      | inl write ↦ inr (inr write)
      | inr kept ↦ elim kept.0 [ inl schema ↦ inl schema | inr payload ↦ inr (inl payload) ]
    ] in
    let left : (e : RunFault) → (e ≡ run.Payload fault.Write) ⊎ (((e ≡ run.Schema Memory) ⊎ (e ≡ run.Payload fault.Memory)) × (new ≡ old))
    → (e ≡ run.Payload fault.Write) ⊎ (new ≡ old) =
    λ e told. elim told [ inl write ↦ inl write | inr kept ↦ inr kept.1 ] in
    if_err c.write_set.result _ _
    (λ e told. (
      inr (p, c.in_ok-schema.ensures.made, subst (λ t. RefusesTask t c.args.wanted.is_hex p before e) (sym c.in-Set.is) (by e told)),
      left e told,
    ))
    c.write_set.ensures.refused

pub returns-in_err-serve-in-Payload-clause-refused : goal.returns-in_err-serve-in-Payload-clause-refused
returns-in_err-serve-in-Payload-clause-refused g c =
    let p = c.in_ok-schema.schema.pool in
    let e = run.Payload c.in_err-serve-in-Payload.field-0.0 in
    let before = g.R.Read.remaining c.args.input.now in
    let told : RefusesTask c.args.wanted.task c.args.wanted.is_hex p before e =
    subst (λ t. RefusesTask t c.args.wanted.is_hex p before e) (sym c.in-Payload.is) c.in_err-serve-in-Payload.ensures.refused in
    let kept : (e ≡ run.Payload fault.Write) ⊎ (c.serve.new.output ≡ c.args.output.now) = map_left (ap run.Payload) c.in_err-serve-in-Payload.ensures.kept in
    let given = err_from_is_err_and c.from_residual-in_err-serve-in-Payload.result c.from_residual-in_err-serve-in-Payload.ensures.1 in
    rw (given.1, given.2) (inr (p, c.in_ok-schema.ensures.made, told), kept)

pub returns-clause-done : goal.returns-clause-done
returns-clause-done g c =
    let p = c.in_ok-schema.schema.pool in
    let serve = c.in_ok-serve-in-Payload.ensures in
    let read = between g.R.Read.remaining c.args.input.now c.serve.new.input in
    let written = between g.W.Write.contents c.args.output.now c.serve.new.output in
    (p, c.in_ok-schema.ensures.made, subst (λ t. DoesTask t c.args.wanted.is_hex p read written) (sym c.in-Payload.is) (serve.read, serve.answered))
