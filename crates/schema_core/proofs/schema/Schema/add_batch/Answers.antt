use Rattle.std.proofs.Common.{◌≡◌, IfErr, map, refl, subst, rules, of_calls}
use Rattle.std.proofs.lemmas.Result.{err_from_is_err_and}
use Rattle.reflect_growth.specs.Settled.{bare_of}
use Rattle.reflect_tables.specs.Types.{IsSettled}
use Rattle.linked_view.proofs.SoundBatches.{accepted_sound}
use Rattle.linked_view.proofs.Stays.{settled_sound}
use Rattle.option_parts.specs.Places.{option_place}
use Rattle.option_setter.specs.OptionNames.{UnlessMemory}
use Rattle.reflect_options.specs.Settling.{RefusesFrom, SettlesPool}
use Rattle.schema_core.specs.Refusals.{FilesFit, IsPool}
use Rattle.schema_core.proofs.Refused.{of_link, refused_options}
use Rattle.schema_core.proofs.schema.Schema.add_batch.Goals as goal
use Rattle.schema_core.proofs.schema.Schema.add_batch.Goals.{then-is_err, else-is_err}

pub returns-in_err-build_files-clause-err : goal.returns-in_err-build_files-clause-err
returns-in_err-build_files-clause-err c =
    let p = err_from_is_err_and c.from_residual.result c.from_residual.ensures.1 in
    rw p.1 (of_link c.args.self.now.pool c.args.files.items c.copy_typed_options.new.files.items c.in_err-build_files.field-0.0 _ c.copy_typed_options.ensures c.in_err-build_files.ensures.refused p.2)

pub returns-in_err-settled-clause-err : goal.returns-in_err-settled-clause-err
returns-in_err-settled-clause-err c =
    let r = c.from_residual-in_err-settled in
    let p = err_from_is_err_and r.result r.ensures.1 in
    let old = c.args.self.now.pool in
    let linked = c.build_files.new.self in
    let fit : FilesFit old c.args.files.items linked = (c.copy_typed_options.new.files.items, c.copy_typed_options.ensures, (c.in_ok-build_files.ensures.added, c.in_ok-build_files.ensures.accepted, c.in_ok-build_files.ensures.too_many)) in
    let e = c.in_err-settled.field-0.0 in
    let from_mark = subst (λ s. IfErr s (λ f. UnlessMemory (RefusesFrom linked c.mark-mark.result (option_place f)) f.kind)) c.in_err-settled.was c.resolve_options-settled.ensures.refused in
    let refused = subst (λ n. UnlessMemory (RefusesFrom linked n (option_place e)) e.kind) c.mark-mark.ensures from_mark in
    let pool : IsPool linked = c.pools_are_whole.ensures in
    let sound = accepted_sound old linked c.copy_typed_options.new.files.items c.args.self.now.sound pool.kept c.in_ok-build_files.ensures.accepted in
    rw (p.1, p.2) (refused_options old c.args.files.items linked e e.kind refl fit pool sound refused)

pub returns-clause-linked : goal.returns-clause-linked
returns-clause-linked c =
    let linked = c.build_files.new.self in
    let new = c.if-is_err.self.pool in
    let fit : FilesFit c.args.self.now.pool c.args.files.items linked = (c.copy_typed_options.new.files.items, c.copy_typed_options.ensures, (c.in_ok-build_files.ensures.added, c.in_ok-build_files.ensures.accepted, c.in_ok-build_files.ensures.too_many)) in
    let options : SettlesPool linked c.mark-mark.result new = elim c.if-is_err.branch [ then-is_err w ↦ search (rules, of_calls) | else-is_err w ↦ search (rules, of_calls) ] in
    let settled : IsSettled linked new = elim c.if-is_err.branch [ then-is_err w ↦ search (rules, of_calls) | else-is_err w ↦ search (rules, of_calls) ] in
    let bare : map bare_of new.records ≡ map bare_of linked.records = elim c.if-is_err.branch [ then-is_err w ↦ search (rules, of_calls) | else-is_err w ↦ search (rules, of_calls) ] in
    (linked, fit, subst (λ n. SettlesPool linked n new) c.mark-mark.ensures options, settled, bare)

pub invariant_of-self-else-is_err : goal.invariant_of-self-else-is_err
invariant_of-self-else-is_err c =
    let linked = c.build_files.new.self in
    let settled = c.resolve_options-settled in
    let accepted = c.in_ok-build_files.ensures.accepted in
    let sound = accepted_sound c.args.self.now.pool linked c.copy_typed_options.new.files.items
    c.args.self.now.sound c.pools_are_whole.ensures.kept accepted in
    record { sound = settled_sound linked settled.new.self settled.ensures.settled sound }
