use Rattle.std.proofs.Common.{◌≡◌, ◌∙◌, ◌++◌, None, Some, ap, refl, sym, subst, append_assoc}
use Rattle.std.specs.Option.{option_map}
use Rattle.option_parts.specs.Moves.{EditsLocations, targets_of}
use Rattle.option_parts.specs.Places.{option_place}
use Rattle.option_setter.proofs.Refusals.{unless_then}
use Rattle.option_setter.specs.OptionNames.{UnlessMemory}
use Rattle.reflect_declarations.specs.Declarations.{file_declarations}
use Rattle.reflect_faults.specs.Faults.{Place, place_of}
use Rattle.reflect_faults.specs.Spans.{locations}
use Rattle.reflect_options.specs.Entities.{file_entities, no_offsets}
use Rattle.reflect_options.specs.Settling.{RefusesEntity, RefusesFile}
use Rattle.reflect_options.specs.declared.options_visitor.OptionsVisitor.{OptionsVisitor}
use Rattle.reflect_options.proofs.Moving.{moves_all}
use Rattle.reflect_options.proofs.Passing.{AllSettled, Ends, FirstRefused, file_went, walk_pool}
use Rattle.reflect_options.proofs.resolve.collect_file.Goals as goal

pub returns-in_ok-place-in-Some-clause-refused : goal.returns-in_ok-place-in-Some-clause-refused
returns-in_ok-place-in-Some-clause-refused c =
    let s = c.args.visitor.now in
    let f = c.args.file.now in
    let t = c.visit.new.visitor in
    let e = c.new-in-Some.result in
    let label = c.in_ok-place-in-Some.place in
    let went = file_went c.args.index no_offsets f s t c.requires.fault c.in-Ok.ensures.runs in
    let noted : t.fault ≡ Some (c.in-Some.kind, c.in-Some.path) = sym c.take_fault.ensures.fault ∙ c.in-Some.is in
    let first : FirstRefused s.pool.now (file_entities c.args.index f) (c.in-Some.kind, c.in-Some.path) = subst (Ends s (file_entities c.args.index f) t) noted went in
    let place : option_place e ≡ Some (place_of label) = ap (option_map place_of) c.new-in-Some.ensures.place in
    let told = unless_then (RefusesEntity s.pool.now first.2 c.in-Some.path.items) (λ kind. (p : Place) × (option_place e ≡ Some p) × RefusesFile s.pool.now c.args.index f p.path kind)
    (λ kind h. (place_of label, place, subst (λ p. RefusesFile s.pool.now c.args.index f p kind) (sym c.in_ok-place-in-Some.ensures.path) (first.0, first.1, first.2, first.3, first.4, first.5, first.6, h))) c.in-Some.kind first.7 in
    subst (UnlessMemory (λ kind. (p : Place) × (option_place e ≡ Some p) × RefusesFile s.pool.now c.args.index f p.path kind)) (sym c.new-in-Some.ensures.kind) told

pub returns-in_ok-move_locations-in-None-clause-settled : goal.returns-in_ok-move_locations-in-None-clause-settled
returns-in_ok-move_locations-in-None-clause-settled c =
    let s = c.args.visitor.now in
    let f = c.args.file.now in
    let t = c.visit.new.visitor in
    let u = c.take_fault.new.self in
    let went = file_went c.args.index no_offsets f s t c.requires.fault c.in-Ok.ensures.runs in
    let none : t.fault ≡ None = sym c.take_fault.ensures.fault ∙ c.in-None.is in
    let all : AllSettled s (file_entities c.args.index f) t = subst (Ends s (file_entities c.args.index f) t) none went in
    let moved = c.in_ok-move_locations-in-None.ensures.moved in
    let targets = ap (λ (x : OptionsVisitor). targets_of x.moved) c.take_fault.ensures.rest ∙ moves_all s.moved t.moved all.moves c.requires.moved all.moved in
    let edits = ap (λ (x : OptionsVisitor). x.edits.items) c.take_fault.ensures.rest ∙ all.noted in (
      all.edits ++ moved.0,
      (all.edits, moved.0, all.moves, all.right, subst (λ l. EditsLocations l c.args.index 0 (locations f) moved.0) targets moved.1, refl),
      moved.2 ∙ ap (λ l. l ++ moved.0) edits ∙ append_assoc s.edits.items all.edits moved.0,
    )

pub returns-in_ok-move_locations-in-None-clause-pool : goal.returns-in_ok-move_locations-in-None-clause-pool
returns-in_ok-move_locations-in-None-clause-pool c =
    c.in_ok-move_locations-in-None.ensures.same.pool ∙ ap (λ (x : OptionsVisitor). x.pool.now) c.take_fault.ensures.rest
    ∙ walk_pool c.args.visitor.now (file_declarations no_offsets c.args.index c.args.file.now) c.visit.new.visitor c.in-Ok.ensures.runs
