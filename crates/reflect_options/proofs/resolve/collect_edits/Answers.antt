use Rattle.std.proofs.Common.{rules, ◌≡◌, ◌∙◌, ◌++◌, ◌-◌, List, Some, IfSome, arith, length, subst, sym}
use Rattle.reflect_growth.specs.declared.settle.Edit.{Edit}
use Rattle.option_parts.specs.OptionTypes.{CanRead}
use Rattle.option_parts.specs.Places.{option_place, StandsFrom}
use Rattle.option_parts.specs.declared.option_scope.OptionScope.{OptionScope}
use Rattle.option_setter.proofs.Refusals.{unless_then}
use Rattle.option_setter.specs.OptionNames.{UnlessMemory}
use Rattle.reflect_faults.specs.Faults.{Place}
use Rattle.reflect_options.specs.Settling.{RefusesFile, RefusesFrom, SettlesFile, SettlesFiles, SettlesFrom}
use Rattle.reflect_options.proofs.Located.{in_file, passed, record_at, refuses_next, settles_next}
use Rattle.reflect_options.proofs.resolve.collect_edits.Goals as goal

pub collect_file-requires : goal.collect_file-requires
collect_file-requires c = c.files.invariant.clean

pub files-preserved : goal.files-preserved
files-preserved c =
    let pool = c.args.pool.now in
    let f = c.file_descriptor_proto.result.now in
    let at = record_at pool c.new-file.result c.files.index f c.new-file.ensures.pool c.new-file.ensures.index c.file_descriptor_proto.ensures.stands in
    let before = c.files.invariant in
    let from = c.files.auto.index in
    let next = c.in_ok-collect_file.ensures in
    let settled = subst (λ p. (es : List Edit) × SettlesFile p c.files.index f es × (c.collect_file.new.visitor.edits.items ≡ c.files.visitor.edits.items ++ es)) before.pool next.settled in
    record {
      inside = omega (arith, from, c.files-test.true, c.mark-index-end.ensures);
      clean = next.clean;
      pool = next.pool ∙ before.pool;
      settled = settles_next pool c.args.first c.files.index c.files.visitor.edits.items settled.0 c.collect_file.new.visitor.edits.items f from before.settled at settled.1 settled.2;
    }

pub returns-in_err-collect_file-clause-place : goal.returns-in_err-collect_file-clause-place
returns-in_err-collect_file-clause-place c =
    let pool = c.args.pool.now in
    let f = c.file_descriptor_proto.result.now in
    let at = record_at pool c.new-file.result c.files.index f c.new-file.ensures.pool c.new-file.ensures.index c.file_descriptor_proto.ensures.stands in
    let fault = c.in_err-collect_file.field-0.0 in
    passed c.from_residual-in_err-collect_file.result (λ e. IfSome (option_place e) (StandsFrom pool.records c.args.first)) fault c.from_residual-in_err-collect_file.ensures.1
    (in_file pool.records c.args.first c.files.index f c.files.auto.index at (option_place fault) c.in_err-collect_file.ensures.place)

pub returns-in_err-collect_file-clause-refused : goal.returns-in_err-collect_file-clause-refused
returns-in_err-collect_file-clause-refused c =
    let pool = c.args.pool.now in
    let first = c.args.first in
    let i = c.files.index in
    let f = c.file_descriptor_proto.result.now in
    let at = record_at pool c.new-file.result i f c.new-file.ensures.pool c.new-file.ensures.index c.file_descriptor_proto.ensures.stands in
    let fault = c.in_err-collect_file.field-0.0 in
    let before = c.files.invariant in
    let from = c.files.auto.index in
    let readable : (scope : OptionScope) → CanRead pool scope = search rules in
    let told = subst (λ p. UnlessMemory (λ kind. (place : Place) × (option_place fault ≡ Some place) × RefusesFile p i f place.path kind) fault.kind) before.pool c.in_err-collect_file.ensures.refused in
    passed c.from_residual-in_err-collect_file.result (λ e. UnlessMemory (RefusesFrom pool first (option_place e)) e.kind) fault c.from_residual-in_err-collect_file.ensures.1
    (unless_then (λ kind. (place : Place) × (option_place fault ≡ Some place) × RefusesFile pool i f place.path kind) (RefusesFrom pool first (option_place fault)) (refuses_next pool first i c.files.visitor.edits.items f (option_place fault) from before.settled at c.in_err-collect_file.ensures.place readable) fault.kind told)

pub returns-clause-settled : goal.returns-clause-settled
returns-clause-settled c =
    let pool = c.args.pool.now in
    let first = c.args.first in
    let last = c.files.invariant in
    let all : c.files.index - first ≡ length pool.files - first = omega (arith, last.inside, c.files-test.false, c.mark-index-end.ensures) in
    subst (λ es. SettlesFrom pool first es.items) (sym c.into_edits.ensures) (subst (λ n. SettlesFiles pool first n c.files.visitor.edits.items) all last.settled)
