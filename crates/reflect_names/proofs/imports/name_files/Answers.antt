use Rattle.std.proofs.Common.{◌≤◌, ◌∙◌, arith, rules}
use Rattle.reflect_scope.specs.FileIndexes.{indexes_of}
use Rattle.reflect_names.proofs.FileRuns.{with_more, faults_more, keeps_on}
use Rattle.reflect_names.proofs.imports.name_files.Goals as goal

pub turns-preserved : goal.turns-preserved
turns-preserved c =
    let fs = c.args.files.now in
    let k = c.turns.file-index in
    let f = c.file-item.result in
    let known = indexes_of c.args.file_names.now in
    let now = indexes_of c.turns.file_names in
    let before = c.turns.invariant in
    let lt = c.turns-test.true in
    record {
      names = c.in_ok-name_file.ensures.names ∙ with_more known now c.args.first c.turns.index k fs f lt c.file-item.is before.index before.names;
      faults = faults_more known now c.args.first c.turns.index k fs f lt c.file-item.is before.index before.names c.args.faults.now c.turns.faults c.name_file.new.faults before.faults c.in_ok-name_file.ensures.faults;
      keeps = keeps_on c.args.first c.turns.index (indexes_of c.args.file_names.now) (indexes_of c.turns.file_names) (indexes_of c.name_file.new.file_names) (omega (arith, before.index)) before.keeps c.name_file.ensures.keeps;
      index = omega (arith, before.index);
      few = λ some. let within : c.turns.index ≤ 2147483647 = search rules in omega (arith, before.index, within);
    }

pub returns-in_err-name_file-clause-keeps : goal.returns-in_err-name_file-clause-keeps
returns-in_err-name_file-clause-keeps c =
    let before = c.turns.invariant in
    keeps_on c.args.first c.turns.index (indexes_of c.args.file_names.now) (indexes_of c.turns.file_names) (indexes_of c.name_file.new.file_names) (omega (arith, before.index)) before.keeps c.name_file.ensures.keeps
