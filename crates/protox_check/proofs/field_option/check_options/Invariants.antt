use Rattle.std.proofs.Common.{◌≡◌, ◌++◌, [], take, codes}
use Rattle.protox_check.specs.FieldOptions.{named, option_faults}
use Rattle.protox_check.specs.Words.{each_behind, first_in}
use Rattle.protox_tree.specs.NestView.{kind_view}
use Rattle.protox_tree.specs.View.{bodies_view}
use Rattle.protox_check.proofs.field_option.check_options.Given as goal

abbrev pub invariant-each : goal.invariant-each
invariant-each l = record {
  told : l.faults.items ≡ l.initial.faults.items ++ each_behind (option_faults l.syntax l.field.label (kind_view l.field.kind)) [] (bodies_view (take l.option-index l.option-items));
  default : l.met.default ≡ first_in (named (codes "default")) (bodies_view (take l.option-index l.option-items));
  json_name : l.met.json_name ≡ first_in (named (codes "json_name")) (bodies_view (take l.option-index l.option-items));
}
