use Rattle.std.proofs.Common.{◌≡◌, ◌∙◌, ap, ap₂, codes}
use Rattle.std.proofs.lemmas.Result.{IfOk-weaker}
use Rattle.clap.specs.Simple.{app_of, app_of_fields, new_app, with_rule}
use Rattle.clap.specs.Walk.{rule_of}
use Rattle.schema_words.proofs.Simple.{with_version, without_name}
use Rattle.schema_words.proofs.command_line.command.Goals as goal

pub returns : goal.returns
returns c =
    let parser = c.action.ensures.0 in
    let type = rule_of c.args.type_name in
    let nameless : app_of c.no_binary_name.result ≡ without_name (app_of c.new.result) = ap app_of_fields c.no_binary_name.ensures in
    let about : app_of c.about.result ≡ app_of c.no_binary_name.result = ap app_of_fields c.about.ensures in
    let version : app_of c.version.result ≡ with_version (app_of c.about.result) = ap app_of_fields c.version.ensures in
    let help : app_of c.after_help.result ≡ app_of c.version.result = ap app_of_fields c.after_help.ensures in
    let bare : app_of c.after_help.result ≡ with_version (without_name (new_app (codes "schema"))) =
    help ∙ version ∙ ap with_version (about ∙ nameless ∙ ap without_name c.new.ensures.app) in
    let action = c.in_ok-arg.ensures.shape c.action.ensures.2.1 ∙ ap₂ with_rule bare c.action.ensures.2.0 in
    let descriptor = c.in_ok-arg-2.ensures.shape c.descriptor.ensures.1 ∙ ap₂ with_rule action c.descriptor.ensures.0 in
    let set = c.in_ok-arg-3.ensures.shape c.set.ensures.1 ∙ ap₂ with_rule descriptor c.set.ensures.0 in
    IfOk-weaker c.arg-7.result _ _
    (λ r adds local.
    let typed = c.in_ok-arg-4.ensures.shape local ∙ ap (λ a. with_rule a type) set in
    let root = c.in_ok-arg-5.ensures.shape c.root.ensures.1 ∙ ap₂ with_rule typed c.root.ensures.0 in
    let hex = c.in_ok-arg-6.ensures.shape c.hex.ensures.1 ∙ ap₂ with_rule root c.hex.ensures.0 in
    (parser, c.action.ensures.1, adds.shape c.names.ensures.1 ∙ ap₂ with_rule hex c.names.ensures.0))
    c.arg-7.ensures
