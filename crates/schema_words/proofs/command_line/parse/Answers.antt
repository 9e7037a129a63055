use Rattle.std.proofs.Common.{rules, ◌≡◌, ◌∙◌, ap, map}
use Rattle.clap.specs.Simple.{app_of}
use Rattle.schema_words.specs.CommandLine.{app, app_with}
use Rattle.schema_words.proofs.Simple.{read}
use Rattle.schema_words.proofs.command_line.parse.Goals as goal

pub returns-in_err-command : goal.returns-in_err-command
returns-in_err-command c = search rules

pub returns : goal.returns
returns c =
    let made = c.in_ok-command.ensures c.type_name.ensures.1 in
    let is : app_of c.in_ok-command.field-0 ≡ app made.0 = made.2 ∙ ap (app_with made.0) c.type_name.ensures.0 in
    let parse = c.try_get_matches_from in
    read (app_of c.in_ok-command.field-0) (map (λ w. w.now) c.args.words.now) made.0 made.1 is parse.result parse.ensures.kinds parse.ensures.matches
