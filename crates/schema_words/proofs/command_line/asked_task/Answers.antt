use Rattle.std.proofs.Common.{rules, ℕ, List, None, Some, codes}
use Rattle.clap.specs.Matches.{found_of}
use Rattle.clap.specs.Walk.{rows_of}
use Rattle.schema_words.specs.Asked.{word_of}
use Rattle.schema_words.proofs.InRows.{if_none, no_action, no_such_action, no_type, row}
use Rattle.schema_words.proofs.command_line.asked_task.Goals as goal

pub returns-in_err-get_str-clause-none : goal.returns-in_err-get_str-clause-none
returns-in_err-get_str-clause-none c =
    let f = found_of c.args.matches.now in
    if_none c.from_residual.result _ (no_action (rows_of f) (row f (codes "action") None (search rules)))

pub returns-in-set-clause-asked : goal.returns-in-set-clause-asked
returns-in-set-clause-asked c = row (found_of c.args.matches.now) (codes "action") (Some (codes "set")) (search rules)

pub returns-in_default-clause-none : goal.returns-in_default-clause-none
returns-in_default-clause-none c =
    let f = found_of c.args.matches.now in
    let w : List ℕ = c.in_ok-get_str.field-0.now in
    no_such_action (rows_of f) w (row f (codes "action") (Some w) (search rules)) (search rules) (search rules) (search rules) (search rules)

pub returns-in_err-get_str-2-clause-none : goal.returns-in_err-get_str-2-clause-none
returns-in_err-get_str-2-clause-none c =
    let f = found_of c.args.matches.now in
    let action = c.match-branch.action in
    if_none c.from_residual-in_err-get_str-2.result _
    (no_type (rows_of f) action (row f (codes "action") (Some (word_of action)) (search rules)) (row f (codes "type") None (search rules)))

pub returns-clause-asked : goal.returns-clause-asked
returns-clause-asked c =
    let f = found_of c.args.matches.now in
    (row f (codes "action") (Some (word_of c.match-branch.action)) (search rules), row f (codes "type") (Some c.in_ok-get_str-2.field-0.now) (search rules))
