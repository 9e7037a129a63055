use Rattle.std.proofs.Common.{rules, ◌≡◌, ◌∙◌, [], None, Some, ap, codes, inr, map, subst}
use Rattle.std.specs.Option.{option_map, unwrap_or}
use Rattle.clap.specs.Matches.{found_of, matched_of, one_text, raw_values}
use Rattle.clap.proofs.WalkLemmas.{first_value-rows, one_text-rows, raw_values-rows}
use Rattle.schema_words.specs.Asked.{IsFlag}
use Rattle.schema_words.proofs.InRows.{if_none, row}
use Rattle.schema_words.proofs.command_line.requested.Goals as goal

pub returns-in_err-get_str-clause-none : goal.returns-in_err-get_str-clause-none
returns-in_err-get_str-clause-none c =
    if_none c.from_residual-in_err-get_str.result _ (inr (row (found_of c.args.matches.now) (codes "root") None (search rules)))

pub returns-clause-asked : goal.returns-clause-asked
returns-clause-asked c =
    let f = found_of c.args.matches.now in
    let flag : IsFlag (one_text f (codes "hex")) c.get_flag.result = search rules in
    let names : map (λ s. s.now) c.unwrap_or.result.now ≡ unwrap_or (option_map raw_values (matched_of f (codes "names"))) [] = search rules in
    record {
      task = c.in_ok-asked_task.ensures.asked;
      descriptor = c.get_str.ensures ∙ first_value-rows f (codes "descriptor");
      set = c.get_str-2.ensures ∙ first_value-rows f (codes "set");
      root = row f (codes "root") (Some c.in_ok-get_str.field-0.now) (search rules);
      hex = subst (λ o. IsFlag o c.get_flag.result) (one_text-rows f (codes "hex")) flag;
      names = names ∙ ap (λ o. unwrap_or o []) (raw_values-rows f (codes "names"));
    }
