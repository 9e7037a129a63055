use Rattle.std.proofs.Common.{◌∙◌, ◌++◌, ◌∷◌, [], map, ap, sym}
use Rattle.protox_message_records.proofs.Taken.{inserted}
use Rattle.protox_message_records.specs.SyntheticOneofs.{if_named, is_taken}
use Rattle.descriptor_records.specs.Content.{text_view}
use Rattle.protox_message_records.proofs.names.add_name.Goals as goal

pub returns-in_ok-insert : goal.returns-in_ok-insert
returns-in_ok-insert c w =
    let old = map (λ n. n.now) c.args.names.now.keys in
    ap (λ ks. is_taken (map (λ n. n.now) ks) w) c.in_ok-insert.ensures.keys ∙ inserted c.args.names.now.keys c.as_str.result w
    ∙ ap (λ n. is_taken (old ++ n ∷ []) w) c.as_str.ensures.value ∙ ap (λ o. is_taken (old ++ if_named (text_view o)) w) (sym c.in-Some.is)
