use Rattle.std.proofs.Common.{ap, ◌∙◌, refl, string_bytes}
use Rattle.text_lines.proofs.Appending.{adds_both, one_on}
use Rattle.reflect_print.proofs.Parts.{key_parts}
use Rattle.reflect_print.proofs.messages.entry_key.Goals as goal

pub returns-clause-text : goal.returns-clause-text
returns-clause-text c =
    let later = adds_both (string_bytes c.next_item.new.self.output) _ _ _ c.in_ok-put.ensures.text c.in_ok-colon.ensures.text in
    let before = adds_both (string_bytes c.args.lines.now.output) _ _ _ c.in_ok-next_item.ensures.text later in
    one_on _ _ _ _ _ _ (key_parts _ _ _ _ _ _ _ refl (ap (λ o. o.pretty) (c.in_ok-put.ensures.form ∙ c.in_ok-next_item.ensures.form)) (ap (λ i. i.in_braces) c.requires) (ap (λ i. i.any) c.requires))
    before c.map_key.ensures.text
