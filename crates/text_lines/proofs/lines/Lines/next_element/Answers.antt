use Rattle.std.proofs.Common.{◌≡◌, false, rules, sym, ap}
use Rattle.text_lines.specs.Pieces.{before_element}
use Rattle.text_lines.proofs.Appending.{adds_both, adds_same}
use Rattle.text_lines.proofs.lines.Lines.next_element.Goals as goal

pub returns-in_ok-padding-clause-text : goal.returns-in_ok-padding-clause-text
returns-in_ok-padding-clause-text c =
    let later : c.args.is_first.now ≡ false = search rules in
    adds_same _ _ _ (ap (before_element c.args.self.now.options.pretty) (sym later)) (adds_both _ _ _ _ c.in_ok-put.ensures c.in_ok-padding.ensures.text)
