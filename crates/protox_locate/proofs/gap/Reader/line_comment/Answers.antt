use Rattle.std.proofs.Common.{◌≡◌, ◌∙◌, sym, subst, rules}
use Rattle.std.proofs.lemmas.Str.{utf8_lossy-IsUtf8}
use Rattle.std.specs.Prelude.{OnOk}
use Rattle.protox_locate.specs.Gap as gap
use Rattle.protox_locate.proofs.gap.Reader.line_comment.Goals as goal

-- text is kept as it is
pub returns-in-Ok : goal.returns-in-Ok
returns-in-Ok c =
    let given : c.in-Ok.text.now ≡ c.args.text.now = search rules in
    let whole = utf8_lossy-IsUtf8 c.args.text.now (search rules) in
    subst (λ t. OnOk c.line.result (gap.read_view c.line.new.self ≡ gap.with_line_comment (gap.read_view c.args.self.now) t)) (given ∙ sym whole) c.line.ensures
