use Rattle.std.proofs.Common.{subst}
use Rattle.option_setter.specs.OptionNames.{LacksExtension, LacksTarget}
use Rattle.option_setter.proofs.Refusals.{err_unless}
use Rattle.option_setter.proofs.option_setter.OptionSetter.target.Goals as goal

-- src/option_setter.rt:138:13
pub returns-then-part-clause-refused : goal.returns-then-part-clause-refused
returns-then-part-clause-refused c =
    let scope = c.args.self.now.scope in
    err_unless (LacksExtension scope c.args.message c.as_str.result.now) (LacksTarget scope c.args.message c.args.part.now)
    (λ e h. rw c.if-part.true (subst (λ n. LacksExtension scope c.args.message n e) c.as_str.ensures.value h))
    c.extension.result c.extension.ensures.refused
