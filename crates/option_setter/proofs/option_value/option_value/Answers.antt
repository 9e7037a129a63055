use Rattle.std.proofs.Common.{refl}
use Rattle.option_setter.proofs.option_value.option_value.Goals as goal

-- src/option_value.rt:190:32
pub returns-in-Message-clause-said : goal.returns-in-Message-clause-said
returns-in-Message-clause-said c =
    rw c.in-Message.is (c.in_ok-aggregate-in-Message.field-0, c.in_ok-aggregate-in-Message.ensures.made, refl)
