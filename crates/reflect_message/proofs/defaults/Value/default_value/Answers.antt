use Rattle.std.proofs.Common.{rules, subst, sym}
use Rattle.reflect_message.specs.Defaults.{IsKindDefault}
use Rattle.reflect_message.specs.declared.value.ValueOf as values
use Rattle.reflect_message.specs.declared.value.ValueOf.{the_lemmas}
use Rattle.reflect_message.proofs.defaults.Value.default_value.Goals as goal

pub returns-in-Message : goal.returns-in-Message
returns-in-Message c =
    subst (λ kind. IsKindDefault kind (values.Message c.new.result)) (sym c.in-Message.is) (c.new.result, search (rules, the_lemmas), c.new.ensures.same_type, c.new.ensures.empty)
