use Rattle.std.proofs.Common.{rules}
use Rattle.text_lines.proofs.Appending.{one_text}
use Rattle.reflect_print.proofs.EnumNames.{value_named}
use Rattle.reflect_print.proofs.messages.enum_text.Goals as goal

pub returns-in-Some-clause-text : goal.returns-in-Some-clause-text
returns-in-Some-clause-text c =
    one_text _ _ _ _ _ (value_named _ c.in-Some-Enum.descriptor c.in-Some.value _ _ (search rules) (search rules) (search rules) c.name.ensures) c.put.ensures.text
