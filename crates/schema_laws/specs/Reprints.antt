-- Texts whose message is printed with few braces open at once.
use Rattle.std.specs.Prelude.{◌≤◌}
use Rattle.protox_lex.specs.Class.{Text}
use Rattle.protobuf_model.specs.Types.{Name}
use Rattle.protobuf_model.specs.Values.{Message}
use Rattle.text_model.specs.Printed.{printed}
use Rattle.text_model.specs.Schemas.{Schema}
use Rattle.text_model.specs.Texts.{Gives}
use Rattle.text_model.specs.Tokens.{open_braces}
use Rattle.print_view.specs.Forms.{own_form}

-- no more than 100 braces are open at once in what is printed of the message that the text gives
abbrev pub IsShallow : Schema → Name → Text → Type 0
IsShallow w t text = (m : Message) → Gives w t text m → open_braces (printed own_form w t m) ≤ 100
