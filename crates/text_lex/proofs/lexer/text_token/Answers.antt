use Rattle.std.proofs.Common.{ap}
use Rattle.protox_lex.specs.Shown.{token_of}
use Rattle.text_lex.proofs.lexer.text_token.Goals as goal

pub integer_to-requires : goal.integer_to-requires
integer_to-requires c = c.requires c.in-Int.field-0 (ap token_of c.in-Int.is)
