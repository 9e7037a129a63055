-- What a lexer has left.
use Rattle.std.specs.Prelude.{List, drop}
use Rattle.text_lex.specs.declared.lexer.Lexer.{Lexer}
use Rattle.text_lex.specs.Lex.{lexemes_from}
use Rattle.text_lex.specs.Token.{Lexeme}

-- the tokens that are left
abbrev pub stream : Lexer → List Lexeme
stream l = lexemes_from l.at 0 (drop l.at l.text.now)
