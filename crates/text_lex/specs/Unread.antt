-- How much of its text a lexer has not read.
use Rattle.std.specs.Prelude.{ℕ, ◌-◌, length}
use Rattle.text_lex.specs.declared.lexer.Lexer.{Lexer}

abbrev pub unread : Lexer → ℕ
unread l = length l.text.now - l.at
