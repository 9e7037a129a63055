-- How much of its source a lexer has not read.
use Rattle.std.specs.Prelude.{ℕ, ◌-◌, length}
use Rattle.protox_lex.specs.declared.lexer.Lexer.{Lexer}

abbrev pub unread : Lexer → ℕ
unread l = length l.source.now - l.at
