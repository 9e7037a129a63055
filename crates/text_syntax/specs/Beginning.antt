-- Fields that were read, and what is left of the lexemes.
use Rattle.std.specs.Prelude.{◌≡◌, List, Option, None, Some}
use Rattle.text_lex.specs.Token.{Lexeme}
use Rattle.text_model.specs.Tree.{Fields, no_fields, more_fields}
use Rattle.text_syntax.specs.Syntax.{Inner, field_at}

-- fields stand at the front, before none of which they end, and the rest stands behind them
abbrev pub BeginWith : (ends : List Lexeme → Option (List Lexeme)) → Inner → List Lexeme → Fields
    → List Lexeme → Type 0
BeginWith ends inner ls no_fields rest = rest ≡ ls
BeginWith ends inner ls (more_fields name given s fs) rest =
    (ends ls ≡ None)
    × (behind : List Lexeme)
    × (field_at inner ls
    ≡ Some (record { name = name; given = given; separator = s }, behind))
    × BeginWith ends inner behind fs rest
