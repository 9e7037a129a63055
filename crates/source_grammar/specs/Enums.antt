-- The tokens of enums, by the language specification's section "Enum definition".
use Rattle.protox_lex.specs.Token.{ident, sign}
use Rattle.protox_tokens.specs.Marks.{spot}
use Rattle.protox_tree.specs.Tree.{EnumValue, EnumItem, enum_value, enum_option, enum_reserved, enum_empty, Enum}
use Rattle.source_grammar.specs.Languages.{Language, one, the, token_at, begins, ends, ◌▸◌, each, unless}
use Rattle.source_grammar.specs.Names.{a_word, integer}
use Rattle.source_grammar.specs.Options.{an_option, options}
use Rattle.source_grammar.specs.Ranges.{a_reserved}
use Rattle.std.specs.Prelude.{[], ◌∷◌, codes}
use Rattle.protox_lex.specs.declared.token.Sign.TheVariants as s

-- enumField = ident "=" [ "-" ] intLit [ options ] ";"
abbrev pub an_enum_value : EnumValue → Language
an_enum_value v =
    a_word v.name ▸ the (sign s.Equals) ▸ integer v.number ▸ options v.options
    ▸ token_at (sign s.Semicolon) (λ at. begins v.span v.name.span × ends v.span at)

-- option | enumField | emptyStatement | reserved, where the words of the statements begin no value
abbrev pub an_enum_item : EnumItem → Language
an_enum_item (enum_value v) =
    unless (codes "reserved" ∷ codes "option" ∷ []) (an_enum_value v)
an_enum_item (enum_option o) = an_option o
an_enum_item (enum_reserved x) = a_reserved x
an_enum_item (enum_empty at) = one (spot at (sign s.Semicolon))

-- enum = "enum" enumName "{" { option | enumField | emptyStatement | reserved } "}"
abbrev pub an_enum : Enum → Language
an_enum e =
    token_at (ident (codes "enum")) (begins e.span)
    ▸ a_word e.name ▸ token_at (sign s.LeftBrace) (begins e.braces) ▸ each an_enum_item e.items
    ▸ token_at (sign s.RightBrace) (λ at. ends e.braces at × ends e.span at)
