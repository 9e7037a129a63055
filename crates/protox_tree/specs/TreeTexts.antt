-- What the parts of a tree print: their tokens.
use Rattle.std.specs.Prelude.{Bool, if◌then◌else◌, List, [], ◌∷◌, ◌++◌, map, codes}
use Rattle.std.specs.Fmt.{decimal}
use Rattle.std.specs.List.{flat_map}
use Rattle.protox_lex.specs.Class.{Text}
use Rattle.protox_lex.specs.Escapes.{escaped}
use Rattle.protox_tree.specs.Tree.{Word, Value, word_value, minus_word, int_value, float_value, strings_value, braces_value}
use Rattle.protox_tree.specs.declared.types.Syntax.{Syntax}
use Rattle.protox_tree.specs.declared.types.Syntax.TheVariants as syntaxes

abbrev pub syntax_text : Syntax → Text
syntax_text syntaxes.Proto2 = codes "proto2"
syntax_text syntaxes.Proto3 = codes "proto3"

-- a minus is a token of its own
abbrev pub sign_text : Bool → Text
sign_text negative = if negative then codes "- " else []

-- with one space between each two
abbrev pub spaced : List Text → Text
spaced [] = []
spaced (t ∷ ts) = t ++ flat_map (λ s. 32 ∷ s) ts

-- a literal stands in quotes, with its bytes escaped
abbrev pub literal_text : Word → Text
literal_text w = codes "\"" ++ (escaped w.text ++ codes "\"")

-- the tokens of an option's value, with one space between each two
abbrev pub value_text : Value → Text
value_text (word_value w) = w.text
value_text (minus_word w) = codes "- " ++ w.text
value_text (int_value n) = sign_text n.negative ++ decimal n.value
value_text (float_value negative w) = sign_text negative ++ w.text
value_text (strings_value ws) = spaced (map literal_text ws)
value_text (braces_value [] span) = codes "{ }"
value_text (braces_value (b ∷ text) span) = codes "{ " ++ ((b ∷ text) ++ codes " }")
