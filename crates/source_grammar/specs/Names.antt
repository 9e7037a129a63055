-- The tokens of names, numbers and strings, by the language specification's section "Lexical
-- elements".
use Rattle.protox_lex.specs.Token.{int, sign}
use Rattle.protox_lex.specs.declared.literal.Int.{Int}
use Rattle.protox_tokens.specs.Marks.{literal, spot, word_mark}
use Rattle.protox_tokens.specs.Parser.{sees, is_string}
use Rattle.protox_tokens.specs.Stream.{Stream}
use Rattle.protox_tree.specs.Tree.{Word, TypeName}
use Rattle.source_grammar.specs.Languages.{Language, one, token_at, begins, ends, ◌▸◌, if_there, some, some_by}
use Rattle.std.specs.Prelude.{◌≡◌, Bool, true, false, List}
use Rattle.protox_lex.specs.declared.token.Sign.TheVariants as s

-- ident
abbrev pub a_word : Word → Language
a_word w = one (word_mark w)

-- fullIdent = ident { "." ident }
abbrev pub full_name : List Word → Language
full_name ws = some_by (sign s.Dot) a_word ws

-- messageType = [ "." ] { ident "." } messageName
abbrev pub a_type_name : TypeName → Language
a_type_name t = if_there (sign s.Dot) t.leading_dot ▸ full_name t.parts

abbrev pub integer_of : Bool → Int → Language
integer_of true n = token_at (sign s.Minus) (begins n.span) ▸ token_at (int n.value) (ends n.span)
integer_of false n = one (spot n.span (int n.value))

-- [ "-" ] intLit
abbrev pub integer : Int → Language
integer n = integer_of n.negative n

-- strLit = strLitSingle { strLitSingle }
abbrev pub a_string : List Word → Language
a_string ws = some (λ w. one (literal w)) ws

-- ---- what may follow

-- A name goes on behind a dot.
abbrev pub NoDot : {A : Type 0} → A → Stream → Type 0
NoDot a r = sees (sign s.Dot) r ≡ false

-- A string goes on with a literal.
abbrev pub NoString : {A : Type 0} → A → Stream → Type 0
NoString a r = is_string r ≡ false
