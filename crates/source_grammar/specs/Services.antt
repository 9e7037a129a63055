-- The tokens of services, by the language specification's section "Service definition".
use Rattle.protox_lex.specs.Class.{Text}
use Rattle.protox_lex.specs.Token.{ident, sign}
use Rattle.protox_lex.specs.declared.span.Span.{Span}
use Rattle.protox_tokens.specs.Marks.{spot}
use Rattle.protox_tree.specs.Tree.{MethodType, MethodItem, method_option, method_empty, MethodBody, Method, ServiceItem, service_method, service_option, service_empty, Service}
use Rattle.source_grammar.specs.Languages.{Language, one, the, token_at, begins, ends, ◌▸◌, if_there, each, unless}
use Rattle.source_grammar.specs.Names.{a_word, a_type_name}
use Rattle.source_grammar.specs.Options.{an_option}
use Rattle.std.specs.Prelude.{[], ◌≡◌, ℕ, List, ◌∷◌, Option, Some, None, codes}
use Rattle.protox_lex.specs.declared.token.Sign.TheVariants as s

-- Behind a missing keyword `stream` this word does not stand.
abbrev pub stream_words : Option Span → List Text
stream_words None = codes "stream" ∷ []
stream_words (Some at) = []

-- "(" [ "stream" ] messageType ")"
abbrev pub a_method_type : MethodType → Language
a_method_type t = the (sign s.LeftParen) ▸ if_there (ident (codes "stream")) t.stream
    ▸ unless (stream_words t.stream) (a_type_name t.name ▸ the (sign s.RightParen))

-- option | emptyStatement
abbrev pub a_method_item : MethodItem → Language
a_method_item (method_option o) = an_option o
a_method_item (method_empty at) = one (spot at (sign s.Semicolon))

-- "{" { option | emptyStatement } "}" | ";", the last of which ends there
abbrev pub a_method_end : Option MethodBody → ℕ → Language
a_method_end None end = token_at (sign s.Semicolon) (λ at. end ≡ at.end)
a_method_end (Some b) end =
    token_at (sign s.LeftBrace) (begins b.braces) ▸ each a_method_item b.items
    ▸ token_at (sign s.RightBrace) (λ at. ends b.braces at × (end ≡ at.end))

-- rpc = "rpc" rpcName "(" [ "stream" ] messageType ")" "returns" "(" [ "stream" ] messageType ")"
-- ( "{" { option | emptyStatement } "}" | ";" )
abbrev pub a_method : Method → Language
a_method m =
    token_at (ident (codes "rpc")) (begins m.span)
    ▸ a_word m.name ▸ a_method_type m.input ▸ the (ident (codes "returns"))
    ▸ a_method_type m.output ▸ a_method_end m.body m.span.end

-- option | rpc | emptyStatement
abbrev pub a_service_item : ServiceItem → Language
a_service_item (service_method m) = a_method m
a_service_item (service_option o) = an_option o
a_service_item (service_empty at) = one (spot at (sign s.Semicolon))

-- service = "service" serviceName "{" { option | rpc | emptyStatement } "}"
abbrev pub a_service : Service → Language
a_service x =
    token_at (ident (codes "service")) (begins x.span)
    ▸ a_word x.name ▸ token_at (sign s.LeftBrace) (begins x.braces) ▸ each a_service_item x.items
    ▸ token_at (sign s.RightBrace) (λ at. ends x.braces at × ends x.span at)
