-- How services are read.
use Rattle.protox_lex.specs.Token.{ident, sign}
use Rattle.protox_lex.specs.declared.span.Span.{Span}
use Rattle.protox_options.specs.NameGrammar.{type_name}
use Rattle.protox_options.specs.OptionGrammar.{option}
use Rattle.protox_tokens.specs.Parser.{Parser, ◌>>=◌, ◌>>◌, ◌<$>◌, pure, sees, eat, expect, word, loop, until, choose}
use Rattle.protox_tokens.specs.Refusal.{a_service_item, refusal}
use Rattle.protox_tokens.specs.Span.{across}
use Rattle.protox_tokens.specs.Stream.{source}
use Rattle.protox_tree.specs.Tree.{MethodType, MethodItem, method_option, method_empty, MethodBody, Method, ServiceItem, service_method, service_option, service_empty, Service}
use Rattle.std.specs.Prelude.{ℕ, List, Option, Some, None, Err, codes}
use Rattle.protox_lex.specs.declared.token.Sign.TheVariants as s

-- What a method takes or gives: where the word `stream` comes first it is the keyword.
unfoldable pub method_type : Parser MethodType
method_type = do
  expect (sign s.LeftParen)
  stream ← eat (ident (codes "stream"))
  name ← type_name
  expect (sign s.RightParen)
  pure (record { stream = stream; name = name })

abbrev pub method_item_unless : Option Span → Parser MethodItem
method_item_unless (Some at) = pure (method_empty at)
method_item_unless None = method_option <$> option

unfoldable pub method_item : Parser MethodItem
method_item = eat (sign s.Semicolon) >>= method_item_unless

unfoldable pub method_items : Parser (List MethodItem)
method_items = loop (until (sign s.RightBrace) method_item)

-- What ends a method, its braces or a semicolon, and where that ends.
abbrev pub method_end : Option Span → Parser (Option MethodBody × ℕ)
method_end None = do
  last ← expect (sign s.Semicolon)
  pure (None, last.end)
method_end (Some brace) = do
  items ← method_items
  close ← expect (sign s.RightBrace)
  pure (Some (record { braces = across brace close; items = items }), close.end)

unfoldable pub method_body : Parser (Option MethodBody × ℕ)
method_body = eat (sign s.LeftBrace) >>= method_end

unfoldable pub a_method : Parser Method
a_method = do
  first ← expect (ident (codes "rpc"))
  name ← word
  input ← method_type
  expect (ident (codes "returns"))
  output ← method_type
  end ← method_body
  pure (record {
    name = name;
    input = input;
    output = output;
    body = end.0;
    span = record { start = first.start; end = end.1 };
  })

abbrev pub service_item_unless : Option Span → Parser ServiceItem
service_item_unless (Some at) = pure (service_empty at)
service_item_unless None =
    choose (sees (ident (codes "option"))) (service_option <$> option)
    (choose (sees (ident (codes "rpc"))) (service_method <$> a_method)
    (λ ts. Err (refusal source a_service_item ts)))

unfoldable pub service_item : Parser ServiceItem
service_item = eat (sign s.Semicolon) >>= service_item_unless

unfoldable pub service_items : Parser (List ServiceItem)
service_items = loop (until (sign s.RightBrace) service_item)

-- A service from its keyword on.
unfoldable pub service : Parser Service
service = do
  first ← expect (ident (codes "service"))
  name ← word
  brace ← expect (sign s.LeftBrace)
  items ← service_items
  close ← expect (sign s.RightBrace)
  pure (record {
    name = name;
    braces = across brace close;
    items = items;
    span =
        across first close;
  })
