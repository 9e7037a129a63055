-- How whole sources are read.
use Rattle.protox_declarations.specs.EnumGrammar.{enumeration}
use Rattle.protox_declarations.specs.ServiceGrammar.{service}
use Rattle.protox_lex.specs.Class.{Text}
use Rattle.protox_lex.specs.Token.{ident, sign}
use Rattle.protox_lex.specs.declared.span.Span.{Span}
use Rattle.protox_messages.specs.MessageGrammar.{block, message_with, extend_with}
use Rattle.protox_options.specs.NameGrammar.{full_ident, strings}
use Rattle.protox_options.specs.OptionGrammar.{option}
use Rattle.protox_tokens.specs.Parser.{Parser, ◌>>=◌, ◌>>◌, ◌<$>◌, pure, sees, eat, expect, loop, when, choose}
use Rattle.protox_tokens.specs.Refusal.{a_file_item, refusal, unknown_syntax}
use Rattle.protox_tokens.specs.Span.{across}
use Rattle.protox_tokens.specs.Stream.{source, is_over}
use Rattle.protox_tree.specs.FileTree.{SyntaxStatement, Import, Package, FileItem, file_import, file_package, file_option, file_message, file_enum, file_service, file_extend, file_empty, File, file_span}
use Rattle.protox_tree.specs.Tree.{joined, words_span}
use Rattle.protox_tree.specs.declared.file.ImportKind.{ImportKind}
use Rattle.protox_tree.specs.declared.types.Syntax.{Syntax}
use Rattle.std.specs.Prelude.{not, if◌then◌else◌, List, Option, Some, None, Err, codes}
use Rattle.std.specs.Str.{bytes_eq}
use Rattle.protox_lex.specs.declared.token.Sign.TheVariants as s
use Rattle.protox_tree.specs.declared.file.ImportKind.TheVariants as imports
use Rattle.protox_tree.specs.declared.types.Syntax.TheVariants as syntaxes

-- ---- the language

-- The language of this name.
abbrev pub language : Text → Option Syntax
language name =
    if bytes_eq name (codes "proto2") then Some syntaxes.Proto2
    else if bytes_eq name (codes "proto3") then Some syntaxes.Proto3
    else None

abbrev pub known : Span → Option Syntax → Parser Syntax
known at (Some syntax) = pure syntax
known at None = λ ts. Err (unknown_syntax at)

-- What stands behind the word `syntax`. A literal that names no language is at fault.
unfoldable pub syntax_behind : Span → Parser SyntaxStatement
syntax_behind first = do
  expect (sign s.Equals)
  value ← strings
  syntax ← known (words_span value) (language (joined value))
  last ← expect (sign s.Semicolon)
  pure (record { syntax = syntax; value = value; span = across first last })

abbrev pub syntax_if : Option Span → Parser (Option SyntaxStatement)
syntax_if None = pure None
syntax_if (Some first) = Some <$> syntax_behind first

abbrev pub unless_edition : Option Span → Parser (Option SyntaxStatement)
unless_edition (Some at) = λ ts. Err (unknown_syntax at)
unless_edition None = eat (ident (codes "syntax")) >>= syntax_if

-- The statement `syntax = .. ;`, if a file begins with it. One that begins with the word `edition`
-- is at fault.
unfoldable pub syntax : Parser (Option SyntaxStatement)
syntax = eat (ident (codes "edition")) >>= unless_edition

-- ---- statements

abbrev pub public_if : Option Span → Parser (Option (ImportKind × Span))
public_if (Some at) = pure (Some (imports.Public, at))
public_if None = pure None

abbrev pub weak_if : Option Span → Parser (Option (ImportKind × Span))
weak_if (Some at) = pure (Some (imports.Weak, at))
weak_if None = eat (ident (codes "public")) >>= public_if

-- The word behind `import`, if there is one.
unfoldable pub import_kind : Parser (Option (ImportKind × Span))
import_kind = eat (ident (codes "weak")) >>= weak_if

-- The statement `import .. ;`.
unfoldable pub an_import : Parser Import
an_import = do
  first ← expect (ident (codes "import"))
  kind ← import_kind
  value ← strings
  last ← expect (sign s.Semicolon)
  pure (record { kind = kind; value = value; span = across first last })

-- The statement `package .. ;`.
unfoldable pub a_package : Parser Package
a_package = do
  first ← expect (ident (codes "package"))
  name ← full_ident
  last ← expect (sign s.Semicolon)
  pure (record { name = name; span = across first last })

-- The word of a statement begins it wherever it comes first. Of the braces of messages and groups
-- 31 may be open at once.
abbrev pub file_item_unless : Option Span → Parser FileItem
file_item_unless (Some at) = pure (file_empty at)
file_item_unless None =
    choose (sees (ident (codes "import"))) (file_import <$> an_import)
    (choose (sees (ident (codes "package"))) (file_package <$> a_package)
    (choose (sees (ident (codes "message"))) (file_message <$> message_with (block 31))
    (choose (sees (ident (codes "enum"))) (file_enum <$> enumeration)
    (choose (sees (ident (codes "service"))) (file_service <$> service)
    (choose (sees (ident (codes "extend"))) (file_extend <$> extend_with (block 31))
    (choose (sees (ident (codes "option"))) (file_option <$> option)
    (λ ts. Err (refusal source a_file_item ts))))))))

unfoldable pub file_item : Parser FileItem
file_item = eat (sign s.Semicolon) >>= file_item_unless

-- ---- files

-- Statements until nothing is left.
unfoldable pub file_items : Parser (List FileItem)
file_items = loop (when (λ ts. not (is_over ts)) file_item)

-- A source: its language, if it names one, and its statements.
unfoldable pub file : Parser File
file = do
  statement ← syntax
  items ← file_items
  pure (record { syntax = statement; items = items; span = file_span statement items })
