-- The tokens of whole sources, by the language specification's sections "Syntax", "Import
-- Statement", "Package" and "Proto file".
use Rattle.protox_lex.specs.Class.{Text}
use Rattle.protox_lex.specs.Token.{ident, sign}
use Rattle.protox_lex.specs.declared.span.Span.{Span}
use Rattle.protox_tokens.specs.Marks.{spot}
use Rattle.protox_tokens.specs.Stream.{Stream, IsRead}
use Rattle.protox_tree.specs.FileTree.{SyntaxStatement, Import, Package, FileItem, file_import, file_package, file_option, file_message, file_enum, file_service, file_extend, file_empty, File, file_span}
use Rattle.protox_tree.specs.Tree.{joined}
use Rattle.protox_tree.specs.declared.file.ImportKind.{ImportKind}
use Rattle.protox_tree.specs.declared.types.Syntax.{Syntax}
use Rattle.source_grammar.specs.Enums.{an_enum}
use Rattle.source_grammar.specs.Languages.{Language, nothing, one, the, token_at, begins, ends, ◌▸◌, each, given}
use Rattle.source_grammar.specs.Messages.{a_message, an_extend, block}
use Rattle.source_grammar.specs.Names.{full_name, a_string}
use Rattle.source_grammar.specs.Options.{an_option}
use Rattle.source_grammar.specs.Services.{a_service}
use Rattle.std.specs.Prelude.{[], ◌≡◌, Option, Some, None, codes}
use Rattle.protox_lex.specs.declared.token.Sign.TheVariants as s
use Rattle.protox_tree.specs.declared.file.ImportKind.TheVariants as imports
use Rattle.protox_tree.specs.declared.types.Syntax.TheVariants as syntaxes

abbrev pub syntax_name : Syntax → Text
syntax_name syntaxes.Proto2 = codes "proto2"
syntax_name syntaxes.Proto3 = codes "proto3"

-- syntax = "syntax" "=" strLit ";", whose string names the language
abbrev pub a_syntax : SyntaxStatement → Language
a_syntax x =
    token_at (ident (codes "syntax")) (begins x.span) ▸ the (sign s.Equals)
    ▸ a_string x.value ▸ given (joined x.value ≡ syntax_name x.syntax)
    (token_at (sign s.Semicolon) (ends x.span))

abbrev pub a_syntax_if : Option SyntaxStatement → Language
a_syntax_if None = nothing
a_syntax_if (Some x) = a_syntax x

abbrev pub import_word : ImportKind → Text
import_word imports.Weak = codes "weak"
import_word imports.Public = codes "public"

-- [ "weak" | "public" ]
abbrev pub an_import_kind : Option (ImportKind × Span) → Language
an_import_kind None = nothing
an_import_kind (Some x) = one (spot x.1 (ident (import_word x.0)))

-- import = "import" [ "weak" | "public" ] strLit ";"
abbrev pub an_import : Import → Language
an_import x =
    token_at (ident (codes "import")) (begins x.span)
    ▸ an_import_kind x.kind ▸ a_string x.value ▸ token_at (sign s.Semicolon) (ends x.span)

-- package = "package" fullIdent ";"
abbrev pub a_package : Package → Language
a_package x =
    token_at (ident (codes "package")) (begins x.span)
    ▸ full_name x.name ▸ token_at (sign s.Semicolon) (ends x.span)

-- import | package | option | message | enum | service | extend | emptyStatement, where 31 braces
-- of messages and groups may be open at once
abbrev pub a_file_item : FileItem → Language
a_file_item (file_import x) = an_import x
a_file_item (file_package x) = a_package x
a_file_item (file_option o) = an_option o
a_file_item (file_message m) = a_message (block 31) m
a_file_item (file_enum e) = an_enum e
a_file_item (file_service x) = a_service x
a_file_item (file_extend e) = an_extend (block 31) e
a_file_item (file_empty at) = one (spot at (sign s.Semicolon))

-- proto = [ syntax ] { import | package | option | topLevelDef | emptyStatement }, of which the
-- place is that of its statements
abbrev pub a_file : File → Language
a_file f =
    a_syntax_if f.syntax
    ▸ given (f.span ≡ file_span f.syntax f.items) (each a_file_item f.items)

-- The tokens of this text, by the longest match, are those of the tree, and no other are left.
abbrev pub IsSpelledBy : File → Text → Type 0
IsSpelledBy tree z = (ts : Stream) × IsRead z ts × a_file tree ts []
