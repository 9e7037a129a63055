-- The tree of a whole source.
use Rattle.std.specs.Prelude.{List, ◌++◌, Option, None, Some, map, option_map}
use Rattle.std.specs.Option.{option_to_list}
use Rattle.protox_lex.specs.declared.span.Span.{Span}
use Rattle.protox_tree.specs.declared.file.ImportKind.{ImportKind}
use Rattle.protox_tree.specs.declared.types.Syntax.{Syntax}
use Rattle.protox_tree.specs.declared.types.Syntax.TheVariants as syntaxes
use Rattle.protox_tree.specs.Tree.{Word, OptionStatement, Enum, Service, spans_cover}
use Rattle.protox_tree.specs.Nest.{Message, message, Extend, extend}

pub record SyntaxStatement : Type 0 where
  pub syntax : Syntax
  pub value : List Word
  pub span : Span

pub record Import : Type 0 where
  pub kind : Option (ImportKind × Span)
  pub value : List Word
  pub span : Span

pub record Package : Type 0 where
  pub name : List Word
  pub span : Span

pub data FileItem : Type 0 where
  file_import : Import → FileItem
  file_package : Package → FileItem
  file_option : OptionStatement → FileItem
  file_message : Message → FileItem
  file_enum : Enum → FileItem
  file_service : Service → FileItem
  file_extend : Extend → FileItem
  file_empty : Span → FileItem

pub record File : Type 0 where
  pub syntax : Option SyntaxStatement
  pub items : List FileItem
  pub span : Span

-- where a statement stands
abbrev pub item_span : FileItem → Span
item_span (file_import i) = i.span
item_span (file_package p) = p.span
item_span (file_option o) = o.span
item_span (file_message (message name braces items span)) = span
item_span (file_enum e) = e.span
item_span (file_service s) = s.span
item_span (file_extend (extend extendee braces items span)) = span
item_span (file_empty span) = span

-- from the first statement of a file to the last
abbrev pub file_span : Option SyntaxStatement → List FileItem → Span
file_span syntax items = spans_cover
    (option_to_list (option_map (λ s. s.span) syntax) ++ map item_span items)

-- proto2, where no statement says otherwise
abbrev pub syntax_of : Option SyntaxStatement → Syntax
syntax_of None = syntaxes.Proto2
syntax_of (Some s) = s.syntax
