-- The file that the values of `src/file.rt` stand for.
use Rattle.std.specs.Prelude.{List, map, option_map}
use Rattle.protox_tree.specs.FileTree as tree
use Rattle.protox_tree.specs.NestView.{message_view, extend_view}
use Rattle.protox_tree.specs.View.{full_view, strings_view, option_view, enum_view, service_view}
use Rattle.protox_tree.specs.declared.file.File.{File}
use Rattle.protox_tree.specs.declared.file.FileItem.{FileItem}
use Rattle.protox_tree.specs.declared.file.FileItem.TheVariants as items
use Rattle.protox_tree.specs.declared.file.Import.{Import}
use Rattle.protox_tree.specs.declared.file.Package.{Package}
use Rattle.protox_tree.specs.declared.file.SyntaxStatement.{SyntaxStatement}

abbrev pub syntax_view : SyntaxStatement → tree.SyntaxStatement
syntax_view s = record { syntax = s.syntax; value = strings_view s.value; span = s.span }

abbrev pub import_view : Import → tree.Import
import_view i = record { kind = i.kind; value = strings_view i.value; span = i.span }

abbrev pub package_view : Package → tree.Package
package_view p = record { name = full_view p.name; span = p.span }

abbrev pub file_item_view : FileItem → tree.FileItem
file_item_view (items.Import i) = tree.file_import (import_view i)
file_item_view (items.Package p) = tree.file_package (package_view p)
file_item_view (items.Option o) = tree.file_option (option_view o)
file_item_view (items.Message m) = tree.file_message (message_view m)
file_item_view (items.Enum e) = tree.file_enum (enum_view e)
file_item_view (items.Service s) = tree.file_service (service_view s)
file_item_view (items.Extend e) = tree.file_extend (extend_view e)
file_item_view (items.Empty span) = tree.file_empty span

abbrev pub file_items_view : List FileItem → List tree.FileItem
file_items_view is = map file_item_view is

abbrev pub file_view : File → tree.File
file_view f = record {
  syntax = option_map syntax_view f.syntax;
  items =
      file_items_view f.items.items;
  span = f.span;
}
