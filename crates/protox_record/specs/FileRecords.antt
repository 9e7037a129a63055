-- The records of files.
--
-- Source: "Importing Definitions" and "Packages" of the language guides on protobuf.dev, and
-- `FileDescriptorProto` of descriptor.proto.
use Rattle.std.specs.Prelude.{◌≡◌, ◌+◌, ◌++◌, ℕ, ℤ, Bool, true, false, if◌then◌else◌, List, [], ◌∷◌, map, Option, Some, None, codes}
use Rattle.std.specs.List.{flat_map, fold}
use Rattle.descriptor_records.specs.Content.{EnumContent, FieldContent, FileContent, MessageContent, messages_of, OptionContent, ServiceContent}
use Rattle.protox_declaration_records.specs.EnumRecords.{enum_of}
use Rattle.protox_declaration_records.specs.OptionRecords.{option_of, options_of}
use Rattle.protox_declaration_records.specs.ServiceRecords.{service_of}
use Rattle.protox_declaration_records.specs.Texts.{text_of}
use Rattle.protox_lex.specs.Class.{Text}
use Rattle.protox_lex.specs.declared.span.Span.{Span}
use Rattle.protox_field_records.specs.FieldRecords.{extension_at}
use Rattle.protox_message_records.specs.MessageRecords.{Declared, AreTypes, type_of_message, types_of_extend}
use Rattle.protox_field_records.specs.Places.{place_of}
use Rattle.protox_tree.specs.FileTree.{syntax_of}
use Rattle.protox_tree.specs.FileView.{file_view}
use Rattle.protox_tree.specs.Tree.{dotted}
use Rattle.protox_tree.specs.View.{full_view}
use Rattle.protox_tree.specs.declared.file.File.{File}
use Rattle.protox_tree.specs.declared.file.FileItem.{FileItem}
use Rattle.protox_tree.specs.declared.file.FileItem.TheVariants as items
use Rattle.protox_tree.specs.declared.file.Import.{Import}
use Rattle.protox_tree.specs.declared.file.ImportKind.{ImportKind}
use Rattle.protox_tree.specs.declared.file.ImportKind.TheVariants as kinds
use Rattle.protox_tree.specs.declared.types.Syntax.{Syntax}
use Rattle.protox_tree.specs.declared.types.Syntax.TheVariants as syntaxes

-- The name of the syntax: proto2 is told by none.
abbrev pub syntax_name : Syntax → Option Text
syntax_name syntaxes.Proto2 = None
syntax_name syntaxes.Proto3 = Some (codes "proto3")

-- the package after a statement, where this one stood before it: the last one counts
abbrev pub package_after : Option Text → FileItem → Option Text
package_after before (items.Package p) = Some (dotted (full_view p.name))
package_after before _ = before

-- what stands in a file, one by one

abbrev pub import_at : FileItem → List Import
import_at (items.Import i) = i ∷ []
import_at _ = []

abbrev pub option_at : FileItem → List OptionContent
option_at (items.Option o) = option_of o.body ∷ []
option_at _ = []

abbrev pub enum_at : FileItem → List EnumContent
enum_at (items.Enum e) = enum_of e ∷ []
enum_at _ = []

abbrev pub service_at : FileItem → List ServiceContent
service_at (items.Service s) = service_of s ∷ []
service_at _ = []

-- ---- imports

abbrev pub names_of : List Import → List Text
names_of is = map (λ i. text_of i.value) is

abbrev pub is_same : ImportKind → ImportKind → Bool
is_same kinds.Public kinds.Public = true
is_same kinds.Public kinds.Weak = false
is_same kinds.Weak kinds.Public = false
is_same kinds.Weak kinds.Weak = true

-- the word behind `import` is that of this kind
abbrev pub is_kind : ImportKind → Option (ImportKind × Span) → Bool
is_kind kind None = false
is_kind kind (Some k) = is_same kind k.0

-- the place of an import, where so many stand before it, if it is of a kind
abbrev pub place_at : ImportKind → ℕ → Import → List ℤ
place_at kind n i = if is_kind kind i.kind then place_of n ∷ [] else []

-- the places of the imports of a kind, where so many stand before these
abbrev pub places_from : ImportKind → ℕ → List Import → List ℤ
places_from kind n [] = []
places_from kind n (i ∷ is) = place_at kind n i ++ places_from kind (n + 1) is

-- ---- extensions

abbrev pub extensions_at : FileItem → List FieldContent
extensions_at (items.Extend e) = flat_map (extension_at e.extendee) e.items.items
extensions_at _ = []

-- ---- files

-- A file under this name, with these messages and no locations: of each kind all that stands there,
-- in order.
abbrev pub file_with : Text → File → List MessageContent → FileContent
file_with name f messages = record {
  name = Some name;
  package_name = fold package_after None f.items.items;
  dependency = names_of (flat_map import_at f.items.items);
  public_dependency = places_from kinds.Public 0 (flat_map import_at f.items.items);
  weak_dependency = places_from kinds.Weak 0 (flat_map import_at f.items.items);
  message_type = messages;
  enum_type = flat_map enum_at f.items.items;
  service = flat_map service_at f.items.items;
  extension = flat_map extensions_at f.items.items;
  options = options_of (flat_map option_at f.items.items);
  source_code_info = None;
  syntax_name = syntax_name (syntax_of (file_view f).syntax);
}

-- the types that are declared outside of messages
abbrev pub types_at : FileItem → List Declared
types_at (items.Message m) = type_of_message m ∷ []
types_at (items.Extend e) = types_of_extend e
types_at _ = []

-- This is the record of a file under this name, which has no locations.
pub record IsFile (name : Text) (f : File) (made : FileContent) : Type 0 where
  pub is : made ≡ file_with name f made.message_type
  pub types_are :
      AreTypes (syntax_of (file_view f).syntax) (flat_map types_at f.items.items)
      (messages_of made.message_type)
