-- What is met in a file, and the locations of it.
--
-- Source: the comments of `SourceCodeInfo` and of `Location` in protobuf's `descriptor.proto`.
use Rattle.std.specs.Prelude.{ℕ, Bool, List, [], ◌∷◌, ◌++◌, Option, None, Some}
use Rattle.std.specs.Cmp.Lexicographic.{slice_cmp}
use Rattle.std.specs.List.Sorted.{IsSortedBy, IsStableBy}
use Rattle.std.specs.Ordering.{int_cmp, is_lt}
use Rattle.descriptor_records.specs.Content.{LocationContent}
use Rattle.descriptor_records.specs.declared.tag.file.TheConstants as files
use Rattle.protox_lex.specs.Class.{Text}
use Rattle.protox_lex.specs.declared.span.Span.{Span}
use Rattle.protox_locate.specs.Declarations.{each, entry, enum_events, more, none, option_events, service_events}
use Rattle.protox_locate.specs.Located.{Event, empty, located, part, statement}
use Rattle.protox_locate.specs.Messages.{after_extend, extend_events, message_events}
use Rattle.protox_locate.specs.declared.file.FileCounts.{FileCounts}
use Rattle.protox_locate.specs.declared.slot.FieldCounts.{FieldCounts}
use Rattle.protox_locate.specs.declared.slot.FieldTags.{FieldTags}
use Rattle.protox_tree.specs.FileTree.{File, FileItem, Import, SyntaxStatement, file_empty, file_enum, file_extend, file_import, file_message, file_option, file_package, file_service}
use Rattle.protox_tree.specs.declared.file.ImportKind.{ImportKind}
use Rattle.protox_tree.specs.declared.file.ImportKind.TheVariants as kinds

-- without entries so far
abbrev pub no_counts : FileCounts
no_counts = record {
  dependencies = none;
  public_dependencies = none;
  weak_dependencies = none;
  message_types = none;
  enum_types = none;
  services = none;
  extensions = none;
  options = none;
}

abbrev pub extension_tags : FieldTags
extension_tags = record { field = files.EXTENSION; nested_type = files.MESSAGE_TYPE }

abbrev pub own_extensions : FileCounts → FieldCounts
own_extensions c = record { fields = c.extensions; types = c.message_types }

-- ---- imports

abbrev pub kind_events : FileCounts → Option (ImportKind × Span) → List Event
kind_events c None = []
kind_events c (Some (kinds.Public, word)) =
    part [] (files.PUBLIC_DEPENDENCY ∷ c.public_dependencies.entries ∷ []) word ∷ []
kind_events c (Some (kinds.Weak, word)) =
    part [] (files.WEAK_DEPENDENCY ∷ c.weak_dependencies.entries ∷ []) word ∷ []

abbrev pub import_events : FileCounts → Import → List Event
import_events c i = statement [] (files.DEPENDENCY ∷ c.dependencies.entries ∷ []) i.span i.span.end
    ∷ kind_events c i.kind

abbrev pub after_kind : FileCounts → Option (ImportKind × Span) → FileCounts
after_kind c None = c
after_kind c (Some (kinds.Public, word)) =
    record c { public_dependencies = more c.public_dependencies }
after_kind c (Some (kinds.Weak, word)) = record c { weak_dependencies = more c.weak_dependencies }

abbrev pub after_import : FileCounts → Import → FileCounts
after_import c i = after_kind (record c { dependencies = more c.dependencies }) i.kind

-- ---- files

abbrev pub item_events : FileCounts → FileItem → List Event
item_events c (file_import i) = import_events c i
item_events c (file_package p) = statement [] (files.PACKAGE ∷ []) p.span p.span.end ∷ []
item_events c (file_option o) = option_events [] files.OPTIONS c.options o
item_events c (file_message m) = message_events (entry [] files.MESSAGE_TYPE c.message_types) m
item_events c (file_enum e) = enum_events (entry [] files.ENUM_TYPE c.enum_types) e
item_events c (file_service s) = service_events (entry [] files.SERVICE c.services) s
item_events c (file_extend e) = extend_events [] extension_tags (own_extensions c) e
item_events c (file_empty span) = empty span ∷ []

abbrev pub with_extensions : FileCounts → FieldCounts → FileCounts
with_extensions c f = record c { extensions = f.fields; message_types = f.types }

abbrev pub after_item : FileCounts → FileItem → FileCounts
after_item c (file_import i) = after_import c i
after_item c (file_package p) = c
after_item c (file_option o) = record c { options = more c.options }
after_item c (file_message m) = record c { message_types = more c.message_types }
after_item c (file_enum e) = record c { enum_types = more c.enum_types }
after_item c (file_service s) = record c { services = more c.services }
after_item c (file_extend e) = with_extensions c (after_extend (own_extensions c) e)
after_item c (file_empty span) = c

abbrev pub syntax_events : Option SyntaxStatement → List Event
syntax_events None = []
syntax_events (Some s) = statement [] (files.SYNTAX ∷ []) s.span s.span.end ∷ []

-- The whole file, its `syntax`, and each of its statements.
abbrev pub file_events : File → List Event
file_events f = part [] [] f.span ∷ [] ++ syntax_events f.syntax
    ++ each item_events after_item no_counts f.items

-- ---- the order of locations

-- the path of one is less than that of the other
abbrev pub is_before : LocationContent → LocationContent → Bool
is_before a b = is_lt (slice_cmp int_cmp a.path b.path)

-- the same locations by path, those of one path in their order
pub record AreByPath (found sorted : List LocationContent) : Type 0 where
  pub ascend : IsSortedBy is_before sorted
  pub same : IsStableBy is_before found sorted

-- These are the locations of a file that has this tree, in a source with these line feeds.
abbrev pub AreLocations : Text → List ℕ → File → List LocationContent → Type 0
AreLocations source line_feeds tree sorted =
    AreByPath (located source line_feeds (file_events tree)) sorted
