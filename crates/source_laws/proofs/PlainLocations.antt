-- The paths of what is met in messages and files are numbers of 32 bits, so the locations of a
-- source are plain.
use Rattle.std.proofs.Common.{◌<◌, ℕ, List, [], ◌∷◌, ◌++◌, Option, Some, None}
use Rattle.std.specs.List.{AllByRecursion}
use Rattle.descriptor_records.specs.Content.{LocationContent}
use Rattle.descriptor_records.specs.declared.tag.extension_range.TheConstants as extension_ranges
use Rattle.descriptor_records.specs.declared.tag.field.TheConstants as fields
use Rattle.descriptor_records.specs.declared.tag.file.TheConstants as files
use Rattle.descriptor_records.specs.declared.tag.message.TheConstants as messages
use Rattle.descriptor_records.specs.declared.tag.oneof.TheConstants as oneofs
use Rattle.plain_records.specs.PlainRecords.{FitsInt32, IsInside, IsPlainLocation}
use Rattle.protox_lex.specs.Class.{Text}
use Rattle.protox_lex.specs.Lines.{feeds_of}
use Rattle.protox_lex.specs.declared.span.Span.{Span}
use Rattle.protox_locate.specs.Declarations.{each, entry, field_list_events, list_events, more, part_if, range_events}
use Rattle.protox_locate.specs.Files as in_files
use Rattle.protox_locate.specs.Files.{AreLocations, after_import, after_kind, file_events, import_events, kind_events, syntax_events}
use Rattle.protox_locate.specs.Located.{Path, closing, part}
use Rattle.protox_locate.specs.Messages.{added_events, added_item_events, after_added, after_added_item, after_extend, after_field, after_item, after_member, after_members, after_oneof, after_range, after_type, extend_events, extension_events, extension_tags, extensions_events, field_events, field_parts_events, group_events, in_oneof, item_events, items_events, label_span, member_events, members_events, message_events, no_counts, oneof_events, own_extensions, own_fields, own_tags, ty_events, type_events}
use Rattle.protox_tree.specs.FileTree.{File, FileItem, Import, SyntaxStatement, file_empty, file_enum, file_extend, file_import, file_message, file_option, file_package, file_service}
use Rattle.protox_tree.specs.Nest.{Added, AddedItem, Extend, Extensions, Field, Group, Item, Items, Kind, Member, Members, Message, Oneof, a_group, added_empty, added_field, extend, field, group, item_empty, item_enum, item_extend, item_extensions, item_field, item_message, item_oneof, item_option, item_reserved, map_kind, member_empty, member_field, member_option, message, more_added, more_items, more_members, no_items, no_members, none_added, normal, oneof}
use Rattle.protox_tree.specs.Places.{type_name_span}
use Rattle.protox_tree.specs.Tree.{OptionList, Ty, named, scalar}
use Rattle.protox_tree.specs.declared.file.ImportKind.{ImportKind}
use Rattle.protox_tree.specs.declared.file.ImportKind.TheVariants as kinds
use Rattle.protox_tree.specs.declared.range.ReservedRange.{ReservedRange}
use Rattle.source_laws.proofs.PlainPaths.{Count, FitsCount, FitsLists, TypeOf, after_reserved_fits, all_counted, each_fits, entry_fits, enum_fits, field_list_fits, fits_1, fits_10, fits_11, fits_12, fits_2, fits_3, fits_4, fits_5, fits_6, fits_7, fits_8, fits_9, joined, list_fits, more_fits, no_lists_fits, none_fits, option_fits, part_if_fits, range_fits, reserved_fits, service_fits}
use Rattle.source_laws.proofs.PlainPlaces.{AreFitting, Fits, locations_plain}

-- ---- counts, whose types protox_locate keeps to itself

abbrev MessageCounts : Type 0
MessageCounts = TypeOf no_counts

abbrev FieldCounts : Type 0
FieldCounts = TypeOf (own_fields no_counts)

abbrev OneofCounts : Type 0
OneofCounts = TypeOf (in_oneof (own_fields no_counts))

abbrev FieldTags : Type 0
FieldTags = TypeOf own_tags

abbrev FileCounts : Type 0
FileCounts = TypeOf in_files.no_counts

record FitsFieldCounts (c : FieldCounts) : Type 0 where
  fields : FitsCount c.fields
  types : FitsCount c.types

record FitsOneofCounts (c : OneofCounts) : Type 0 where
  fields : FitsFieldCounts c.fields
  options : FitsCount c.options

record FitsTags (t : FieldTags) : Type 0 where
  field : FitsInt32 t.field
  nested_type : FitsInt32 t.nested_type

record FitsMessageCounts (c : MessageCounts) : Type 0 where
  fields : FitsCount c.fields
  extensions : FitsCount c.extensions
  nested_types : FitsCount c.nested_types
  enum_types : FitsCount c.enum_types
  extension_ranges : FitsCount c.extension_ranges
  oneofs : FitsCount c.oneofs
  options : FitsCount c.options
  reserved : FitsLists c.reserved

no_counts_fit : FitsMessageCounts no_counts
no_counts_fit = record {
  fields = none_fits;
  extensions = none_fits;
  nested_types = none_fits;
  enum_types = none_fits;
  extension_ranges = none_fits;
  oneofs = none_fits;
  options = none_fits;
  reserved = no_lists_fits messages.RESERVED_RANGE messages.RESERVED_NAME fits_9 fits_10;
}

own_tags_fit : FitsTags own_tags
own_tags_fit = record { field = fits_2; nested_type = fits_3 }

extension_tags_fit : FitsTags extension_tags
extension_tags_fit = record { field = fits_6; nested_type = fits_3 }

type_kept : (c : Count) (k : Kind) → FitsCount c → FitsCount (after_type c k)
type_kept c (normal t) h = h
type_kept c (group g) h = more_fits c
type_kept c (map_kind m) h = more_fits c

field_kept : (c : FieldCounts) (f : Field) → FitsFieldCounts c → FitsFieldCounts (after_field c f)
field_kept c (field label kind name number options span) good =
    record { fields = more_fits c.fields; types = type_kept c.types kind good.types }

added_item_kept : (c : FieldCounts) (i : AddedItem) → FitsFieldCounts c
    → FitsFieldCounts (after_added_item c i)
added_item_kept c (added_field f) good = field_kept c f good
added_item_kept c (added_empty span) good = good

added_kept : (c : FieldCounts) (is : Added) → FitsFieldCounts c
    → FitsFieldCounts (after_added c is)
added_kept c none_added good = good
added_kept c (more_added i is) good =
    added_kept (after_added_item c i) is (added_item_kept c i good)

extend_kept : (c : FieldCounts) (e : Extend) → FitsFieldCounts c
    → FitsFieldCounts (after_extend c e)
extend_kept c (extend extendee braces items span) good = added_kept c items good

member_kept : (c : OneofCounts) (i : Member) → FitsOneofCounts c
    → FitsOneofCounts (after_member c i)
member_kept c (member_field f) good =
    record { fields = field_kept c.fields f good.fields; options = good.options }
member_kept c (member_option o) good =
    record { fields = good.fields; options = more_fits c.options }
member_kept c (member_empty span) good = good

members_kept : (c : OneofCounts) (is : Members) → FitsOneofCounts c
    → FitsOneofCounts (after_members c is)
members_kept c no_members good = good
members_kept c (more_members i is) good =
    members_kept (after_member c i) is (member_kept c i good)

in_oneof_fits : (c : FieldCounts) → FitsFieldCounts c → FitsOneofCounts (in_oneof c)
in_oneof_fits c good = record { fields = good; options = none_fits }

oneof_kept : (c : FieldCounts) (o : Oneof) → FitsFieldCounts c → FitsFieldCounts (after_oneof c o)
oneof_kept c (oneof name braces members span) good =
    (members_kept (in_oneof c) members (in_oneof_fits c good)).fields

own_fields_fit : (c : MessageCounts) → FitsMessageCounts c → FitsFieldCounts (own_fields c)
own_fields_fit c good = record { fields = good.fields; types = good.nested_types }

own_extensions_fit : (c : MessageCounts) → FitsMessageCounts c
    → FitsFieldCounts (own_extensions c)
own_extensions_fit c good = record { fields = good.extensions; types = good.nested_types }

item_kept : (c : MessageCounts) (i : Item) → FitsMessageCounts c
    → FitsMessageCounts (after_item c i)
item_kept c (item_field f) good =
    let h = field_kept (own_fields c) f (own_fields_fit c good) in
    record {
      fields = h.fields;
      extensions = good.extensions;
      nested_types = h.types;
      enum_types = good.enum_types;
      extension_ranges = good.extension_ranges;
      oneofs = good.oneofs;
      options = good.options;
      reserved = good.reserved;
    }
item_kept c (item_oneof o) good =
    let h = oneof_kept (own_fields c) o (own_fields_fit c good) in
    record {
      fields = h.fields;
      extensions = good.extensions;
      nested_types = h.types;
      enum_types = good.enum_types;
      extension_ranges = good.extension_ranges;
      oneofs = more_fits c.oneofs;
      options = good.options;
      reserved = good.reserved;
    }
item_kept c (item_message m) good = record {
  fields = good.fields;
  extensions = good.extensions;
  nested_types = more_fits c.nested_types;
  enum_types = good.enum_types;
  extension_ranges = good.extension_ranges;
  oneofs = good.oneofs;
  options = good.options;
  reserved = good.reserved;
}
item_kept c (item_enum e) good = record {
  fields = good.fields;
  extensions = good.extensions;
  nested_types = good.nested_types;
  enum_types = more_fits c.enum_types;
  extension_ranges = good.extension_ranges;
  oneofs = good.oneofs;
  options = good.options;
  reserved = good.reserved;
}
item_kept c (item_extend e) good =
    let h = extend_kept (own_extensions c) e (own_extensions_fit c good) in
    record {
      fields = good.fields;
      extensions = h.fields;
      nested_types = h.types;
      enum_types = good.enum_types;
      extension_ranges = good.extension_ranges;
      oneofs = good.oneofs;
      options = good.options;
      reserved = good.reserved;
    }
item_kept c (item_extensions e) good =
    let h = all_counted FitsCount after_range (λ c r k. more_fits c) c.extension_ranges good.extension_ranges e.ranges in
    record {
      fields = good.fields;
      extensions = good.extensions;
      nested_types = good.nested_types;
      enum_types = good.enum_types;
      extension_ranges = h;
      oneofs = good.oneofs;
      options = good.options;
      reserved = good.reserved;
    }
item_kept c (item_reserved r) good = record {
  fields = good.fields;
  extensions = good.extensions;
  nested_types = good.nested_types;
  enum_types = good.enum_types;
  extension_ranges = good.extension_ranges;
  oneofs = good.oneofs;
  options = good.options;
  reserved = after_reserved_fits c.reserved good.reserved r;
}
item_kept c (item_option o) good = record {
  fields = good.fields;
  extensions = good.extensions;
  nested_types = good.nested_types;
  enum_types = good.enum_types;
  extension_ranges = good.extension_ranges;
  oneofs = good.oneofs;
  options = more_fits c.options;
  reserved = good.reserved;
}
item_kept c (item_empty span) good = good

-- ---- fields and extension ranges

extension_fits : (path : Path) → Fits path → (o : Option OptionList) → (c : Count)
    (r : ReservedRange) → FitsCount c → AreFitting (extension_events path o c r)
extension_fits path p o c r k =
    let at = entry path messages.EXTENSION_RANGE c in
    let fits = entry_fits path messages.EXTENSION_RANGE c p fits_5 k in
    joined (range_events at r) (list_events at extension_ranges.OPTIONS o) (range_fits at fits r)
    (list_fits at fits extension_ranges.OPTIONS fits_3 o)

extensions_fit : (path : Path) → Fits path → (c : Count) → FitsCount c → (e : Extensions)
    → AreFitting (extensions_events path c e)
extensions_fit path p c k e = (
  (p, (fits_5, tt)),
  each_fits FitsCount (extension_events path e.options) after_range
      (extension_fits path p e.options) (λ c r k. more_fits c) c k e.ranges,
)

ty_fits : (path : Path) → Fits path → (ty : Ty) → AreFitting (ty_events path ty)
ty_fits path p (scalar t span) = ((p, (fits_5, tt)), tt)
ty_fits path p (named t) = ((p, (fits_6, tt)), tt)

type_fits : (path : Path) → Fits path → (name : Span) (k : Kind)
    → AreFitting (type_events path name k)
type_fits path p name (normal t) = ty_fits path p t
type_fits path p name (group (a_group word braces items)) =
    ((p, (fits_5, tt)), ((p, (fits_6, tt)), tt))
type_fits path p name (map_kind m) = ((p, (fits_6, tt)), tt)

field_parts_fit : (path : Path) → Fits path → (extendee : Option Span) (f : Field)
    → AreFitting (field_parts_events path extendee f)
field_parts_fit path p extendee (field label kind name number options span) =
    let of_type = part_if path (fields.EXTENDEE ∷ []) extendee in
    let numbered = part path (fields.NUMBER ∷ []) number.span ∷ [] in
    let labelled = part_if path (fields.LABEL ∷ []) (label_span label) in
    let typed = type_events path name.span kind in (
      (p, (fits_1, tt)),
      joined (((of_type ++ numbered) ++ labelled) ++ typed) (field_list_events path options)
          (joined ((of_type ++ numbered) ++ labelled) typed
          (joined (of_type ++ numbered) labelled
          (joined of_type numbered
          (part_if_fits path (fields.EXTENDEE ∷ []) p (fits_2, tt) extendee)
          ((p, (fits_3, tt)), tt))
          (part_if_fits path (fields.LABEL ∷ []) p (fits_4, tt) (label_span label)))
          (type_fits path p name.span kind))
          (field_list_fits path p options),
    )

-- ---- what is met in messages

mutual
  message_fits : (path : Path) → Fits path → (m : Message) → AreFitting (message_events path m)
  message_fits path p (message name braces items span) = (
    (p, tt),
    (
      (p, (fits_1, tt)),
      joined (items_events path no_counts items) (closing braces ∷ [])
          (items_fit path p no_counts no_counts_fit items) (tt, tt),
    ),
  )

  items_fit : (path : Path) → Fits path → (c : MessageCounts) → FitsMessageCounts c → (is : Items)
      → AreFitting (items_events path c is)
  items_fit path p c good no_items = tt
  items_fit path p c good (more_items i is) =
      joined (item_events path c i) (items_events path (after_item c i) is)
      (item_fits path p c good i) (items_fit path p (after_item c i) (item_kept c i good) is)

  item_fits : (path : Path) → Fits path → (c : MessageCounts) → FitsMessageCounts c → (i : Item)
      → AreFitting (item_events path c i)
  item_fits path p c good (item_field f) =
      field_fits path p own_tags own_tags_fit (own_fields c) (own_fields_fit c good) None f
  item_fits path p c good (item_oneof o) =
      oneof_fits path p (entry path messages.ONEOF_DECL c.oneofs)
      (entry_fits path messages.ONEOF_DECL c.oneofs p fits_8 good.oneofs) (own_fields c)
      (own_fields_fit c good) o
  item_fits path p c good (item_message m) =
      message_fits (entry path messages.NESTED_TYPE c.nested_types)
      (entry_fits path messages.NESTED_TYPE c.nested_types p fits_3 good.nested_types) m
  item_fits path p c good (item_enum e) =
      enum_fits (entry path messages.ENUM_TYPE c.enum_types)
      (entry_fits path messages.ENUM_TYPE c.enum_types p fits_4 good.enum_types) e
  item_fits path p c good (item_extend e) =
      extend_fits path p extension_tags extension_tags_fit (own_extensions c)
      (own_extensions_fit c good) e
  item_fits path p c good (item_extensions e) =
      extensions_fit path p c.extension_ranges good.extension_ranges e
  item_fits path p c good (item_reserved r) = reserved_fits path p c.reserved good.reserved r
  item_fits path p c good (item_option o) =
      option_fits path p messages.OPTIONS fits_7 c.options good.options o
  item_fits path p c good (item_empty span) = (tt, tt)

  field_fits : (path : Path) → Fits path → (tags : FieldTags) → FitsTags tags → (c : FieldCounts)
      → FitsFieldCounts c → (extendee : Option Span) (f : Field)
      → AreFitting (field_events path tags c extendee f)
  field_fits path p tags t c good extendee (field label (normal ty) name number options span) =
      let fits = entry_fits path tags.field c.fields p t.field good.fields in (
        (fits, tt),
        field_parts_fit (entry path tags.field c.fields) fits extendee
            (field label (normal ty) name number options span),
      )
  field_fits path p tags t c good extendee (field label (map_kind m) name number options span) =
      let fits = entry_fits path tags.field c.fields p t.field good.fields in (
        (fits, tt),
        field_parts_fit (entry path tags.field c.fields) fits extendee
            (field label (map_kind m) name number options span),
      )
  field_fits path p tags t c good extendee (field label (group g) name number options span) =
      let fits = entry_fits path tags.field c.fields p t.field good.fields in
      let f = field label (group g) name number options span in (
        (fits, tt),
        joined (field_parts_events (entry path tags.field c.fields) extendee f)
            (group_events (entry path tags.nested_type c.types) span name.span g)
            (field_parts_fit (entry path tags.field c.fields) fits extendee f)
            (group_fits (entry path tags.nested_type c.types)
            (entry_fits path tags.nested_type c.types p t.nested_type good.types) span name.span g),
      )

  group_fits : (path : Path) → Fits path → (span name : Span) (g : Group)
      → AreFitting (group_events path span name g)
  group_fits path p span name (a_group word braces items) = (
    (p, tt),
    (
      (p, (fits_1, tt)),
      joined (items_events path no_counts items) (closing braces ∷ [])
          (items_fit path p no_counts no_counts_fit items) (tt, tt),
    ),
  )

  oneof_fits : (path : Path) → Fits path → (at : Path) → Fits at → (c : FieldCounts)
      → FitsFieldCounts c → (o : Oneof) → AreFitting (oneof_events path at c o)
  oneof_fits path p at a c good (oneof name braces members span) = (
    (a, tt),
    (
      (a, (fits_1, tt)),
      joined (members_events path at (in_oneof c) members) (closing braces ∷ [])
          (members_fit path p at a (in_oneof c) (in_oneof_fits c good) members) (tt, tt),
    ),
  )

  members_fit : (path : Path) → Fits path → (at : Path) → Fits at → (c : OneofCounts)
      → FitsOneofCounts c → (is : Members) → AreFitting (members_events path at c is)
  members_fit path p at a c good no_members = tt
  members_fit path p at a c good (more_members i is) =
      joined (member_events path at c i) (members_events path at (after_member c i) is)
      (member_fits path p at a c good i)
      (members_fit path p at a (after_member c i) (member_kept c i good) is)

  member_fits : (path : Path) → Fits path → (at : Path) → Fits at → (c : OneofCounts)
      → FitsOneofCounts c → (i : Member) → AreFitting (member_events path at c i)
  member_fits path p at a c good (member_field f) =
      field_fits path p own_tags own_tags_fit c.fields good.fields None f
  member_fits path p at a c good (member_option o) =
      option_fits at a oneofs.OPTIONS fits_2 c.options good.options o
  member_fits path p at a c good (member_empty span) = (tt, tt)

  extend_fits : (path : Path) → Fits path → (tags : FieldTags) → FitsTags tags → (c : FieldCounts)
      → FitsFieldCounts c → (e : Extend) → AreFitting (extend_events path tags c e)
  extend_fits path p tags t c good (extend extendee braces items span) = (
    (p, (t.field, tt)),
    joined (added_events path tags c (type_name_span extendee) items) (closing braces ∷ [])
        (added_fit path p tags t c good (type_name_span extendee) items) (tt, tt),
  )

  added_fit : (path : Path) → Fits path → (tags : FieldTags) → FitsTags tags → (c : FieldCounts)
      → FitsFieldCounts c → (extendee : Span) (is : Added)
      → AreFitting (added_events path tags c extendee is)
  added_fit path p tags t c good extendee none_added = tt
  added_fit path p tags t c good extendee (more_added i is) =
      joined (added_item_events path tags c extendee i)
      (added_events path tags (after_added_item c i) extendee is)
      (added_item_fits path p tags t c good extendee i)
      (added_fit path p tags t (after_added_item c i) (added_item_kept c i good) extendee is)

  added_item_fits : (path : Path) → Fits path → (tags : FieldTags) → FitsTags tags
      → (c : FieldCounts) → FitsFieldCounts c → (extendee : Span) (i : AddedItem)
      → AreFitting (added_item_events path tags c extendee i)
  added_item_fits path p tags t c good extendee (added_field f) =
      field_fits path p tags t c good (Some extendee) f
  added_item_fits path p tags t c good extendee (added_empty span) = (tt, tt)

-- ---- files

record FitsFileCounts (c : FileCounts) : Type 0 where
  dependencies : FitsCount c.dependencies
  public_dependencies : FitsCount c.public_dependencies
  weak_dependencies : FitsCount c.weak_dependencies
  message_types : FitsCount c.message_types
  enum_types : FitsCount c.enum_types
  services : FitsCount c.services
  extensions : FitsCount c.extensions
  options : FitsCount c.options

no_file_counts_fit : FitsFileCounts in_files.no_counts
no_file_counts_fit = record {
  dependencies = none_fits;
  public_dependencies = none_fits;
  weak_dependencies = none_fits;
  message_types = none_fits;
  enum_types = none_fits;
  services = none_fits;
  extensions = none_fits;
  options = none_fits;
}

file_tags_fit : FitsTags in_files.extension_tags
file_tags_fit = record { field = fits_7; nested_type = fits_4 }

file_extensions_fit : (c : FileCounts) → FitsFileCounts c
    → FitsFieldCounts (in_files.own_extensions c)
file_extensions_fit c good = record { fields = good.extensions; types = good.message_types }

kind_fits : (c : FileCounts) → FitsFileCounts c → (k : Option (ImportKind × Span))
    → AreFitting (kind_events c k)
kind_fits c good None = tt
kind_fits c good (Some (kinds.Public, word)) =
    ((tt, (fits_10, (good.public_dependencies, tt))), tt)
kind_fits c good (Some (kinds.Weak, word)) = ((tt, (fits_11, (good.weak_dependencies, tt))), tt)

import_fits : (c : FileCounts) → FitsFileCounts c → (i : Import) → AreFitting (import_events c i)
import_fits c good i = ((tt, (fits_3, (good.dependencies, tt))), kind_fits c good i.kind)

kind_kept : (c : FileCounts) → FitsFileCounts c → (k : Option (ImportKind × Span))
    → FitsFileCounts (after_kind c k)
kind_kept c good None = good
kind_kept c good (Some (kinds.Public, word)) = record {
  dependencies = good.dependencies;
  public_dependencies = more_fits c.public_dependencies;
  weak_dependencies = good.weak_dependencies;
  message_types = good.message_types;
  enum_types = good.enum_types;
  services = good.services;
  extensions = good.extensions;
  options = good.options;
}
kind_kept c good (Some (kinds.Weak, word)) = record {
  dependencies = good.dependencies;
  public_dependencies = good.public_dependencies;
  weak_dependencies = more_fits c.weak_dependencies;
  message_types = good.message_types;
  enum_types = good.enum_types;
  services = good.services;
  extensions = good.extensions;
  options = good.options;
}

import_kept : (c : FileCounts) → FitsFileCounts c → (i : Import)
    → FitsFileCounts (after_import c i)
import_kept c good i =
    kind_kept (record c { dependencies = more c.dependencies }) (record {
      dependencies = more_fits c.dependencies;
      public_dependencies = good.public_dependencies;
      weak_dependencies = good.weak_dependencies;
      message_types = good.message_types;
      enum_types = good.enum_types;
      services = good.services;
      extensions = good.extensions;
      options = good.options;
    }) i.kind

file_item_kept : (c : FileCounts) (i : FileItem) → FitsFileCounts c
    → FitsFileCounts (in_files.after_item c i)
file_item_kept c (file_import i) good = import_kept c good i
file_item_kept c (file_package p) good = good
file_item_kept c (file_option o) good = record {
  dependencies = good.dependencies;
  public_dependencies = good.public_dependencies;
  weak_dependencies = good.weak_dependencies;
  message_types = good.message_types;
  enum_types = good.enum_types;
  services = good.services;
  extensions = good.extensions;
  options = more_fits c.options;
}
file_item_kept c (file_message m) good = record {
  dependencies = good.dependencies;
  public_dependencies = good.public_dependencies;
  weak_dependencies = good.weak_dependencies;
  message_types = more_fits c.message_types;
  enum_types = good.enum_types;
  services = good.services;
  extensions = good.extensions;
  options = good.options;
}
file_item_kept c (file_enum e) good = record {
  dependencies = good.dependencies;
  public_dependencies = good.public_dependencies;
  weak_dependencies = good.weak_dependencies;
  message_types = good.message_types;
  enum_types = more_fits c.enum_types;
  services = good.services;
  extensions = good.extensions;
  options = good.options;
}
file_item_kept c (file_service s) good = record {
  dependencies = good.dependencies;
  public_dependencies = good.public_dependencies;
  weak_dependencies = good.weak_dependencies;
  message_types = good.message_types;
  enum_types = good.enum_types;
  services = more_fits c.services;
  extensions = good.extensions;
  options = good.options;
}
file_item_kept c (file_extend e) good =
    let h = extend_kept (in_files.own_extensions c) e (file_extensions_fit c good) in
    record {
      dependencies = good.dependencies;
      public_dependencies = good.public_dependencies;
      weak_dependencies = good.weak_dependencies;
      message_types = h.types;
      enum_types = good.enum_types;
      services = good.services;
      extensions = h.fields;
      options = good.options;
    }
file_item_kept c (file_empty span) good = good

file_item_fits : (c : FileCounts) (i : FileItem) → FitsFileCounts c
    → AreFitting (in_files.item_events c i)
file_item_fits c (file_import i) good = import_fits c good i
file_item_fits c (file_package p) good = ((tt, (fits_2, tt)), tt)
file_item_fits c (file_option o) good = option_fits [] tt files.OPTIONS fits_8 c.options good.options o
file_item_fits c (file_message m) good =
    message_fits (entry [] files.MESSAGE_TYPE c.message_types) (fits_4, (good.message_types, tt)) m
file_item_fits c (file_enum e) good =
    enum_fits (entry [] files.ENUM_TYPE c.enum_types) (fits_5, (good.enum_types, tt)) e
file_item_fits c (file_service s) good =
    service_fits (entry [] files.SERVICE c.services) (fits_6, (good.services, tt)) s
file_item_fits c (file_extend e) good =
    extend_fits [] tt in_files.extension_tags file_tags_fit (in_files.own_extensions c)
    (file_extensions_fit c good) e
file_item_fits c (file_empty span) good = (tt, tt)

syntax_fits : (s : Option SyntaxStatement) → AreFitting (syntax_events s)
syntax_fits None = tt
syntax_fits (Some s) = ((tt, (fits_12, tt)), tt)

file_fits : (f : File) → AreFitting (file_events f)
file_fits f = (
  (tt, tt),
  joined (syntax_events f.syntax)
      (each in_files.item_events in_files.after_item in_files.no_counts f.items)
      (syntax_fits f.syntax)
      (each_fits FitsFileCounts in_files.item_events in_files.after_item file_item_fits
      file_item_kept in_files.no_counts no_file_counts_fit f.items),
)

-- the locations of a tree in a text are plain
pub located_plain : (z : Text) (levels : ℕ) → 0 < levels → (tree : File)
    (ls : List LocationContent) → AreLocations z (feeds_of z) tree ls
    → AllByRecursion (IsInside IsPlainLocation levels) ls
located_plain z levels some tree ls are =
    locations_plain z levels some tree ls (file_fits tree) are
