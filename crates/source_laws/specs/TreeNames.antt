-- Trees in which each declaration has an identifier for a name (protobuf.dev, "Protocol Buffers
-- Language Specification": Lexical Elements).
use Rattle.std.specs.Prelude.{◌≡◌, true, Some}
use Rattle.descriptor_records.specs.declared.field.FieldType.TheVariants as types
use Rattle.protox_tokens.specs.Marks.{Each, IsSome_of}
use Rattle.protox_tree.specs.FileTree.{File, FileItem, file_package, file_message, file_enum, file_service, file_extend}
use Rattle.protox_tree.specs.Nest.{Message, message, Items, no_items, more_items, Item, item_field, item_oneof, item_message, item_enum, item_extend, Field, field, Kind, normal, group, map_kind, Group, a_group, Oneof, oneof, Members, no_members, more_members, Member, member_field, Extend, extend, Added, none_added, more_added, AddedItem, added_field}
use Rattle.protox_tree.specs.Scalar.{scalar_type}
use Rattle.protox_tree.specs.Tree.{Word, Ty, EnumItem, enum_value, Enum, ServiceItem, service_method, Service}
use Rattle.text_model.specs.Identifiers.{is_identifier}

abbrev pub IsNamed : Word → Type 0
IsNamed w = is_identifier w.text ≡ true

-- a type that is a word of its own is no group
abbrev pub IsNoGroup : Ty → Type 0
IsNoGroup ty = scalar_type ty ≡ Some types.Group → ⊥

-- ---- enums and services

abbrev pub IsNamedValue : EnumItem → Type 0
IsNamedValue (enum_value v) = IsNamed v.name
IsNamedValue _ = Unit {0}

abbrev pub IsNamedEnum : Enum → Type 0
IsNamedEnum e = IsNamed e.name × Each IsNamedValue e.items

abbrev pub IsNamedMethod : ServiceItem → Type 0
IsNamedMethod (service_method m) = IsNamed m.name
IsNamedMethod _ = Unit {0}

abbrev pub IsNamedService : Service → Type 0
IsNamedService s = IsNamed s.name × Each IsNamedMethod s.items

-- ---- messages

abbrev mutual
  pub IsNamedMessage : Message → Type 0
  IsNamedMessage (message name braces items span) = IsNamed name × AreNamedItems items

  pub AreNamedItems : Items → Type 0
  AreNamedItems no_items = Unit {0}
  AreNamedItems (more_items i is) = IsNamedItem i × AreNamedItems is

  pub IsNamedItem : Item → Type 0
  IsNamedItem (item_field f) = IsNamedField f
  IsNamedItem (item_oneof o) = IsNamedOneof o
  IsNamedItem (item_message m) = IsNamedMessage m
  IsNamedItem (item_enum e) = IsNamedEnum e
  IsNamedItem (item_extend e) = IsNamedExtend e
  IsNamedItem _ = Unit {0}

  pub IsNamedField : Field → Type 0
  IsNamedField (field label kind name number options span) = IsNamed name × IsNamedKind kind

  pub IsNamedKind : Kind → Type 0
  IsNamedKind (normal ty) = IsNoGroup ty
  IsNamedKind (group g) = IsNamedGroup g
  IsNamedKind (map_kind m) = IsNoGroup m.key × IsNoGroup m.value

  pub IsNamedGroup : Group → Type 0
  IsNamedGroup (a_group w braces items) = AreNamedItems items

  pub IsNamedOneof : Oneof → Type 0
  IsNamedOneof (oneof name braces members span) = IsNamed name × AreNamedMembers members

  pub AreNamedMembers : Members → Type 0
  AreNamedMembers no_members = Unit {0}
  AreNamedMembers (more_members m ms) = IsNamedMember m × AreNamedMembers ms

  pub IsNamedMember : Member → Type 0
  IsNamedMember (member_field f) = IsNamedField f
  IsNamedMember _ = Unit {0}

  pub IsNamedExtend : Extend → Type 0
  IsNamedExtend (extend extendee braces fields span) = AreNamedAdded fields

  pub AreNamedAdded : Added → Type 0
  AreNamedAdded none_added = Unit {0}
  AreNamedAdded (more_added f fs) = IsNamedAdded f × AreNamedAdded fs

  pub IsNamedAdded : AddedItem → Type 0
  IsNamedAdded (added_field f) = IsNamedField f
  IsNamedAdded _ = Unit {0}

-- ---- files

-- a package is called by identifiers, at least one
abbrev pub IsNamedStatement : FileItem → Type 0
IsNamedStatement (file_package p) = IsSome_of IsNamed p.name
IsNamedStatement (file_message m) = IsNamedMessage m
IsNamedStatement (file_enum e) = IsNamedEnum e
IsNamedStatement (file_service s) = IsNamedService s
IsNamedStatement (file_extend e) = IsNamedExtend e
IsNamedStatement _ = Unit {0}

-- each declaration of a file, and its package, has identifiers for a name
abbrev pub HasIdentifiers : File → Type 0
HasIdentifiers f = Each IsNamedStatement f.items
