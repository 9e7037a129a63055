-- What the entries of a pool's messages, fields and extensions tell of its records.
use Rattle.std.specs.Prelude.{◌≡◌, ◌==◌, ℕ, ℤ, List, [], ◌∷◌, length, Bool, true, false, not, ◌&&◌, ◌||◌, cond, is_some, Option, None, Some, map, unwrap_or, slice_get, slice_index_or, Contains}
use Rattle.std.specs.List.{AllZip, filter, flat_map}
use Rattle.descriptor_records.specs.Content.{Text, FieldContent, FileContent, file_view}
use Rattle.descriptor_records.specs.FieldNumbers.{type_number}
use Rattle.descriptor_records.specs.declared.field.FieldType.{FieldType as TypeNumber}
use Rattle.reflect_fields.specs.FieldDefaults.{IsWritten}
use Rattle.reflect_fields.specs.Fields.{is_message, is_packable, natural, scalar_type}
use Rattle.reflect_tables.specs.Names.{FullName, names_of, messages, enums}
use Rattle.reflect_tables.specs.Types.{DefaultType, ExtensionType, FieldType, KindType, message, enumeration, MessageType, PoolType, is_member, no_oneof}
use Rattle.reflect_pool.specs.Shapes as pool
use Rattle.schema_view.specs.Declarations.{Body, Declaration, declarations, FieldFacts, MessageFacts, of_message, of_field, of_oneof, of_enum, of_value, of_service, of_method, of_extension}
use Rattle.schema_view.specs.Fields.{asks_packed, is_group, is_repeated, packed_option}
use Rattle.schema_view.specs.Files.{is_proto3, join, text_of}
use Rattle.schema_view.specs.Types.{field_number}

-- the name at the index is the one that is written behind a dot
pub record IsWrittenAt (names : List FullName) (o : Option Text) (i : ℕ) : Type 0 where
  pub full : Text
  pub file : ℕ
  pub written : o ≡ Some (46 ∷ full)
  pub there : slice_get names i ≡ Some (full, file)

-- a field has no name for its type, and this is what the scalar type of its number holds
pub record HoldsScalar (f : FieldContent) (k : KindType) : Type 0 where
  pub type : TypeNumber
  pub unnamed : f.type_name ≡ None
  pub number : f.field_type ≡ Some (type_number type)
  pub holds : scalar_type type ≡ Some k

-- what a field holds: the message or the enum of its type's name, or else a scalar
abbrev pub HoldsKind : (ms es : List FullName) → FieldContent → KindType → Type 0
HoldsKind ms es f (message i) = IsWrittenAt ms f.type_name i
HoldsKind ms es f (enumeration i) = IsWrittenAt es f.type_name i
HoldsKind ms es f k = HoldsScalar f k

-- what a text is the default of; messages have none
abbrev pub IsGiven : KindType → Option ℤ → Text → Option DefaultType → Type 0
IsGiven (message i) number s d = Unit {0}
IsGiven k number s d = IsWritten k number s d

abbrev pub HasDefault : KindType → FieldContent → Option DefaultType → Type 0
HasDefault k f d = elim f.default_value
    [ None ↦ d ≡ None | Some s ↦ IsGiven k f.field_type s d ]

-- an entry is that of a field, or of an extension, in a file of this syntax, by the names of all
-- messages and enums
pub record IsEntryOf (ms es : List FullName) (proto3 extension : Bool) (f : FieldContent)
    (e : FieldType) : Type 0 where
  pub holds : HoldsKind ms es f e.kind
  pub number : e.number ≡ unwrap_or (natural f.number) 0
  pub repeated : pool.is_repeated e.cardinality ≡ is_repeated f
  pub group : e.group ≡ is_group f
  pub packed : e.packed
      ≡ (is_repeated f && (is_packable e.kind && asks_packed proto3 (packed_option f.options)))
  pub presence : e.presence
      ≡ (not (is_repeated f)
      && (is_message e.kind || (is_some f.oneof_index || (not proto3 || extension))))
  pub oneof : e.oneof ≡ cond extension None (natural f.oneof_index)
  pub default : HasDefault e.kind f e.default

abbrev pub body_of : (extension : Bool) → FieldContent → Body
body_of false f = of_field f
body_of true f = of_extension f

-- files declare a field, or an extension, of the entry's full name, whose entry it is
pub record IsTold (ms es : List FullName) (fs : List FileContent) (extension : Bool)
    (e : FieldType) : Type 0 where
  pub file : FileContent
  pub content : FieldContent
  pub there : Contains fs file
  pub inside : Contains (declarations file)
      (record { name = e.full_name; body = body_of extension content })
  pub entry : IsEntryOf ms es (is_proto3 file) extension content e

-- the field was declared `optional` in a file of proto3
abbrev pub is_optional : FieldContent → Bool
is_optional f = unwrap_or f.proto3_optional false

-- so it is of an entry of a message, and the oneof that it is in is called synthetic where it is
-- the only member and was declared `optional`
pub record IsToldField (ms es : List FullName) (fs : List FileContent) (m : MessageType)
    (e : FieldType) : Type 0 where
  pub field : IsTold ms es fs false e
  pub synthetic : (k : ℕ) → e.oneof ≡ Some k → (slice_index_or m.oneofs k no_oneof).synthetic
      ≡ (is_optional field.content && (length (filter (is_member k) m.fields) == 1))

pub record IsToldExtension (ms es : List FullName) (fs : List FileContent)
    (x : ExtensionType) : Type 0 where
  pub field : IsTold ms es fs true x.field
  pub extendee : IsWrittenAt ms field.content.extendee x.extendee

-- an entry stands for one of the fields that a message of the full name lists
pub record IsListed (full : Text) (f : FieldFacts) (e : FieldType) : Type 0 where
  pub full_name : e.full_name ≡ join full (text_of f.name)
  pub name : e.name ≡ text_of f.name
  pub number : e.number ≡ field_number f
  pub oneof : e.oneof ≡ natural f.oneof

-- a message's full name, and what it lists
abbrev pub NamedMessage : Type 0
NamedMessage = Text × MessageFacts

abbrev pub messages_in : Declaration → List NamedMessage
messages_in d = elim d.body [
  | of_message m ↦ (d.name, m) ∷ []
  | of_field f ↦ []
  | of_oneof o ↦ []
  | of_enum e ↦ []
  | of_value v ↦ []
  | of_service s ↦ []
  | of_method m ↦ []
  | of_extension x ↦ []
]

-- of all messages of files, in their order
abbrev pub written_messages : List FileContent → List NamedMessage
written_messages fs = flat_map (λ f. flat_map messages_in (declarations f)) fs

pub record ListsFields (w : NamedMessage) (m : MessageType) : Type 0 where
  pub full_name : m.full_name ≡ w.0
  pub name : m.name ≡ text_of w.1.name
  pub fields : AllZip (IsListed w.0) w.1.fields m.fields

-- a pool's messages are those of its records, one after another, each with its name and with its
-- fields in their order; and the entry of each field and of each extension is that of its
-- declaration
pub record TellsFields (p : PoolType) : Type 0 where
  pub listed : AllZip ListsFields (written_messages (map file_view p.records)) p.messages
  pub fields : (m : MessageType) (e : FieldType) → Contains p.messages m → Contains m.fields e
      → IsToldField (names_of p messages) (names_of p enums) (map file_view p.records) m e
  pub extensions : (x : ExtensionType) → Contains p.extensions x
      → IsToldExtension (names_of p messages) (names_of p enums) (map file_view p.records) x
