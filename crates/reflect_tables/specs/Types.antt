-- What a pool holds: files with their records, message types with their fields and oneofs, enum
-- types with their values, extensions and services, each at its place.
use Rattle.std.specs.Prelude.{◌≡◌, ◌==◌, ◌+◌, ◌^◌, ℕ, ℤ, ◌<◌, List, [], ◌∷◌, length, Bool, false, cond, Option, None, Some, slice_index_or}
use Rattle.std.specs.List.{All, AllByRecursion}
use Rattle.descriptor_records.specs.declared.file.FileDescriptorProto.{FileDescriptorProto}
use Rattle.reflect_tables.specs.Ranges.{Range}
use Rattle.reflect_tables.specs.declared.kind.Cardinality.{Cardinality}
use Rattle.reflect_tables.specs.declared.kind.Cardinality.TheVariants.{Optional}
use Rattle.reflect_tables.specs.declared.kind.Syntax.{Syntax}
use Rattle.reflect_tables.specs.declared.stored.StoredEntry.{StoredEntry}
use Rattle.reflect_tables.specs.declared.tables.Counts.{Counts}

-- what a field holds; a message or an enum type by its place
pub data KindType : Type 0 where
  double : KindType
  float : KindType
  int32 : KindType
  int64 : KindType
  uint32 : KindType
  uint64 : KindType
  sint32 : KindType
  sint64 : KindType
  fixed32 : KindType
  fixed64 : KindType
  sfixed32 : KindType
  sfixed64 : KindType
  bool : KindType
  string : KindType
  bytes : KindType
  message : ℕ → KindType
  enumeration : ℕ → KindType

-- the default that a declaration gives; an enum's is the name of a value, that of a floating-point
-- number its text
pub data DefaultType : Type 0 where
  signed : ℤ → DefaultType
  unsigned : ℕ → DefaultType
  truth : Bool → DefaultType
  text : List ℕ → DefaultType
  octets : List ℕ → DefaultType
  named : List ℕ → DefaultType
  fraction : List ℕ → DefaultType

-- the paths say where declarations stand in the records of their files
pub record FieldType : Type 0 where
  pub path : List ℤ
  pub name : List ℕ
  pub full_name : List ℕ
  pub json_name : Option (List ℕ)
  pub number : ℕ
  pub kind : KindType
  pub cardinality : Cardinality
  pub group : Bool
  pub packed : Bool
  pub presence : Bool
  pub oneof : Option ℕ
  pub default : Option DefaultType

pub record OneofType : Type 0 where
  pub path : List ℤ
  pub name : List ℕ
  pub full_name : List ℕ
  pub fields : List ℕ
  pub synthetic : Bool

-- the places of the types and extensions that a file or a message declares itself, as they were
-- declared
pub record ChildPlaces : Type 0 where
  pub messages : List ℕ
  pub enums : List ℕ
  pub extensions : List ℕ

-- the ranges are those whose numbers a message keeps for extensions
pub record MessageType : Type 0 where
  pub path : List ℤ
  pub name : List ℕ
  pub full_name : List ℕ
  pub file : ℕ
  pub parent : Option ℕ
  pub fields : List FieldType
  pub oneofs : List OneofType
  pub children : ChildPlaces
  pub entry : Option StoredEntry
  pub extension_ranges : List Range

pub record ValueType : Type 0 where
  pub path : List ℤ
  pub name : List ℕ
  pub full_name : List ℕ
  pub number : ℤ

pub record EnumType : Type 0 where
  pub path : List ℤ
  pub name : List ℕ
  pub full_name : List ℕ
  pub file : ℕ
  pub parent : Option ℕ
  pub values : List ValueType

-- the parent is the message that it is declared in, whatever it extends
pub record ExtensionType : Type 0 where
  pub file : ℕ
  pub parent : Option ℕ
  pub extendee : ℕ
  pub field : FieldType
  pub json_name : List ℕ

pub record MethodType : Type 0 where
  pub path : List ℤ
  pub name : List ℕ
  pub full_name : List ℕ
  pub input : ℕ
  pub output : ℕ
  pub client_streaming : Bool
  pub server_streaming : Bool

pub record ServiceType : Type 0 where
  pub path : List ℤ
  pub name : List ℕ
  pub full_name : List ℕ
  pub file : ℕ
  pub methods : List MethodType

-- the public imports are places among the names of the imported files
pub record FileType : Type 0 where
  pub name : List ℕ
  pub package_name : List ℕ
  pub syntax : Syntax
  pub imports : List (List ℕ)
  pub public_imports : List ℤ

-- the places of what a file declares itself
pub record FilePlaces : Type 0 where
  pub children : ChildPlaces
  pub services : List ℕ

-- each file's record, and what the file declares, stand at the file's place
pub record PoolType : Type 0 where
  pub files : List FileType
  pub records : List FileDescriptorProto
  pub declared : List FilePlaces
  pub messages : List MessageType
  pub enums : List EnumType
  pub extensions : List ExtensionType
  pub services : List ServiceType

-- nothing but the records of the first pool's files is otherwise in the second
abbrev pub IsSettled : PoolType → PoolType → Type 0
IsSettled old new = new ≡ record old { records = new.records }

abbrev pub counts_of : PoolType → Counts
counts_of p = record {
  files = length p.files;
  messages = length p.messages;
  enums = length p.enums;
  extensions = length p.extensions;
  services = length p.services;
}

-- the type that a field names is there
abbrev pub IsWithin : Counts → KindType → Type 0
IsWithin c (message i) = i < c.messages
IsWithin c (enumeration i) = i < c.enums
IsWithin c _ = Unit {0}

-- the place, if there is one, is one of so many
abbrev pub IsAmong : ℕ → Option ℕ → Type 0
IsAmong count None = Unit {0}
IsAmong count (Some place) = place < count

-- the members of each oneof are there, by their places among so many fields
abbrev pub HaveMembers : ℕ → List OneofType → Type 0
HaveMembers fields oneofs = AllByRecursion (λ o. All (λ place. place < fields) o.fields) oneofs

-- the field is a member of the oneof
abbrev pub is_member : ℕ → FieldType → Bool
is_member oneof f = elim f.oneof [ None ↦ false | Some k ↦ oneof == k ]

-- the places of the oneof's members among fields, the first of which has this place
abbrev pub members_from : ℕ → ℕ → List FieldType → List ℕ
members_from place oneof [] = []
members_from place oneof (f ∷ fs) =
    cond (is_member oneof f) (place ∷ members_from (place + 1) oneof fs)
    (members_from (place + 1) oneof fs)

-- what stands for a oneof that is not there
abbrev pub no_oneof : OneofType
no_oneof = record {
  path = [];
  name = [];
  full_name = [];
  fields = [];
  synthetic = false;
}

-- each oneof lists its members
abbrev pub AreListed : List OneofType → List FieldType → Type 0
AreListed oneofs fields = (k : ℕ) → k < length oneofs → (slice_index_or oneofs k no_oneof).fields
    ≡ members_from 0 k fields

abbrev pub ListsMembers : MessageType → Type 0
ListsMembers m = AreListed m.oneofs m.fields

-- the parts of a map's entry are there
abbrev pub HasParts : ℕ → Option StoredEntry → Type 0
HasParts fields None = Unit {0}
HasParts fields (Some e) = (e.key < fields) × (e.value < fields)

-- what a file or a message declares is there
pub record ChildrenWithin (c : Counts) (p : ChildPlaces) : Type 0 where
  pub messages : All (λ place. place < c.messages) p.messages
  pub enums : All (λ place. place < c.enums) p.enums
  pub extensions : All (λ place. place < c.extensions) p.extensions

abbrev pub HoldsWithin : Counts → MessageType → Type 0
HoldsWithin c m = ChildrenWithin c m.children

pub record FileWithin (c : Counts) (f : FilePlaces) : Type 0 where
  pub children : ChildrenWithin c f.children
  pub services : All (λ place. place < c.services) f.services

-- what an entry names is there, and places fit a number of the program
pub record MessageWithin (c : Counts) (m : MessageType) : Type 0 where
  pub file : m.file < c.files
  pub parent : IsAmong c.messages m.parent
  pub fields : AllByRecursion (λ f. IsWithin c f.kind) m.fields
  pub oneofs : AllByRecursion (λ f. IsAmong (length m.oneofs) f.oneof) m.fields
  pub members : HaveMembers (length m.fields) m.oneofs
  pub parts : HasParts (length m.fields) m.entry
  pub few : length m.fields < 2 ^ 31
  pub few_oneofs : length m.oneofs < 2 ^ 31

pub record EnumWithin (c : Counts) (e : EnumType) : Type 0 where
  pub file : e.file < c.files
  pub parent : IsAmong c.messages e.parent
  pub some : 0 < length e.values
  pub few : length e.values < 2 ^ 31

pub record ExtensionWithin (c : Counts) (x : ExtensionType) : Type 0 where
  pub file : x.file < c.files
  pub parent : IsAmong c.messages x.parent
  pub extendee : x.extendee < c.messages
  pub kind : IsWithin c x.field.kind

abbrev pub MethodWithin : Counts → MethodType → Type 0
MethodWithin c m = (m.input < c.messages) × (m.output < c.messages)

pub record ServiceWithin (c : Counts) (s : ServiceType) : Type 0 where
  pub file : s.file < c.files
  pub methods : AllByRecursion (MethodWithin c) s.methods
  pub few : length s.methods < 2 ^ 31

-- there are so few of each sort that places fit a number of the program
pub record AreFew (c : Counts) : Type 0 where
  pub files : c.files < 2 ^ 31
  pub messages : c.messages < 2 ^ 31
  pub enums : c.enums < 2 ^ 31
  pub extensions : c.extensions < 2 ^ 31
  pub services : c.services < 2 ^ 31

pub record ArePooled (p : PoolType) : Type 0 where
  pub declared : AllByRecursion (FileWithin (counts_of p)) p.declared
  pub messages : AllByRecursion (MessageWithin (counts_of p)) p.messages
  pub children : AllByRecursion (HoldsWithin (counts_of p)) p.messages
  pub listed : AllByRecursion ListsMembers p.messages
  pub enums : AllByRecursion (EnumWithin (counts_of p)) p.enums
  pub extensions : AllByRecursion (ExtensionWithin (counts_of p)) p.extensions
  pub services : AllByRecursion (ServiceWithin (counts_of p)) p.services
  pub few : AreFew (counts_of p)

abbrev pub no_children : ChildPlaces
no_children = record { messages = []; enums = []; extensions = [] }

-- what stands for a place that is not there
abbrev pub no_type : MessageType
no_type = record {
  path = [];
  name = [];
  full_name = [];
  file = 0;
  parent = None;
  fields = [];
  oneofs = [];
  children = no_children;
  entry = None;
  extension_ranges = [];
}

abbrev pub no_field : FieldType
no_field = record {
  path = [];
  name = [];
  full_name = [];
  json_name = None;
  number = 0;
  kind = int32;
  cardinality = Optional;
  group = false;
  packed = false;
  presence = false;
  oneof = None;
  default = None;
}

abbrev pub no_enum : EnumType
no_enum = record {
  path = [];
  name = [];
  full_name = [];
  file = 0;
  parent = None;
  values = [];
}

abbrev pub no_extension : ExtensionType
no_extension = record {
  file = 0;
  parent = None;
  extendee = 0;
  field = no_field;
  json_name = [];
}

abbrev pub no_service : ServiceType
no_service = record {
  path = [];
  name = [];
  full_name = [];
  file = 0;
  methods = [];
}

abbrev pub no_places : FilePlaces
no_places = record { children = no_children; services = [] }

-- what the file at a place declares
abbrev pub declared_at : PoolType → ℕ → FilePlaces
declared_at pool i = slice_index_or pool.declared i no_places

-- the type at a place
abbrev pub type_at : PoolType → ℕ → MessageType
type_at pool i = slice_index_or pool.messages i no_type

-- the field at a place of a type
abbrev pub type_of_field : PoolType → ℕ → ℕ → FieldType
type_of_field pool i k = slice_index_or (type_at pool i).fields k no_field

-- the enum at a place
abbrev pub enum_at : PoolType → ℕ → EnumType
enum_at pool i = slice_index_or pool.enums i no_enum

-- the extension at a place
abbrev pub extension_at : PoolType → ℕ → ExtensionType
extension_at pool i = slice_index_or pool.extensions i no_extension

-- the service at a place
abbrev pub service_at : PoolType → ℕ → ServiceType
service_at pool i = slice_index_or pool.services i no_service
