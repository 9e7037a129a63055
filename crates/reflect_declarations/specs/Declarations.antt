-- The declarations of a file, a declaration before its parts, parts by the number that stands for
-- them in a path.
use Rattle.std.specs.Prelude.{◌≡◌, ℕ, ℤ, pos, ◌+◌, List, [], ◌∷◌, ◌++◌, map, length, Option, Some, None}
use Rattle.descriptor_records.specs.declared.enums.EnumDescriptorProto.{EnumDescriptorProto}
use Rattle.descriptor_records.specs.declared.enums.EnumValueDescriptorProto.{EnumValueDescriptorProto}
use Rattle.descriptor_records.specs.declared.field.FieldDescriptorProto.{FieldDescriptorProto}
use Rattle.descriptor_records.specs.declared.field.OneofDescriptorProto.{OneofDescriptorProto}
use Rattle.descriptor_records.specs.declared.file.FileDescriptorProto.{FileDescriptorProto}
use Rattle.descriptor_records.specs.declared.service.ServiceDescriptorProto.{ServiceDescriptorProto}
use Rattle.descriptor_records.specs.declared.service.MethodDescriptorProto.{MethodDescriptorProto}
use Rattle.reflect_scope.specs.Means.{join}
use Rattle.reflect_declarations.specs.Tree.{text_of, MessageParts, Message, message, Messages, no_messages, more_messages, messages_of, tree_of}
use Rattle.reflect_declarations.specs.declared.offsets.Offsets.{Offsets}

pub data Body : Type 0 where
  of_file : FileDescriptorProto → Body
  of_message : MessageParts → Body
  of_field : FieldDescriptorProto → Body
  of_oneof : OneofDescriptorProto → Body
  of_enum : EnumDescriptorProto → Body
  of_enum_value : EnumValueDescriptorProto → Body
  of_service : ServiceDescriptorProto → Body
  of_method : MethodDescriptorProto → Body
  of_extension : FieldDescriptorProto → Body

-- what is declared, where, and in what
pub record Declaration : Type 0 where
  pub path : List ℤ
  pub name : List ℕ
  pub file : ℕ
  pub parent : Option ℕ
  pub index : ℕ
  pub body : Body

-- the place of a list's entry
abbrev pub entry : List ℤ → ℤ → ℕ → List ℤ
entry path tag k = path ++ (tag ∷ pos k ∷ [])

-- one after another, each with its place in the list
abbrev pub each : {A B : Type 0} → (ℕ → A → List B) → ℕ → List A → List B
each one k [] = []
each one k (x ∷ xs) = one k x ++ each one (k + 1) xs

abbrev pub file_declaration : List ℤ → ℕ → FileDescriptorProto → Declaration
file_declaration path file f =
    record { path = path; name = []; file = file; parent = None; index = file; body = of_file f }

abbrev pub message_declaration : List ℤ → List ℕ → ℕ → Option ℕ → ℕ → MessageParts → Declaration
message_declaration path name file parent i m =
    record {
      path = path;
      name = name;
      file = file;
      parent = parent;
      index = i;
      body =
          of_message m;
    }

abbrev pub field_declaration : List ℤ → List ℕ → ℕ → ℕ → ℕ → FieldDescriptorProto → Declaration
field_declaration path name file parent i f =
    record {
      path = path;
      name = name;
      file = file;
      parent = Some parent;
      index = i;
      body = of_field f;
    }

abbrev pub oneof_declaration : List ℤ → List ℕ → ℕ → ℕ → ℕ → OneofDescriptorProto → Declaration
oneof_declaration path name file parent i o =
    record {
      path = path;
      name = name;
      file = file;
      parent = Some parent;
      index = i;
      body = of_oneof o;
    }

abbrev pub enum_declaration : List ℤ → List ℕ → ℕ → Option ℕ → ℕ → EnumDescriptorProto → Declaration
enum_declaration path name file parent i e =
    record { path = path; name = name; file = file; parent = parent; index = i; body = of_enum e }

abbrev pub enum_value_declaration : List ℤ → List ℕ → ℕ → ℕ → ℕ → EnumValueDescriptorProto
    → Declaration
enum_value_declaration path name file parent i v =
    record {
      path = path;
      name = name;
      file = file;
      parent = Some parent;
      index = i;
      body =
          of_enum_value v;
    }

abbrev pub service_declaration : List ℤ → List ℕ → ℕ → ℕ → ServiceDescriptorProto → Declaration
service_declaration path name file i s =
    record { path = path; name = name; file = file; parent = None; index = i; body = of_service s }

abbrev pub method_declaration : List ℤ → List ℕ → ℕ → ℕ → ℕ → MethodDescriptorProto → Declaration
method_declaration path name file parent i m =
    record {
      path = path;
      name = name;
      file = file;
      parent = Some parent;
      index = i;
      body = of_method m;
    }

abbrev pub extension_declaration : List ℤ → List ℕ → ℕ → Option ℕ → ℕ → FieldDescriptorProto
    → Declaration
extension_declaration path name file parent i x =
    record {
      path = path;
      name = name;
      file = file;
      parent = parent;
      index = i;
      body =
          of_extension x;
    }

abbrev pub one_field : List ℤ → List ℕ → ℕ → ℕ → ℕ → FieldDescriptorProto → List Declaration
one_field path scope file parent k f =
    field_declaration (entry path (pos 2) k) (join scope (text_of f.name)) file parent k f ∷ []

abbrev pub one_oneof : List ℤ → List ℕ → ℕ → ℕ → ℕ → OneofDescriptorProto → List Declaration
one_oneof path scope file parent k o =
    oneof_declaration (entry path (pos 8) k) (join scope (text_of o.name)) file parent k o ∷ []

-- a value stands beside its enum
abbrev pub one_value : List ℤ → List ℕ → ℕ → ℕ → ℕ → EnumValueDescriptorProto → List Declaration
one_value path scope file parent k v =
    enum_value_declaration (entry path (pos 2) k) (join scope (text_of v.name)) file parent k v ∷ []

abbrev pub one_enum : List ℤ → ℤ → List ℕ → ℕ → Option ℕ → ℕ → ℕ → EnumDescriptorProto
    → List Declaration
one_enum path tag scope file parent first k e =
    enum_declaration (entry path tag k) (join scope (text_of e.name)) file parent (first + k) e
    ∷ each (one_value (entry path tag k) scope file (first + k)) 0 e.value.items

abbrev pub one_method : List ℤ → List ℕ → ℕ → ℕ → ℕ → MethodDescriptorProto → List Declaration
one_method path scope file parent k m =
    method_declaration (entry path (pos 2) k) (join scope (text_of m.name)) file parent k m ∷ []

abbrev pub one_service : List ℕ → ℕ → ℕ → ℕ → ServiceDescriptorProto → List Declaration
one_service scope file first k s =
    service_declaration (entry [] (pos 6) k) (join scope (text_of s.name)) file (first + k) s
    ∷ each (one_method (entry [] (pos 6) k) (join scope (text_of s.name)) file (first + k)) 0
    s.method.items

abbrev pub one_extension : List ℤ → ℤ → List ℕ → ℕ → Option ℕ → ℕ → ℕ → FieldDescriptorProto
    → List Declaration
one_extension path tag scope file parent first k x =
    extension_declaration (entry path tag k) (join scope (text_of x.name)) file parent (first + k) x
    ∷ []

abbrev pub past_message : Offsets → Offsets
past_message o = record o { messages = o.messages + 1 }

abbrev pub past_enums : Offsets → ℕ → Offsets
past_enums o n = record o { enums = o.enums + n }

abbrev pub past_extensions : Offsets → ℕ → Offsets
past_extensions o n = record o { extensions = o.extensions + n }

abbrev pub past_services : Offsets → ℕ → Offsets
past_services o n = record o { services = o.services + n }

-- the counts behind a message, and behind several
abbrev mutual
  pub past_tree : Offsets → Message → Offsets
  past_tree o (message own nested) =
      past_extensions (past_enums (past_trees (past_message o) nested) (length own.enum_type))
      (length own.extension)

  pub past_trees : Offsets → Messages → Offsets
  past_trees o no_messages = o
  past_trees o (more_messages m ms) = past_trees (past_tree o m) ms

-- the declarations of a message: its fields, messages, enums, extensions and oneofs
abbrev mutual
  pub tree_declarations : List ℤ → List ℕ → ℕ → Option ℕ → Offsets → Message → List Declaration
  tree_declarations path scope file parent o (message own nested) =
      message_declaration path (join scope (text_of own.name)) file parent o.messages own
      ∷ (each (one_field path (join scope (text_of own.name)) file o.messages) 0 own.field
      ++ (trees_declarations path (pos 3) (join scope (text_of own.name)) file (Some o.messages) 0
      (past_message o) nested
      ++ (each (one_enum path (pos 4) (join scope (text_of own.name)) file (Some o.messages)
      (past_trees (past_message o) nested).enums) 0 own.enum_type
      ++ (each (one_extension path (pos 6) (join scope (text_of own.name)) file (Some o.messages)
      (past_trees (past_message o) nested).extensions) 0 own.extension
      ++ each (one_oneof path (join scope (text_of own.name)) file o.messages) 0 own.oneof_decl))))

  pub trees_declarations : List ℤ → ℤ → List ℕ → ℕ → Option ℕ → ℕ → Offsets → Messages
      → List Declaration
  trees_declarations path tag scope file parent k o no_messages = []
  trees_declarations path tag scope file parent k o (more_messages m ms) =
      tree_declarations (entry path tag k) scope file parent o m
      ++ trees_declarations path tag scope file parent (k + 1) (past_tree o m) ms

abbrev pub trees_of : FileDescriptorProto → Messages
trees_of f = messages_of (map tree_of f.message_type.items)

-- the declarations of a file: its messages, enums, services and extensions
abbrev pub file_declarations : Offsets → ℕ → FileDescriptorProto → List Declaration
file_declarations o file f =
    file_declaration [] file f
    ∷ (trees_declarations [] (pos 4) (text_of f.package) file None 0 o (trees_of f)
    ++ (each (one_enum [] (pos 5) (text_of f.package) file None (past_trees o (trees_of f)).enums) 0
    f.enum_type.items
    ++ (each (one_service (text_of f.package) file o.services) 0 f.service.items
    ++ each (one_extension [] (pos 7) (text_of f.package) file None
    (past_trees o (trees_of f)).extensions) 0 f.extension.items)))

-- the counts behind a file
abbrev pub past_file : Offsets → FileDescriptorProto → Offsets
past_file o f = past_extensions
    (past_services (past_enums (past_trees o (trees_of f)) (length f.enum_type.items))
    (length f.service.items)) (length f.extension.items)

-- the states that steps along a list may lead to
abbrev pub Runs : {S D : Type 0} → (S → D → S → Type 0) → S → List D → S → Type 0
Runs R s [] t = t ≡ s
Runs R s (d ∷ ds) t = (m : _) × (R s d m × Runs R m ds t)
