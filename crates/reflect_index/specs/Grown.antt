-- How the lists of entries grow at a declaration.
use Rattle.std.specs.Prelude.{◌≡◌, ℕ, ◌+◌, List, [], ◌∷◌, ◌++◌, Bool, true, false, cond, Option, None, map, slice_index_or, string_bytes}
use Rattle.std.specs.List.{AllZip}
use Rattle.reflect_declarations.specs.Declarations.{Body}
use Rattle.reflect_tables.specs.Types.{ValueType, MethodType}
use Rattle.reflect_tables.specs.Views.{field_of, value_of, method_of}
use Rattle.reflect_tables.specs.declared.stored.StoredField.{StoredField}
use Rattle.reflect_tables.specs.declared.stored.StoredOneof.{StoredOneof}
use Rattle.reflect_tables.specs.declared.stored.StoredEnum.{StoredEnum}
use Rattle.reflect_tables.specs.declared.stored.StoredMessage.{StoredMessage}
use Rattle.reflect_tables.specs.declared.stored.StoredService.{StoredService}
use Rattle.reflect_index.specs.Along.{Met, is_parent}
use Rattle.reflect_index.specs.Entries.{DeclaredField, OneofName, Head, declared_head}
use Rattle.reflect_index.specs.declared.drafts.EnumDraft.{EnumDraft}
use Rattle.reflect_index.specs.declared.drafts.MessageDraft.{MessageDraft}

abbrev pub declared_field : StoredField → DeclaredField
declared_field f = record { field = field_of f; optional = f.is_proto3_optional }

abbrev pub draft_fields : MessageDraft → List DeclaredField
draft_fields m = map declared_field m.fields.items

abbrev pub stored_fields : StoredMessage → List DeclaredField
stored_fields m = map declared_field m.fields.list.items

abbrev pub draft_value_types : EnumDraft → List ValueType
draft_value_types e = map value_of e.values.items

abbrev pub stored_value_types : StoredEnum → List ValueType
stored_value_types e = map value_of e.values.list.items

abbrev pub oneof_name : StoredOneof → OneofName
oneof_name o = record {
  path = o.path.items;
  name = string_bytes o.name;
  full_name =
      string_bytes o.full_name;
}

abbrev pub draft_oneofs : MessageDraft → List OneofName
draft_oneofs m = map oneof_name m.oneofs.items

abbrev pub stored_oneofs : StoredMessage → List OneofName
stored_oneofs m = map oneof_name m.oneofs.items

abbrev pub stored_methods : StoredService → List MethodType
stored_methods s = map method_of s.methods.items

abbrev pub draft_head : MessageDraft → Head
draft_head m = record {
  path = m.path.items;
  name = string_bytes m.name;
  full_name =
      string_bytes m.full_name;
  file = m.file;
  parent = m.parent;
}

abbrev pub enum_draft_head : EnumDraft → Head
enum_draft_head e = record {
  path = e.path.items;
  name = string_bytes e.name;
  full_name =
      string_bytes e.full_name;
  file = e.file;
  parent = e.parent;
}

abbrev pub message_head : StoredMessage → Head
message_head m = record {
  path = m.path.items;
  name = string_bytes m.name;
  full_name =
      string_bytes m.full_name;
  file = m.file;
  parent = m.parent;
}

abbrev pub enum_head : StoredEnum → Head
enum_head e = record {
  path = e.path.items;
  name = string_bytes e.name;
  full_name =
      string_bytes e.full_name;
  file = e.file;
  parent = e.parent;
}

abbrev pub service_head : StoredService → Head
service_head s = record {
  path = s.path.items;
  name = string_bytes s.name;
  full_name =
      string_bytes s.full_name;
  file = s.file;
  parent = None;
}

-- the list at a place, which is empty where there is none
abbrev pub list_at : {X : Type 0} → List (List X) → ℕ → List X
list_at xss k = slice_index_or xss k []

-- one more stands behind the others in the list of its parent, where the first list is that of this
-- index
abbrev pub GrowsAt : {X : Type 0} → ℕ → Option ℕ → X → List (List X) → List (List X) → Type 0
GrowsAt first parent x old new = (k : ℕ) → list_at new k ≡ list_at old k
    ++ cond (is_parent (first + k) parent) (x ∷ []) []

-- what has such parts begins a list, and a part stands behind the others of its parent
abbrev pub AddsPart : {X : Type 0} → (Body → Bool) → (Body → Bool) → (Met → X → Type 0) → ℕ
    → List (List X) → Met → List (List X) → Type 0
AddsPart {X} whole part IsOf first old m new = elim (whole m.declaration.body) [
  | true ↦ new ≡ old ++ [] ∷ []
  | false ↦ elim (part m.declaration.body) [
    | true ↦ (x : X) × IsOf m x × GrowsAt first m.declaration.parent x old new
    | false ↦ new
        ≡ old
  ]
]

-- one of the sort stands behind the others
abbrev pub AddsOne : {X : Type 0} → (Body → Bool) → (Met → X → Type 0) → List X → Met → List X
    → Type 0
AddsOne {X} sort IsOf old m new =
    elim (sort m.declaration.body)
    [ true ↦ (x : X) × IsOf m x × (new ≡ old ++ x ∷ []) | false ↦ new ≡ old ]

-- one that is called so stands behind the others
abbrev pub AddsHead : (Body → Bool) → List Head → Met → List Head → Type 0
AddsHead sort old m new = elim (sort m.declaration.body)
    [ true ↦ new ≡ old ++ declared_head m ∷ [] | false ↦ new ≡ old ]

-- the entries of such stand behind others
abbrev pub Behind : {X : Type 0} → (Met → X → Type 0) → List X → List Met → List X → Type 0
Behind {X} IsOf old ms new = (more : List X) × AllZip IsOf ms more × (new ≡ old ++ more)
