-- What the visitor of entries does at a declaration.
use Rattle.std.specs.Prelude.{◌≡◌, map}
use Rattle.reflect_declarations.specs.Declarations.{Declaration}
use Rattle.reflect_tables.specs.Names.{messages, enums, extensions, services}
use Rattle.reflect_known.specs.DeclaredNames.{with_name}
use Rattle.reflect_index.specs.DraftNames.{draft_name, enum_draft_name, stored_extension_name, stored_service_name}
use Rattle.reflect_index.specs.OfDeclarations.{draft_ranges, draft_values, AddsRanges, with_value}
use Rattle.reflect_references.specs.Meanings.{rest_behind}
use Rattle.reflect_tables.specs.Views.{extension_of, declared_of}
use Rattle.reflect_index.specs.Along.{AtHand, Met, met, syntax_behind, is_message, is_field, is_oneof, is_enum, is_value, is_service, is_method, is_extension}
use Rattle.reflect_index.specs.Entries.{IsFieldOf, IsOneofOf, IsValueOf, IsMethodOf, IsExtensionOf}
use Rattle.reflect_index.specs.Children.{draft_children, AddsChild, AddsPlace}
use Rattle.reflect_index.specs.Grown.{draft_fields, draft_oneofs, draft_value_types, stored_methods, draft_head, enum_draft_head, service_head, AddsPart, AddsOne, AddsHead}
use Rattle.reflect_index.specs.declared.visitor.IndexVisitor.{IndexVisitor}

abbrev pub hand_of : IndexVisitor → AtHand
hand_of s = record { syntax = s.syntax; rest = s.references.rest.now }

abbrev pub met_by : IndexVisitor → Declaration → Met
met_by s d = met (hand_of s) d

-- the names of each sort go on with that of the declaration, where it is of the sort; so do the
-- ranges of message types, the values of enums, the fields and oneofs of messages, the methods of
-- services, extensions, and what messages and files declare
pub record Lists (s : IndexVisitor) (d : Declaration) (t : IndexVisitor) : Type 0 where
  pub messages : map draft_name t.drafts.messages.items
      ≡ with_name messages (map draft_name s.drafts.messages.items) d
  pub enums : map enum_draft_name t.drafts.enums.items
      ≡ with_name enums (map enum_draft_name s.drafts.enums.items) d
  pub extensions : map stored_extension_name t.drafts.extensions.items
      ≡ with_name extensions (map stored_extension_name s.drafts.extensions.items) d
  pub services : map stored_service_name t.drafts.services.items
      ≡ with_name services (map stored_service_name s.drafts.services.items) d
  pub ranges : AddsRanges (map draft_ranges s.drafts.messages.items) d.body
      (map draft_ranges t.drafts.messages.items)
  pub values : map draft_values t.drafts.enums.items
      ≡ with_value s.before.enums (map draft_values s.drafts.enums.items) d
  pub fields : AddsPart is_message is_field IsFieldOf s.before.messages
      (map draft_fields s.drafts.messages.items) (met_by s d)
      (map draft_fields t.drafts.messages.items)
  pub oneofs : AddsPart is_message is_oneof IsOneofOf s.before.messages
      (map draft_oneofs s.drafts.messages.items) (met_by s d)
      (map draft_oneofs t.drafts.messages.items)
  pub value_types : AddsPart is_enum is_value IsValueOf s.before.enums
      (map draft_value_types s.drafts.enums.items) (met_by s d)
      (map draft_value_types t.drafts.enums.items)
  pub methods : AddsPart is_service is_method IsMethodOf s.before.services
      (map stored_methods s.drafts.services.items) (met_by s d)
      (map stored_methods t.drafts.services.items)
  pub declared : AddsOne is_extension IsExtensionOf (map extension_of s.drafts.extensions.items)
      (met_by s d) (map extension_of t.drafts.extensions.items)
  pub message_heads : AddsHead is_message (map draft_head s.drafts.messages.items) (met_by s d)
      (map draft_head t.drafts.messages.items)
  pub enum_heads : AddsHead is_enum (map enum_draft_head s.drafts.enums.items) (met_by s d)
      (map enum_draft_head t.drafts.enums.items)
  pub service_heads : AddsHead is_service (map service_head s.drafts.services.items) (met_by s d)
      (map service_head t.drafts.services.items)
  pub nested : AddsChild s.before.messages (map draft_children s.drafts.messages.items) d d.body
      (map draft_children t.drafts.messages.items)
  pub outside : AddsPlace s.first (map declared_of s.drafts.files.items) d d.body
      (map declared_of t.drafts.files.items)
  pub syntax : t.syntax ≡ syntax_behind d s.syntax
  pub rest : t.references.rest.now ≡ rest_behind d s.references.rest.now
  pub first : t.first ≡ s.first
  pub before : t.before ≡ s.before
