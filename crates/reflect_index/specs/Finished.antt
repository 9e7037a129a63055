-- What stays of drafts when all that is known of their types is put to them.
use Rattle.std.specs.Prelude.{◌≡◌, List, map}
use Rattle.std.specs.List.{AllByRecursion}
use Rattle.reflect_tables.specs.Types.{ListsMembers}
use Rattle.reflect_tables.specs.Views.{message_of}
use Rattle.reflect_tables.specs.declared.stored.StoredEnum.{StoredEnum}
use Rattle.reflect_tables.specs.declared.stored.StoredMessage.{StoredMessage}
use Rattle.reflect_index.specs.Children.{draft_children, stored_children}
use Rattle.reflect_index.specs.DraftNames.{draft_name, enum_draft_name, stored_message_name, stored_enum_name}
use Rattle.reflect_index.specs.Entry.{KeepsEntry}
use Rattle.reflect_index.specs.Grown.{draft_fields, draft_oneofs, draft_head, enum_draft_head, message_head, enum_head, stored_fields, stored_oneofs, draft_value_types, stored_value_types}
use Rattle.reflect_index.specs.Members.{MarksOneofs}
use Rattle.reflect_index.specs.OfDeclarations.{draft_ranges, draft_values, stored_ranges, stored_values}
use Rattle.reflect_index.specs.declared.batch.Batch.{Batch}
use Rattle.reflect_index.specs.declared.drafts.Drafts.{Drafts}
use Rattle.reflect_index.specs.declared.drafts.EnumDraft.{EnumDraft}
use Rattle.reflect_index.specs.declared.drafts.MessageDraft.{MessageDraft}

-- each oneof of a finished message lists its members, and is marked where it stands for one field;
-- the type of a map's entries has its key and its value
pub record IsFinished (d : MessageDraft) (m : StoredMessage) : Type 0 where
  pub name : stored_message_name m ≡ draft_name d
  pub ranges : stored_ranges m ≡ draft_ranges d
  pub head : message_head m ≡ draft_head d
  pub fields : stored_fields m ≡ draft_fields d
  pub oneofs : stored_oneofs m ≡ draft_oneofs d
  pub children : stored_children m ≡ draft_children d
  pub listed : ListsMembers (message_of m)
  pub marked : MarksOneofs m
  pub entry : KeepsEntry m

pub record FinishedMessages (ds : List MessageDraft) (ms : List StoredMessage) : Type 0 where
  pub names : map stored_message_name ms ≡ map draft_name ds
  pub ranges : map stored_ranges ms ≡ map draft_ranges ds
  pub heads : map message_head ms ≡ map draft_head ds
  pub fields : map stored_fields ms ≡ map draft_fields ds
  pub oneofs : map stored_oneofs ms ≡ map draft_oneofs ds
  pub children : map stored_children ms ≡ map draft_children ds
  pub listed : AllByRecursion ListsMembers (map message_of ms)
  pub marked : AllByRecursion MarksOneofs ms
  pub entries : AllByRecursion KeepsEntry ms

pub record IsFinishedEnum (d : EnumDraft) (e : StoredEnum) : Type 0 where
  pub name : stored_enum_name e ≡ enum_draft_name d
  pub head : enum_head e ≡ enum_draft_head d
  pub values : stored_values e ≡ draft_values d
  pub value_types : stored_value_types e ≡ draft_value_types d

pub record FinishedEnums (ds : List EnumDraft) (es : List StoredEnum) : Type 0 where
  pub names : map stored_enum_name es ≡ map enum_draft_name ds
  pub heads : map enum_head es ≡ map enum_draft_head ds
  pub values : map stored_values es ≡ map draft_values ds
  pub value_types : map stored_value_types es ≡ map draft_value_types ds

pub record AreFinished (d : Drafts) (b : Batch) : Type 0 where
  pub files : b.files.items ≡ d.files.items
  pub messages : FinishedMessages d.messages.items b.messages.items
  pub enums : FinishedEnums d.enums.items b.enums.items
  pub extensions : b.extensions.items ≡ d.extensions.items
  pub services : b.services.items ≡ d.services.items
