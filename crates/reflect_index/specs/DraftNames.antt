-- The full names of entries, and of those that are not finished.
use Rattle.std.specs.Prelude.{string_bytes}
use Rattle.reflect_tables.specs.Names.{FullName}
use Rattle.reflect_index.specs.declared.drafts.MessageDraft.{MessageDraft}
use Rattle.reflect_index.specs.declared.drafts.EnumDraft.{EnumDraft}
use Rattle.reflect_tables.specs.declared.stored.StoredMessage.{StoredMessage}
use Rattle.reflect_tables.specs.declared.stored.StoredEnum.{StoredEnum}
use Rattle.reflect_tables.specs.declared.stored.StoredExtension.{StoredExtension}
use Rattle.reflect_tables.specs.declared.stored.StoredService.{StoredService}

abbrev pub draft_name : MessageDraft → FullName
draft_name m = (string_bytes m.full_name, m.file)

abbrev pub enum_draft_name : EnumDraft → FullName
enum_draft_name e = (string_bytes e.full_name, e.file)

abbrev pub stored_message_name : StoredMessage → FullName
stored_message_name m = (string_bytes m.full_name, m.file)

abbrev pub stored_enum_name : StoredEnum → FullName
stored_enum_name e = (string_bytes e.full_name, e.file)

abbrev pub stored_extension_name : StoredExtension → FullName
stored_extension_name x = (string_bytes x.field.full_name, x.file)

abbrev pub stored_service_name : StoredService → FullName
stored_service_name s = (string_bytes s.full_name, s.file)
