-- What is tested of further entries before they are put behind the others.
use Rattle.std.specs.Prelude.{ℕ, ◌≤◌, map}
use Rattle.std.specs.List.{AllByRecursion}
use Rattle.reflect_tables.specs.Types.{EnumWithin, ExtensionWithin, FileWithin, HoldsWithin, MessageWithin, ServiceWithin}
use Rattle.reflect_tables.specs.Views.{enum_of, extension_of, message_of, places_of, service_of}
use Rattle.reflect_tables.specs.declared.tables.Counts.{Counts}
use Rattle.reflect_tables.specs.declared.tables.Tables.{Tables}

-- each entry is declared in the file at the place `first` or one behind it
pub record AreFrom (first : ℕ) (t : Tables) : Type 0 where
  pub messages : AllByRecursion (λ m. first ≤ m.file) (map message_of t.messages.items)
  pub enums : AllByRecursion (λ e. first ≤ e.file) (map enum_of t.enums.items)
  pub extensions : AllByRecursion (λ x. first ≤ x.file) (map extension_of t.extensions.items)
  pub services : AllByRecursion (λ s. first ≤ s.file) (map service_of t.services.items)

-- all that the entries name is among so many
pub record AreWithin (c : Counts) (t : Tables) : Type 0 where
  pub files : AllByRecursion (FileWithin c) (map places_of t.files.items)
  pub messages : AllByRecursion (MessageWithin c) (map message_of t.messages.items)
  pub children : AllByRecursion (HoldsWithin c) (map message_of t.messages.items)
  pub enums : AllByRecursion (EnumWithin c) (map enum_of t.enums.items)
  pub extensions : AllByRecursion (ExtensionWithin c) (map extension_of t.extensions.items)
  pub services : AllByRecursion (ServiceWithin c) (map service_of t.services.items)
