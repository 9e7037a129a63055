-- Which fields are the key and the value of a map's entry (protobuf.dev, "Language Guide (proto
-- 3)", "Maps").
use Rattle.std.specs.Prelude.{◌≡◌, ◌⊎◌, ℕ, List, map, Bool, true, false, Option, None, Some}
use Rattle.reflect_tables.specs.Finding.{IsFirst}
use Rattle.reflect_tables.specs.Types.{FieldType}
use Rattle.reflect_tables.specs.Views.{field_of}
use Rattle.reflect_tables.specs.declared.stored.StoredEntry.{StoredEntry}
use Rattle.reflect_tables.specs.declared.stored.StoredMessage.{StoredMessage}

-- the place of the first field of the number; none where no field has it
abbrev pub IsFieldAt : ℕ → List FieldType → Option ℕ → Type 0
IsFieldAt number fields place = IsFirst (λ f. f.number ≡ number) fields place

-- a type of a map's entries has the places of its fields of the numbers 1 and 2, where there are
-- both; any other has none
abbrev pub IsEntryOf : Bool → List FieldType → Option StoredEntry → Type 0
IsEntryOf false fields entry = entry ≡ None
IsEntryOf true fields None = IsFieldAt 1 fields None ⊎ IsFieldAt 2 fields None
IsEntryOf true fields (Some e) = IsFieldAt 1 fields (Some e.key) × IsFieldAt 2 fields (Some e.value)

abbrev pub KeepsEntry : StoredMessage → Type 0
KeepsEntry m = IsEntryOf m.is_entry (map field_of m.fields.list.items) m.entry
