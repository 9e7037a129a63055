-- What is kept of the declarations of types: their ranges, and the values of enums.
use Rattle.std.specs.Prelude.{◌≡◌, ℕ, ℤ, pos, ◌-◌, List, [], ◌∷◌, ◌++◌, map, Bool, IsPermutation, unwrap_or, slice_index_or, slice_set, string_bytes}
use Rattle.descriptor_records.specs.declared.enums.EnumDescriptorProto.{EnumDescriptorProto}
use Rattle.descriptor_records.specs.declared.enums.EnumValueDescriptorProto.{EnumValueDescriptorProto}
use Rattle.reflect_declarations.specs.Tree.{MessageParts, text_of}
use Rattle.reflect_declarations.specs.Declarations.{Declaration, Body, of_message, of_enum, of_enum_value}
use Rattle.reflect_tables.specs.Ranges.{Range, reserved_range, extension_range}
use Rattle.reflect_tables.specs.Views.{ranges_of}
use Rattle.reflect_walk.specs.MapEntries.{says_entry}
use Rattle.reflect_index.specs.declared.drafts.MessageDraft.{MessageDraft}
use Rattle.reflect_index.specs.declared.drafts.EnumDraft.{EnumDraft}
use Rattle.reflect_tables.specs.declared.stored.StoredMessage.{StoredMessage}
use Rattle.reflect_tables.specs.declared.stored.StoredEnum.{StoredEnum}
use Rattle.reflect_tables.specs.declared.stored.StoredValue.{StoredValue}

-- the numbers that are reserved in a message type, those that its extensions may take, and whether
-- it is the type of a map's entries
pub record RangesType : Type 0 where
  pub reserved : List Range
  pub extensions : List Range
  pub is_entry : Bool

abbrev pub draft_ranges : MessageDraft → RangesType
draft_ranges m = record {
  reserved = ranges_of m.reserved_numbers;
  extensions =
      ranges_of m.extension_numbers;
  is_entry = m.is_entry;
}

abbrev pub stored_ranges : StoredMessage → RangesType
stored_ranges m = record {
  reserved = ranges_of m.reserved_numbers;
  extensions =
      ranges_of m.extension_numbers;
  is_entry = m.is_entry;
}

-- they are those of the declaration, the ranges in some order
pub record AreDeclared (m : MessageParts) (r : RangesType) : Type 0 where
  pub reserved : IsPermutation (map reserved_range m.reserved_range) r.reserved
  pub extensions : IsPermutation (map extension_range m.extension_range) r.extensions
  pub is_entry : r.is_entry ≡ says_entry m.options

-- the message types among declarations
abbrev pub message_in : Body → List MessageParts
message_in (of_message m) = m ∷ []
message_in _ = []

abbrev pub messages_in : List Declaration → List MessageParts
messages_in [] = []
messages_in (d ∷ ds) = message_in d.body ++ messages_in ds

-- so for each message type of a list, in order
abbrev pub AllDeclared : List MessageParts → List RangesType → Type 0
AllDeclared [] [] = Unit {0}
AllDeclared (m ∷ ms) (r ∷ rs) = AreDeclared m r × AllDeclared ms rs
AllDeclared _ _ = ⊥

-- behind a message type's declaration stand its ranges
abbrev pub AddsRanges : List RangesType → Body → List RangesType → Type 0
AddsRanges old (of_message m) new = (r : RangesType) × AreDeclared m r × (new ≡ old ++ r ∷ [])
AddsRanges old _ new = new ≡ old

-- a value's name and its number
abbrev pub NamedNumber : Type 0
NamedNumber = List ℕ × ℤ

abbrev pub stored_value : StoredValue → NamedNumber
stored_value v = (string_bytes v.name, v.number)

abbrev pub draft_values : EnumDraft → List NamedNumber
draft_values e = map stored_value e.values.items

abbrev pub stored_values : StoredEnum → List NamedNumber
stored_values e = map stored_value e.values.list.items

abbrev pub declared_value : EnumValueDescriptorProto → NamedNumber
declared_value v = (text_of v.name, unwrap_or v.number (pos 0))

abbrev pub declared_values : EnumDescriptorProto → List NamedNumber
declared_values e = map declared_value e.value.items

-- the enums among declarations
abbrev pub enum_in : Body → List EnumDescriptorProto
enum_in (of_enum e) = e ∷ []
enum_in _ = []

abbrev pub enums_in : List Declaration → List EnumDescriptorProto
enums_in [] = []
enums_in (d ∷ ds) = enum_in d.body ++ enums_in ds

-- one value more of the enum at a place
abbrev pub add_value : List (List NamedNumber) → ℕ → NamedNumber → List (List NamedNumber)
add_value values place v = slice_set values place (slice_index_or values place [] ++ v ∷ [])

-- the values of enums behind a declaration, where there were so many enums before the first of them
abbrev pub with_value : ℕ → List (List NamedNumber) → Declaration → List (List NamedNumber)
with_value before values d = elim d.body [
  | of_enum e ↦ values ++ [] ∷ []
  | of_enum_value v ↦ add_value values (unwrap_or d.parent 0 - before) (declared_value v)
  | _ ↦ values
]
