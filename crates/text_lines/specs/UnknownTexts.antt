-- The text of records that no type declares: each under its number (protobuf.dev, "Text Format
-- Language Specification", Fields), and a payload of bytes as the records that it spells, if any.
use Rattle.std.specs.Prelude.{◌≡◌, ◌≢◌, ◌⊎◌, ℕ, zero, suc, ◌+◌, Bool, true, false, List, [], ◌++◌, Option, Some, None}
use Rattle.std.specs.Fmt.{decimal}
use Rattle.reflect_wire.specs.Records.{Payload, varint, fixed64, delimited, group, fixed32, Records, no_records, more_records, SpellsRecords}
use Rattle.reflect_wire.specs.Views.{set_view}
use Rattle.reflect_wire.specs.declared.unknown.UnknownFieldSet.{UnknownFieldSet}
use Rattle.text_lines.specs.Pieces.{quoted, hexadecimal, padding, colon, before_item, in_braces}

-- how a payload of bytes stands behind its number, at an indentation
abbrev pub Shows : Type 1
Shows = ℕ → List ℕ → List ℕ → Type 0

abbrev pub are_any : Records → Bool
are_any no_records = false
are_any (more_records n p rs) = true

abbrev mutual
  -- what stands behind a record's number
  pub IsValueText : Bool → Shows → ℕ → Payload → List ℕ → Type 0
  IsValueText pretty shows indent (varint n) text = text ≡ colon pretty ++ decimal n
  IsValueText pretty shows indent (fixed64 n) text = text ≡ colon pretty ++ hexadecimal 16 n
  IsValueText pretty shows indent (delimited bytes) text = shows indent bytes text
  IsValueText pretty shows indent (group rs) text =
      (items : List ℕ) × IsRowText pretty shows (indent + 2) false rs items
      × (text ≡ padding pretty ++ in_braces pretty indent (are_any rs) items)
  IsValueText pretty shows indent (fixed32 n) text = text ≡ colon pretty ++ hexadecimal 8 n

  -- records one behind another in braces, and behind others where there are any
  pub IsRowText : Bool → Shows → ℕ → Bool → Records → List ℕ → Type 0
  IsRowText pretty shows indent any no_records text = text ≡ []
  IsRowText pretty shows indent any (more_records n p rs) text =
      (value rest : List ℕ) × IsValueText pretty shows indent p value
      × IsRowText pretty shows indent true rs rest
      × (text ≡ before_item pretty true any indent ++ ((decimal n ++ value) ++ rest))

-- records in braces
abbrev pub IsBraced : Bool → Shows → ℕ → Records → List ℕ → Type 0
IsBraced pretty shows indent rs text =
    (items : List ℕ) × IsRowText pretty shows (indent + 2) false rs items
    × (text ≡ in_braces pretty indent (are_any rs) items)

-- a record with its number
abbrev pub IsRecordText : Bool → Shows → ℕ → ℕ × Payload → List ℕ → Type 0
IsRecordText pretty shows indent r text =
    (value : List ℕ) × IsValueText pretty shows indent r.1 value × (text ≡ decimal r.0 ++ value)

-- the bytes are those of records, of one at least
abbrev pub SpellsAny : List ℕ → Records → Type 0
SpellsAny bytes rs = (bytes ≢ []) × SpellsRecords 100 bytes rs

-- a set of the records that bytes spell, or none where they spell none
abbrev pub Infers : List ℕ → Option UnknownFieldSet → Type 0
Infers bytes (Some set) = SpellsAny bytes (set_view set)
Infers bytes None = (rs : Records) → SpellsAny bytes rs → ⊥

-- a payload of bytes as a group of the records that it spells, at most so many in one another;
-- else as a string
abbrev pub IsPayloadText : ℕ → Bool → Shows
IsPayloadText zero pretty indent bytes text = text ≡ colon pretty ++ quoted bytes
IsPayloadText (suc k) pretty indent bytes text =
    ((rs : Records) × SpellsAny bytes rs
    × IsValueText pretty (IsPayloadText k pretty) indent (group rs) text)
    ⊎ (((rs : Records) → SpellsAny bytes rs → ⊥) × (text ≡ colon pretty ++ quoted bytes))
