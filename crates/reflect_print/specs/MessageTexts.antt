-- The text of messages and their values (protobuf.dev, "Text Format Language Specification").
use Rattle.std.specs.Prelude.{◌≡◌, ◌⊎◌, ◌+◌, ◌<◌, ◌-◌, ℕ, Bool, true, false, if◌then◌else◌, List, [], ◌∷◌, ◌++◌, Option, None, Some, codes}
use Rattle.std.specs.Fmt.{decimal, signed_decimal}
use Rattle.reflect_wire.specs.Records.{Payload}
use Rattle.reflect_tables.specs.Types.{PoolType, FieldType}
use Rattle.reflect_scalar.specs.Keys.{key_view}
use Rattle.reflect_scalar.specs.Singles.{Single, truth, int32, int64, uint32, uint64, text, blob, enumerated}
use Rattle.reflect_scalar.specs.declared.map_key.MapKey.{MapKey}
use Rattle.reflect_message.specs.Lists.{list_items}
use Rattle.reflect_message.specs.Maps.{map_entries}
use Rattle.reflect_message.specs.Messages.{message_in}
use Rattle.reflect_message.specs.Singles.{single}
use Rattle.reflect_message.specs.Names.{DynamicMessage, Value}
use Rattle.text_lines.specs.Pieces.{quoted, bracketed, padding, colon, before_element, before_item, in_braces}
use Rattle.text_lines.specs.UnknownTexts.{IsPayloadText, IsRecordText}
use Rattle.text_lines.specs.declared.options.FormatOptions.{FormatOptions}
use Rattle.print_parts.specs.Entries.{Entry, field, extension, undeclared, AreDeclared, AreOthers}
use Rattle.print_parts.specs.Expands.{Expands}
use Rattle.reflect_print.specs.Named.{Named, named, value_kind, IsEnumText, label_of}

-- a single value
abbrev pub IsSingleText : Named → Single → List ℕ → Type 0
IsSingleText kind (truth b) z = z ≡ (if b then codes "true" else codes "false")
IsSingleText kind (int32 n) z = z ≡ signed_decimal n
IsSingleText kind (int64 n) z = z ≡ signed_decimal n
IsSingleText kind (uint32 n) z = z ≡ decimal n
IsSingleText kind (uint64 n) z = z ≡ decimal n
IsSingleText kind (text s) z = z ≡ quoted s
IsSingleText kind (blob s) z = z ≡ quoted s
IsSingleText kind (enumerated n) z = IsEnumText kind n z

-- what stands between a name and its value: a colon, but before a message
abbrev pub before_value : Bool → Option DynamicMessage → List ℕ
before_value pretty None = colon pretty
before_value pretty (Some m) = padding pretty

-- the key of a map's entry under its name
abbrev pub key_text : Bool → ℕ → List ℕ → List ℕ
key_text pretty indent key =
    before_item pretty true false indent ++ (codes "key" ++ (colon pretty ++ key))

-- and the value
abbrev pub value_text : Bool → ℕ → Value → List ℕ → List ℕ
value_text pretty indent v value =
    before_item pretty true true indent
    ++ (codes "value" ++ (before_value pretty (message_in v) ++ value))

-- whether items stand somewhere behind others
abbrev pub any_behind : Bool → List Entry → Bool
any_behind any [] = any
any_behind any (e ∷ es) = true

-- a message is printed as what it holds, or, where it may be, as the message that it holds as an
-- Any
abbrev pub MayExpand : FormatOptions → ℕ → Type 0
MayExpand form expansions = (form.expand_any ≡ true) × (0 < expansions)

mutual
  -- a value of a kind, at an indentation, with so many expansions left
  pub data IsValueText (form : FormatOptions) (payloads : ℕ) : ℕ → ℕ → Named → Value → List ℕ
      → Type 0 where
    single_text : {x i : ℕ} {kind : Named} {v : Value} {z : List ℕ} (s : Single)
        → single v ≡ Some s → IsSingleText kind s z → IsValueText form payloads x i kind v z
    message_text : {x i : ℕ} {kind : Named} {v : Value} {z : List ℕ} (m : DynamicMessage)
        → message_in v ≡ Some m → IsBracedText form payloads x i m z
        → IsValueText form payloads x i kind v z
    list_text : {x i : ℕ} {kind : Named} {v : Value} (vs : List Value) (z : List ℕ)
        → list_items v ≡ Some vs → IsListText form payloads x i kind true vs z
        → IsValueText form payloads x i kind v (91 ∷ (z ++ 93 ∷ []))
    map_text : {x i : ℕ} {kind : Named} {v : Value} (es : List (MapKey × Value)) (z : List ℕ)
        → map_entries v ≡ Some es → IsMapText form payloads x i (value_kind kind) true es z
        → IsValueText form payloads x i kind v (91 ∷ (z ++ 93 ∷ []))

  -- values of a list, the first of all or others
  pub data IsListText (form : FormatOptions) (payloads : ℕ) : ℕ → ℕ → Named → Bool → List Value
      → List ℕ → Type 0 where
    no_values : {x i : ℕ} {kind : Named} {first : Bool}
        → IsListText form payloads x i kind first [] []
    more_values : {x i : ℕ} {kind : Named} {first : Bool} {v : Value} {vs : List Value}
        (one rest : List ℕ)
        → IsValueText form payloads x i kind v one → IsListText form payloads x i kind false vs rest
        → IsListText form payloads x i kind first (v ∷ vs)
        (before_element form.pretty first ++ (one ++ rest))

  -- an entry of a map, as a message
  pub data IsPairText (form : FormatOptions) (payloads : ℕ) : ℕ → ℕ → Named → MapKey × Value
      → List ℕ → Type 0 where
    pair_text : {x i : ℕ} {kind : Named} {e : MapKey × Value} (key value : List ℕ)
        → IsSingleText None (key_view e.0) key → IsValueText form payloads x (i + 2) kind e.1 value
        → IsPairText form payloads x i kind e (in_braces form.pretty i true
        (key_text form.pretty (i + 2) key ++ value_text form.pretty (i + 2) e.1 value))

  -- entries of a map, the first of all or others
  pub data IsMapText (form : FormatOptions) (payloads : ℕ) : ℕ → ℕ → Named → Bool
      → List (MapKey × Value) → List ℕ → Type 0 where
    no_pairs : {x i : ℕ} {kind : Named} {first : Bool}
        → IsMapText form payloads x i kind first [] []
    more_pairs : {x i : ℕ} {kind : Named} {first : Bool} {e : MapKey × Value}
        {es : List (MapKey × Value)} (one rest : List ℕ)
        → IsPairText form payloads x i kind e one → IsMapText form payloads x i kind false es rest
        → IsMapText form payloads x i kind first (e ∷ es)
        (before_element form.pretty first ++ (one ++ rest))

  -- a message in braces
  pub data IsBracedText (form : FormatOptions) (payloads : ℕ) : ℕ → ℕ → DynamicMessage → List ℕ
      → Type 0 where
    braced : {x i : ℕ} {m : DynamicMessage} (any : Bool) (z : List ℕ)
        → IsItemsText form payloads x (i + 2) true m any z
        → IsBracedText form payloads x i m (in_braces form.pretty i any z)

  -- a message without its braces, and whether anything is printed of it
  pub data IsItemsText (form : FormatOptions) (payloads : ℕ) : ℕ → ℕ → Bool → DynamicMessage
      → Bool → List ℕ → Type 0 where
    expanded : {x i : ℕ} {braces : Bool} {m : DynamicMessage} (url : List ℕ)
        (body : DynamicMessage) (z : List ℕ)
        → MayExpand form x → Expands m (Some (url, body))
        → IsBracedText form payloads (x - 1) i body z
        → IsItemsText form payloads x i braces m true
        (before_item form.pretty braces false i ++ (bracketed url ++ (padding form.pretty ++ z)))
    listed : {x i : ℕ} {braces : Bool} {m : DynamicMessage} (ds os : List Entry) (y z : List ℕ)
        → ((MayExpand form x → ⊥) ⊎ Expands m None)
        → AreDeclared form m ds → AreOthers form m os
        → IsRowText form payloads x i braces false ds y
        → IsRowText form payloads x i braces (any_behind false ds) os z
        → IsItemsText form payloads x i braces m (any_behind (any_behind false ds) os) (y ++ z)

  -- entries one behind another, and behind others where there are any
  pub data IsRowText (form : FormatOptions) (payloads : ℕ) : ℕ → ℕ → Bool → Bool → List Entry
      → List ℕ → Type 0 where
    no_entries : {x i : ℕ} {braces any : Bool} → IsRowText form payloads x i braces any [] []
    more_entries : {x i : ℕ} {braces any : Bool} {e : Entry} {es : List Entry} (one rest : List ℕ)
        → IsEntryText form payloads x i e one → IsRowText form payloads x i braces true es rest
        → IsRowText form payloads x i braces any (e ∷ es)
        (before_item form.pretty braces any i ++ (one ++ rest))

  -- an entry: a field under its name, an extension under its full name in brackets, a record under
  -- its number
  pub data IsEntryText (form : FormatOptions) (payloads : ℕ) : ℕ → ℕ → Entry → List ℕ → Type 0 where
    field_text : {x i : ℕ} {pool : PoolType} {f : FieldType} {v : Value} (z : List ℕ)
        → IsValueText form payloads x i (named pool f.kind) v z
        → IsEntryText form payloads x i (field pool f v)
        (label_of pool f ++ (before_value form.pretty (message_in v) ++ z))
    extension_text : {x i : ℕ} {pool : PoolType} {f : FieldType} {v : Value} (z : List ℕ)
        → IsValueText form payloads x i (named pool f.kind) v z
        → IsEntryText form payloads x i (extension pool f v)
        (bracketed f.full_name ++ (before_value form.pretty (message_in v) ++ z))
    record_text : {x i : ℕ} {r : ℕ × Payload} {z : List ℕ}
        → IsRecordText form.pretty (IsPayloadText payloads form.pretty) i r z
        → IsEntryText form payloads x i (undeclared r) z

-- the parts that functions write

-- something in brackets
abbrev pub IsInBrackets : (List ℕ → Type 0) → List ℕ → Type 0
IsInBrackets Is z = (inner : List ℕ) × Is inner × (z ≡ 91 ∷ (inner ++ 93 ∷ []))

-- the key of a map's entry under its name
abbrev pub IsKeyText : Bool → ℕ → Single → List ℕ → Type 0
IsKeyText pretty i s z = (key : List ℕ) × IsSingleText None s key × (z ≡ key_text pretty i key)

-- what stands behind a name
abbrev pub IsNamedText : FormatOptions → ℕ → ℕ → ℕ → Named → Value → List ℕ → Type 0
IsNamedText form payloads x i kind v z =
    (value : List ℕ) × IsValueText form payloads x i kind v value
    × (z ≡ before_value form.pretty (message_in v) ++ value)

-- the value of a map's entry under its name
abbrev pub IsValueUnder : FormatOptions → ℕ → ℕ → ℕ → Named → Value → List ℕ → Type 0
IsValueUnder form payloads x i kind v z =
    (value : List ℕ) × IsValueText form payloads x i kind v value
    × (z ≡ value_text form.pretty i v value)

-- the message that another holds, under the URL
abbrev pub IsUrlText : FormatOptions → ℕ → ℕ → ℕ → Bool → List ℕ → DynamicMessage → List ℕ → Type 0
IsUrlText form payloads x i braces url body z =
    (inner : List ℕ) × IsBracedText form payloads (x - 1) i body inner
    × (z ≡ before_item form.pretty braces false i ++ (bracketed url
    ++ (padding form.pretty ++ inner)))

-- what a message holds, entry by entry
pub record AreItems (form : FormatOptions) (payloads x i : ℕ) (braces : Bool) (m : DynamicMessage)
    (any : Bool) (whole_text : List ℕ) : Type 0 where
  pub ds : List Entry
  pub os : List Entry
  pub y : List ℕ
  pub z : List ℕ
  pub declared : AreDeclared form m ds
  pub others : AreOthers form m os
  pub first : IsRowText form payloads x i braces false ds y
  pub second : IsRowText form payloads x i braces (any_behind false ds) os z
  pub whole : whole_text ≡ y ++ z
  pub some : any ≡ any_behind (any_behind false ds) os

-- a whole message: up to 100 messages are expanded in one another, and up to 100 payloads of
-- undeclared records are read as records
abbrev pub IsMessageText : FormatOptions → DynamicMessage → List ℕ → Type 0
IsMessageText form m z = (any : Bool) × IsItemsText form 100 100 0 false m any z
