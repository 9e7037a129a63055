-- What `serve` writes for an input, and how it refuses one.
use Rattle.std.specs.Prelude.{◌≡◌, ◌≢◌, ℕ, Bool, true, false, ◌||◌, ◌==◌, ◌-◌, List, [], ◌∷◌, ◌++◌, length, slice_index, Ok, IsErr, IsUtf8}
use Rattle.std.specs.List.{AllPass}
use Rattle.reflect_tables.specs.Types.{PoolType}
use Rattle.hex.specs.Hex.{encode_lower, decode_of}
use Rattle.schema_core.specs.Payloads.{Encoded, Decoded, Recoded}
use Rattle.schema_core.specs.Refusals.{BytesRefused, TextRefused}
use Rattle.schema_words.specs.declared.request.Action.{Action}
use Rattle.schema_words.specs.declared.request.Action.TheVariants.{Encode, Decode, Recode}
use Rattle.schema_core.specs.declared.payload.Fault.{Fault}
use Rattle.schema_core.specs.declared.payload.Fault.TheVariants as fault
use Rattle.schema_core.specs.declared.error.SchemaError.{SchemaError}
use Rattle.schema_core.specs.declared.error.SchemaError.TheVariants.{Memory}

-- a space, a carriage return or a line feed
abbrev pub is_margin : ℕ → Bool
is_margin b = b == 32 || b == 13 || b == 10

-- the text is what stands between such bytes: it neither begins nor ends with one
abbrev pub IsTrimmed : List ℕ → List ℕ → Type 0
IsTrimmed whole text =
    ((front : List ℕ) × (back : List ℕ) × AllPass is_margin front × AllPass is_margin back
    × (whole ≡ front ++ (text ++ back)))
    × (is_margin (slice_index text 0) ≡ false)
    × (is_margin (slice_index text (length text - 1)) ≡ false)

-- the wire bytes of an input: they are it, or its hexadecimal text stands for them
abbrev pub IsPayload : Bool → List ℕ → List ℕ → Type 0
IsPayload false input bytes = bytes ≡ input
IsPayload true input bytes = (text : List ℕ) × IsTrimmed input text × (decode_of text ≡ Ok bytes)

-- wire bytes as an answer: as they are, or as a line of hexadecimal text
abbrev pub shown : Bool → List ℕ → List ℕ
shown false bytes = bytes
shown true bytes = encode_lower bytes ++ 10 ∷ []

-- what is written for an input
abbrev pub Answers : Action → PoolType → List ℕ → Bool → List ℕ → List ℕ → Type 0
Answers Encode p name is_hex input written = IsUtf8 input
    × ((bytes : List ℕ) × Encoded p name input bytes × (written ≡ shown is_hex bytes))
Answers Decode p name is_hex input written = (bytes : List ℕ) × IsPayload is_hex input bytes
    × ((text : List ℕ) × Decoded p name bytes text × (written ≡ text ++ 10 ∷ []))
Answers Recode p name is_hex input written = (bytes : List ℕ) × IsPayload is_hex input bytes
    × ((recoded : List ℕ) × Recoded p name bytes recoded × (written ≡ shown is_hex recoded))

-- the input is no hexadecimal text
abbrev pub IsNoHex : List ℕ → Type 0
IsNoHex input = (text : List ℕ) × IsTrimmed input text × IsErr (decode_of text)

-- wire bytes are refused as such, or as hexadecimal text; want of memory is told apart
abbrev pub PayloadRefused : PoolType → List ℕ → Bool → List ℕ → Fault → Type 0
PayloadRefused p name is_hex input (fault.Schema e) = (bytes : List ℕ)
    × IsPayload is_hex input bytes × (e ≢ Memory) × BytesRefused p name bytes e
PayloadRefused p name is_hex input fault.NotHex = (is_hex ≡ true) × IsNoHex input
PayloadRefused p name is_hex input fault.NotUtf8 = ⊥
PayloadRefused p name is_hex input fault.Read = Unit {0}
PayloadRefused p name is_hex input fault.Write = ⊥
PayloadRefused p name is_hex input fault.Memory = Unit {0}

-- how an input is refused; an output is called faulty only for an input that has an answer
abbrev pub RefusesInput : Action → PoolType → List ℕ → Bool → List ℕ → Fault → Type 0
RefusesInput Encode p name is_hex input (fault.Schema e) = (e ≢ Memory)
    × TextRefused p name input e
RefusesInput Encode p name is_hex input fault.NotHex = ⊥
RefusesInput Encode p name is_hex input fault.NotUtf8 = ¬ IsUtf8 input
RefusesInput Encode p name is_hex input fault.Read = Unit {0}
RefusesInput Encode p name is_hex input fault.Write =
    (written : List ℕ) × Answers Encode p name is_hex input written
RefusesInput Encode p name is_hex input fault.Memory = Unit {0}
RefusesInput Decode p name is_hex input fault.Write =
    (written : List ℕ) × Answers Decode p name is_hex input written
RefusesInput Decode p name is_hex input f = PayloadRefused p name is_hex input f
RefusesInput Recode p name is_hex input fault.Write =
    (written : List ℕ) × Answers Recode p name is_hex input written
RefusesInput Recode p name is_hex input f = PayloadRefused p name is_hex input f

-- a refusal of the schema, as one of a payload
abbrev pub of_schema : SchemaError → Fault
of_schema Memory = fault.Memory
of_schema e = fault.Schema e
