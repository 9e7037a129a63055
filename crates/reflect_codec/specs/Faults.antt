-- Why bytes are refused as a descriptor record: what the error says of them is so, at whatever
-- depth it stands. Of several faults any one may be told.
use Rattle.std.specs.Prelude.{◌≡◌, ◌⊎◌, ℕ, zero, suc, ℤ, ◌-◌, ◌==◌, Bool, true, false, List, [], ◌∷◌, Some}
use Rattle.std.specs.List.{Any, list_any}
use Rattle.std.specs.Str.{IsUtf8}
use Rattle.reflect_wire.specs.Faults.{VarintFault, SetFault}
use Rattle.reflect_wire.specs.Reads.{Fronts}
use Rattle.reflect_wire.specs.declared.wire_error.WireError.{WireError}
use Rattle.reflect_wire.specs.declared.wire_error.WireError.TheVariants.{BadWireType, BadUtf8, TooDeep}
use Rattle.reflect_codec.specs.declared.options.OptionsOf.{OptionsOf}
use Rattle.reflect_codec.specs.declared.options.OptionsOf.TheVariants as of
use Rattle.reflect_codec.specs.Meaning.{is_field, is_enum, is_message}
use Rattle.reflect_codec.specs.Reading.{Value, number, eight_bytes, payload, Field, SpellsFields, values_at, IsPayload, HasPayload, SpellsNumbers, IsPartBelow, AreJoined}

-- the bytes are no records of at most so many levels, and this is why
pub record BytesFault (levels : ℕ) (bytes : List ℕ) (e : WireError) : Type 0 where
  pub none : (fs : List Field) → SpellsFields levels bytes fs → ⊥
  pub why : SetFault levels bytes e

-- one of the values is refused
abbrev pub OneOf : (Value → WireError → Type 0) → List Value → WireError → Type 0
OneOf Fault vs e = Any (λ v. Fault v e) vs

-- the same of a field that is read only where it is wanted
abbrev pub OneIf : Bool → (Value → WireError → Type 0) → List Value → WireError → Type 0
OneIf true Fault vs e = OneOf Fault vs e
OneIf false Fault vs e = ⊥

-- one of the values of the fields of these numbers is refused
abbrev pub InFields : (Value → WireError → Type 0) → List ℕ → List Field → WireError → Type 0
InFields Fault ns fs e = (n : ℕ) × (list_any (λ m. m == n) ns ≡ true)
    × OneOf Fault (values_at n fs) e

-- values, by the kind of the field

abbrev pub NumberFault : Value → WireError → Type 0
NumberFault (number n) e = ⊥
NumberFault _ e = e ≡ BadWireType

abbrev pub DoubleFault : Value → WireError → Type 0
DoubleFault (eight_bytes n) e = ⊥
DoubleFault _ e = e ≡ BadWireType

abbrev pub PayloadFault : Value → WireError → Type 0
PayloadFault (payload p) e = ⊥
PayloadFault _ e = e ≡ BadWireType

abbrev pub TextFault : Value → WireError → Type 0
TextFault v e = PayloadFault v e
    ⊎ ((bytes : List ℕ) × IsPayload v bytes × (IsUtf8 bytes → ⊥) × (e ≡ BadUtf8))

-- the bytes of a packed list are no numbers: behind some of them stands none, and this is why
pub record PackedFault (bytes : List ℕ) (e : WireError) : Type 0 where
  pub none : (zs : List ℤ) → SpellsNumbers bytes zs → ⊥
  pub why : (zs : List ℤ) × (rest : List ℕ) × Fronts SpellsNumbers bytes zs rest
      × VarintFault 10 rest e

abbrev pub NumbersFault : Value → WireError → Type 0
NumbersFault (number n) e = ⊥
NumbersFault (payload p) e = PackedFault p e
NumbersFault _ e = e ≡ BadWireType

-- no record can stand there: the value has another form, or no level is left for it
abbrev pub PlaceFault : ℕ → Value → WireError → Type 0
PlaceFault levels v e = PayloadFault v e
    ⊎ ((bytes : List ℕ) × IsPayload v bytes × (levels ≡ 0) × (e ≡ TooDeep))

-- no record stands there
abbrev pub PartFault : ℕ → ℕ → Value → WireError → Type 0
PartFault outside inside v e = PlaceFault outside v e
    ⊎ ((bytes : List ℕ) × HasPayload outside v bytes × BytesFault inside bytes e)

-- no record stands there, or one whose fields are refused
abbrev pub RecordFault : (ℕ → List Field → WireError → Type 0) → ℕ → Value → WireError → Type 0
RecordFault InRecord levels v e = PartFault levels (levels - 1) v e
    ⊎ ((fs : List Field) × IsPartBelow levels (levels - 1) v fs × InRecord (levels - 1) fs e)

-- no record stands in one of the values, or the fields of all of them, joined, are refused
abbrev pub JoinedFault : (List Field → WireError → Type 0) → ℕ → ℕ → List Value → WireError → Type 0
JoinedFault InRecord outside inside vs e = OneOf (PartFault outside inside) vs e
    ⊎ ((fs : List Field) × AreJoined outside inside vs (Some fs) × InRecord fs e)

abbrev pub MergedFault : (ℕ → List Field → WireError → Type 0) → ℕ → List Value → WireError → Type 0
MergedFault InRecord levels vs e = JoinedFault (InRecord (levels - 1)) levels (levels - 1) vs e

-- the fields of records, by their numbers

pub record InNamePart (levels : ℕ) (fs : List Field) (e : WireError) : Type 0 where
  pub why : InFields TextFault (1 ∷ []) fs e ⊎ InFields NumberFault (2 ∷ []) fs e

pub record InUninterpretedOption (levels : ℕ) (fs : List Field) (e : WireError) : Type 0 where
  pub why : InFields (RecordFault InNamePart levels) (2 ∷ []) fs e
      ⊎ InFields TextFault (3 ∷ 8 ∷ []) fs e ⊎ InFields NumberFault (4 ∷ 5 ∷ []) fs e
      ⊎ InFields DoubleFault (6 ∷ []) fs e ⊎ InFields PayloadFault (7 ∷ []) fs e

-- of options those that linking reads itself; levels are counted from them
pub record InOptions (kind : OptionsOf) (fs : List Field) (e : WireError) : Type 0 where
  pub why : OneIf (is_field kind) NumberFault (values_at 2 fs) e
      ⊎ OneIf (is_enum kind) NumberFault (values_at 2 fs) e
      ⊎ OneIf (is_message kind) NumberFault (values_at 7 fs) e
      ⊎ OneOf (RecordFault InUninterpretedOption 100) (values_at 999 fs) e

abbrev pub OptionsFault : OptionsOf → ℕ → List Value → WireError → Type 0
OptionsFault kind levels vs e = JoinedFault (InOptions kind) levels 100 vs e

pub record InField (levels : ℕ) (fs : List Field) (e : WireError) : Type 0 where
  pub why : InFields TextFault (1 ∷ 2 ∷ 6 ∷ 7 ∷ 10 ∷ []) fs e
      ⊎ InFields NumberFault (3 ∷ 4 ∷ 5 ∷ 9 ∷ 17 ∷ []) fs e
      ⊎ OptionsFault of.Field levels (values_at 8 fs) e

pub record InOneof (levels : ℕ) (fs : List Field) (e : WireError) : Type 0 where
  pub why : InFields TextFault (1 ∷ []) fs e ⊎ OptionsFault of.Other levels (values_at 2 fs) e

pub record InEnumValue (levels : ℕ) (fs : List Field) (e : WireError) : Type 0 where
  pub why : InFields TextFault (1 ∷ []) fs e ⊎ InFields NumberFault (2 ∷ []) fs e
      ⊎ OptionsFault of.Other levels (values_at 3 fs) e

-- a range of numbers that are reserved in a message or an enum
pub record InRange (levels : ℕ) (fs : List Field) (e : WireError) : Type 0 where
  pub why : InFields NumberFault (1 ∷ 2 ∷ []) fs e

pub record InEnum (levels : ℕ) (fs : List Field) (e : WireError) : Type 0 where
  pub why : InFields TextFault (1 ∷ 5 ∷ []) fs e
      ⊎ InFields (RecordFault InEnumValue levels) (2 ∷ []) fs e
      ⊎ OptionsFault of.Enum levels (values_at 3 fs) e
      ⊎ InFields (RecordFault InRange levels) (4 ∷ []) fs e

pub record InMethod (levels : ℕ) (fs : List Field) (e : WireError) : Type 0 where
  pub why : InFields TextFault (1 ∷ 2 ∷ 3 ∷ []) fs e ⊎ InFields NumberFault (5 ∷ 6 ∷ []) fs e
      ⊎ OptionsFault of.Other levels (values_at 4 fs) e

pub record InService (levels : ℕ) (fs : List Field) (e : WireError) : Type 0 where
  pub why : InFields TextFault (1 ∷ []) fs e
      ⊎ InFields (RecordFault InMethod levels) (2 ∷ []) fs e
      ⊎ OptionsFault of.Other levels (values_at 3 fs) e

pub record InLocation (levels : ℕ) (fs : List Field) (e : WireError) : Type 0 where
  pub why : InFields NumbersFault (1 ∷ 2 ∷ []) fs e ⊎ InFields TextFault (3 ∷ 4 ∷ 6 ∷ []) fs e

pub record InSourceInfo (levels : ℕ) (fs : List Field) (e : WireError) : Type 0 where
  pub why : InFields (RecordFault InLocation levels) (1 ∷ []) fs e

pub record InExtensionRange (levels : ℕ) (fs : List Field) (e : WireError) : Type 0 where
  pub why : InFields NumberFault (1 ∷ 2 ∷ []) fs e ⊎ OptionsFault of.Other levels (values_at 3 fs) e

-- one level of a message type, given why its nested types are refused
pub record InLevel (Nested : Value → WireError → Type 0) (levels : ℕ) (fs : List Field)
    (e : WireError) : Type 0 where
  pub why : InFields TextFault (1 ∷ 10 ∷ []) fs e
      ⊎ InFields (RecordFault InField levels) (2 ∷ 6 ∷ []) fs e ⊎ InFields Nested (3 ∷ []) fs e
      ⊎ InFields (RecordFault InEnum levels) (4 ∷ []) fs e
      ⊎ InFields (RecordFault InExtensionRange levels) (5 ∷ []) fs e
      ⊎ OptionsFault of.Message levels (values_at 7 fs) e
      ⊎ InFields (RecordFault InOneof levels) (8 ∷ []) fs e
      ⊎ InFields (RecordFault InRange levels) (9 ∷ []) fs e

abbrev pub MessageFault : ℕ → Value → WireError → Type 0
MessageFault zero v e = PlaceFault zero v e
MessageFault (suc levels) v e = PartFault (suc levels) levels v e
    ⊎ ((fs : List Field) × IsPartBelow (suc levels) levels v fs
    × InLevel (MessageFault levels) levels fs e)

pub record InFile (levels : ℕ) (fs : List Field) (e : WireError) : Type 0 where
  pub why : InFields TextFault (1 ∷ 2 ∷ 3 ∷ 12 ∷ []) fs e
      ⊎ InFields NumbersFault (10 ∷ 11 ∷ []) fs e ⊎ InFields (MessageFault levels) (4 ∷ []) fs e
      ⊎ InFields (RecordFault InEnum levels) (5 ∷ []) fs e
      ⊎ InFields (RecordFault InService levels) (6 ∷ []) fs e
      ⊎ InFields (RecordFault InField levels) (7 ∷ []) fs e
      ⊎ OptionsFault of.Other levels (values_at 8 fs) e
      ⊎ MergedFault InSourceInfo levels (values_at 9 fs) e

pub record InSet (levels : ℕ) (fs : List Field) (e : WireError) : Type 0 where
  pub why : InFields (RecordFault InFile levels) (1 ∷ []) fs e

-- the bytes of a file, and of a set: they are no records, or their fields are refused
abbrev pub FileBytesFault : List ℕ → WireError → Type 0
FileBytesFault bytes e = BytesFault 100 bytes e
    ⊎ ((fs : List Field) × SpellsFields 100 bytes fs × InFile 100 fs e)

abbrev pub SetBytesFault : List ℕ → WireError → Type 0
SetBytesFault bytes e = BytesFault 100 bytes e
    ⊎ ((fs : List Field) × SpellsFields 100 bytes fs × InSet 100 fs e)
