-- Types of messages: which fields have which numbers (protobuf.dev, "Language Guide").
use Rattle.std.specs.Prelude.{ℕ, List, ◌==◌, ◌&&◌, not, Bool, false, Option, None, Some}
use Rattle.protobuf_model.specs.Values.{Single}

-- the full name of a type
abbrev pub Name : Type 0
Name = List ℕ

-- the kinds of values that are no messages
pub data Scalar : Type 0 where
  int32 : Scalar
  int64 : Scalar
  uint32 : Scalar
  uint64 : Scalar
  sint32 : Scalar
  sint64 : Scalar
  fixed32 : Scalar
  fixed64 : Scalar
  sfixed32 : Scalar
  sfixed64 : Scalar
  bool : Scalar
  string : Scalar
  bytes : Scalar
  enumeration : Scalar

-- a message stands behind its length, or between the tags of a group
pub data Frame : Type 0 where
  sized : Frame
  tagged : Frame

pub data Kind : Type 0 where
  scalar : Scalar → Kind
  nested : Frame → Name → Kind

-- a single value: without presence, one that is the default is not set
pub record Part : Type 0 where
  pub kind : Kind
  pub presence : Bool
  pub default : Single

-- a map's key
pub record Key : Type 0 where
  pub kind : Scalar
  pub presence : Bool
  pub default : Single

-- one value, a list (packed or not), or a map (its values are the field's part)
pub data Label : Type 0 where
  one : Label
  many : Bool → Label
  keyed : Key → Label

pub record Field : Type 0 where
  pub part : Part
  pub label : Label
  pub oneof : Option ℕ
  pub extension : Bool

-- the field of a number, of the type of a name
abbrev pub Types : Type 0
Types = Name → ℕ → Option Field

abbrev pub oneof_of : Option Field → Option ℕ
oneof_of None = None
oneof_of (Some f) = f.oneof

abbrev pub same_oneof : Option ℕ → Option ℕ → Bool
same_oneof (Some a) (Some b) = a == b
same_oneof _ _ = false

-- the numbers are those of two members of one oneof
abbrev pub rival : (ℕ → Option Field) → ℕ → ℕ → Bool
rival type n q = not (q == n) && same_oneof (oneof_of (type n)) (oneof_of (type q))
