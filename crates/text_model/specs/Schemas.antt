-- What a text needs of message types beside their fields: the names of fields, of extensions and of
-- enums' values.
use Rattle.std.specs.Prelude.{◌≡◌, ℕ, ℤ, ◌==◌, cond, Bool, false, List, [], ◌∷◌, Option, Some, codes}
use Rattle.std.specs.List.{filter}
use Rattle.protox_lex.specs.Class.{Text}
use Rattle.protobuf_model.specs.Values.{Message}
use Rattle.protobuf_model.specs.Bytes.{is_declared}
use Rattle.protobuf_model.specs.Types.{Name, enumeration, scalar, Part, Key, one, keyed, Field, rival, Types}

-- how texts name what a message type has
pub record Names : Type 0 where
  -- the number of the field of a name, and of the extension of a full name: a group has the name of
  -- its type, and the name of a float finds none
  pub field : Text → Option ℕ
  pub extension : Text → Option ℕ
  -- the name that the field, or the full name that the extension of a number is printed under
  pub name : ℕ → Text
  -- the numbers of the declared fields, as they are declared
  pub declared : List ℕ
  -- of the enum of a field: the number of the value of a name, and the name that the value of a
  -- number is printed as
  pub enum_number : ℕ → Text → Option ℤ
  pub enum_name : ℕ → ℤ → Option Text
  -- of a map: the type of its entries
  pub entry : ℕ → Name

pub record Schema : Type 0 where
  pub types : Types
  pub names : Name → Names
  -- the type of a full name
  pub message : Text → Option Name
  -- the type is google.protobuf.Any, with a string under 1 and bytes under 2, each singular and in
  -- no oneof
  pub is_any : Name → Bool
  -- the message of a type that bytes mean
  pub decoded : Name → Text → Option Message

-- what the fields of a text in one message are found in
pub record Shape : Type 0 where
  pub fields : ℕ → Option Field
  pub names : Names
  pub is_any : Bool

abbrev pub shape_of : Schema → Name → Shape
shape_of w t = record { fields = w.types t; names = w.names t; is_any = w.is_any t }

-- the name finds the field or the extension again
abbrev pub Finds : Names → ℕ → Field → Type 0
Finds names n f =
    cond f.extension (names.extension (names.name n)) (names.field (names.name n)) ≡ Some n

-- what is printed as a name is found by it, and each declared field stands once among them
pub record AreNames (type : ℕ → Option Field) (names : Names) : Type 0 where
  pub fields : (n : ℕ) (f : Field) → type n ≡ Some f → Finds names n f
  pub enums : (n : ℕ) (z : ℤ) (w : Text)
      → names.enum_name n z ≡ Some w → names.enum_number n w ≡ Some z
  pub declared : (n : ℕ)
      → filter (λ q. q == n) names.declared ≡ cond (is_declared (type n)) (n ∷ []) []

abbrev pub key_part : Key → Part
key_part key =
    record { kind = scalar key.kind; presence = key.presence; default = key.default }

-- one value, and such a one
abbrev pub HoldsOne : Part → Option Field → Type 0
HoldsOne part o =
    (oneof : Option ℕ) × (extension : Bool)
    × (o ≡ Some (record { part = part; label = one; oneof = oneof; extension = extension }))

-- the type of the entries of a map has the key under 1 and the value under 2, each by its name, and
-- not both in one oneof; a key is of no enum, and that of the values finds the names that are
-- printed in the map
pub record IsEntryType (w : Schema) (t : Name) (key : Key) (part : Part)
    (enum_name : ℤ → Option Text) : Type 0 where
  pub key_named : (w.names t).field (codes "key") ≡ Some 1
  pub value_named : (w.names t).field (codes "value") ≡ Some 2
  pub holds_key : HoldsOne (key_part key) (w.types t 1)
  pub holds_value : HoldsOne part (w.types t 2)
  pub apart : rival (w.types t) 2 1 ≡ false
  pub no_enum : key.kind ≡ enumeration → ⊥
  pub enums : (z : ℤ) (v : Text) → enum_name z ≡ Some v → (w.names t).enum_number 2 v ≡ Some z

-- each type has such names, and the entries of each of its maps have such a type
pub record HaveNames (w : Schema) : Type 0 where
  pub each : (t : Name) → AreNames (w.types t) (w.names t)
  pub entries : (t : Name) (n : ℕ) (f : Field) (key : Key)
      → w.types t n ≡ Some f → f.label ≡ keyed key
      → IsEntryType w ((w.names t).entry n) key f.part ((w.names t).enum_name n)
