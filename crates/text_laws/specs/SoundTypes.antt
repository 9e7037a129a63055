-- What the types of every schema have, whatever the names in it are.
use Rattle.std.specs.Prelude.{◌≡◌, ℕ, ℤ, ◌<◌, ◌^◌, true, Option, Some, FitsSigned}
use Rattle.std.specs.Int.{w32}
use Rattle.protox_lex.specs.Class.{Text}
use Rattle.protobuf_model.specs.Types.{Name, Scalar, string, bytes, scalar, Part, Key, keyed, Field, Types}
use Rattle.protobuf_model.specs.Typed.{HaveDefaults}
use Rattle.text_model.specs.Plain.{AreBytes}
use Rattle.text_model.specs.Schemas.{Schema, HoldsOne, key_part}

-- one value of the kind
abbrev pub HoldsScalar : Scalar → Option Field → Type 0
HoldsScalar k o = (part : Part) × (part.kind ≡ scalar k) × HoldsOne part o

pub record HasSoundTypes (w : Schema) : Type 0 where
  -- the defaults of a map's key and value are values of their kinds
  pub defaults : HaveDefaults w.types
  -- a field has a number that fields may have
  pub numbers : (t : Name) (n : ℕ) (f : Field) → w.types t n ≡ Some f → (0 < n) × (n < 2 ^ 29)
  -- the number of an enum's value has 32 bits
  pub enums : (t : Name) (n : ℕ) (v : Text) (z : ℤ)
      → (w.names t).enum_number n v ≡ Some z → FitsSigned w32 z
  -- the type of a map's entries has the key under 1 and the value under 2
  pub entries : (t : Name) (n : ℕ) (f : Field) (key : Key)
      → w.types t n ≡ Some f → f.label ≡ keyed key
      → HoldsOne (key_part key) (w.types ((w.names t).entry n) 1)
      × HoldsOne f.part (w.types ((w.names t).entry n) 2)
  -- google.protobuf.Any has a string under 1 and bytes under 2
  pub any : (t : Name) → w.is_any t ≡ true
      → HoldsScalar string (w.types t 1) × HoldsScalar bytes (w.types t 2)

-- the defaults of a map's key and value that are bytes hold bytes
abbrev pub HaveSmallDefaults : Types → Type 0
HaveSmallDefaults types =
    (t : Name) (n : ℕ) (f : Field) (key : Key)
    → types t n ≡ Some f → f.label ≡ keyed key → AreBytes key.default × AreBytes f.part.default
