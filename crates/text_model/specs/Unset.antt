-- Types whose fields are read as not set where they are printed though they are not set.
use Rattle.std.specs.Prelude.{◌≡◌, ℕ, true, false, None, Some}
use Rattle.protobuf_model.specs.Values.{Single}
use Rattle.protobuf_model.specs.Types.{Name, Kind, scalar, nested, Part, Label, one, Field, Types}
use Rattle.protobuf_model.specs.Scalars.{Suits}
use Rattle.text_model.specs.Plain.{AreBytes}
use Rattle.text_model.specs.Printed.{lacks_presence}

-- a value of the kind, which holds bytes where it holds any; no message is one
abbrev pub IsOfKind : Kind → Single → Type 0
IsOfKind (scalar k) d = Suits k d × AreBytes d
IsOfKind (nested frame u) d = ⊥

-- what stands for one value is one; that of a list or of a map is empty
abbrev pub HasReadDefault : Part → Label → Type 0
HasReadDefault part one = IsOfKind part.kind part.default
HasReadDefault part _ = Unit {0}

-- a declared field without presence is in no oneof, and its default is a value of its kind
abbrev pub HaveReadDefaults : Types → Type 0
HaveReadDefaults types =
    (t : Name) (n : ℕ) (f : Field) → types t n ≡ Some f → f.extension ≡ false
    → lacks_presence f.part f.label ≡ true
    → (f.oneof ≡ None) × HasReadDefault f.part f.label
