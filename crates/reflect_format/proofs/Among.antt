-- Of which of some fields a message holds a value.
use Rattle.std.proofs.Common.{true, suc, List, ◌∷◌, refl, arith}
use Rattle.reflect_numbered.specs.Called.{HasNumber, TellsMeant}
use Rattle.reflect_tables.specs.Types.{FieldType}
use Rattle.reflect_message.specs.Names.{DynamicMessage}
use Rattle.reflect_format.specs.Refusals.{HoldsAmong}

pub first_held : (m : DynamicMessage) (f : FieldType) (fs : List FieldType) → TellsMeant (HasNumber f.number) m true → HoldsAmong m (f ∷ fs)
first_held m f fs held = (0, f, omega arith, refl, held)

pub held_behind : (m : DynamicMessage) (f : FieldType) (fs : List FieldType) → HoldsAmong m fs → HoldsAmong m (f ∷ fs)
held_behind m f fs h = (suc h.0, h.1, omega (arith, h.2), h.3, h.4)
