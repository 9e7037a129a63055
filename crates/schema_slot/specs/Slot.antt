-- what a slot owns
use Rattle.std.specs.Prelude.{Bool, true, false, Option, Some, None}
use base.Fml.{Fml, ftrue, ffalse}
use denote.RawPtr.{Ptr}
use mir.Syntax.{Ty}
use Rattle.std.specs.contracts.impls.GlobalAllocator.TheImpl.{ghosts}
use Rattle.std.specs.Global.{Box, Global}
use Rattle.std.specs.Box.Ownership.{box_owns}
use Rattle.schema_slot.specs.declared.session.Session.{Session}
use Rattle.schema_slot.specs.contracts.session.Session.{the_row}
use Rattle.schema_slot.specs.declared.loose.Loose.{Loose}

-- the right to free a block of the C library's heap
abbrev pub chunk : Ty → Ptr → Fml
chunk = ghosts.dealloc_token (record { memory = record { seal = tt } })

-- a full slot owns the value at its pointer, with the right to free its block; an empty one owns
-- nothing
abbrev pub slot_owns : Bool → Ptr → Option Session → Fml
slot_owns true at (Some x) = box_owns chunk the_row at x
slot_owns false at None = ftrue
slot_owns _ at _ = ffalse

-- the value in an optional box
abbrev pub unboxed : Option (Box Session) → Option Session
unboxed None = None
unboxed (Some b) = Some b.value

-- the value behind an optional pointer
abbrev pub loosened : Option (Loose Session Global) → Option Session
loosened None = None
loosened (Some l) = Some l.value
