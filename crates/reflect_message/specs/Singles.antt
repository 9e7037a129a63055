-- Values as single ones.
use Rattle.std.specs.Prelude.{Option, Some, None, string_bytes}
use Rattle.reflect_scalar.specs.Singles.{Single, truth, int32, int64, uint32, uint64, text, blob, enumerated}
use Rattle.reflect_message.specs.declared.parts.HeldOf.TheOpen.{ValueOf-F}
use Rattle.reflect_message.specs.declared.parts.HeldOf.TheViews.{out-ValueOf}
use Rattle.reflect_message.specs.declared.value.ValueOf.{ValueOf}

-- a value that is no message, list or map, without where it lies in memory
abbrev pub single : {D : Type 0} → ValueOf D → Option Single
single {D} v = elim (out-ValueOf D v) [
  | ValueOf-F.Bool b ↦ Some (truth b)
  | ValueOf-F.I32 z ↦ Some (int32 z)
  | ValueOf-F.I64 z ↦ Some (int64 z)
  | ValueOf-F.U32 n ↦ Some (uint32 n)
  | ValueOf-F.U64 n ↦ Some (uint64 n)
  | ValueOf-F.String t ↦ Some (text (string_bytes t))
  | ValueOf-F.Bytes b ↦ Some (blob b.items)
  | ValueOf-F.EnumNumber z ↦ Some (enumerated z)
  | ValueOf-F.Message m ↦ None
  | ValueOf-F.List vs ↦ None
  | ValueOf-F.Map es ↦ None
]
