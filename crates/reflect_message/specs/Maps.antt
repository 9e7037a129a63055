-- Maps, entry by entry.
use Rattle.std.specs.Prelude.{List, [], Option, None, Some}
use Rattle.std.specs.declared.cmp.Ordering.{Ordering}
use Rattle.reflect_scalar.specs.contracts.map_key.MapKeyOrd.TheImpl.{ghosts}
use Rattle.reflect_scalar.specs.declared.map_key.MapKey.{MapKey}
use Rattle.reflect_message.specs.Names.{Value}
use Rattle.reflect_message.specs.declared.parts.HeldOf.TheOpen.{ValueOf-F}
use Rattle.reflect_message.specs.declared.parts.HeldOf.TheViews.{out-ValueOf}
use Rattle.reflect_message.specs.declared.value.ValueOf.{ValueOf}

-- the entries of a map, by ascending key
abbrev pub map_entries : {D : Type 0} → ValueOf D → Option (List (MapKey × ValueOf D))
map_entries {D} v = elim (out-ValueOf D v) [
  | ValueOf-F.Bool b ↦ None
  | ValueOf-F.I32 z ↦ None
  | ValueOf-F.I64 z ↦ None
  | ValueOf-F.U32 n ↦ None
  | ValueOf-F.U64 n ↦ None
  | ValueOf-F.String t ↦ None
  | ValueOf-F.Bytes b ↦ None
  | ValueOf-F.EnumNumber z ↦ None
  | ValueOf-F.Message m ↦ None
  | ValueOf-F.List vs ↦ None
  | ValueOf-F.Map es ↦ Some es.entries
]

-- where nothing stands there are none
abbrev pub entries_held : Option Value → Option (List (MapKey × Value))
entries_held None = Some []
entries_held (Some v) = map_entries v

-- the order of keys
abbrev pub key_order : MapKey → MapKey → Ordering
key_order = ghosts.cmp
