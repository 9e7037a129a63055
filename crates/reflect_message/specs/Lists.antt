-- Lists, and what they hold behind the values that are put there.
use Rattle.std.specs.Prelude.{◌≡◌, List, [], ◌++◌, Option, None, Some, IfSome}
use Rattle.reflect_message.specs.Names.{Value}
use Rattle.reflect_message.specs.declared.parts.HeldOf.TheOpen.{ValueOf-F}
use Rattle.reflect_message.specs.declared.parts.HeldOf.TheViews.{out-ValueOf}
use Rattle.reflect_message.specs.declared.value.ValueOf.{ValueOf}

-- the values of a list
abbrev pub list_items : {D : Type 0} → ValueOf D → Option (List (ValueOf D))
list_items {D} v = elim (out-ValueOf D v) [
  | ValueOf-F.Bool b ↦ None
  | ValueOf-F.I32 z ↦ None
  | ValueOf-F.I64 z ↦ None
  | ValueOf-F.U32 n ↦ None
  | ValueOf-F.U64 n ↦ None
  | ValueOf-F.String t ↦ None
  | ValueOf-F.Bytes b ↦ None
  | ValueOf-F.EnumNumber z ↦ None
  | ValueOf-F.Message m ↦ None
  | ValueOf-F.List vs ↦ Some vs.items
  | ValueOf-F.Map es ↦ None
]

-- the values of a list; where nothing stands there are none
abbrev pub items_held : Option Value → Option (List Value)
items_held None = Some []
items_held (Some v) = list_items v

-- behind the values of a list, none where nothing stood, stand these
abbrev pub Lengthens : Option Value → Option Value → List Value → Type 0
Lengthens old new added = IfSome (items_held old)
    (λ before. items_held new ≡ Some (before ++ added))

-- a list has the values that it had, none where nothing stands
abbrev pub KeepsList : Option Value → Option Value → Type 0
KeepsList old new = items_held new ≡ items_held old
