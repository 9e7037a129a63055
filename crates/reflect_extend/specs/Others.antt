-- What stands under a field's number and stays.
use Rattle.std.specs.Prelude.{◌≡◌, Option, None, Some}
use Rattle.reflect_message.specs.Lists.{list_items}
use Rattle.reflect_message.specs.Names.{Value}

-- a value that is no list stays
abbrev pub KeepsOther : Option Value → Option Value → Type 0
KeepsOther None new = Unit {0}
KeepsOther (Some v) new = list_items v ≡ None → new ≡ Some v

-- where nothing stood, nothing does
abbrev pub StaysUnset : Option Value → Option Value → Type 0
StaysUnset old new = old ≡ None → new ≡ None
