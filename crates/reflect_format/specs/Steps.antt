-- What putting a value, or values, does to a message, and what a refusal leaves of it.
use Rattle.std.specs.Prelude.{◌≡◌, ◌≢◌, true, Bool, ℕ, List, Option, Some}
use Rattle.protobuf_model.specs.Values.{Single}
use Rattle.reflect_entries.specs.Entries.{IsAscending, value_at}
use Rattle.reflect_pool.specs.FieldsLeft.{field_type}
use Rattle.reflect_pool.specs.Shapes.{holds_list, holds_map}
use Rattle.reflect_pool.specs.declared.field.FieldDescriptor.{FieldDescriptor}
use Rattle.reflect_scalar.specs.FieldTypes.{extension_type}
use Rattle.reflect_message.specs.Declares.{Declares, Owns}
use Rattle.reflect_message.specs.Held.{fields_of, choices_of, extensions_of, unknown_of, UpdatesExtension, Same}
use Rattle.reflect_message.specs.Lists.{Lengthens, KeepsList}
use Rattle.reflect_message.specs.Oneofs.{IsExclusive, SetsField, sibling}
use Rattle.reflect_message.specs.Present.{is_held}
use Rattle.reflect_message.specs.Names.{DynamicMessage, Value}
use Rattle.reflect_format.specs.Kinds.{single_of}
use Rattle.reflect_extend.specs.Others.{KeepsOther, StaysUnset}
use Rattle.reflect_extend.specs.Puts.{PutsEntries, PutsSome}
use Rattle.reflect_extend.specs.Siblings.{KeepsRest, LacksSibling}
use Rattle.reflect_format.specs.Takes.{holds_many, target_pool, target_type}
use Rattle.reflect_format.specs.declared.target.Target.{Target}
use Rattle.reflect_format.specs.declared.target.Target.TheVariants as targets

-- what stands under the number of the field or the extension
abbrev pub held_by : DynamicMessage → Target → Option Value
held_by m (targets.Field f) = value_at (fields_of m) (field_type f).number
held_by m (targets.Extension x) = value_at (extensions_of m) (extension_type x).number

-- it is set
abbrev pub is_set : DynamicMessage → Target → Bool
is_set m t = is_held (target_pool t) (target_type t) (held_by m t)

-- what is held stays
abbrev pub Stays : DynamicMessage → DynamicMessage → Type 0
Stays old new = (fields_of new ≡ fields_of old) × (extensions_of new ≡ extensions_of old)
    × (unknown_of new ≡ unknown_of old)

-- the value is put
abbrev pub Puts : Target → Value → DynamicMessage → DynamicMessage → Type 0
Puts (targets.Field f) v old new = SetsField old new f v
Puts (targets.Extension x) v old new = UpdatesExtension old new (extension_type x).number (Some v)

-- where of each oneof one member at most was set, it is so still; of a field the records of its
-- number are its own
abbrev pub StaysExclusive : Target → DynamicMessage → DynamicMessage → Type 0
StaysExclusive (targets.Field f) old new =
    Owns old.descriptor f → IsExclusive old → IsExclusive new
StaysExclusive (targets.Extension x) old new = IsExclusive old → IsExclusive new

-- the numbers of what is held ascend
abbrev pub Ascends : DynamicMessage → Type 0
Ascends m = IsAscending (fields_of m) × IsAscending (extensions_of m)

-- where they did so they still do
abbrev pub StaysAscending : DynamicMessage → DynamicMessage → Type 0
StaysAscending old new = Ascends old → Ascends new

-- nothing else is changed, but that another member of the field's oneof may be unset
abbrev pub ChangesOnly : Target → DynamicMessage → DynamicMessage → Type 0
ChangesOnly (targets.Field f) old new =
    ((n : ℕ) → n ≢ (field_type f).number → sibling f (choices_of old) ≢ Some n
    → Same (fields_of old) (fields_of new) n)
    × (extensions_of new ≡ extensions_of old) × (unknown_of new ≡ unknown_of old)
ChangesOnly (targets.Extension x) old new =
    ((n : ℕ) → n ≢ (extension_type x).number → Same (extensions_of old) (extensions_of new) n)
    × (fields_of new ≡ fields_of old) × (unknown_of new ≡ unknown_of old)

-- the other member of the field's oneof that was noted holds nothing; an extension is in no oneof
abbrev pub Frees : Target → DynamicMessage → DynamicMessage → Type 0
Frees (targets.Field f) old new = LacksSibling f (choices_of old) (fields_of new)
Frees (targets.Extension x) old new = Unit {0}

-- values are put behind those of a list, or the entries that they are into a map, and the other
-- member of its oneof is unset; what stands under a list's number and is none stays
abbrev pub AddsValues : Target → List Value → DynamicMessage → DynamicMessage → Type 0
AddsValues t vs old new = ChangesOnly t old new
    × (holds_list (target_pool t) (target_type t) ≡ true
    → Lengthens (held_by old t) (held_by new t) vs)
    × (holds_map (target_pool t) (target_type t) ≡ true
    → PutsEntries (held_by old t) (held_by new t) vs)
    × StaysExclusive t old new × StaysAscending old new
    × (holds_many t ≡ true → Frees t old new)
    × (holds_list (target_pool t) (target_type t) ≡ true
    → KeepsOther (held_by old t) (held_by new t))

-- what is held stays, and of each oneof one member at most
abbrev pub Leaves : Target → DynamicMessage → DynamicMessage → Type 0
Leaves t old new = Stays old new × StaysExclusive t old new

-- nothing is changed but what stands under the number of the field or the extension
abbrev pub ChangesIt : Target → DynamicMessage → DynamicMessage → Type 0
ChangesIt (targets.Field f) old new = KeepsRest f (fields_of old) (fields_of new)
    × (extensions_of new ≡ extensions_of old) × (unknown_of new ≡ unknown_of old)
ChangesIt (targets.Extension x) old new = ChangesOnly (targets.Extension x) old new

-- a list keeps its values, as does what is none under its number, and of the entries that the
-- values are the first are put into a map; where nothing stood nothing does
abbrev pub AddsPart : Target → List Value → DynamicMessage → DynamicMessage → Type 0
AddsPart t vs old new = ChangesIt t old new
    × (holds_list (target_pool t) (target_type t) ≡ true
    → KeepsList (held_by old t) (held_by new t))
    × (holds_map (target_pool t) (target_type t) ≡ true
    → PutsSome (held_by old t) (held_by new t) vs)
    × StaysExclusive t old new × StaysAscending old new
    × (holds_list (target_pool t) (target_type t) ≡ true
    → KeepsOther (held_by old t) (held_by new t))
    × StaysUnset (held_by old t) (held_by new t)

-- the field of the number, one of the message's type, gets what is given
abbrev pub SetsNumber : ℕ → Single → DynamicMessage → DynamicMessage → Type 0
SetsNumber n x old new =
    (f : FieldDescriptor) × (v : Value) × Declares old.descriptor f × ((field_type f).number ≡ n)
    × (single_of v ≡ Some x) × SetsField old new f v × StaysExclusive (targets.Field f) old new
    × StaysAscending old new

-- the field of the number, one of the message's type, is left
abbrev pub LeavesNumber : ℕ → DynamicMessage → DynamicMessage → Type 0
LeavesNumber n old new = (f : FieldDescriptor) × Declares old.descriptor f
    × ((field_type f).number ≡ n) × Leaves (targets.Field f) old new
