-- The field that a call by number or by name means: the first of the type that has it, if messages
-- hold it.
use Rattle.std.specs.Prelude.{◌≡◌, ◌⊎◌, ℕ, Bool, false, List, Option, None, Some}
use Rattle.reflect_entries.specs.Entries.{value_at}
use Rattle.reflect_tables.specs.Types.{FieldType}
use Rattle.reflect_pool.specs.FieldsLeft.{field_type}
use Rattle.reflect_pool.specs.Finds.{FindsField}
use Rattle.reflect_pool.specs.declared.field.FieldDescriptor.{FieldDescriptor}
use Rattle.reflect_pool.specs.declared.message.MessageDescriptor.{MessageDescriptor}
use Rattle.reflect_scalar.specs.FieldTypes.{field_pool}
use Rattle.reflect_scalar.specs.Floats.{HoldsFloats}
use Rattle.reflect_message.specs.Declares.{Owns}
use Rattle.reflect_message.specs.Held.{fields_of, extensions_of, unknown_of, UpdatesField}
use Rattle.reflect_message.specs.Oneofs.{SetsField}
use Rattle.reflect_message.specs.Present.{held_if_set, is_held}
use Rattle.reflect_message.specs.Shown.{Shows}
use Rattle.reflect_message.specs.declared.field_ref.FieldRef.{FieldRef}
use Rattle.reflect_message.specs.Names.{DynamicMessage, Value}

-- what is asked of a field
abbrev pub Asked : Type 1
Asked = FieldType → Type 0

abbrev pub HasNumber : ℕ → Asked
HasNumber n f = f.number ≡ n

abbrev pub HasName : List ℕ → Asked
HasName name f = f.name ≡ name

-- the field is the first of the type of which P holds, and messages hold it
pub record IsMeant (P : Asked) (m : MessageDescriptor) (f : FieldDescriptor) : Type 0 where
  pub message : f.message ≡ m
  pub first : FindsField P m (Some f)
  pub held : HoldsFloats (field_pool f) (field_type f) → ⊥

-- what is meant is the message's own: the first field of its number, as each is in a linked pool
abbrev pub OwnsMeant : Asked → MessageDescriptor → Type 0
OwnsMeant P m = (f : FieldDescriptor) → IsMeant P m f → Owns m f

-- a field is meant
abbrev pub SomeMeant : Asked → MessageDescriptor → Type 0
SomeMeant P m = (f : FieldDescriptor) × IsMeant P m f

-- no field is meant
abbrev pub NoneMeant : Asked → MessageDescriptor → Type 0
NoneMeant P m = (f : FieldDescriptor) → IsMeant P m f → ⊥

-- one thing is so of what has P, or another where nothing has it
abbrev pub IfAny : {F : Type 0} → (F → Type 0) → (F → Type 0) → Type 0 → Type 0
IfAny {F} P of_it otherwise = ((f : F) × P f × of_it f) ⊎ (((f : F) → P f → ⊥) × otherwise)

-- one thing is so of the field that is meant, or another where none is
abbrev pub IfMeant : Asked → MessageDescriptor → (FieldDescriptor → Type 0) → Type 0 → Type 0
IfMeant P m = IfAny (IsMeant P m)

-- what a message has under the field's number
abbrev pub under : DynamicMessage → FieldDescriptor → Option Value
under m f = value_at (fields_of m) (field_type f).number

-- the option has a value with Q
abbrev pub HasOne : {A : Type 0} → (A → Type 0) → Option A → Type 0
HasOne Q None = ⊥
HasOne Q (Some x) = Q x

-- the field's value or its default is lent, or nothing where there is no field
abbrev pub Lends : Asked → DynamicMessage → Option FieldRef → Type 0
Lends P m r =
    IfMeant P m.descriptor (λ f. HasOne (Shows (field_pool f) (field_type f) (under m f)) r)
    (r ≡ None)

-- a field is meant, under which the message has nothing
abbrev pub HasNothing : Asked → DynamicMessage → Type 0
HasNothing P m = (f : FieldDescriptor) × IsMeant P m.descriptor f × (under m f ≡ None)

-- the field is set as by its descriptor, or nothing is changed where there is no field
abbrev pub SetsMeant : Asked → DynamicMessage → DynamicMessage → Value → Type 0
SetsMeant P old new v = IfMeant P old.descriptor (λ f. SetsField old new f v) (new ≡ old)

-- the field is unset, and nothing else is changed; nothing is where there is no field
abbrev pub UnsetsMeant : Asked → DynamicMessage → DynamicMessage → Type 0
UnsetsMeant P old new =
    IfMeant P old.descriptor (λ f. UpdatesField old new (field_type f).number None) (new ≡ old)

-- so it is, and what it held is given, if it was set
abbrev pub TakesMeant : Asked → DynamicMessage → DynamicMessage → Option Value → Type 0
TakesMeant P old new taken =
    IfMeant P old.descriptor
    (λ f. UpdatesField old new (field_type f).number None
    × (taken ≡ held_if_set (field_pool f) (field_type f) (under old f)))
    ((new ≡ old) × (taken ≡ None))

-- whether the field is set; it is not where there is no field
abbrev pub TellsMeant : Asked → DynamicMessage → Bool → Type 0
TellsMeant P m set =
    IfMeant P m.descriptor (λ f. set ≡ is_held (field_pool f) (field_type f) (under m f))
    (set ≡ false)

-- fields, extensions and other records stay
pub record StaysWhole (old new : DynamicMessage) : Type 0 where
  pub fields : fields_of new ≡ fields_of old
  pub extensions : extensions_of new ≡ extensions_of old
  pub unknown : unknown_of new ≡ unknown_of old
