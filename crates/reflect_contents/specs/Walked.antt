-- What a message holds that is set, in the order in which walks give it.
use Rattle.std.specs.Prelude.{◌≡◌, ℕ, List, [], map, cond, ◌==◌, ◌&&◌, Option, None, Some, option_map}
use Rattle.std.specs.Borrow.{Bor}
use Rattle.std.specs.List.{filter_map, find}
use Rattle.std.specs.Option.{option_and_then}
use Rattle.reflect_entries.specs.Ahead.{taken}
use Rattle.reflect_tables.specs.Types.{PoolType, FieldType}
use Rattle.reflect_pool.specs.FieldsLeft.{field_type}
use Rattle.reflect_pool.specs.declared.extension.ExtensionDescriptor.{ExtensionDescriptor}
use Rattle.reflect_pool.specs.declared.field.FieldDescriptor.{FieldDescriptor}
use Rattle.reflect_pool.specs.declared.message.MessageDescriptor.{MessageDescriptor}
use Rattle.reflect_scalar.specs.FieldTypes.{extension_type}
use Rattle.reflect_message.specs.Bytes.{form_of, is_set}
use Rattle.reflect_message.specs.Held.{fields_of, extensions_of, unknown_of}
use Rattle.reflect_message.specs.Known.{numbered_field}
use Rattle.reflect_message.specs.Names.{DynamicMessage, Value}
use Rattle.reflect_contents.specs.EntriesLeft.{walked_left}
use Rattle.reflect_contents.specs.declared.taken.TakenExtensions.{TakenExtensions}
use Rattle.reflect_contents.specs.declared.taken.TakenFields.{TakenFields}
use Rattle.reflect_contents.specs.declared.walks.ExtensionValues.{ExtensionValues}
use Rattle.reflect_contents.specs.declared.walks.FieldValues.{FieldValues}

-- a field or an extension with what it holds
abbrev pub Holding : Type 0
Holding = FieldType × Value

abbrev pub if_set : PoolType → Value → FieldType → Option Holding
if_set pool v f = cond (is_set pool f (form_of v)) (Some (f, v)) None

-- what stands under a number, with the first field of the type that has it, if this is set
abbrev pub set_field : PoolType → ℕ → ℕ × Value → Option Holding
set_field pool i e = option_and_then (if_set pool e.1) (numbered_field pool i e.0)

abbrev pub set_fields : PoolType → ℕ → List (ℕ × Value) → List Holding
set_fields pool i held = filter_map (set_field pool i) held

-- the first extension that extends the type by the number
abbrev pub numbered_extension : PoolType → ℕ → ℕ → Option FieldType
numbered_extension pool i n =
    option_map (λ x. x.field) (find (λ x. (x.extendee == i) && (x.field.number == n))
    pool.extensions)

abbrev pub set_extension : PoolType → ℕ → ℕ × Value → Option Holding
set_extension pool i e = option_and_then (if_set pool e.1) (numbered_extension pool i e.0)

abbrev pub set_extensions : PoolType → ℕ → List (ℕ × Value) → List Holding
set_extensions pool i held = filter_map (set_extension pool i) held

-- what a message holds in fields that are set, and in extensions
abbrev pub set_fields_of : DynamicMessage → List Holding
set_fields_of m = set_fields m.descriptor.pool.now m.descriptor.index (fields_of m)

abbrev pub set_extensions_of : DynamicMessage → List Holding
set_extensions_of m = set_extensions m.descriptor.pool.now m.descriptor.index (extensions_of m)

-- nothing is set, and there are no records of undeclared numbers
abbrev pub HoldsNothing : DynamicMessage → Type 0
HoldsNothing m = (set_fields_of m ≡ []) × (set_extensions_of m ≡ []) × (unknown_of m ≡ [])

-- what a walk gives of a field: its descriptor's message, and what it is and holds
abbrev pub FieldGiven : Type 0
FieldGiven = MessageDescriptor × Holding

abbrev pub field_lent : FieldDescriptor × Bor Value → FieldGiven
field_lent p = (p.0.message, (field_type p.0, p.1.now))

abbrev pub field_given : FieldDescriptor × Value → FieldGiven
field_given p = (p.0.message, (field_type p.0, p.1))

-- of an extension: its descriptor's pool, and what it is and holds
abbrev pub ExtensionGiven : Type 0
ExtensionGiven = PoolType × Holding

abbrev pub extension_lent : ExtensionDescriptor × Bor Value → ExtensionGiven
extension_lent p = (p.0.pool.now, (extension_type p.0, p.1.now))

abbrev pub extension_given : ExtensionDescriptor × Value → ExtensionGiven
extension_given p = (p.0.pool.now, (extension_type p.0, p.1))

abbrev pub of_message : MessageDescriptor → List Holding → List FieldGiven
of_message m hs = map (λ h. (m, h)) hs

abbrev pub in_pool : PoolType → List Holding → List ExtensionGiven
in_pool pool hs = map (λ h. (pool, h)) hs

-- what walks have ahead
abbrev pub fields_left : FieldValues → List FieldGiven
fields_left s =
    of_message s.descriptor
    (set_fields s.descriptor.pool.now s.descriptor.index (walked_left s.entries))

abbrev pub extensions_left : ExtensionValues → List ExtensionGiven
extensions_left s =
    in_pool s.descriptor.pool.now
    (set_extensions s.descriptor.pool.now s.descriptor.index (walked_left s.entries))

abbrev pub taken_fields_left : TakenFields → List FieldGiven
taken_fields_left s =
    of_message s.descriptor
    (set_fields s.descriptor.pool.now s.descriptor.index (taken s.entries))

abbrev pub taken_extensions_left : TakenExtensions → List ExtensionGiven
taken_extensions_left s =
    in_pool s.descriptor.pool.now
    (set_extensions s.descriptor.pool.now s.descriptor.index (taken s.entries))
