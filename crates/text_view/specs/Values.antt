-- Values that are no lists and no maps.
use Rattle.std.specs.Prelude.{◌≡◌, ◌⊎◌, Some}
use Rattle.protobuf_model.specs.Values.{Single}
use Rattle.reflect_message.specs.Names.{DynamicMessage, Value}
use Rattle.reflect_message.specs.declared.value.ValueOf.TheVariants as held
use Rattle.reflect_pool.specs.declared.message.MessageDescriptor.{MessageDescriptor}
use Rattle.reflect_format.specs.Kinds.{single_of}
use Rattle.text_view.specs.Holds.{HoldsKinds}

-- a single value or a message
abbrev pub IsOne : Value → Type 0
IsOne v = ((x : Single) × (single_of v ≡ Some x))
    ⊎ ((m : DynamicMessage) × (v ≡ held.Message m))

-- a message of the type, which holds values of the kinds of its fields
abbrev pub IsMessageOf : MessageDescriptor → Value → Type 0
IsMessageOf d v =
    (m : DynamicMessage) × (v ≡ held.Message m) × (m.descriptor ≡ d) × HoldsKinds m
