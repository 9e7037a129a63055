-- Options as they are stored where they were settled.
use Rattle.std.specs.Prelude.{◌≡◌, ℕ, List}
use Rattle.known_messages.specs.KnownMessages.{AreFormOf}
use Rattle.option_parts.specs.OptionTypes.{type_name}
use Rattle.option_parts.specs.declared.option_scope.OptionScope.{OptionScope}
use Rattle.protobuf_model.specs.Types.{Types}
use Rattle.protobuf_model.specs.Values.{Message, absent}

-- the bytes are those of a message of the scope's type, which knows all of it, and none of them is
-- left uninterpreted
abbrev pub AreStored : Types → OptionScope → Message → List ℕ → Type 0
AreStored types scope m bytes = AreFormOf types (type_name scope) m bytes × (m 999 ≡ absent)
