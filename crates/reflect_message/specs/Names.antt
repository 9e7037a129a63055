-- What messages hold and are, by the names that have a lifetime in the code: of the types of
-- messages a descriptor tells.
use Rattle.reflect_pool.specs.declared.message.MessageDescriptor.{MessageDescriptor}
use Rattle.reflect_message.specs.declared.message.MessageOf.{MessageOf}
use Rattle.reflect_message.specs.declared.parts.HeldOf.{HeldOf}
use Rattle.reflect_message.specs.declared.parts.PartsOf.{PartsOf}
use Rattle.reflect_message.specs.declared.value.ValueOf.{ValueOf}

abbrev pub DynamicMessage : Type 0
DynamicMessage = MessageOf MessageDescriptor

abbrev pub Held : Type 0
Held = HeldOf MessageDescriptor

abbrev pub Parts : Type 0
Parts = PartsOf MessageDescriptor

abbrev pub Value : Type 0
Value = ValueOf MessageDescriptor
