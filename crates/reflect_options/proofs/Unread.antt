-- What is told of bytes of options that are refused is a fault of theirs, or memory ran out.
use Rattle.std.proofs.Common.{subst}
use Rattle.descriptor_records.specs.declared.options.Options.{Options}
use Rattle.option_parts.specs.declared.option_scope.OptionScope.{OptionScope}
use Rattle.option_setter.specs.OptionNames.{UnlessMemory}
use Rattle.reflect_decode.specs.Spelled.{TellsWhy}
use Rattle.reflect_message.specs.Bytes.{message_bytes}
use Rattle.reflect_message.specs.Names.{DynamicMessage}
use Rattle.reflect_options.specs.Settled.{RefusesStored, RefusesWritten, of_wire, unread}
use Rattle.reflect_pool.specs.declared.message.MessageDescriptor.{MessageDescriptor}
use Rattle.reflect_wire.specs.declared.wire_error.WireError.{WireError}
use Rattle.reflect_wire.specs.declared.wire_error.WireError.TheVariants.{Truncated, BadVarint, BadKey, BadWireType, EndGroupMismatch, TooDeep, BadUtf8, TooLong, Memory}

-- each but want of memory, and each but want of levels, told apart without a look at what is known
-- of it
abbrev NoMemory : WireError → Type 0
NoMemory Memory = ⊥
NoMemory _ = Unit {0}

abbrev NoDepth : WireError → Type 0
NoDepth TooDeep = ⊥
NoDepth _ = Unit {0}

-- of stored bytes
pub stored_told : (scope : OptionScope) (d : MessageDescriptor) (o : Options) (e : WireError) → TellsWhy d o.encoded.items e → UnlessMemory (RefusesStored scope d o) (of_wire e)
stored_told scope d o Memory told = tt
stored_told scope d o Truncated told = ((λ is. subst NoMemory is tt), told)
stored_told scope d o BadVarint told = ((λ is. subst NoMemory is tt), told)
stored_told scope d o BadKey told = ((λ is. subst NoMemory is tt), told)
stored_told scope d o BadWireType told = ((λ is. subst NoMemory is tt), told)
stored_told scope d o EndGroupMismatch told = ((λ is. subst NoMemory is tt), told)
stored_told scope d o TooDeep told = ((λ is. subst NoMemory is tt), told)
stored_told scope d o BadUtf8 told = ((λ is. subst NoMemory is tt), told)
stored_told scope d o TooLong told = ((λ is. subst NoMemory is tt), told)

-- of those that were written
pub written_told : (m : DynamicMessage) (e : WireError) → TellsWhy m.descriptor (message_bytes m) e → UnlessMemory (RefusesWritten m) (unread e)
written_told m Memory told = tt
written_told m TooDeep told = told
written_told m Truncated told = ((λ is. subst NoMemory is tt), (λ is. subst NoDepth is tt), told)
written_told m BadVarint told = ((λ is. subst NoMemory is tt), (λ is. subst NoDepth is tt), told)
written_told m BadKey told = ((λ is. subst NoMemory is tt), (λ is. subst NoDepth is tt), told)
written_told m BadWireType told = ((λ is. subst NoMemory is tt), (λ is. subst NoDepth is tt), told)
written_told m EndGroupMismatch told = ((λ is. subst NoMemory is tt), (λ is. subst NoDepth is tt), told)
written_told m BadUtf8 told = ((λ is. subst NoMemory is tt), (λ is. subst NoDepth is tt), told)
written_told m TooLong told = ((λ is. subst NoMemory is tt), (λ is. subst NoDepth is tt), told)
