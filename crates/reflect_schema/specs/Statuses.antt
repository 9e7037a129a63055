-- The statuses that the program ends with.
use Rattle.std.specs.Prelude.{ℕ}
use Rattle.run_parts.specs.Statuses as files
use Rattle.schema_core.specs.declared.error.SchemaError.TheVariants as schema
use Rattle.schema_core.specs.declared.payload.Fault.TheVariants as fault
use Rattle.reflect_schema.specs.declared.program.RunFault.{RunFault}
use Rattle.reflect_schema.specs.declared.program.RunFault.TheVariants as run

-- 1: the schema is refused; 3: the payload is; 4: something cannot be read or written; 5: memory
-- ran out
abbrev pub status_of : RunFault → ℕ
status_of (run.File f) = files.status_of f
status_of (run.Schema schema.Memory) = 5
status_of (run.Schema e) = 1
status_of (run.Payload (fault.Schema e)) = 3
status_of (run.Payload fault.NotHex) = 3
status_of (run.Payload fault.NotUtf8) = 3
status_of (run.Payload fault.Read) = 4
status_of (run.Payload fault.Write) = 4
status_of (run.Payload fault.Memory) = 5
