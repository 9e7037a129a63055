-- What a run of the program does with its schema.
use Rattle.std.specs.Io.KnownBytes.{IsAtEnd}
use Rattle.std.specs.Prelude.{◌≡◌, ◌⊎◌, ℕ, List, Bool, Option, IfSome}
use Rattle.reflect_bytes.specs.Written.{pool_bytes}
use Rattle.reflect_tables.specs.Types.{PoolType}
use Rattle.run_parts.specs.Streams.{Gets, IsLeft, Stream}
use Rattle.schema_core.specs.Serving.{Answers, RefusesInput, shown}
use Rattle.schema_core.specs.declared.error.SchemaError.TheVariants as schema
use Rattle.schema_core.specs.declared.payload.Fault.TheVariants as fault
use Rattle.schema_words.specs.declared.request.Task.{Task}
use Rattle.schema_words.specs.declared.request.Task.TheVariants.{Payload, Set}
use Rattle.reflect_schema.specs.declared.program.RunFault.{RunFault}
use Rattle.reflect_schema.specs.declared.program.RunFault.TheVariants as run

-- the set of the schema is written and no input is read; or the input is read whole, and what is
-- written is its answer
abbrev pub DoesTask : {R W : Type 0} → Task → Bool → PoolType → Stream R → Stream W → Type 0
DoesTask Set is_hex p input output = IsLeft input × Gets output (shown is_hex (pool_bytes p))
DoesTask (Payload action name) is_hex p input output = IsAtEnd (input.known input.behind)
    × IfSome (input.known input.before) (λ given. (written : List ℕ)
    × Answers action p name.now is_hex given written × Gets output written)

-- memory runs out for the set, or it cannot be written; or the input is refused
abbrev pub RefusesTask : Task → Bool → PoolType → (before : Option (List ℕ)) → RunFault → Type 0
RefusesTask Set is_hex p before e = (e ≡ run.Schema schema.Memory)
    ⊎ ((e ≡ run.Payload fault.Memory) ⊎ (e ≡ run.Payload fault.Write))
RefusesTask (Payload action name) is_hex p before (run.Payload f) =
    IfSome before (λ given. RefusesInput action p name.now is_hex given f)
RefusesTask (Payload action name) is_hex p before _ = ⊥
