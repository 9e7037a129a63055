-- What the program says of a run that ends without an answer.
use Rattle.std.specs.Prelude.{ℕ, List}
use Rattle.run_parts.specs.Texts as files
use Rattle.schema_core.specs.Texts as schema
use Rattle.reflect_schema.specs.declared.program.RunFault.{RunFault}
use Rattle.reflect_schema.specs.declared.program.RunFault.TheVariants as run

-- a line without its end
abbrev pub said : RunFault → List ℕ
said (run.File f) = files.said f
said (run.Schema e) = schema.said e
said (run.Payload f) = schema.told f
