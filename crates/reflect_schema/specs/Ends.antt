-- How a run of the program ends.
use Rattle.std.specs.Prelude.{◌≡◌, ◌⊎◌, ℕ, List, []}
use Rattle.clap.specs.Kinds.{IsAmong}
use Rattle.clap.specs.Walk.{Row, Text}
use Rattle.clap.specs.declared.builder.value_parser.ValueParser.{ValueParser}
use Rattle.clap.specs.declared.error.kind.ErrorKind.{ErrorKind}
use Rattle.clap.specs.declared.error.kind.ErrorKind.TheVariants.{OutOfMemory}
use Rattle.reflect_tables.specs.Types.{PoolType}
use Rattle.run_parts.specs.Reads.{Gives}
use Rattle.run_parts.specs.Statuses.{IsShown, usage_status}
use Rattle.run_parts.specs.Streams.{GetsFront, IsLeft, Stream, line_of}
use Rattle.run_parts.specs.Usage.{TellsUntyped, TellsUsage}
use Rattle.schema_core.specs.declared.payload.Fault.TheVariants as fault
use Rattle.schema_words.specs.Asked.{Asks, AsksNothing}
use Rattle.schema_words.specs.CommandLine.{TakesActions, faults, found_in}
use Rattle.schema_words.specs.declared.request.Request.{Request}
use Rattle.reflect_schema.specs.Runs.{MakesSchema, RefusesSchema}
use Rattle.reflect_schema.specs.Statuses.{status_of}
use Rattle.reflect_schema.specs.Tasks.{DoesTask, RefusesTask}
use Rattle.reflect_schema.specs.Texts.{said}
use Rattle.reflect_schema.specs.declared.program.RunFault.{RunFault}
use Rattle.reflect_schema.specs.declared.program.RunFault.TheVariants as run

-- ---- a request

-- what the files, the input and the output are before a request is seen to and behind it
pub record Work (F R W : Type 0) : Type 0 where
  pub before : F
  pub behind : F
  pub input : Stream R
  pub output : Stream W

-- the files make a schema, and what is asked of it is done
abbrev pub IsAnswered : {F R W : Type 0} → Gives F → Request → Work F R W → Type 0
IsAnswered gives wanted w = (p : PoolType) × MakesSchema gives wanted w.before p w.behind
    × DoesTask wanted.task wanted.is_hex p w.input w.output

-- there is no schema, and no input is read, or there is one, and it has no answer; a part of an
-- answer is written where the output fails
abbrev pub IsRefused : {F R W : Type 0} → Gives F → Request → Work F R W → RunFault → Type 0
IsRefused gives wanted w e =
    ((RefusesSchema gives wanted w.before e w.behind × IsLeft w.input)
    ⊎ ((p : PoolType) × MakesSchema gives wanted w.before p w.behind
    × RefusesTask wanted.task wanted.is_hex p (w.input.known w.input.before) e))
    × ((e ≡ run.Payload fault.Write) ⊎ IsLeft w.output)

-- ---- a run

-- what a run works on, and the errors
pub record Course (F R W E : Type 0) : Type 0 where
  pub work : Work F R W
  pub errors : Stream E

-- no file is read, nor any input
abbrev pub ReadsNothing : {F R W : Type 0} → Work F R W → Type 0
ReadsNothing w = (w.behind ≡ w.before) × IsLeft w.input

-- what is told of the words: that memory ran out, or their first fault; help and the version are
-- told as faults
abbrev pub IsToldOf : List Text → ErrorKind → Type 0
IsToldOf words k = (k ≡ OutOfMemory)
    ⊎ ((parser : ValueParser) × TakesActions parser × IsAmong k (faults parser words))

-- the words are not taken; nothing is written to the output but what they ask to be shown, and
-- nothing to the errors where they do, but else why they are refused
abbrev pub EndsAtWords : {F R W E : Type 0} → List Text → Course F R W E → ℕ → Type 0
EndsAtWords words c status = (k : ErrorKind) × IsToldOf words k × (status ≡ usage_status k)
    × ReadsNothing c.work × (IsShown k ⊎ IsLeft c.work.output) × TellsUsage k c.errors

-- the words ask for a payload without its type, which is told as refused words are
abbrev pub EndsUntyped : {F R W E : Type 0} → List Row → Course F R W E → ℕ → Type 0
EndsUntyped found c status = AsksNothing found × TellsUntyped status c.errors
    × ReadsNothing c.work × IsLeft c.work.output

-- The words ask for what is answered, and nothing is told; or for what is refused, and the errors
-- get the line of the refusal, or a beginning of it, where they refuse more or memory runs out.
abbrev pub EndsAsked : {F R W E : Type 0} → Gives F → List Row → Course F R W E → ℕ → Type 0
EndsAsked gives found c status = (wanted : Request) × Asks found wanted
    × (((status ≡ 0) × IsAnswered gives wanted c.work × IsLeft c.errors)
    ⊎ ((e : RunFault) × (status ≡ status_of e) × IsRefused gives wanted c.work e
    × GetsFront c.errors (line_of (said e))))

-- the words are not taken, or they are, and what is found in them says how the run ends
abbrev pub Ends : {F R W E : Type 0} → Gives F → List Text → Course F R W E → ℕ → Type 0
Ends gives words c status = EndsAtWords words c status
    ⊎ ((parser : ValueParser) × TakesActions parser × (faults parser words ≡ [])
    × (EndsUntyped (found_in parser words) c status
    ⊎ EndsAsked gives (found_in parser words) c status))
