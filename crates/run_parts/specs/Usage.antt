-- What is told of words that are not taken.
use Rattle.std.specs.Prelude.{◌≡◌, ℕ}
use Rattle.clap.specs.declared.error.kind.ErrorKind.{ErrorKind}
use Rattle.clap.specs.declared.error.kind.ErrorKind.TheVariants as kind
use Rattle.run_parts.specs.Statuses.{refusal_status}
use Rattle.run_parts.specs.Streams.{GetsFront, GetsSome, IsLeft, Stream, line_of}
use Rattle.run_parts.specs.Texts.{said}
use Rattle.run_parts.specs.declared.files.FileFault.TheVariants as files

-- the errors get the line that memory ran out, or a beginning of it; or why the words are refused,
-- in clap's text, of which nothing is known
abbrev pub TellsRefusal : {E : Type 0} → ErrorKind → Stream E → Type 0
TellsRefusal kind.OutOfMemory errors = GetsFront errors (line_of (said files.Memory))
TellsRefusal _ errors = GetsSome errors

-- they get nothing where what was asked for is shown, and else the refusal
abbrev pub TellsUsage : {E : Type 0} → ErrorKind → Stream E → Type 0
TellsUsage kind.DisplayHelp errors = IsLeft errors
TellsUsage kind.DisplayVersion errors = IsLeft errors
TellsUsage k errors = TellsRefusal k errors

-- they get why the words are refused, with the status that says so
abbrev pub TellsUntyped : {E : Type 0} → ℕ → Stream E → Type 0
TellsUntyped status errors = (k : ErrorKind) × (status ≡ refusal_status k) × TellsRefusal k errors
