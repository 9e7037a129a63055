-- The statuses that the program ends with where files are at fault, or the words.
use Rattle.std.specs.Prelude.{◌≡◌, ◌⊎◌, ℕ}
use Rattle.clap.specs.declared.error.kind.ErrorKind.{ErrorKind}
use Rattle.clap.specs.declared.error.kind.ErrorKind.TheVariants as kind
use Rattle.run_parts.specs.declared.files.FileFault.{FileFault}
use Rattle.run_parts.specs.declared.files.FileFault.TheVariants as files

-- 1: a source is not UTF-8; 4: a file cannot be read; 5: memory ran out
abbrev pub status_of : FileFault → ℕ
status_of (files.NotUtf8 name) = 1
status_of (files.Read path) = 4
status_of files.Memory = 5

-- what is told is help or the version, which was asked for
abbrev pub IsShown : ErrorKind → Type 0
IsShown k = (k ≡ kind.DisplayHelp) ⊎ (k ≡ kind.DisplayVersion)

-- 5: memory ran out; 2: the words are refused
abbrev pub refusal_status : ErrorKind → ℕ
refusal_status kind.OutOfMemory = 5
refusal_status _ = 2

-- 0: what was asked for is shown
abbrev pub usage_status : ErrorKind → ℕ
usage_status kind.DisplayHelp = 0
usage_status kind.DisplayVersion = 0
usage_status k = refusal_status k
