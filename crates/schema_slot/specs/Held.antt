-- What a session holds, in the schema's words.
use Rattle.std.specs.Prelude.{◌≡◌, ℕ, List, [], Option, None, Some, map, string_bytes}
use Rattle.std.specs.Option.{option_and_then}
use Rattle.reflect_tables.specs.Types.{PoolType}
use Rattle.schema_core.specs.Places.{told_file}
use Rattle.schema_slot.specs.declared.session.Session.{Session}
use Rattle.schema_slot.specs.declared.source.Source.{Source}

-- a source: its file's name and its text
abbrev pub pair_of : Source → List ℕ × List ℕ
pair_of s = (string_bytes s.name, string_bytes s.text)

-- the schema
abbrev pub pool : Session → PoolType
pool s = s.schema.pool

-- the sources that wait to be linked
abbrev pub waiting : Session → List (List ℕ × List ℕ)
waiting s = map pair_of s.waiting.items

-- what the last call answered
abbrev pub answer : Session → List ℕ
answer s = s.answer.items

-- the file in which the fault stands for which the last call was refused
abbrev pub file : Session → Option (List ℕ)
file s = option_and_then told_file s.fault

-- the line and the column there, from 1, or of a text that was refused those in this text
abbrev pub position : Session → Option (ℕ × ℕ)
position s = s.place

-- the last call was not refused by the schema
abbrev pub IsFaultless : Session → Type 0
IsFaultless s = (s.fault ≡ None) × (position s ≡ None)

-- the schema and the sources that wait stay
abbrev pub KeepsSession : Session → Session → Type 0
KeepsSession old new = (pool new ≡ pool old) × (waiting new ≡ waiting old)

abbrev text_or_none : Option (List ℕ) → List ℕ
text_or_none None = []
text_or_none (Some text) = text

-- the name of that file, which is empty where it is not known
abbrev pub file_text : Session → List ℕ
file_text s = text_or_none (file s)

-- the line and the column as C sees them, 0 where they are not known
abbrev pub place_of : Option (ℕ × ℕ) → ℕ × ℕ
place_of None = (0, 0)
place_of (Some p) = p
