-- What the refusal of a source tells.
use Rattle.std.specs.Prelude.{◌≡◌, ◌^◌, ℕ, ℤ, pos, ◌+ℤ◌, List, [], ◌++◌, if◌then◌else◌, nat_lt, Option, None, Some, codes, slice_get, string_bytes}
use Rattle.std.specs.Borrow.{Bor}
use Rattle.std.specs.Fmt.{signed_decimal}
use Rattle.std.specs.Option.{option_and_then}
use Rattle.protox_lex.specs.Class.{Text}
use Rattle.protox_lex.specs.Lines.{feeds_of, line_at, column_at}
use Rattle.protox_lex.specs.Resolver.{feeds}
use Rattle.protox_lex.specs.declared.lines.LineResolver.{LineResolver}
use Rattle.protox_lex.specs.declared.span.Span.{Span}
use Rattle.protox_tree.specs.FaultTexts.{said}
use Rattle.protox_tree.specs.Spans.{span_of}
use Rattle.protox_tree.specs.declared.error.ParseErrorKind.{ParseErrorKind}
use Rattle.protox_parse.specs.declared.error.ParseError.{ParseError}
use Rattle.protox_parse.specs.declared.error.ParseError.TheVariants.{Memory, Refused}

-- the file that is told, all faults, and the position that is told
abbrev pub file_of : ParseError → List ℕ
file_of Memory = []
file_of (Refused r) = string_bytes r.file

abbrev pub faults_of : ParseError → List ParseErrorKind
faults_of Memory = []
faults_of (Refused r) = r.faults.items

abbrev pub position_of : ParseError → Option (ℤ × ℤ)
position_of Memory = None
position_of (Refused r) = r.position

-- the first fault, and its bytes
abbrev pub first_fault : ParseError → Option ParseErrorKind
first_fault e = slice_get (faults_of e) 0

abbrev pub first_span : ParseError → Option Span
first_span e = option_and_then span_of (first_fault e)

-- the line and the column, both from 0, at which bytes begin between these line feeds, if an `i32`
-- counts the bytes before them
abbrev pub place_among : List ℕ → Span → Option (ℤ × ℤ)
place_among feeds span = if nat_lt span.start (2 ^ 31)
    then Some (pos (line_at feeds span.start), pos (column_at feeds span.start)) else None

-- the same in a source
abbrev pub place_in : Text → Span → Option (ℤ × ℤ)
place_in source span = place_among (feeds_of source) span

-- where bytes stand by the lines that are known, if any are
abbrev pub resolved : Option (Bor LineResolver) → Option Span → Option (ℤ × ℤ)
resolved lines span = option_and_then
    (λ s. option_and_then (λ l. place_among (feeds l.now) s) lines) span

-- a refusal of this source under this name: the file that it tells is of this name, and its
-- position is where the bytes of its first fault begin in this source; where the fault has no
-- bytes, it tells none
abbrev pub IsRefusalOf : List ℕ → Text → ParseError → Type 0
IsRefusalOf name source Memory = ⊥
IsRefusalOf name source (Refused r) = (string_bytes r.file ≡ name)
    × (r.position ≡ option_and_then (place_in source) (first_span (Refused r)))

-- what is said of the first fault, or of want of memory
abbrev pub said_first : Option ParseErrorKind → List ℕ
said_first None = codes "out of memory"
said_first (Some kind) = said kind

abbrev pub told : ParseError → List ℕ
told e = said_first (first_fault e)

-- a line and a column from 1, with a colon behind each
abbrev pub place_text : Option (ℤ × ℤ) → List ℕ
place_text None = []
place_text (Some at) = signed_decimal (at.0 +ℤ pos 1)
    ++ (codes ":" ++ (signed_decimal (at.1 +ℤ pos 1) ++ codes ":"))

-- the same behind the file and the place
abbrev pub told_at : ParseError → List ℕ
told_at Memory = told Memory
told_at (Refused r) = (string_bytes r.file ++ codes ":")
    ++ (place_text r.position ++ (codes " " ++ told (Refused r)))
