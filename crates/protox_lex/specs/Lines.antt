-- Lines and columns.
use Rattle.std.specs.Prelude.{ℕ, ◌+◌, ◌-◌, if◌then◌else◌, nat_lt, ◌==◌, List, [], ◌∷◌, count_by, fold, ℤ, pos}
use Rattle.memchr.specs.Find.{places, is_byte}
use Rattle.protox_lex.specs.Class.{Text}

-- the offsets of the line feeds of a source
abbrev pub feeds_of : Text → List ℕ
feeds_of source = places (is_byte 10) source

-- how many line feeds lie before an offset
abbrev pub line_at : List ℕ → ℕ → ℕ
line_at feeds offset = count_by (λ e. nat_lt e offset) feeds

abbrev pub later_start : ℕ → ℕ → ℕ → ℕ
later_start offset start e = if nat_lt e offset then e + 1 else start

-- the place behind the last line feed that lies before an offset
abbrev pub start_at : List ℕ → ℕ → ℕ
start_at feeds offset = fold (later_start offset) 0 feeds

abbrev pub column_at : List ℕ → ℕ → ℕ
column_at feeds offset = offset - start_at feeds offset

-- line, column, and the end line only where it is another one, and end column
abbrev pub span_at : List ℕ → ℕ → ℕ → List ℤ
span_at feeds start end =
    pos (line_at feeds start) ∷ pos (column_at feeds start)
    ∷ (if line_at feeds start == line_at feeds end then pos (column_at feeds end) ∷ []
    else pos (line_at feeds end) ∷ pos (column_at feeds end) ∷ [])
