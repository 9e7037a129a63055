-- What is said of files that do not fit together, and where.
use Rattle.std.specs.Prelude.{ℕ, ◌+◌, ◌^◌, ◌&&◌, if◌then◌else◌, nat_lt, List, [], ◌++◌, Option, None, Some, option_map, codes}
use Rattle.std.specs.Fmt.{decimal}
use Rattle.std.specs.Option.{option_and_then}
use Rattle.reflect_faults.specs.FaultTexts.{said}
use Rattle.reflect_faults.specs.declared.label.SourceSpan.{SourceSpan}
use Rattle.reflect_passes.specs.Errors.{first_place, first_span}
use Rattle.reflect_passes.specs.declared.error.DescriptorError.{DescriptorError}

-- a line and a column, with a colon behind each
abbrev pub position_text : Option (ℕ × ℕ) → List ℕ
position_text None = []
position_text (Some at) = decimal at.0 ++ (codes ":" ++ (decimal at.1 ++ codes ":"))

-- a file, and where in it, in front of words
abbrev pub place_text : Option (List ℕ) → Option (ℕ × ℕ) → List ℕ
place_text None position = []
place_text (Some file) position = (file ++ codes ":") ++ (position_text position ++ codes " ")

-- where a part of a file begins, line and column counted from 1, if a machine word counts so far
abbrev pub begins : SourceSpan → Option (ℕ × ℕ)
begins s =
    if nat_lt (s.start_line + 1) (2 ^ 64) && nat_lt (s.start_column + 1) (2 ^ 64)
    then Some (s.start_line + 1, s.start_column + 1) else None

-- the words of the first fault, behind its file and its place, where these are known
abbrev pub told_at : DescriptorError → List ℕ
told_at e =
    place_text (option_map (λ p. p.file) (first_place e)) (option_and_then begins (first_span e))
    ++ said e.first
