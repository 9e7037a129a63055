-- Where the lines and columns of a span stand in its source, in bytes (descriptor.proto,
-- SourceCodeInfo: both count from 0).
use Rattle.std.specs.declared.ops.Range.{Range}
use Rattle.std.specs.Prelude.{ℕ, zero, suc, ◌+◌, ◌==◌, cond, nat_le, drop, List, [], ◌∷◌, Option, None, Some, option_map}
use Rattle.std.specs.List.{position_or_len}
use Rattle.std.specs.Option.{option_and_then}
use Rattle.reflect_faults.specs.declared.label.SourceSpan.{SourceSpan}

-- how many bytes stand before a line: none before the first, and before each other one all up to
-- the line end that it stands behind
abbrev pub first_of_line : List ℕ → ℕ → Option ℕ
first_of_line source zero = Some 0
first_of_line [] (suc n) = None
first_of_line (b ∷ rest) (suc n) = option_map suc (first_of_line rest (cond (b == 10) n (suc n)))

-- how many bytes a line has, up to its line end or the end of the source
abbrev pub len_of_line : List ℕ → ℕ
len_of_line rest = position_or_len (λ b. b == 10) rest

-- how many stand before a column of a line, which has none past its end
abbrev pub offset_at : List ℕ → ℕ → ℕ → Option ℕ
offset_at source line column =
    option_and_then
    (λ n. cond (nat_le column (len_of_line (drop n source))) (Some (n + column)) None)
    (first_of_line source line)

abbrev pub range : ℕ → ℕ → Option (Range ℕ)
range start end = cond (nat_le start end) (Some (record { start = start; end = end })) None

-- the bytes of a span, if the source has its lines and columns, and they do not end before they
-- start
abbrev pub bytes_at : List ℕ → SourceSpan → Option (Range ℕ)
bytes_at source s =
    option_and_then (λ start. option_and_then (range start)
    (offset_at source s.end_line s.end_column)) (offset_at source s.start_line s.start_column)
