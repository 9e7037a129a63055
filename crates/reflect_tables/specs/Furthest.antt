-- Ranges by ascending start, and which of them end last.
use Rattle.std.specs.Prelude.{ℕ, pos, ◌<◌, ◌≤◌, ◌≤ℤ◌, List, length, slice_index_or}
use Rattle.reflect_tables.specs.declared.ranges.NumberRange.{NumberRange}

-- what stands for a range that is not there
abbrev pub no_range : NumberRange
no_range = record { start = pos 0; end = pos 0 }

abbrev pub RiseByStart : List NumberRange → Type 0
RiseByStart rs = (i j : ℕ) (d : NumberRange) → i ≤ j → j < length rs
    → (slice_index_or rs i d).start ≤ℤ (slice_index_or rs j d).start

-- none up to a place ends behind the one that the place has
abbrev pub EndsLast : List NumberRange → ℕ → ℕ → Type 0
EndsLast rs at place = (place ≤ at)
    × ((j : ℕ) → j ≤ at → (slice_index_or rs j no_range).end ≤ℤ
    (slice_index_or rs place no_range).end)

abbrev pub EndLast : List NumberRange → List ℕ → Type 0
EndLast rs places = (at d : ℕ) → at < length rs → EndsLast rs at (slice_index_or places at d)
