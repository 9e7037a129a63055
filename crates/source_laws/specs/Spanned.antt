-- Locations that have a span.
use Rattle.std.specs.Prelude.{◌≡◌, ◌<◌, ◌^◌, ℤ, List, Some}
use Rattle.descriptor_records.specs.declared.source_info.Location.{Location}
use Rattle.reflect_faults.specs.Spans.{span_of}
use Rattle.reflect_faults.specs.declared.label.SourceSpan.{SourceSpan}

-- its lines and columns are small, so that one more can be counted
pub record IsSmall (s : SourceSpan) : Type 0 where
  pub start_line : s.start_line < 2 ^ 31
  pub start_column : s.start_column < 2 ^ 31
  pub end_line : s.end_line < 2 ^ 31
  pub end_column : s.end_column < 2 ^ 31

-- the numbers are those of such a span
abbrev pub IsSpan : List ℤ → Type 0
IsSpan numbers = (s : SourceSpan) × (span_of numbers ≡ Some s) × IsSmall s

abbrev pub HasSpan : Location → Type 0
HasSpan l = IsSpan l.span.items
