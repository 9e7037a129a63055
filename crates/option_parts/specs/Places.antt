-- Where the faults of options stand.
use Rattle.std.specs.Prelude.{◌≡◌, ◌≤◌, ℕ, List, Option, None, Some, option_map, slice_get}
use Rattle.std.specs.Option.{option_and_then}
use Rattle.descriptor_records.specs.declared.file.FileDescriptorProto.{FileDescriptorProto}
use Rattle.reflect_faults.specs.Faults.{Place, place_of}
use Rattle.reflect_faults.specs.Spans.{locations, span_among}
use Rattle.reflect_tables.specs.Views.{text_of}
use Rattle.reflect_faults.specs.declared.label.SourceSpan.{SourceSpan}
use Rattle.option_parts.specs.declared.option_error.OptionError.{OptionError}

-- where an error's fault stands, and where in its source, if that is told
abbrev pub option_place : OptionError → Option Place
option_place e = option_map place_of e.place

abbrev pub option_span : OptionError → Option SourceSpan
option_span e = option_and_then (λ p. p.span) (option_place e)

-- a place in a file: the file's name, and of the path the span that the file's own locations tell;
-- its bytes are not looked for
abbrev pub IsPlaceIn : FileDescriptorProto → Place → Type 0
IsPlaceIn f p = (p.file ≡ text_of f.name) × (p.span ≡ span_among (locations f) p.path)
    × (p.bytes ≡ None)

-- it is in one of the files from an index on
abbrev pub StandsFrom : List FileDescriptorProto → ℕ → Place → Type 0
StandsFrom files first p = (i : ℕ) × (f : FileDescriptorProto) × (first ≤ i)
    × (slice_get files i ≡ Some f) × IsPlaceIn f p
