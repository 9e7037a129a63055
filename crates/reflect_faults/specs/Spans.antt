-- Where the parts of a file stand in its source (descriptor.proto, SourceCodeInfo: paths and
-- spans).
use Rattle.std.specs.declared.alloc.Global.{Global}
use Rattle.std.specs.Prelude.{◌≡◌, ℕ, ℤ, pos, List, [], ◌∷◌, cond, Bool, Option, None, Some, Vec, ◌-◌, nat_le, slice_get}
use Rattle.std.specs.BTreeMap.{BTreeMap, get}
use Rattle.std.specs.Ordering.{is_eq, int_cmp}
use Rattle.std.specs.Cmp.Lexicographic.{slice_cmp}
use Rattle.std.specs.Option.{option_or}
use Rattle.descriptor_records.specs.declared.source_info.Location.{Location}
use Rattle.descriptor_records.specs.declared.file.FileDescriptorProto.{FileDescriptorProto}
use Rattle.reflect_faults.specs.declared.label.SourceSpan.{SourceSpan}

-- the first line and column, and the last, none of them below 0
abbrev pub between : ℤ → ℤ → ℤ → ℤ → Option SourceSpan
between (pos line) (pos column) (pos end_line) (pos end_column) =
    Some (record {
      start_line = line;
      start_column = column;
      end_line = end_line;
      end_column = end_column;
    })
between _ _ _ _ = None

-- line, column and end column; or line, column, end line and end column
abbrev pub span_of : List ℤ → Option SourceSpan
span_of (line ∷ column ∷ end ∷ []) = between line column line end
span_of (line ∷ column ∷ end_line ∷ end ∷ []) = between line column end_line end
span_of _ = None

abbrev pub same_path : List ℤ → List ℤ → Bool
same_path path other = is_eq (slice_cmp int_cmp path other)

-- the first span of a path among locations
abbrev pub span_among : List Location → List ℤ → Option SourceSpan
span_among [] path = None
span_among (l ∷ ls) path = option_or
    (cond (same_path l.path.items path) (span_of l.span.items) None) (span_among ls path)

-- a map has exactly these
abbrev pub AreSpans : BTreeMap (Vec ℤ Global) SourceSpan → List Location → Type 0
AreSpans spans ls = (path : Vec ℤ Global)
    → get (λ p q. slice_cmp int_cmp p.items q.items) spans path ≡ span_among ls path.items

-- the locations of a file
abbrev pub locations : FileDescriptorProto → List Location
locations f = elim f.source_code_info [ None ↦ [] | Some info ↦ info.location.items ]

-- those of the file of an index, among files the first of which has the index `first`
abbrev pub locations_at : List FileDescriptorProto → ℕ → ℕ → List Location
locations_at files first i = cond (nat_le first i)
    (elim (slice_get files (i - first)) [ None ↦ [] | Some f ↦ locations f ]) []
