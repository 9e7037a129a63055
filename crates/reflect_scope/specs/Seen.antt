-- Which files a value of SeenFiles tells seen.
use Rattle.std.specs.Prelude.{ℕ, Bool, false, slice_index_or}
use Rattle.reflect_scope.specs.declared.seen.SeenFiles.{SeenFiles}

abbrev pub tells : SeenFiles → ℕ → Bool
tells s g = slice_index_or s.marks.items g false
