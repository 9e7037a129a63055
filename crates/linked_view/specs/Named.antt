-- When the pass over names finds nothing wrong with new files behind older ones.
use Rattle.std.specs.Prelude.{List, ◌++◌, Contains}
use Rattle.descriptor_records.specs.Content.{FileContent}
use Rattle.schema_view.specs.Files.{Import, imports_of}
use Rattle.schema_view.specs.Declarations.{Declaration, declarations}
use Rattle.schema_view.specs.Outlines.{IsNamed, AreApart}
use Rattle.schema_view.specs.Lawful.{outlines, IsFile}
use Rattle.linked_view.specs.Complete.{IsComplete}

-- names of files, of declarations and of packages are apart, files are files, imports are names of
-- files, and what must be there of declarations is there
pub record AreWellNamed (old new : List FileContent) : Type 0 where
  pub apart : AreApart (outlines (old ++ new))
  pub files : (f : FileContent) → Contains new f → IsFile f
  pub imports : (f : FileContent) (i : Import)
      → Contains new f → Contains (imports_of f) i → IsNamed (outlines (old ++ new)) i.file
  pub complete : (f : FileContent) (d : Declaration)
      → Contains new f → Contains (declarations f) d → IsComplete d.body
