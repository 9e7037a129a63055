-- What accepted files say of the ranges of messages.
use Rattle.std.specs.Prelude.{List, ◌++◌, Contains}
use Rattle.descriptor_records.specs.Content.{FileContent}
use Rattle.schema_view.specs.Declarations.{Declaration, declarations}
use Rattle.schema_view.specs.Lawful.{outlines, Meanings, KeepsNumber}
use Rattle.schema_view.specs.References.{linked}

-- each extension of the new files, linked, has a number that its message keeps for extensions
abbrev pub KeepNumbers : List FileContent → List FileContent → Meanings → Type 0
KeepNumbers old new meanings = (f : FileContent) (d : Declaration)
    → Contains new f → Contains (declarations (linked (meanings f) f)) d
    → KeepsNumber (outlines (old ++ new)) d.body
