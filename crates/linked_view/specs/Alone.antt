-- What holds of a pool whose files have names as they should, and of new files behind its own where
-- they are accepted.
use Rattle.std.specs.Prelude.{◌≡◌, List, [], ◌++◌, map, Contains}
use Rattle.descriptor_records.specs.Content.{FileContent, file_view}
use Rattle.reflect_pool.specs.Imports.{ImportsAreThere}
use Rattle.reflect_tables.specs.Types.{PoolType}
use Rattle.reflect_tables.specs.Views.{record_file}
use Rattle.schema_view.specs.Declarations.{Declaration, declarations}
use Rattle.schema_view.specs.References.{Reference, references, linked}
use Rattle.schema_view.specs.Outlines.{outline_of}
use Rattle.schema_view.specs.Lawful.{outlines, Meanings, all_linked, AreSettled, IsSettled}
use Rattle.schema_view.specs.Means.{ReferenceMeans}
use Rattle.linked_view.specs.Named.{AreWellNamed}
use Rattle.linked_view.specs.Whole.{AreSound}

-- its files are those of its records, and what they import is there
pub record IsRecorded (p : PoolType) : Type 0 where
  pub headers : p.files ≡ map record_file p.records
  pub imports : ImportsAreThere p

-- and the records have names as they should
pub record IsWellNamed (p : PoolType) : Type 0 where
  pub recorded : IsRecorded p
  pub named : AreWellNamed [] (map file_view p.records)

-- the new files have names as they should behind the older ones, their references mean this, their
-- declarations are sound, and they stand behind the older ones, linked
pub record AreLawfulAlone (old new after : List FileContent) : Type 0 where
  pub meanings : Meanings
  pub names : AreWellNamed old new
  pub means : (f : FileContent) (r : Reference)
      → Contains new f → Contains (references f) r
      → ReferenceMeans (outlines (old ++ new)) (outline_of f) r (meanings f r)
  pub sound : AreSound new
  pub stand : after ≡ old ++ all_linked meanings new

-- and what they say of others agrees with these: the numbers of extensions, the defaults of enums,
-- the uses of maps' entries
pub record AreSettledAlone (old new : List FileContent) (meanings : Meanings) : Type 0 where
  pub settled : (f : FileContent) (d : Declaration)
      → Contains new f → Contains (declarations (linked (meanings f) f)) d
      → IsSettled (outlines (old ++ new)) d.body
  pub together : AreSettled (old ++ all_linked meanings new)
