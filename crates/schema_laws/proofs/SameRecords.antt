-- The records of schemas of the same files in the end are the same, and differ in lines, columns and comments alone where
-- the files do.
use Rattle.std.proofs.Common.{◌≡◌, ◌∙◌, List, map, refl, sym, subst, Contains}
use Rattle.descriptor_records.specs.Content.{FileContent, file_view, unlocated}
use Rattle.descriptor_records.specs.declared.file.FileDescriptorProto.{FileDescriptorProto}
use Rattle.linked_view.proofs.Places.{contains_get, get_contains}
use Rattle.reflect_growth.specs.Settled.{bare_of}
use Rattle.reflect_tables.specs.Types.{PoolType}
use Rattle.schema_view.specs.Lawful.{SameFiles, sources}
use Rattle.schema_view.specs.Plain.{IsPlainFile}
use Rattle.schema_view.proofs.Batches.{files_there}
use Rattle.schema_view.proofs.Lists.{contains_map, contains_map_cases}
use Rattle.stored_options.proofs.Unlocated.{builds_unlocated, plain_there, same_there, same_unlocated}
use Rattle.schema_core.specs.declared.schema.Schema.{Schema}
use Rattle.schema_laws.specs.Histories.{BatchLinked, IsMadeBy}
use Rattle.schema_laws.proofs.Lists.{twin}
use Rattle.schema_laws.proofs.BatchFiles.{CameAbout}
use Rattle.schema_laws.proofs.Histories.{came_about}
use Rattle.schema_laws.proofs.OneFile.{one_but_for_places, one_content}
use Rattle.schema_laws.proofs.PlainNames.{undotted}

module _ (batches others : List (List FileContent)) (p q : PoolType) (a : CameAbout batches p) (b : CameAbout others q) (plain : (f : FileContent) → Contains (sources batches) f → IsPlainFile f) where
  abbrev before : List FileDescriptorProto
  before = a.typed.but.linked.records

  abbrev behind : List FileDescriptorProto
  behind = b.typed.but.linked.records

  -- a record of the one is one of the other: what it was linked to stands in both
  one_way : SameFiles (sources batches) (sources others) → (y : FileContent) → Contains (map file_view p.records) y → Contains (map file_view q.records) y
  one_way same y i =
      let k = contains_get (map file_view p.records) y i in
      let x = twin file_view bare_of p.records before a.typed.but.settles.bare k.0 y k.1 in
      let both : Contains (map file_view behind) x.0 =
      files_there batches others (map file_view before) (map file_view behind) plain same a.typed.but.built.built b.typed.but.built.built x.0 (get_contains (map file_view before) k.0 x.0 x.1) in
      let j = contains_get (map file_view behind) x.0 both in
      let z = twin file_view bare_of behind q.records (sym b.typed.but.settles.bare) j.0 x.0 j.1 in
      let is : y ≡ z.0 =
      one_content batches others (map file_view before) (map file_view behind) plain (same_unlocated (sources batches) (sources others) same) a.typed.but.built.built b.typed.but.built.built x.0 x.0 y z.0
      (a.files k.0 x.0 y x.1 k.1) (b.files j.0 x.0 z.0 j.1 z.1) refl refl in
      subst (Contains (map file_view q.records)) (sym is) (get_contains (map file_view q.records) j.0 z.0 z.1)

  -- and so it is without places, where files differ in these
  unlocated_way : SameFiles (map unlocated (sources batches)) (map unlocated (sources others)) → (f : FileContent) → Contains (map unlocated (map file_view p.records)) f
      → Contains (map unlocated (map file_view q.records)) f
  unlocated_way same f i =
      let y = contains_map_cases unlocated (map file_view p.records) f i in
      let k = contains_get (map file_view p.records) y.0 y.1 in
      let x = twin file_view bare_of p.records before a.typed.but.settles.bare k.0 y.0 k.1 in
      let both : Contains (map unlocated (map file_view behind)) (unlocated x.0) =
      files_there (map (map unlocated) batches) (map (map unlocated) others) (map unlocated (map file_view before)) (map unlocated (map file_view behind)) (plain_there batches plain)
      (same_there batches others same) (builds_unlocated batches (map file_view before) a.typed.but.built.built) (builds_unlocated others (map file_view behind) b.typed.but.built.built) (unlocated x.0)
      (contains_map unlocated (map file_view before) x.0 (get_contains (map file_view before) k.0 x.0 x.1)) in
      let w = contains_map_cases unlocated (map file_view behind) (unlocated x.0) both in
      let j = contains_get (map file_view behind) w.0 w.1 in
      let z = twin file_view bare_of behind q.records (sym b.typed.but.settles.bare) j.0 w.0 j.1 in
      let is : unlocated y.0 ≡ unlocated z.0 =
      one_but_for_places batches others (map file_view before) (map file_view behind) plain same a.typed.but.built.built b.typed.but.built.built x.0 w.0 y.0 z.0
      (a.files k.0 x.0 y.0 x.1 k.1) (b.files j.0 w.0 z.0 j.1 z.1) (sym w.2) in
      subst (Contains (map unlocated (map file_view q.records))) (sym is ∙ y.2) (contains_map unlocated (map file_view q.records) z.0 (get_contains (map file_view q.records) j.0 z.0 z.1))

pub same_records : (batches others : List (List FileContent)) (s t : Schema) → IsMadeBy BatchLinked batches s → IsMadeBy BatchLinked others t
    → SameFiles (sources batches) (sources others) → SameFiles (map file_view s.pool.records) (map file_view t.pool.records)
same_records batches others s t came also same y =
    let a = came_about batches s came in
    let b = came_about others t also in (
      one_way batches others s.pool t.pool a b (undotted batches s came) same y,
      one_way others batches t.pool s.pool b a (undotted others t also) (λ f. ((same f).1, (same f).0)) y,
    )

pub same_but_for_places : (batches others : List (List FileContent)) (s t : Schema) → IsMadeBy BatchLinked batches s → IsMadeBy BatchLinked others t
    → SameFiles (map unlocated (sources batches)) (map unlocated (sources others)) → SameFiles (map unlocated (map file_view s.pool.records)) (map unlocated (map file_view t.pool.records))
same_but_for_places batches others s t came also same f =
    let a = came_about batches s came in
    let b = came_about others t also in (
      unlocated_way batches others s.pool t.pool a b (undotted batches s came) same f,
      unlocated_way others batches t.pool s.pool b a (undotted others t also) (λ g. ((same g).1, (same g).0)) f,
    )
