-- The types of pools that were built batch by batch, and settled between the batches.
use Rattle.std.proofs.Common.{◌≡◌, ◌++◌, ◌∙◌, List, [], ◌∷◌, map, ap, sym}
use Rattle.std.specs.List.{Contains}
use Rattle.descriptor_records.specs.Content.{FileContent, file_view}
use Rattle.descriptor_records.specs.declared.file.FileDescriptorProto.{FileDescriptorProto}
use Rattle.reflect_build.specs.Accepted.{FaultlessFiles}
use Rattle.reflect_build.specs.Refusals.{IsOf, Linking, new_files}
use Rattle.reflect_pool.specs.Linked.{empty_pool}
use Rattle.reflect_tables.specs.Types.{PoolType}
use Rattle.message_view.specs.Types as pool
use Rattle.schema_view.specs.Lawful.{SameFiles, sources}
use Rattle.schema_view.specs.Plain.{IsPlainFile}
use Rattle.schema_view.specs.Types as view
use Rattle.schema_view.specs.Views.{view_of}
use Rattle.schema_view.proofs.Batches.{same_view}
use Rattle.schema_view.proofs.Road.{built_linked}
use Rattle.linked_view.specs.Kept.{IsKept}
use Rattle.linked_view.specs.Built.{IsBuilt}
use Rattle.linked_view.specs.Pools.{IsPool}
use Rattle.settled_view.specs.BuiltBut.{ChangesOptions}
use Rattle.linked_view.proofs.Together.{empty_built}
use Rattle.settled_view.proofs.Built.{itself, linked_more}
use Rattle.settled_view.proofs.Transfer.{kept_before}
use Rattle.types_view.specs.Fields.{TellsFields}
use Rattle.types_view.specs.Typed.{IsTyped}
use Rattle.types_view.proofs.Batch.{empty_fields, pool_fields}
use Rattle.types_view.proofs.Types.{types_same}

pub built_types : (batches : List (List FileContent)) (p : PoolType) → IsBuilt batches p → IsKept p
    → TellsFields p → pool.types_of p ≡ view.types_of (view_of (map file_view p.records))
built_types batches p is kept tells =
    let linked = built_linked batches (map file_view p.records) is.built in
    λ i t n. types_same p linked tells is.values is.entries is.declared kept.names is.extensions t n i

pub settled_types : (batches : List (List FileContent)) (p : PoolType) (t : IsTyped batches p)
    → IsKept p → pool.types_of p ≡ view.types_of (view_of (map file_view t.but.linked.records))
settled_types batches p t kept =
    let linked = t.but.linked in
    ap pool.types_of t.but.settles.settled
    ∙ built_types batches linked t.but.built (kept_before linked p t.but.settles kept) t.tells

pub types_stay : (batches others : List (List FileContent)) (p q : PoolType)
    → ((f : FileContent) → Contains (sources batches) f → IsPlainFile f)
    → SameFiles (sources batches) (sources others)
    → IsTyped batches p → IsTyped others q → IsKept p → IsKept q
    → pool.types_of p ≡ pool.types_of q
types_stay batches others p q plain same a b kept also =
    settled_types batches p a kept
    ∙ ap view.types_of (same_view batches others (map file_view a.but.linked.records)
    (map file_view b.but.linked.records) plain same a.but.built.built b.but.built.built)
    ∙ sym (settled_types others q b also)

-- a pool that files were linked into and that was settled since tells of its fields, as it was linked;
-- what was linked stands behind the records of the pool that linking made before
pub record IsTypedMore (earlier : List (List FileContent)) (old : PoolType)
    (was : IsTyped earlier old) (made new : PoolType) (files : List FileDescriptorProto) : Type 0
  where
    pub linking : Linking
    pub of : IsOf old linking
    pub typed : IsTyped (map file_view (new_files linking.indexes files) ∷ earlier) new
    pub more : List FileDescriptorProto
    pub behind : typed.but.linked.records ≡ was.but.linked.records ++ more
    pub beside : made.records ≡ old.records ++ more

pub typed_more : (earlier : List (List FileContent)) (old linked new : PoolType)
    (files : List FileDescriptorProto) (t : IsTyped earlier old) → IsPool new
    → FaultlessFiles old files linked → ChangesOptions linked new
    → IsTypedMore earlier old t linked new files
typed_more earlier old linked new files t whole faultless settles =
    let m = linked_more earlier old linked new files t.but whole faultless settles in
    record {
      linking = m.linking;
      of = m.of;
      typed = record {
        but = record { linked = m.linked; built = m.built; settles = m.settles };
        tells = pool_fields t.but.linked m.linked files t.but.built.named m.whole.indexed
            m.whole.kept t.tells m.faultless;
      };
      more = m.more;
      behind = m.behind;
      beside = m.beside;
    }

pub empty_typed : IsTyped [] empty_pool
empty_typed = record {
  but = record {
    linked = empty_pool;
    built = empty_built;
    settles = itself empty_pool;
  };
  tells = empty_fields;
}
