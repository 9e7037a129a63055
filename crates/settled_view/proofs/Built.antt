-- Pools that are built but for their options.
use Rattle.std.proofs.Common.{◌≡◌, ◌++◌, ◌∙◌, List, [], ◌∷◌, map, ap, refl}
use Rattle.descriptor_records.specs.Content.{FileContent, file_view}
use Rattle.descriptor_records.specs.declared.file.FileDescriptorProto.{FileDescriptorProto}
use Rattle.reflect_build.specs.Accepted.{FaultlessFiles}
use Rattle.reflect_build.specs.Refusals.{IsOf, Linking, new_files}
use Rattle.reflect_pool.specs.Linked.{empty_pool}
use Rattle.reflect_tables.specs.Types.{PoolType}
use Rattle.linked_view.specs.Built.{IsBuilt}
use Rattle.linked_view.specs.Pools.{IsPool}
use Rattle.linked_view.proofs.Together.{added_all, built_more, empty_built}
use Rattle.schema_view.proofs.Road.{built_linked}
use Rattle.settled_view.specs.BuiltBut.{IsBuiltBut, ChangesOptions}
use Rattle.settled_view.proofs.Transfer.{pool_before}
use Rattle.settled_view.proofs.Unsettled.{linking, is_before, added, after_records, batch_before, added_settles}

pub itself : (p : PoolType) → ChangesOptions p p
itself p = record { settled = refl; bare = refl }

pub empty_built_but : IsBuiltBut [] empty_pool
empty_built_but = record {
  linked = empty_pool;
  built = empty_built;
  settles = itself empty_pool;
}

-- one that is settled twice is settled
twice : (a b c : PoolType) → ChangesOptions a b → ChangesOptions b c → ChangesOptions a c
twice a b c s t = record {
  settled = t.settled ∙ ap (λ (q : PoolType). record q { records = c.records }) s.settled;
  bare = t.bare ∙ s.bare;
}

-- files that are linked behind a settled pool, which makes another of it, as they are linked behind
-- the pool that the batches build: the same records stand behind those of both
pub record IsLinkedMore (earlier : List (List FileContent)) (old before made new : PoolType)
    (files : List FileDescriptorProto) : Type 0 where
  pub linking : Linking
  pub of : IsOf old linking
  pub linked : PoolType
  pub whole : IsPool linked
  pub faultless : FaultlessFiles before files linked
  pub built : IsBuilt (map file_view (new_files linking.indexes files) ∷ earlier) linked
  pub settles : ChangesOptions linked new
  pub more : List FileDescriptorProto
  pub behind : linked.records ≡ before.records ++ more
  pub beside : made.records ≡ old.records ++ more

pub linked_more : (earlier : List (List FileContent)) (old linked new : PoolType)
    (files : List FileDescriptorProto) (is : IsBuiltBut earlier old) → IsPool new
    → FaultlessFiles old files linked → ChangesOptions linked new
    → IsLinkedMore earlier old is.linked linked new files
linked_more earlier old linked new files is pool (w, of, (names, batch)) settles =
    let before = is.linked in
    let ns = new_files w.indexes files in
    let v = linking before old is.settles w of in
    let is_of = is_before before old is.settles w of in
    let whole_batch = batch_before before old is.settles w of ns linked batch in
    let one = added before old is.settles w of ns linked batch in
    let changes = twice one linked new (added_settles before old is.settles w of ns linked batch)
    settles in
    let whole : IsPool one = pool_before one new changes pool in
    let faultless : FaultlessFiles before files one = (v, is_of, (names, whole_batch)) in
    let more = (built_more earlier before one files is.built whole.recorded whole.indexed whole.kept
    faultless).2 in
    record {
      linking = w;
      of = of;
      linked = one;
      whole = whole;
      faultless = faultless;
      built = record {
        named = more.named;
        extensions = more.extensions;
        values = more.values;
        entries = more.entries;
        declared = more.declared;
        built = (
          map file_view before.records,
          is.built.built,
          added_all before one ns v is_of is.built.named names whole_batch whole.kept whole.indexed
              is.built.entries (built_linked earlier (map file_view before.records) is.built.built)
              is.built.extensions is.built.values,
        );
      };
      settles = changes;
      more = batch.added.records.more;
      behind = refl;
      beside = after_records before old is.settles w of ns linked batch;
    }

pub built_but_more : (earlier : List (List FileContent)) (old linked new : PoolType)
    (files : List FileDescriptorProto) → IsBuiltBut earlier old → IsPool new
    → FaultlessFiles old files linked → ChangesOptions linked new
    → (w : Linking) × IsOf old w
    × IsBuiltBut (map file_view (new_files w.indexes files) ∷ earlier) new
built_but_more earlier old linked new files is pool faultless settles =
    let m = linked_more earlier old linked new files is pool faultless settles in
    (m.linking, m.of, record { linked = m.linked; built = m.built; settles = m.settles })
