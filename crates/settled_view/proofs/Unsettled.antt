-- Files that a settled pool accepts the pool before accepts too, and the new pools differ as these do:
-- what references mean, and the types of a batch, are the same behind both.
use Rattle.std.proofs.Common.{◌≡◌, ◌∙◌, ◌++◌, List, [], ◌∷◌, map, length, drop, drop_at, sym, ap, subst, refl, arith}
use Rattle.std.proofs.lemmas.List.{map-append, length-map}
use Rattle.std.specs.formers.vec.Vec.{holding, fits}
use Rattle.descriptor_records.specs.Content.{FileContent, file_view}
use Rattle.descriptor_records.specs.declared.file.FileDescriptorProto.{FileDescriptorProto}
use Rattle.reflect_growth.specs.Settled.{bare_of}
use Rattle.reflect_index.specs.Rewriting.{written}
use Rattle.reflect_names.specs.declared.resolve_visitor.Reference.{Reference}
use Rattle.reflect_passes.specs.declared.linked_types.LinkedTypes.{LinkedTypes}
use Rattle.reflect_tables.specs.Types.{PoolType}
use Rattle.reflect_tables.specs.Views.{record_file, file_of, record_of, declared_of, places_of, pool_of}
use Rattle.reflect_tables.specs.declared.stored.StoredFile.{StoredFile}
use Rattle.reflect_tables.specs.declared.tables.Tables.{Tables}
use Rattle.reflect_build.specs.Accepted.{FaultlessBatch}
use Rattle.reflect_build.specs.Refusals.{Linking, with_declared, IsOf, ReferencesMean, AreTypes}
use Rattle.reflect_build.proofs.Stored.{stored_settled}
use Rattle.settled_view.specs.BuiltBut.{ChangesOptions}
use Rattle.settled_view.proofs.Transfer.{headers_same, known_same, counts_same}

-- ---- tables with other records

abbrev swapped : List StoredFile → List FileDescriptorProto → List StoredFile
swapped [] rs = []
swapped (f ∷ fs) [] = f ∷ swapped fs []
swapped (f ∷ fs) (r ∷ rs) = record { «record» = r; declared = f.declared } ∷ swapped fs rs

pub swapped_long : (fs : List StoredFile) (rs : List FileDescriptorProto)
    → length (swapped fs rs) ≡ length fs
swapped_long [] rs = refl
swapped_long (f ∷ fs) [] = let rest = swapped_long fs [] in omega (arith, rest)
swapped_long (f ∷ fs) (r ∷ rs) = let rest = swapped_long fs rs in omega (arith, rest)

swapped_records : (fs : List StoredFile) (rs : List FileDescriptorProto) → length fs ≡ length rs
    → map record_of (swapped fs rs) ≡ rs
swapped_records [] [] e = refl
swapped_records [] (r ∷ rs) e = absurd (omega (arith, e))
swapped_records (f ∷ fs) [] e = absurd (omega (arith, e))
swapped_records (f ∷ fs) (r ∷ rs) e =
    ap (λ l. r ∷ l) (swapped_records fs rs (omega (arith, e)))

swapped_places : (fs : List StoredFile) (rs : List FileDescriptorProto)
    → map places_of (swapped fs rs) ≡ map places_of fs
swapped_places [] rs = refl
swapped_places (f ∷ fs) [] = ap (λ l. places_of f ∷ l) (swapped_places fs [])
swapped_places (f ∷ fs) (r ∷ rs) = ap (λ l. places_of f ∷ l) (swapped_places fs rs)

files_seen : (fs : List StoredFile) → map file_of fs ≡ map record_file (map record_of fs)
files_seen [] = refl
files_seen (f ∷ fs) = ap (λ l. file_of f ∷ l) (files_seen fs)

abbrev with_files : List FileDescriptorProto → Tables → Tables
with_files rs t = record t {
  files = holding t.files (swapped t.files.items rs)
      (fits t.files (swapped t.files.items rs) (swapped_long t.files.items rs));
}

-- ---- lists

-- what is behind the same list is the same
pub rest_same : {X : Type 0} (xs ys zs : List X) → xs ++ ys ≡ xs ++ zs → ys ≡ zs
rest_same xs ys zs e =
    sym (drop_at xs ys (length xs) refl) ∙ ap (drop (length xs)) e
    ∙ drop_at xs zs (length xs) refl

-- ---- the pool before

module _ (before p : PoolType) (s : ChangesOptions before p) (w : Linking) (is : IsOf p w) where
  abbrev rs : List FileDescriptorProto
  rs = before.records

  abbrev pub linking : Linking
  linking = record w { tables = with_files rs w.tables }

  its : IsOf (record before { records = p.records }) w
  its = subst (λ r. IsOf r w) s.settled is

  records_seen : map record_of w.tables.files.items ≡ p.records
  records_seen = ap (λ (q : PoolType). q.records) is.tables

  many : length w.tables.files.items ≡ length rs
  many =
      sym (length-map w.tables.files.items record_of)
      ∙ ap (λ (l : List FileDescriptorProto). length l) records_seen
      ∙ sym (length-map p.records bare_of) ∙ ap (λ (l : List FileContent). length l) s.bare
      ∙ length-map rs bare_of

  pub records_are : map record_of linking.tables.files.items ≡ rs
  records_are = swapped_records w.tables.files.items rs many

  pub files_are : map file_of linking.tables.files.items ≡ map file_of w.tables.files.items
  files_are =
      files_seen linking.tables.files.items ∙ ap (map record_file) records_are
      ∙ sym (headers_same before p s) ∙ sym (ap (map record_file) records_seen)
      ∙ sym (files_seen w.tables.files.items)

  pub places_are : map places_of linking.tables.files.items ≡ map places_of w.tables.files.items
  places_are = swapped_places w.tables.files.items rs

  tables_are : pool_of linking.tables ≡ before
  tables_are =
      let files = files_are ∙ ap (λ (q : PoolType). q.files) its.tables in
      let declared = places_are ∙ ap (λ (q : PoolType). q.declared) its.tables in
      let messages = ap (λ (q : PoolType). q.messages) its.tables in
      let enums = ap (λ (q : PoolType). q.enums) its.tables in
      let extensions = ap (λ (q : PoolType). q.extensions) its.tables in
      let services = ap (λ (q : PoolType). q.services) its.tables in
      λ i. record {
        files = files i;
        records = records_are i;
        declared = declared i;
        messages = messages i;
        enums = enums i;
        extensions = extensions i;
        services = services i;
      }

  pub is_before : IsOf before linking
  is_before = record {
    tables = tables_are;
    named = its.named;
    files = its.files;
    links = its.links;
    numbers = its.numbers;
    before = record {
      messages = its.before.messages;
      enums = its.before.enums;
      extensions = its.before.extensions;
      services = its.before.services;
    };
    first = its.first;
    known = its.known ∙ known_same before p s;
    counts = its.counts ∙ counts_same before p s;
    stored = stored_settled p.records rs w.tables.messages.items (sym s.bare) its.stored;
  }

  -- the types of a batch, behind those of the pool before
  abbrev pub types_before : LinkedTypes → LinkedTypes
  types_before t = record {
    old = record { ref_ptr = t.old.ref_ptr; now = with_files rs t.old.now };
    new = t.new;
  }

  module _ (ns : List FileDescriptorProto) (references : List Reference) where
    pub means_before : ReferencesMean (with_declared w ns) ns references
        → ReferencesMean (with_declared linking ns) ns references
    means_before m = record { links = m.links; linked = m.linked; right = m.right }

    pub are_types_before : (t : LinkedTypes) → AreTypes (with_declared w ns) ns references t
        → AreTypes (with_declared linking ns) ns references (types_before t)
    are_types_before t declared = record {
      old = ap (with_files rs) declared.old;
      messages = declared.messages;
      ranges = declared.ranges;
      enums = declared.enums;
      values = declared.values;
      extensions = declared.extensions;
      entries = declared.entries;
    }

  -- a batch that the settled pool accepts
  module _ (ns : List FileDescriptorProto) (after : PoolType)
      (batch : FaultlessBatch (with_declared w ns) ns after) where
    abbrev more : List FileDescriptorProto
    more = batch.added.records.more

    -- the pool that it makes of the pool before
    abbrev pub added : PoolType
    added = record after { records = rs ++ more }

    pub after_records : after.records ≡ p.records ++ more
    after_records = batch.added.records.records ∙ ap (λ l. l ++ more) records_seen

    more_written : map file_view more ≡ written batch.references (map file_view ns)
    more_written =
        let olds = map file_view (map record_of w.tables.files.items) in
        rest_same olds (map file_view more) (written batch.references (map file_view ns))
        (sym (map-append file_view (map record_of w.tables.files.items) more)
        ∙ sym (ap (map file_view) batch.added.records.records) ∙ batch.records)

    pub batch_before : FaultlessBatch (with_declared linking ns) ns added
    batch_before = record {
      references = batch.references;
      types = types_before batch.types;
      means = means_before ns batch.references batch.means;
      declared = are_types_before ns batch.references batch.types batch.declared;
      added = record {
        files = batch.added.files ∙ ap (λ l. l ++ map record_file ns) (sym files_are);
        declared = batch.added.declared
            ∙ ap (λ l. l ++ map declared_of batch.types.new.now.files.items) (sym places_are);
        messages = batch.added.messages;
        enums = batch.added.enums;
        extensions = batch.added.extensions;
        services = batch.added.services;
        records = record {
          more = more;
          records = ap (λ l. l ++ more) (sym records_are);
          names = batch.added.records.names;
        };
      };
      numbers = batch.numbers;
      apart = batch.apart;
      records = map-append file_view rs more
          ∙ ap (λ l. map file_view rs ++ l) more_written
          ∙ ap (λ l. map file_view l ++ written batch.references (map file_view ns))
          (sym records_are);
    }

    -- which the pool after settles, as the settled pool does the pool before
    pub added_settles : ChangesOptions added after
    added_settles = record {
      settled = refl;
      bare = ap (map bare_of) after_records ∙ map-append bare_of p.records more
          ∙ ap (λ l. l ++ map bare_of more) s.bare ∙ sym (map-append bare_of rs more);
    }
