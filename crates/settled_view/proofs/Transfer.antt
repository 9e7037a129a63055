-- What a settled pool's type keeps, it kept before.
use Rattle.std.proofs.Common.{◌≡◌, ◌∙◌, List, [], ◌∷◌, map, sym, ap, subst, refl}
use Rattle.descriptor_records.specs.declared.file.FileDescriptorProto.{FileDescriptorProto}
use Rattle.reflect_growth.specs.Settled.{bare_of}
use Rattle.reflect_growth.proofs.Told.{header_told, header_seen}
use Rattle.reflect_known.specs.GivenNames.{names_of_file}
use Rattle.reflect_known.specs.KnownNames.{nothing_known, nothing_before, known_of_files, counts_of_files}
use Rattle.reflect_known.proofs.GivenNames.{known_told, past_told}
use Rattle.reflect_tables.specs.Names.{AreNamed, names_of}
use Rattle.reflect_tables.specs.Types.{PoolType, ArePooled}
use Rattle.reflect_tables.specs.Views.{record_file}
use Rattle.linked_view.specs.Kept.{IsKept}
use Rattle.linked_view.specs.Pools.{IsPool}
use Rattle.reflect_build.proofs.Stays.{names_bare}
use Rattle.settled_view.specs.BuiltBut.{ChangesOptions}

-- what is told by the bare content of a record is told of all records of a list
each_told : {B : Type 0} (g : FileDescriptorProto → B)
    → ((f h : FileDescriptorProto) → bare_of h ≡ bare_of f → g h ≡ g f)
    → (fs hs : List FileDescriptorProto) → map bare_of hs ≡ map bare_of fs → map g hs ≡ map g fs
each_told g told [] [] e = refl
each_told g told [] (h ∷ hs) e = absurd (cc e)
each_told g told (f ∷ fs) [] e = absurd (cc e)
each_told g told (f ∷ fs) (h ∷ hs) e =
    let one : bare_of h ≡ bare_of f = cc e in
    let rest : map bare_of hs ≡ map bare_of fs = cc e in
    λ i. told f h one i ∷ each_told g told fs hs rest i

header_bare : (f h : FileDescriptorProto) → bare_of h ≡ bare_of f → record_file h ≡ record_file f
header_bare f h e = header_seen h ∙ ap header_told e ∙ sym (header_seen f)

module _ (linked p : PoolType) (s : ChangesOptions linked p) where
  pub names_same : map names_of_file p.records ≡ map names_of_file linked.records
  names_same = each_told names_of_file names_bare linked.records p.records s.bare

  pub headers_same : map record_file p.records ≡ map record_file linked.records
  headers_same = each_told record_file header_bare linked.records p.records s.bare

  pub known_same : known_of_files p.records ≡ known_of_files linked.records
  known_same = known_told nothing_known nothing_before 0 p.records linked.records names_same

  pub counts_same : counts_of_files p.records ≡ counts_of_files linked.records
  counts_same = past_told nothing_before p.records linked.records names_same

  abbrev with_records : PoolType
  with_records = record linked { records = p.records }

  pub kept_before : IsKept p → IsKept linked
  kept_before h = by (subst IsKept s.settled h) where
    pooled : ArePooled with_records → ArePooled linked
    pooled r = record {
      declared = r.declared;
      messages = r.messages;
      children = r.children;
      listed = r.listed;
      enums = r.enums;
      extensions = r.extensions;
      services = r.services;
      few = r.few;
    }

    by : IsKept with_records → IsKept linked
    by r = record {
      pooled = pooled r.pooled;
      names = r.names;
      numbers = r.numbers;
      extensions = r.extensions;
    }

  pub pool_before : IsPool p → IsPool linked
  pool_before h = by (subst IsPool s.settled h) where
    by : IsPool with_records → IsPool linked
    by w = record {
      recorded = record {
        headers = w.recorded.headers ∙ headers_same;
        imports = w.recorded.imports;
      };
      indexed = record {
        named = subst (λ k. AreNamed k (names_of linked)) known_same w.indexed.named;
        numbers = w.indexed.numbers;
      };
      kept = kept_before h.kept;
    }
