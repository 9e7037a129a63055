-- A pool whose records were settled.
use Rattle.std.proofs.Common.{◌≡◌, ℕ, List, [], String, map, sym, subst, ◌∙◌}
use Rattle.std.specs.BTreeMap.{BTreeMap}
use Rattle.std.specs.declared.alloc.Global.{Global}
use Rattle.descriptor_records.specs.declared.file.FileDescriptorProto.{FileDescriptorProto}
use Rattle.name_table.specs.declared.table.NameTable.{NameTable}
use Rattle.reflect_scope.specs.declared.definition.Definition.{Definition}
use Rattle.reflect_scope.specs.declared.seen.Links.{Links}
use Rattle.reflect_tables.specs.Types.{PoolType, ArePooled, IsSettled}
use Rattle.reflect_tables.specs.ExtensionNumbers.{KeyType}
use Rattle.reflect_tables.specs.Views.{record_file}
use Rattle.reflect_known.specs.GivenNames.{names_of_file}
use Rattle.reflect_known.specs.KnownNames.{nothing_known, nothing_before}
use Rattle.reflect_known.proofs.GivenNames.{known_told, names_told}
use Rattle.reflect_growth.specs.Settled.{bare_of}
use Rattle.reflect_tables.specs.declared.stored.StoredMessage.{StoredMessage}
use Rattle.reflect_pool.specs.Linked.{IsLinked}
use Rattle.reflect_pool.specs.Stored.{AreStored}
use Rattle.reflect_build.proofs.Stays.{settled_has}
use Rattle.reflect_build.proofs.Stored.{stored_settled}

abbrev with_records : PoolType → List FileDescriptorProto → PoolType
with_records p rs = record p { records = rs }

pooled_with : (p : PoolType) (rs : List FileDescriptorProto) → ArePooled p → ArePooled (with_records p rs)
pooled_with p rs h = record { declared = h.declared; messages = h.messages; children = h.children; listed = h.listed; enums = h.enums; extensions = h.extensions; services = h.services; few = h.few }

-- what holds of a linked pool speaks of the names that its records give, of their headers, and of
-- what they say beside options
pub linked_settled : (p q : PoolType) (names : NameTable Definition) (file_names : BTreeMap (String Global) ℕ) (places : BTreeMap KeyType ℕ) (links : List Links) (ms ns : List StoredMessage)
    → IsSettled p q → map names_of_file q.records ≡ map names_of_file p.records
    → map bare_of q.records ≡ map bare_of p.records → p.files ≡ map record_file q.records
    → ns ≡ ms
    → IsLinked p names file_names places links ms → IsLinked q names file_names places links ns
linked_settled p q names file_names places links ms ns settled same bare headers stay h =
    subst (λ r. IsLinked r names file_names places links ns) (sym settled) (record {
      pooled = pooled_with p q.records h.pooled;
      named = h.named;
      below = h.below;
      files = h.files;
      numbers = h.numbers;
      imports = h.imports;
      to_imports = h.to_imports;
      known = h.known ∙ sym (known_told nothing_known nothing_before 0 q.records p.records same);
      headers = headers;
      entries = λ s. h.entries s ∙ sym (names_told s [] nothing_before 0 q.records p.records same);
      stored = subst (AreStored q.records) (sym stay) (stored_settled p.records q.records ms bare h.stored);
      placed = settled_has p q.records bare h.placed;
    })
