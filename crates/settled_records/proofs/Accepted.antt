-- The records of a pool stay plain where files are linked into it.
use Rattle.std.proofs.Common.{◌≡◌, ◌++◌, Bool, true, false, cond, List, [], ◌∷◌, map, ap, sym, subst, ◌∙◌}
use Rattle.std.specs.List.{AllByRecursion, filter}
use Rattle.descriptor_records.specs.Content.{FileContent, OptionsContent, file_view}
use Rattle.descriptor_records.specs.declared.file.FileDescriptorProto.{FileDescriptorProto}
use Rattle.plain_records.specs.PlainRecords.{IsPlainFile, ArePlainFiles}
use Rattle.reflect_build.specs.Accepted.{FaultlessFiles}
use Rattle.reflect_build.specs.Refusals.{is_unknown, new_files}
use Rattle.option_parts.specs.declared.option_scope.OptionScope.{OptionScope}
use Rattle.reflect_index.specs.Rewriting.{written}
use Rattle.reflect_pool.proofs.Grown.{all_behind}
use Rattle.reflect_tables.specs.Types.{PoolType}
use Rattle.settled_records.proofs.Linked.{written_plain}

-- what holds of the views of items holds of those of the ones that pass a test
all_kept : {A B : Type 0} (P : B → Type 0) (view : A → B) (test : A → Bool) (xs : List A)
    → AllByRecursion P (map view xs) → AllByRecursion P (map view (filter test xs))
all_kept P view test [] h = tt
all_kept P view test (x ∷ xs) h = by (test x) (all_kept P view test xs h.1) where
  by : (b : Bool) → AllByRecursion P (map view (filter test xs))
      → AllByRecursion P (map view (cond b (x ∷ filter test xs) (filter test xs)))
  by true k = (h.0, k)
  by false k = k

-- what is said of options of files is so of those that are linked behind the records of a pool
pub fresh_plain : (Says : OptionScope → OptionsContent → Type 0) (old new : PoolType)
    (files : List FileDescriptorProto) → ArePlainFiles Says (map file_view files)
    → FaultlessFiles old files new
    → (more : List FileContent) × (map file_view new.records ≡ map file_view old.records ++ more)
    × ArePlainFiles Says more
fresh_plain Says old new files plain (w, is, (names, batch)) =
    let fresh = new_files w.indexes files in
    let more = written batch.references (map file_view fresh) in (
      more,
      batch.records ∙ ap (λ (p : PoolType). map file_view p.records ++ more) is.tables,
      written_plain Says batch.references (map file_view fresh)
          (all_kept (IsPlainFile Says 99) file_view (is_unknown w.indexes) files plain),
    )

pub linked_plain : (Says : OptionScope → OptionsContent → Type 0) (old new : PoolType)
    (files : List FileDescriptorProto)
    → ArePlainFiles Says (map file_view old.records) → ArePlainFiles Says (map file_view files)
    → FaultlessFiles old files new → ArePlainFiles Says (map file_view new.records)
linked_plain Says old new files before plain faultless =
    let r = fresh_plain Says old new files plain faultless in
    subst (ArePlainFiles Says) (sym r.1)
    (all_behind (IsPlainFile Says 99) (map file_view old.records) r.0 before r.2)
