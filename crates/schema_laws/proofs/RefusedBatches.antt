-- Files that are refused as they are linked are no batch.
use Rattle.std.proofs.Common.{◌≡◌, ◌⊎◌, ◌∙◌, inl, inr, List, true, false, refl, sym}
use Rattle.descriptor_records.specs.Content.{FileContent}
use Rattle.descriptor_records.specs.declared.file.FileDescriptorProto.{FileDescriptorProto}
use Rattle.reflect_faults.specs.Faults.{another, fault_view}
use Rattle.reflect_faults.specs.declared.error.DescriptorErrorKind.{DescriptorErrorKind}
use Rattle.reflect_faults.specs.declared.error.DescriptorErrorKind.TheVariants as kind
use Rattle.reflect_build.specs.Refusals.{AreRefused, new_files}
use Rattle.reflect_passes.specs.Errors.{is_memory, is_too_many, faults_of}
use Rattle.reflect_passes.specs.declared.error.DescriptorError.{DescriptorError}
use Rattle.reflect_tables.specs.Types.{PoolType}
use Rattle.types_view.specs.Pools.{IsBuiltBut, IsKept}
use Rattle.types_view.proofs.Pools.{no_faults}
use Rattle.schema_laws.specs.Batches.{AreNoBatch}

-- what stands at no place is want of memory, or that there are too many
without_place : (k : DescriptorErrorKind) → fault_view k ≡ another
    → (is_memory k ≡ true) ⊎ (is_too_many k ≡ true)
without_place (kind.DuplicateFileName name found) e = absurd (cc e)
without_place (kind.FileNotFound name found) e = absurd (cc e)
without_place (kind.DuplicateName name found) e = absurd (cc e)
without_place (kind.NameNotFound name found) e = absurd (cc e)
without_place (kind.NameShadowed name shadowed_name found) e = absurd (cc e)
without_place (kind.InvalidType name expected found) e = absurd (cc e)
without_place (kind.UnknownSyntax syntax found) e = absurd (cc e)
without_place (kind.MissingRequiredField field found) e = absurd (cc e)
without_place (kind.InvalidImportIndex index found) e = absurd (cc e)
without_place (kind.InvalidFieldNumber number found) e = absurd (cc e)
without_place (kind.DuplicateFieldNumber number found) e = absurd (cc e)
without_place (kind.NumberInReservedRange number start end found) e = absurd (cc e)
without_place (kind.NumberInExtensionRange number start end found) e = absurd (cc e)
without_place (kind.ExtensionNumberOutOfRange number message found) e = absurd (cc e)
without_place (kind.EmptyEnum found) e = absurd (cc e)
without_place (kind.DuplicateEnumNumber number found) e = absurd (cc e)
without_place (kind.InvalidProto3EnumDefault found) e = absurd (cc e)
without_place (kind.InvalidFieldDefault value found) e = absurd (cc e)
without_place (kind.InvalidOneofIndex index found) e = absurd (cc e)
without_place (kind.BadMapEntry name found) e = absurd (cc e)
without_place (kind.DuplicateExtensionNumber number message found) e = absurd (cc e)
without_place kind.TooMany e = inr refl
without_place kind.Memory e = inl refl

pub no_batch : (earlier : List (List FileContent)) (p : PoolType) (fs : List FileDescriptorProto)
    (e : DescriptorError) → (is : IsBuiltBut earlier p) → IsKept p → is_memory e.first ≡ false
    → AreRefused p fs e → AreNoBatch is.linked p fs
no_batch earlier p fs e is kept told (inl few, many) = by (without_place e.first (cc few)) where
  by : (is_memory e.first ≡ true) ⊎ (is_too_many e.first ≡ true) → AreNoBatch is.linked p fs
  by (inl memory) = absurd (cc (sym memory ∙ told))
  by (inr so) = inl (many so)
no_batch earlier p fs e is kept told (inr (w, of, faulty), many) =
    inr (
      w,
      of,
      λ meanings lawful.
          absurd (cc (no_faults earlier p w (new_files w.indexes fs) meanings is kept of lawful
          (faults_of e) faulty)),
    )
