-- How files in bytes are added or refused.
use Rattle.std.proofs.Common.{◌≡◌, ℕ, Bool, true, false, cond, List, ap, ◌∙◌, refl, sym, subst}
use Rattle.descriptor_records.specs.declared.file.FileDescriptorProto.{FileDescriptorProto}
use Rattle.reflect_wire.specs.declared.wire_error.WireError.{WireError}
use Rattle.reflect_wire.specs.declared.wire_error.WireError.TheVariants as wire
use Rattle.reflect_codec.specs.Reading.{Rejects}
use Rattle.reflect_codec.proofs.Values.{true_told}
use Rattle.reflect_tables.specs.Types.{PoolType}
use Rattle.reflect_passes.specs.Errors.{is_memory}
use Rattle.reflect_passes.specs.declared.error.DescriptorError.{DescriptorError}
use Rattle.reflect_build.specs.Refusals.{AreRefused}
use Rattle.reflect_bytes.specs.declared.pool_ext.PoolError.{PoolError}
use Rattle.reflect_bytes.specs.declared.pool_ext.PoolError.TheVariants.{Wire, Link, Memory}
use Rattle.reflect_bytes.specs.Spelled.{of_wire, of_linker, RecordsRefused, NotSpelled, BytesRefused}

-- a linker's refusal of records is one of files
pub of_link : (p : PoolType) (files : List FileDescriptorProto) (d : DescriptorError) (e : PoolError) → AreRefused p files d → e ≡ of_linker d → RecordsRefused p files e
of_link p files d e r is = by (is_memory d.first) refl where
  by : (memory : Bool) → is_memory d.first ≡ memory → RecordsRefused p files e
  by true so = subst (RecordsRefused p files) (sym (is ∙ ap (λ (m : Bool). cond m Memory (Link d)) so)) tt
  by false so = subst (RecordsRefused p files) (sym (is ∙ ap (λ (m : Bool). cond m Memory (Link d)) so)) (so, r)

-- what is refused as records is refused as the bytes that spell them
pub of_records : (Spelled : List FileDescriptorProto → Type 0) (Fault : WireError → Type 0) (p : PoolType) (files : List FileDescriptorProto) (e : PoolError) → Spelled files → RecordsRefused p files e → BytesRefused Spelled Fault p e
of_records Spelled Fault p files (Wire e) s r = absurd r
of_records Spelled Fault p files (Link e) s r = (files, s, r)
of_records Spelled Fault p files Memory s r = tt

module _ {X : Type 0} (R : List ℕ → X → Type 0) (F : List ℕ → WireError → Type 0) (files_of : X → List FileDescriptorProto) (bytes : List ℕ) where
  -- these are the files of what the bytes are read as
  abbrev Files : List FileDescriptorProto → Type 0
  Files files = (x : X) × R bytes x × (files_of x ≡ files)

  -- bytes that are read as nothing spell no files, and have the fault that is told
  pub unspelled : (e : WireError) → (e ≡ wire.Memory → ⊥) → Rejects R F bytes e → NotSpelled Files (F bytes) e
  unspelled e more h = ((λ files s. h.none more s.0 s.1), true_told e more h.told)

  -- and so they are refused
  at_fault : (p : PoolType) (e : WireError) → (e ≡ wire.Memory → ⊥) → Rejects R F bytes e → BytesRefused Files (F bytes) p (Wire e)
  at_fault p e more h = (more, unspelled e more h)

  pub of_bytes : (p : PoolType) (e : WireError) → Rejects R F bytes e → BytesRefused Files (F bytes) p (of_wire e)
  of_bytes p wire.Memory h = tt
  of_bytes p wire.Truncated h = at_fault p wire.Truncated (λ q. cc q) h
  of_bytes p wire.BadVarint h = at_fault p wire.BadVarint (λ q. cc q) h
  of_bytes p wire.BadKey h = at_fault p wire.BadKey (λ q. cc q) h
  of_bytes p wire.BadWireType h = at_fault p wire.BadWireType (λ q. cc q) h
  of_bytes p wire.EndGroupMismatch h = at_fault p wire.EndGroupMismatch (λ q. cc q) h
  of_bytes p wire.TooDeep h = at_fault p wire.TooDeep (λ q. cc q) h
  of_bytes p wire.BadUtf8 h = at_fault p wire.BadUtf8 (λ q. cc q) h
  of_bytes p wire.TooLong h = at_fault p wire.TooLong (λ q. cc q) h
