-- Files whose options are refused make a pool that has no settled one.
use Rattle.std.proofs.Common.{List, length, refl}
use Rattle.descriptor_records.specs.declared.file.FileDescriptorProto.{FileDescriptorProto}
use Rattle.option_parts.specs.Places.{option_place}
use Rattle.option_parts.specs.declared.option_error.OptionError.{OptionError}
use Rattle.reflect_tables.specs.Types.{PoolType}
use Rattle.schema_core.specs.Refusals.{FilesRefused}
use Rattle.schema_core.specs.declared.error.SchemaError.TheVariants.{Options}
use Rattle.schema_laws.specs.Batches.{FitUnsettled}
use Rattle.stored_options.proofs.RefusedFiles.{pool_refused}
use Rattle.stored_options.proofs.TwinPools.{twins_itself}

pub unsettled : (p : PoolType) (files : List FileDescriptorProto) (e : OptionError) → FilesRefused p files (Options e) → FitUnsettled p files
unsettled p files e (linked, fit, is, sound, refuses) = (
  linked,
  fit,
  λ new settles.
      pool_refused linked linked new (length p.files) (option_place e) e.kind is is
      (twins_itself linked sound) refl (λ scope can. can) refuses settles,
)
