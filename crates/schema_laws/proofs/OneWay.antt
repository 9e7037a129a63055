-- Sources, and sets, are refused in one way: not for how they link and for their options.
use Rattle.std.proofs.Common.{◌≡◌, ℕ, List, map}
use Rattle.descriptor_records.specs.Content.{file_view}
use Rattle.descriptor_records.specs.declared.file.FileDescriptorProto.{FileDescriptorProto}
use Rattle.option_parts.specs.declared.option_error.OptionError.{OptionError}
use Rattle.reflect_passes.specs.declared.error.DescriptorError.{DescriptorError}
use Rattle.reflect_tables.specs.Types.{PoolType}
use Rattle.schema_core.specs.Refusals.{FilesRefused, SetRefused, SourcesRefused}
use Rattle.schema_core.specs.declared.error.SchemaError.TheVariants.{Link, Options}
use Rattle.schema_core.specs.declared.schema.Schema.{Schema}
use Rattle.settled_view.proofs.Built.{itself}
use Rattle.schema_laws.specs.Histories.{IsGrown, Sources}
use Rattle.schema_laws.proofs.Grown.{HasGrown, grown}
use Rattle.schema_laws.proofs.Histories.{one_list}
use Rattle.schema_laws.proofs.TakenOrRefused.{fit_or_refused, one_files}

not_both : (old : PoolType) (fs gs : List FileDescriptorProto) (e : DescriptorError) (f : OptionError) → HasGrown old → map file_view fs ≡ map file_view gs
    → FilesRefused old fs (Options f) → FilesRefused old gs (Link e) → ⊥
not_both old fs gs e f g same (p, fit, is, sound, refuses) refused = fit_or_refused g.batches old p p fs gs e g.typed g.is is same fit (itself p) refused

pub sources_one_way : (old : Schema) (given : Sources) (e : DescriptorError) (f : OptionError) → IsGrown old → SourcesRefused old.pool given (Link e) → SourcesRefused old.pool given (Options f) → ⊥
sources_one_way old given e f was (files, are, refused) (others, also, refuses) =
    not_both old.pool others files e f (grown was.0 old was.1) (one_list given others files also are) refuses refused

pub set_one_way : (old : Schema) (bytes : List ℕ) (e : DescriptorError) (f : OptionError) → IsGrown old → SetRefused old.pool bytes (Link e) → SetRefused old.pool bytes (Options f) → ⊥
set_one_way old bytes e f was (files, are, refused) (others, also, refuses) =
    not_both old.pool others files e f (grown was.0 old was.1) (one_files bytes others files also are) refuses refused
