-- Sources, and sets, that a schema refuses for their options it refuses at one place, for faults of one sort, by one name.
use Rattle.std.proofs.Common.{◌≡◌, ◌∙◌, ℕ, List, length, map, sym, ap}
use Rattle.descriptor_records.specs.Content.{file_view}
use Rattle.descriptor_records.specs.declared.file.FileDescriptorProto.{FileDescriptorProto}
use Rattle.option_parts.specs.Places.{option_place}
use Rattle.option_parts.specs.TypedOptions.{typed_file}
use Rattle.option_parts.specs.declared.option_error.OptionError.{OptionError}
use Rattle.reflect_tables.specs.Types.{PoolType}
use Rattle.schema_core.specs.Refusals.{FilesRefused, SetRefused, SourcesRefused}
use Rattle.schema_core.specs.declared.error.SchemaError.TheVariants.{Options}
use Rattle.schema_core.specs.declared.schema.Schema.{Schema}
use Rattle.stored_options.proofs.OnePlace.{one_place_told}
use Rattle.stored_options.proofs.OneTelling.{one_telling}
use Rattle.schema_laws.specs.Histories.{IsGrown, Sources}
use Rattle.schema_laws.specs.OptionRefusals.{TellTheSame}
use Rattle.schema_laws.proofs.Grown.{HasGrown, grown}
use Rattle.schema_laws.proofs.Histories.{one_list}
use Rattle.schema_laws.proofs.TakenOptions.{AreMadeAlike, made_behind}
use Rattle.schema_laws.proofs.TakenOrRefused.{one_files}

-- two lists of files of one content
files_once : (old : PoolType) (fs gs : List FileDescriptorProto) (e f : OptionError) → HasGrown old → map file_view fs ≡ map file_view gs
    → FilesRefused old fs (Options e) → FilesRefused old gs (Options f) → TellTheSame e f
files_once old fs gs e f g same (p, (typed, copied, (adds, faultless, few)), is, sound, refuses) (q, (others, ones, (adds_too, faultless_too, few_too)), is_too, also, refused) =
    let alike : map file_view others ≡ map file_view typed = ones ∙ ap (map typed_file) (sym same) ∙ sym copied in
    let made : AreMadeAlike p q = made_behind old p q g typed others alike faultless faultless_too is is_too sound also in
    record {
      place = one_place_told p q is is_too made.twins made.same made.reads made.back (length old.files) (option_place e) (option_place f) e.kind f.kind refuses refused;
      kind = one_telling p q is is_too made.twins made.same made.reads made.back (length old.files) (option_place e) (option_place f) e.kind f.kind refuses refused;
    }

pub sources_once : (old : Schema) (given : Sources) (e f : OptionError) → IsGrown old → SourcesRefused old.pool given (Options e) → SourcesRefused old.pool given (Options f) → TellTheSame e f
sources_once old given e f was (files, are, refuses) (others, also, refused) =
    files_once old.pool files others e f (grown was.0 old was.1) (one_list given files others are also) refuses refused

pub set_once : (old : Schema) (bytes : List ℕ) (e f : OptionError) → IsGrown old → SetRefused old.pool bytes (Options e) → SetRefused old.pool bytes (Options f) → TellTheSame e f
set_once old bytes e f was (files, are, refuses) (others, also, refused) =
    files_once old.pool files others e f (grown was.0 old was.1) (one_files bytes files others are also) refuses refused
