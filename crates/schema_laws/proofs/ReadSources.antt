-- Of sources for which there are files none is refused as such.
use Rattle.std.proofs.Common.{◌≡◌, ◌<◌, ◌^◌, ℕ, zero, suc, List, [], ◌∷◌, Some, Ok, Err, length, slice_get, subst}
use Rattle.std.proofs.lemmas.Option.{none-some, same_Some}
use Rattle.descriptor_records.specs.declared.file.FileDescriptorProto.{FileDescriptorProto}
use Rattle.protox_laws.proofs.Sources.{not_refused}
use Rattle.protox_parse.specs.Answers.{IsAnswered}
use Rattle.protox_parse.specs.Refusals.{IsRefusalOf}
use Rattle.protox_parse.specs.declared.error.ParseError.{ParseError}
use Rattle.protox_parse.specs.declared.error.ParseError.TheVariants as parsed
use Rattle.reflect_tables.specs.Types.{PoolType}
use Rattle.schema_core.specs.Refusals.{AreFilesOf, AreSmall, IsFileOf, SourcesLinked, SourcesRefused}
use Rattle.schema_core.specs.declared.error.SchemaError.TheVariants.{Parse}
use Rattle.schema_laws.specs.Histories.{Source, Sources}

-- the source at a place of the batch is small, and there is a file of it
read_at : (given : Sources) (files : List FileDescriptorProto) → AreFilesOf given files → AreSmall given → (i : ℕ) (s : Source) → slice_get given i ≡ Some s
    → (length s.1 < 2 ^ 31) × ((f : FileDescriptorProto) × IsFileOf s f)
read_at [] files are small i s at = absurd (none-some s at)
read_at (g ∷ gs) [] are small i s at = absurd are
read_at (g ∷ gs) (f ∷ fs) are small zero s at = subst (λ (t : Source). (length t.1 < 2 ^ 31) × ((file : FileDescriptorProto) × IsFileOf t file)) (same_Some g s at) (small.0, (f, are.0))
read_at (g ∷ gs) (f ∷ fs) are small (suc i) s at = read_at gs fs are.1 small.1 i s at

-- a source that has a file is refused for nothing but want of memory, which is no refusal of it
not_told : (name z : List ℕ) (file : FileDescriptorProto) (e : ParseError) → IsAnswered name z (Ok file) → IsRefusalOf name z e → IsAnswered name z (Err e) → ⊥
not_told name z file parsed.Memory made told refused = told
not_told name z file (parsed.Refused r) made told refused = not_refused name name z file r made refused

pub files_whole : (q : PoolType) (given : Sources) (files : List FileDescriptorProto) (e : ParseError) → AreSmall given → AreFilesOf given files → SourcesRefused q given (Parse e) → ⊥
files_whole q given files e small are (i, s, before, at, read, told, refused, large) =
    let here = read_at given files are small i s at in
    not_told s.0 s.1 here.1.0 e here.1.1 told (refused here.0)

pub taken_whole : (p q new : PoolType) (given : Sources) (e : ParseError) → AreSmall given → SourcesLinked p given new → SourcesRefused q given (Parse e) → ⊥
taken_whole p q new given e small (files, are, linked) refused = files_whole q given files e small are refused
