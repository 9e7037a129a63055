-- Which refusals the calls of a schema give.
use Rattle.std.specs.Prelude.{◌≡◌, ◌≢◌, ◌⊎◌, ◌<◌, ◌≤◌, ◌^◌, ℕ, List, [], ◌∷◌, false, cond, None, Some, Ok, Err, map, length, take, slice_get, string_bytes, codes}
use Rattle.std.specs.Borrow.{Bor}
use Rattle.std.specs.List.{AllByRecursion}
pub use Rattle.linked_view.specs.Pools.{IsPool}
use Rattle.message_view.specs.Sound.{IsSound}
use Rattle.protox_parse.specs.Answers.{IsAnswered}
use Rattle.protox_parse.specs.Refusals.{IsRefusalOf, faults_of}
use Rattle.protox_parse.specs.declared.error.ParseError.{ParseError}
use Rattle.protox_parse.specs.declared.error.ParseError.TheVariants as parsed
use Rattle.protox_tree.specs.declared.error.ParseErrorKind.TheVariants.{FileTooLarge}
use Rattle.reflect_tables.specs.Finding.{IsFirst}
use Rattle.reflect_tables.specs.Types.{PoolType, IsSettled}
use Rattle.descriptor_records.specs.declared.file.FileDescriptorProto.{FileDescriptorProto}
use Rattle.reflect_growth.specs.Settled.{bare_of}
use Rattle.reflect_pool.specs.Dots.{without_dot}
use Rattle.reflect_pool.specs.Linked.{empty_pool}
use Rattle.reflect_build.specs.Refusals.{AreRefused}
use Rattle.reflect_passes.specs.Errors.{is_memory}
use Rattle.reflect_passes.specs.declared.error.DescriptorError.{DescriptorError}
use Rattle.reflect_wire.specs.declared.wire_error.WireError.{WireError}
use Rattle.reflect_wire.specs.declared.wire_error.WireError.TheVariants as wire
use Rattle.reflect_codec.specs.Faults.{SetBytesFault}
use Rattle.reflect_bytes.specs.Spelled.{SpellsSet, NotSpelled, RecordsLinked}
use Rattle.reflect_decode.specs.Spelled.{TellsWhy}
use Rattle.reflect_format.specs.Reads.{IsCause}
use Rattle.reflect_format.specs.Truth.{TrueOf}
use Rattle.reflect_format.specs.Told.{Told}
use Rattle.text_format.specs.Texts.{IsFaultOf, MakesNone}
use Rattle.reflect_pool.specs.declared.message.MessageDescriptor.{MessageDescriptor}
use Rattle.schema_core.specs.Payloads.{IsType}
use Rattle.text_error.specs.declared.error.ParseError as text
use Rattle.text_error.specs.declared.error.ParseErrorKind.{ParseErrorKind}
use Rattle.text_error.specs.declared.error.ParseErrorKind.TheVariants as texts
use Rattle.option_parts.specs.OptionTypes.{TellsRequired}
use Rattle.option_parts.specs.Places.{option_place}
use Rattle.option_parts.specs.TypedOptions.{TypedFiles}
use Rattle.option_parts.specs.declared.option_error.OptionError.{OptionError}
use Rattle.option_parts.specs.declared.option_error.OptionErrorKind.{OptionErrorKind}
use Rattle.option_parts.specs.declared.option_error.OptionErrorKind.TheVariants as kinds
use Rattle.reflect_options.specs.Settling.{RefusesFrom, SettlesPool}
use Rattle.schema_core.specs.declared.error.SchemaError.{SchemaError}
use Rattle.schema_core.specs.declared.error.SchemaError.TheVariants.{Parse, Link, Options, Wire, Text, UnknownType, Memory, TooLong}

-- a refusal of a source, as one of the schema
abbrev pub of_source : ParseError → SchemaError
of_source parsed.Memory = Memory
of_source e = Parse e

-- a refusal of the linker, as one of the schema
abbrev pub of_linker : DescriptorError → SchemaError
of_linker e = cond (is_memory e.first) Memory (Link e)

-- a refusal of wire bytes, as one of the schema
abbrev pub of_wire : WireError → SchemaError
of_wire wire.Memory = Memory
of_wire wire.TooLong = TooLong
of_wire e = Wire e

-- a refusal of a text, by its kind, as one of the schema
abbrev pub of_text : text.ParseError → ParseErrorKind → SchemaError
of_text e texts.Memory = Memory
of_text e (texts.TooLong span) = TooLong
of_text e _ = Text e

-- a refusal of options, by its kind, as one of the schema
abbrev pub of_options : OptionError → OptionErrorKind → SchemaError
of_options e kinds.Memory = Memory
of_options e kind = Options e

-- there is a message type of the name
abbrev pub IsKnown : PoolType → List ℕ → Type 0
IsKnown p name = (i : ℕ) × IsFirst (λ m. m.full_name ≡ without_dot name) p.messages (Some i)

-- there is none
abbrev pub IsUnknown : PoolType → List ℕ → Type 0
IsUnknown p name = IsFirst (λ m. m.full_name ≡ without_dot name) p.messages None

-- no message type has the name, which the refusal gives back, or memory ran out
abbrev pub TypeRefused : PoolType → List ℕ → SchemaError → Type 0
TypeRefused p name (UnknownType n) = (string_bytes n ≡ name) × IsUnknown p name
TypeRefused p name Memory = Unit {0}
TypeRefused p name _ = ⊥

-- the type is known, and what is told of the bytes is true of them as a message of it; want of
-- memory is no fault of theirs
abbrev pub IsNoMessage : PoolType → List ℕ → List ℕ → WireError → Type 0
IsNoMessage p name bytes e = (d : MessageDescriptor) × IsType p name d × (e ≢ wire.Memory)
    × TellsWhy d bytes e

-- of bytes: the type is unknown, or it is known and the bytes are refused
abbrev pub BytesRefused : PoolType → List ℕ → List ℕ → SchemaError → Type 0
BytesRefused p name bytes (UnknownType n) = (string_bytes n ≡ name) × IsUnknown p name
BytesRefused p name bytes (Wire e) = (e ≢ wire.TooLong) × IsNoMessage p name bytes e
BytesRefused p name bytes TooLong = IsNoMessage p name bytes wire.TooLong
BytesRefused p name bytes Memory = Unit {0}
BytesRefused p name bytes _ = ⊥

-- the type is known, the text makes no message of it, and what is told is its first fault, true of
-- the pool, and no want of memory
abbrev pub IsNoText : PoolType → List ℕ → List ℕ → ParseErrorKind → Type 0
IsNoText p name text kind = (d : MessageDescriptor) × IsType p name d × (kind ≢ texts.Memory)
    × IsCause (MakesNone d text) kind × TrueOf p kind × Told (IsFaultOf d text) kind

-- of a text: the type is unknown, or it is known and the text is refused
abbrev pub TextRefused : PoolType → List ℕ → List ℕ → SchemaError → Type 0
TextRefused p name text (UnknownType n) = (string_bytes n ≡ name) × IsUnknown p name
TextRefused p name text (Text e) = IsNoText p name text e.kind
TextRefused p name text Memory = Unit {0}
TextRefused p name text _ = ⊥

-- files fit together and with a pool, which becomes the new one, with the options that linking
-- reads where it reads them
abbrev pub FilesFit : PoolType → List FileDescriptorProto → PoolType → Type 0
FilesFit p files new = (typed : List FileDescriptorProto) × TypedFiles files typed
    × RecordsLinked p typed new

-- files are added to a pool and their options are settled, which changes records alone, and in
-- these nothing but options and the paths of their locations
abbrev pub FilesLinked : PoolType → List FileDescriptorProto → PoolType → Type 0
FilesLinked p files new = (linked : PoolType) × FilesFit p files linked
    × SettlesPool linked (length p.files) new × IsSettled linked new
    × (map bare_of new.records ≡ map bare_of linked.records)

-- of files: they do not fit together, or are too many; or they fit, into a pool whose types are
-- sound, and a type of options is none to read options by, or options of theirs are refused, at
-- that place; want of memory is told apart
abbrev pub FilesRefused : PoolType → List FileDescriptorProto → SchemaError → Type 0
FilesRefused p files (Link e) = (typed : List FileDescriptorProto) × TypedFiles files typed
    × (is_memory e.first ≡ false) × AreRefused p typed e
FilesRefused p files (Options e) = (linked : PoolType) × FilesFit p files linked
    × IsPool linked × IsSound linked
    × RefusesFrom linked (length p.files) (option_place e) e.kind
FilesRefused p files Memory = Unit {0}
FilesRefused p files _ = ⊥

-- the name under which the types of options are known
abbrev pub descriptor_name : List ℕ
descriptor_name = codes "google/protobuf/descriptor.proto"

-- sources as the names of their files and their texts
abbrev pub sources_of : List (Bor (List ℕ) × Bor (List ℕ)) → List (List ℕ × List ℕ)
sources_of sources = map (λ s. (s.0.now, s.1.now)) sources

-- the file is the record of a tree without faults that the source spells
abbrev pub IsFileOf : List ℕ × List ℕ → FileDescriptorProto → Type 0
IsFileOf s f = IsAnswered s.0 s.1 (Ok f)

-- files, one of each source and in their order
abbrev pub AreFilesOf : List (List ℕ × List ℕ) → List FileDescriptorProto → Type 0
AreFilesOf [] [] = Unit {0}
AreFilesOf [] (f ∷ fs) = ⊥
AreFilesOf (s ∷ ss) [] = ⊥
AreFilesOf (s ∷ ss) (f ∷ fs) = IsFileOf s f × AreFilesOf ss fs

-- each source is of fewer bytes than are too large
abbrev pub AreSmall : List (List ℕ × List ℕ) → Type 0
AreSmall sources = AllByRecursion (λ s. length s.1 < 2 ^ 31) sources

-- sources are added as such files
abbrev pub SourcesLinked : PoolType → List (List ℕ × List ℕ) → PoolType → Type 0
SourcesLinked p sources new = (files : List FileDescriptorProto) × AreFilesOf sources files
    × FilesLinked p files new

-- the first source that is refused: those before it are files, and it is told under its own name,
-- with what its own text is at fault for, and where, or that the text is too large
abbrev pub IsFirstRefused : List (List ℕ × List ℕ) → ParseError → Type 0
IsFirstRefused sources e =
    (i : ℕ) × (s : List ℕ × List ℕ) × (files : List FileDescriptorProto)
    × (slice_get sources i ≡ Some s) × AreFilesOf (take i sources) files
    × IsRefusalOf s.0 s.1 e × (length s.1 < 2 ^ 31 → IsAnswered s.0 s.1 (Err e))
    × (2 ^ 31 ≤ length s.1 → faults_of e ≡ FileTooLarge ∷ [])

-- of sources: one of them is refused as such, or their files are
abbrev pub SourcesRefused : PoolType → List (List ℕ × List ℕ) → SchemaError → Type 0
SourcesRefused p sources (Parse e) = IsFirstRefused sources e
SourcesRefused p sources (Link e) = (files : List FileDescriptorProto) × AreFilesOf sources files
    × FilesRefused p files (Link e)
SourcesRefused p sources (Options e) = (files : List FileDescriptorProto) × AreFilesOf sources files
    × FilesRefused p files (Options e)
SourcesRefused p sources Memory = Unit {0}
SourcesRefused p sources _ = ⊥

-- of the one source that is to declare the types of options: it is refused as sources are, or it
-- is added, into a pool whose types are sound, and not all of the types are there to read options
-- by
abbrev pub DescriptorRefused : List (List ℕ × List ℕ) → SchemaError → Type 0
DescriptorRefused sources (Options e) = SourcesRefused empty_pool sources (Options e)
    ⊎ ((new : PoolType) × SourcesLinked empty_pool sources new × IsPool new × IsSound new
    × (option_place e ≡ None) × TellsRequired new e.kind)
DescriptorRefused sources e = SourcesRefused empty_pool sources e

-- bytes are those of a descriptor set whose files are added
abbrev pub SetLinked : PoolType → List ℕ → PoolType → Type 0
SetLinked p bytes new = (files : List FileDescriptorProto) × SpellsSet bytes files
    × FilesLinked p files new

-- the bytes are no descriptor set, and what is told of them is so, and no want of memory
abbrev pub IsNoSet : List ℕ → WireError → Type 0
IsNoSet bytes e = (e ≢ wire.Memory) × NotSpelled (SpellsSet bytes) (SetBytesFault bytes) e

-- of a descriptor set: the bytes are none, or they are one whose files are refused
abbrev pub SetRefused : PoolType → List ℕ → SchemaError → Type 0
SetRefused p bytes (Wire e) = (e ≢ wire.TooLong) × IsNoSet bytes e
SetRefused p bytes TooLong = IsNoSet bytes wire.TooLong
SetRefused p bytes (Link e) = (files : List FileDescriptorProto) × SpellsSet bytes files
    × FilesRefused p files (Link e)
SetRefused p bytes (Options e) = (files : List FileDescriptorProto) × SpellsSet bytes files
    × FilesRefused p files (Options e)
SetRefused p bytes Memory = Unit {0}
SetRefused p bytes _ = ⊥
