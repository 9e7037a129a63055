-- How files, sources and descriptor sets are refused.
use Rattle.std.proofs.Common.{◌≡◌, ◌⊎◌, ◌≤◌, ◌<◌, ◌+◌, ◌^◌, ◌++◌, inl, inr, ℕ, Bool, true, false, cond, List, [], ◌∷◌, None, Some, length, take, get_or, slice_get, option_map, Ok, Err, ap, ◌∙◌, refl, sym, subst}
use Rattle.std.specs.Borrow.{Bor}
use Rattle.std.proofs.lemmas.Bool.{cases_lt}
use Rattle.std.proofs.lemmas.List.{map-append, take-map, take_all, take_more}
use Rattle.std.proofs.lemmas.Option.{slice_get-map, slice_get-get_or}
use Rattle.descriptor_records.specs.declared.file.FileDescriptorProto.{FileDescriptorProto}
use Rattle.reflect_wire.specs.declared.wire_error.WireError.{WireError}
use Rattle.reflect_wire.specs.declared.wire_error.WireError.TheVariants as wire
use Rattle.reflect_codec.specs.Faults.{SetBytesFault}
use Rattle.reflect_codec.specs.Reading.{Rejects}
use Rattle.reflect_codec.specs.Meaning.{IsSetBytes}
use Rattle.message_view.specs.Sound.{IsSound}
use Rattle.protox_parse.specs.Answers.{IsAnswered}
use Rattle.protox_parse.specs.Refusals.{IsRefusalOf, faults_of}
use Rattle.protox_parse.specs.declared.error.ParseError.{ParseError}
use Rattle.protox_parse.specs.declared.error.ParseError.TheVariants as parsed
use Rattle.protox_tree.specs.declared.error.ParseErrorKind.TheVariants.{FileTooLarge}
use Rattle.reflect_tables.specs.Types.{PoolType}
use Rattle.reflect_faults.specs.Faults.{place_of}
use Rattle.reflect_passes.specs.Errors.{is_memory}
use Rattle.reflect_passes.specs.declared.error.DescriptorError.{DescriptorError}
use Rattle.reflect_build.specs.Refusals.{AreRefused}
use Rattle.reflect_bytes.specs.Spelled.{SpellsSet}
use Rattle.reflect_bytes.proofs.Refused.{unspelled}
use Rattle.option_parts.specs.OptionTypes.{TellsRequired}
use Rattle.option_parts.specs.Places.{option_place}
use Rattle.option_parts.specs.TypedOptions.{TypedFiles}
use Rattle.option_parts.specs.declared.option_error.OptionError.{OptionError}
use Rattle.option_parts.specs.declared.option_error.OptionErrorKind.{OptionErrorKind}
use Rattle.option_parts.specs.declared.option_error.OptionErrorKind.TheVariants as kinds
use Rattle.option_setter.specs.OptionNames.{UnlessMemory}
use Rattle.reflect_options.specs.Settling.{RefusesFrom}
use Rattle.reflect_pool.specs.Linked.{empty_pool}
use Rattle.schema_core.specs.declared.error.SchemaError.{SchemaError}
use Rattle.schema_core.specs.declared.error.SchemaError.TheVariants.{Parse, Link, Options, Wire, Text, UnknownType, Memory, TooLong}
use Rattle.schema_core.proofs.Apart.{NoLength, NoMemory, NoSourceMemory}
use Rattle.schema_core.specs.Refusals.{of_source, of_linker, of_wire, of_options, DescriptorRefused, IsNoSet, FilesFit, FilesRefused, IsPool, sources_of, IsFileOf, AreFilesOf, AreSmall, SourcesLinked, SourcesRefused, SetRefused}

-- a linker's refusal is one of files
pub of_link : (p : PoolType) (files typed : List FileDescriptorProto) (d : DescriptorError) (e : SchemaError) → TypedFiles files typed → AreRefused p typed d → e ≡ of_linker d → FilesRefused p files e
of_link p files typed d e t r is = by (is_memory d.first) refl where
  by : (memory : Bool) → is_memory d.first ≡ memory → FilesRefused p files e
  by true so = subst (FilesRefused p files) (sym (is ∙ ap (λ (m : Bool). cond m Memory (Link d)) so)) tt
  by false so = subst (FilesRefused p files) (sym (is ∙ ap (λ (m : Bool). cond m Memory (Link d)) so)) (typed, t, so, r)

-- files that fit together are refused for their options
pub refused_options : (p : PoolType) (files : List FileDescriptorProto) (linked : PoolType) (o : OptionError) (kind : OptionErrorKind) → o.kind ≡ kind → FilesFit p files linked → IsPool linked → IsSound linked → UnlessMemory (RefusesFrom linked (length p.files) (option_place o)) kind
    → FilesRefused p files (of_options o kind)
refused_options p files linked o kinds.Memory is fit pool sound refused = tt
refused_options p files linked o kind is fit pool sound refused = (linked, fit, pool, sound, subst (RefusesFrom linked (length p.files) (option_place o)) (sym is) refused)

-- files that are refused are refused as the set that they stand in
pub of_set : (p : PoolType) (bytes : List ℕ) (files : List FileDescriptorProto) (e : SchemaError) → SpellsSet bytes files → FilesRefused p files e → SetRefused p bytes e
of_set p bytes files (Link e) s r = (files, s, r)
of_set p bytes files (Options e) s r = (files, s, r)
of_set p bytes files Memory s r = tt
of_set p bytes files (Parse e) s r = absurd r
of_set p bytes files (Wire e) s r = absurd r
of_set p bytes files (Text e) s r = absurd r
of_set p bytes files (UnknownType n) s r = absurd r
of_set p bytes files TooLong s r = absurd r

-- a source as its file's name and its text
abbrev view : Bor (List ℕ) × Bor (List ℕ) → List ℕ × List ℕ
view s = (s.0.now, s.1.now)

-- a source that is lent is one of the batch
pub lent : (lends : List (Bor (List ℕ) × Bor (List ℕ))) (i : ℕ) (d : Bor (List ℕ) × Bor (List ℕ)) → i < length lends → slice_get (sources_of lends) i ≡ Some (view (get_or lends i d))
lent lends i d inside = slice_get-map view lends i ∙ ap (option_map view) (slice_get-get_or lends i d inside)

-- a source is of no more bytes than a place can tell, and is answered with a file
abbrev pub IsRead : List ℕ × List ℕ → FileDescriptorProto → Type 0
IsRead s f = IsFileOf s f × (length s.1 < 2 ^ 31)

-- and so is each of a batch, in order
abbrev pub AreRead : List (List ℕ × List ℕ) → List FileDescriptorProto → Type 0
AreRead sources files = AreFilesOf sources files × AreSmall sources

-- a source for which there is a file is read, for of one that is too large there is none
pub of_parse : (name z : List ℕ) (file : FileDescriptorProto) → (length z < 2 ^ 31 → IsAnswered name z (Ok file)) → (2 ^ 31 ≤ length z → ⊥) → IsRead (name, z) file
of_parse name z file small large = by (cases_lt (length z) (2 ^ 31)) where
  by : (length z < 2 ^ 31) ⊎ (2 ^ 31 ≤ length z) → IsRead (name, z) file
  by (inl lt) = (small lt, lt)
  by (inr le) = absurd (large le)

files_more : (sources : List (List ℕ × List ℕ)) (files : List FileDescriptorProto) (s : List ℕ × List ℕ) (f : FileDescriptorProto) → AreRead sources files → IsRead s f → AreRead (sources ++ s ∷ []) (files ++ f ∷ [])
files_more [] [] s f h k = ((k.0, tt), (k.1, tt))
files_more [] (g ∷ files) s f h k = absurd h.0
files_more (r ∷ sources) [] s f h k = absurd h.0
files_more (r ∷ sources) (g ∷ files) s f h k =
    let more = files_more sources files s f (h.0.1, h.1.1) k in
    ((h.0.0, more.0), (h.1.0, more.1))

-- one source more is read
pub one_read : (lends : List (Bor (List ℕ) × Bor (List ℕ))) (i : ℕ) (d : Bor (List ℕ) × Bor (List ℕ)) (old new : List FileDescriptorProto) (file : FileDescriptorProto) → i < length lends → AreRead (sources_of (take i lends)) old → IsRead (view (get_or lends i d)) file → new ≡ old ++ file ∷ []
    → AreRead (sources_of (take (i + 1) lends)) new
one_read lends i d old new file inside so_far here put =
    let read : sources_of (take (i + 1) lends) ≡ sources_of (take i lends) ++ view (get_or lends i d) ∷ [] = ap sources_of (take_more lends i d inside) ∙ map-append view (take i lends) (get_or lends i d ∷ []) in
    subst (λ l. AreRead l new) (sym read) (subst (AreRead (sources_of (take i lends) ++ view (get_or lends i d) ∷ [])) (sym put) (files_more (sources_of (take i lends)) old (view (get_or lends i d)) file so_far here))

-- the files of all sources that are lent are those of the batch
pub all_read : (lends : List (Bor (List ℕ) × Bor (List ℕ))) (i : ℕ) (files : List FileDescriptorProto) → length lends ≤ i → AreRead (sources_of (take i lends)) files → AreRead (sources_of lends) files
all_read lends i files end read = subst (λ l. AreRead (sources_of l) files) (take_all i lends end) read

-- what is told of a source that is too large, but for want of memory
alone_told : (x : ParseError) → (x ≡ parsed.Memory → ⊥) → (x ≡ parsed.Memory) ⊎ (faults_of x ≡ FileTooLarge ∷ []) → faults_of x ≡ FileTooLarge ∷ []
alone_told x other (inl m) = absurd (other m)
alone_told x other (inr alone) = alone

-- a source that is refused is the first of its batch
pub of_refused : (p : PoolType) (lends : List (Bor (List ℕ) × Bor (List ℕ))) (i : ℕ) (s : List ℕ × List ℕ) (files : List FileDescriptorProto) (x : ParseError) → slice_get (sources_of lends) i ≡ Some s → AreFilesOf (sources_of (take i lends)) files
    → (x ≡ parsed.Memory) ⊎ IsRefusalOf s.0 s.1 x → (2 ^ 31 ≤ length s.1 → (x ≡ parsed.Memory) ⊎ (faults_of x ≡ FileTooLarge ∷ [])) → (length s.1 < 2 ^ 31 → IsAnswered s.0 s.1 (Err x))
    → SourcesRefused p (sources_of lends) (of_source x)
of_refused p lends i s files parsed.Memory at read h large answered = tt
of_refused p lends i s files (parsed.Refused r) at read (inl m) large answered = absurd (cc m)
of_refused p lends i s files (parsed.Refused r) at read (inr h) large answered =
    (i, s, files, at, subst (λ l. AreFilesOf l files) (sym (take-map view i lends)) read, h, answered, λ so. alone_told (parsed.Refused r) (λ q. subst NoSourceMemory q tt) (large so))

-- files that are refused are refused as the sources that they are read from
pub of_sources : (p : PoolType) (batch : List (List ℕ × List ℕ)) (files : List FileDescriptorProto) (e : SchemaError) → AreFilesOf batch files → FilesRefused p files e → SourcesRefused p batch e
of_sources p batch files (Link e) a r = (files, a, r)
of_sources p batch files (Options e) a r = (files, a, r)
of_sources p batch files Memory a r = tt
of_sources p batch files (Parse e) a r = absurd r
of_sources p batch files (Wire e) a r = absurd r
of_sources p batch files (Text e) a r = absurd r
of_sources p batch files (UnknownType n) a r = absurd r
of_sources p batch files TooLong a r = absurd r

-- a source that is refused as such declares no types of options
pub refused_descriptor : (batch : List (List ℕ × List ℕ)) (e : SchemaError) → SourcesRefused empty_pool batch e → DescriptorRefused batch e
refused_descriptor batch (Options e) refused = inl refused
refused_descriptor batch e refused = refused

-- a source that is added, and does not declare all that options are read by
pub lacks_types : (batch : List (List ℕ × List ℕ)) (new : PoolType) (o : OptionError) (kind : OptionErrorKind) → o.kind ≡ kind → SourcesLinked empty_pool batch new → IsPool new → IsSound new → o.place ≡ None → TellsRequired new kind → DescriptorRefused batch (of_options o kind)
lacks_types batch new o kinds.Memory is linked pool sound none told = tt
lacks_types batch new o kind is linked pool sound none told = inr (new, linked, pool, sound, ap (option_map place_of) none, subst (TellsRequired new) (sym is) told)

-- bytes that are read as no set spell none, and have the fault that is told
no_set : (bytes : List ℕ) (e : WireError) → (e ≡ wire.Memory → ⊥) → Rejects IsSetBytes SetBytesFault bytes e → IsNoSet bytes e
no_set bytes e other h = (other, unspelled IsSetBytes SetBytesFault (λ s. s.file.items) bytes e other h)

at_fault : (p : PoolType) (bytes : List ℕ) (e : WireError) → (e ≡ wire.Memory → ⊥) → (e ≡ wire.TooLong → ⊥) → Rejects IsSetBytes SetBytesFault bytes e → SetRefused p bytes (Wire e)
at_fault p bytes e other short h = (short, no_set bytes e other h)

pub of_bytes : (p : PoolType) (bytes : List ℕ) (e : WireError) → Rejects IsSetBytes SetBytesFault bytes e → SetRefused p bytes (of_wire e)
of_bytes p bytes wire.Memory h = tt
of_bytes p bytes wire.Truncated h = at_fault p bytes wire.Truncated (λ q. subst NoMemory q tt) (λ q. subst NoLength q tt) h
of_bytes p bytes wire.BadVarint h = at_fault p bytes wire.BadVarint (λ q. subst NoMemory q tt) (λ q. subst NoLength q tt) h
of_bytes p bytes wire.BadKey h = at_fault p bytes wire.BadKey (λ q. subst NoMemory q tt) (λ q. subst NoLength q tt) h
of_bytes p bytes wire.BadWireType h = at_fault p bytes wire.BadWireType (λ q. subst NoMemory q tt) (λ q. subst NoLength q tt) h
of_bytes p bytes wire.EndGroupMismatch h = at_fault p bytes wire.EndGroupMismatch (λ q. subst NoMemory q tt) (λ q. subst NoLength q tt) h
of_bytes p bytes wire.TooDeep h = at_fault p bytes wire.TooDeep (λ q. subst NoMemory q tt) (λ q. subst NoLength q tt) h
of_bytes p bytes wire.BadUtf8 h = at_fault p bytes wire.BadUtf8 (λ q. subst NoMemory q tt) (λ q. subst NoLength q tt) h
of_bytes p bytes wire.TooLong h = no_set bytes wire.TooLong (λ q. subst NoMemory q tt) h
