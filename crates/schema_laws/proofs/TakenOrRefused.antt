-- What links is not refused for how it links.
use Rattle.std.proofs.Common.{◌≡◌, ◌∙◌, ◌≤◌, ◌+◌, ◌^◌, inl, inr, ℕ, List, map, ap, sym, subst}
use Rattle.std.specs.List.{filter}
use Rattle.descriptor_records.specs.Content.{FileContent, file_view, set_view}
use Rattle.descriptor_records.specs.declared.file.FileDescriptorProto.{FileDescriptorProto}
use Rattle.descriptor_records.specs.declared.file.FileDescriptorSet.{FileDescriptorSet}
use Rattle.option_parts.specs.TypedOptions.{typed_file}
use Rattle.reflect_build.specs.Many.{entries_of}
use Rattle.reflect_build.specs.Refusals.{AreTooMany, IsOf, Linking, new_files}
use Rattle.reflect_build.proofs.Parted.{one_new}
use Rattle.reflect_bytes.specs.Spelled.{SpellsSet}
use Rattle.reflect_codec.specs.Meaning.{IsSet, IsSetBytes}
use Rattle.reflect_codec.proofs.Parts.{one_fields}
use Rattle.reflect_codec.proofs.Unique.{one_set}
use Rattle.reflect_passes.specs.declared.error.DescriptorError.{DescriptorError}
use Rattle.reflect_tables.specs.Types.{PoolType}
use Rattle.schema_core.specs.Refusals.{FilesFit, FilesLinked, FilesRefused, IsPool, SetLinked, SetRefused, SourcesLinked, SourcesRefused}
use Rattle.schema_core.specs.declared.error.SchemaError.TheVariants.{Link}
use Rattle.schema_core.specs.declared.schema.Schema.{Schema}
use Rattle.schema_view.specs.Lawful.{AddsLawful, IsLawful}
use Rattle.schema_view.proofs.Batches.{one_built}
use Rattle.settled_view.specs.BuiltBut.{ChangesOptions}
use Rattle.types_view.specs.Typed.{IsTyped}
use Rattle.types_view.proofs.Settled.{typed_more}
use Rattle.schema_laws.specs.Batches.{AreUnlawful}
use Rattle.schema_laws.specs.Histories.{IsGrown, Sources}
use Rattle.schema_laws.proofs.Grown.{grown}
use Rattle.schema_laws.proofs.Histories.{one_list}
use Rattle.schema_laws.proofs.NewFiles.{lacks, new_seen}
use Rattle.schema_laws.proofs.RefusedBatches.{no_batch}
use Rattle.schema_laws.proofs.Sizes.{as_many}

-- of files of the same content the same are new
pub new_alike : (p : PoolType) (v w : Linking) → IsOf p v → IsOf p w → (fs gs : List FileDescriptorProto) → map file_view fs ≡ map file_view gs
    → map file_view (new_files v.indexes fs) ≡ map file_view (new_files w.indexes gs)
new_alike p v w of also fs gs same =
    ap (map file_view) (one_new p v w fs of also) ∙ new_seen w.indexes fs ∙ ap (filter (lacks w.indexes)) same ∙ sym (new_seen w.indexes gs)

-- and so both are too many, or neither
many_alike : (p : PoolType) (fs gs : List FileDescriptorProto) → map file_view fs ≡ map file_view gs → AreTooMany p fs → AreTooMany p gs
many_alike p fs gs same (w, of, many) =
    (w, of, subst (λ (n : ℕ). 2 ^ 31 ≤ entries_of p + n) (as_many (new_files w.indexes fs) (new_files w.indexes gs) (new_alike p w w of of fs gs same)) many)

-- of two lists of files of the same content not the one fits, in a pool that may then be settled, and the other is refused
-- for how it links
pub fit_or_refused : (earlier : List (List FileContent)) (old linked new : PoolType) (fs gs : List FileDescriptorProto) (e : DescriptorError) → IsTyped earlier old → IsPool old → IsPool new
    → map file_view fs ≡ map file_view gs → FilesFit old fs linked → ChangesOptions linked new → FilesRefused old gs (Link e) → ⊥
fit_or_refused earlier old linked new fs gs e is was whole same (typed, copied, (adds, faultless, few)) changes (others, ones, told, refused) =
    elim (no_batch earlier old others e is.but was.kept told refused) [
      | inl many ↦ few (many_alike old others typed (sym alike) many)
      | inr unlawful ↦ lawful unlawful
    ]
  where
    alike : map file_view typed ≡ map file_view others
    alike = copied ∙ ap (map typed_file) same ∙ sym ones

    lawful : AreUnlawful is.but.linked old others → ⊥
    lawful (w, of, none) =
        let m = typed_more earlier old linked new typed is whole faultless changes in
        let b = m.typed.but.built.built in
        let before : b.0 ≡ map file_view is.but.linked.records = one_built earlier b.0 (map file_view is.but.linked.records) b.1 is.but.built.built in
        let adds : AddsLawful (map file_view is.but.linked.records) (map file_view (new_files m.linking.indexes typed)) (map file_view m.typed.but.linked.records) =
        subst (λ fs. AddsLawful fs (map file_view (new_files m.linking.indexes typed)) (map file_view m.typed.but.linked.records)) before b.2 in
        none adds.0 (subst (λ batch. IsLawful (map file_view is.but.linked.records) batch adds.0) (new_alike old m.linking w m.of of typed others alike) adds.1)

not_both : (earlier : List (List FileContent)) (old new : PoolType) (fs gs : List FileDescriptorProto) (e : DescriptorError) → IsTyped earlier old → IsPool old → IsPool new
    → map file_view fs ≡ map file_view gs → FilesLinked old fs new → FilesRefused old gs (Link e) → ⊥
not_both earlier old new fs gs e is was whole same (linked, fit, settles, settled, bare) refused =
    fit_or_refused earlier old linked new fs gs e is was whole same fit (record { settled = settled; bare = bare }) refused

-- ---- sources

pub sources_not_both : (old new : Schema) (given : Sources) (e : DescriptorError) → IsGrown old → IsPool new.pool → SourcesLinked old.pool given new.pool
    → SourcesRefused old.pool given (Link e) → ⊥
sources_not_both old new given e was whole (files, are, linked) (others, also, refused) =
    let g = grown was.0 old was.1 in
    not_both g.batches old.pool new.pool files others e g.typed g.is whole (one_list given files others are also) linked refused

-- ---- sets

one_set_of : (bytes : List ℕ) (s t : FileDescriptorSet) → IsSetBytes bytes s → IsSetBytes bytes t → set_view s ≡ set_view t
one_set_of bytes s t h k = one_set 100 h.0 s t h.2 (subst (λ fs. IsSet 100 fs t) (one_fields 100 bytes k.0 h.0 k.1 h.1) k.2)

pub one_files : (bytes : List ℕ) (fs gs : List FileDescriptorProto) → SpellsSet bytes fs → SpellsSet bytes gs → map file_view fs ≡ map file_view gs
one_files bytes fs gs (s, means, are) (t, also, ones) =
    sym (ap (map file_view) are) ∙ one_set_of bytes s t means also ∙ ap (map file_view) ones

pub sets_not_both : (old new : Schema) (bytes : List ℕ) (e : DescriptorError) → IsGrown old → IsPool new.pool → SetLinked old.pool bytes new.pool
    → SetRefused old.pool bytes (Link e) → ⊥
sets_not_both old new bytes e was whole (files, are, linked) (others, also, refused) =
    let g = grown was.0 old was.1 in
    not_both g.batches old.pool new.pool files others e g.typed g.is whole (one_files bytes files others are also) linked refused
