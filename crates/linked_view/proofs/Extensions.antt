-- The entries of a batch's extensions are those of the records as they are linked.
use Rattle.std.proofs.Common.{◌≡◌, ◌∙◌, ℕ, Bool, List, [], ◌∷◌, ◌++◌, Option, Some, None, String, Global, string_bytes, map, slice_get, cond, ap, sym, subst, refl}
use Rattle.std.specs.List.{AllZip}
use Rattle.descriptor_records.specs.Content.{Text, FileContent, text_view, file_view}
use Rattle.descriptor_records.specs.declared.file.FileDescriptorProto.{FileDescriptorProto}
use Rattle.reflect_scope.specs.declared.definition.DefinitionKind.TheVariants as kind
use Rattle.reflect_scope.specs.declared.definition.ResolveNameFilter.TheVariants as filter
use Rattle.reflect_scope.specs.FileIndexes.{Indexes}
use Rattle.reflect_scope.specs.Known.{Known}
use Rattle.reflect_scope.specs.Means.{Meaning, means, not_found, wrong_kind, shadowed}
use Rattle.reflect_declarations.specs.declared.offsets.Offsets.{Offsets}
use Rattle.reflect_declarations.specs.Declarations.{Declaration, Body, of_file, of_message, of_field, of_oneof, of_enum, of_enum_value, of_service, of_method, of_extension}
use Rattle.reflect_declarations.specs.Batches.{batch_declarations}
use Rattle.reflect_names.specs.Names.{Places}
use Rattle.reflect_names.specs.References.{View, Target, meaning_of, kind_meant, targets_of, reference_faults_at}
use Rattle.reflect_names.specs.ReferencePass.{views_of, targets_along, reference_faults_along}
use Rattle.reflect_names.specs.ReferenceSteps.{target_of}
use Rattle.reflect_index.specs.Along.{AtHand, Met, along, all_of, hand_behind, met, is_extension}
use Rattle.reflect_index.specs.Entries.{IsExtensionOf}
use Rattle.reflect_tables.specs.Names.{FullName, AreFound, found, place_in, place_of, with_file, messages}
use Rattle.reflect_tables.specs.Types.{ExtensionType}
use Rattle.schema_view.specs.References.{rename_message_type}
use Rattle.schema_view.specs.Lawful.{all_linked}
use Rattle.linked_view.specs.AtHand.{kind_by}
use Rattle.linked_view.specs.Extended.{WrittenKey, keys_of, written_keys, HasWritten}
use Rattle.linked_view.specs.Known.{AreKnown}
use Rattle.linked_view.proofs.AtHand.{extension_at_hand, left_behind}
use Rattle.linked_view.proofs.Faults.{none_both}
use Rattle.linked_view.proofs.Linked.{found_by, meanings, AreAt}
use Rattle.linked_view.proofs.Listed.{listed_along, names, see, listed_seen, batch_listed}
use Rattle.linked_view.proofs.Means.{resolved_to}
use Rattle.linked_view.proofs.Walked.{seen}

-- how a name is written where it means something
abbrev pub name_by : View → Text → Option (String Global) → Option Text
name_by v scope None = None
name_by v scope (Some s) =
    Some (46 ∷ (found_by (meaning_of v filter.Message scope (string_bytes s))).0)

-- how a declaration's record is written
abbrev pub keys_by : View → Declaration → List WrittenKey
keys_by v d = elim d.body [
  | of_file f ↦ []
  | of_message m ↦ []
  | of_field f ↦ []
  | of_oneof o ↦ []
  | of_enum e ↦ []
  | of_enum_value x ↦ []
  | of_service s ↦ []
  | of_method m ↦ []
  | of_extension x ↦ (name_by v d.name x.extendee, x.number) ∷ []
]

abbrev pub keys_along : (ℕ → View) → List Declaration → List WrittenKey
keys_along views ds = listed_along keys_by keys_of views ds

-- along a batch
module _ (full_names : List FullName) (known : Known)
    (are : AreFound (found messages known) full_names)
    (sees : ℕ → ℕ → Bool) (at : ℕ → Places) where
  abbrev views : ℕ → View
  views = views_of known sees

  -- what is meant has the name at its index
  record IsNamed (o : Option Text) (i : ℕ) : Type 0 where
    full : Text
    file : ℕ
    written : o ≡ Some (46 ∷ full)
    there : slice_get full_names i ≡ Some (full, file)

  named_by : (v : View) → v.known ≡ known → (scope : Text) (o : Option (String Global)) (i : ℕ)
      → kind_by v filter.Message scope o ≡ Some (kind.Message i) → IsNamed (name_by v scope o) i
  named_by v is scope None i e = absurd (cc e)
  named_by v is scope (Some s) i e = by (meaning_of v filter.Message scope (string_bytes s)) refl where
    by : (m : Meaning) → meaning_of v filter.Message scope (string_bytes s) ≡ m
        → IsNamed (name_by v scope (Some s)) i
    by (means full d) f =
        let same : d.kind ≡ kind.Message i = cc (sym (ap kind_meant f) ∙ e) in
        let r = resolved_to v.known v.sees filter.Message scope (string_bytes s) full d f in
        let known_as : known full ≡ Some d = ap (λ (k : Known). k full) (sym is) ∙ r.1.known_as in
        let place : found messages known full ≡ Some (i, d.file) =
        ap (place_in messages) known_as ∙ ap (λ k. with_file d (place_of messages k)) same in
        record {
          full = full;
          file = d.file;
          written = ap (λ m. Some (46 ∷ (found_by m).0)) f;
          there = (are full i d.file).0 place;
        }
    by not_found f = absurd (cc (sym (ap kind_meant f) ∙ e))
    by wrong_kind f = absurd (cc (sym (ap kind_meant f) ∙ e))
    by (shadowed full) f = absurd (cc (sym (ap kind_meant f) ∙ e))

  abbrev Zipped : List WrittenKey → List ExtensionType → Type 0
  Zipped ks es = AllZip (HasWritten full_names) ks es

  -- one declaration, and those behind it
  one_zipped : (h : AtHand) (d : Declaration) (b : Body) (more : List Target) (ms : List Met)
      (ks : List WrittenKey) (es : List ExtensionType)
      → reference_faults_at (at d.file) (views d.file) (record d { body = b }) ≡ []
      → map target_of h.rest ≡ targets_of (views d.file) (record d { body = b }) ++ more
      → ((xs : List ExtensionType) → AllZip IsExtensionOf ms xs → Zipped ks xs)
      → AllZip IsExtensionOf
      (cond (is_extension b) (met h (record d { body = b }) ∷ ms) ms) es
      → Zipped (keys_by (views d.file) (record d { body = b }) ++ ks) es
  one_zipped h d (of_extension x) more ms ks [] none e later z = absurd z
  one_zipped h d (of_extension x) more ms ks (y ∷ es) none e later z =
      let v = views d.file in
      let hands = extension_at_hand (at d.file) v d x h.rest more none e in
      let named = named_by v refl d.name x.extendee y.extendee (sym hands.0.kind ∙ z.0.extendee) in (
        record {
          full = named.full;
          file = named.file;
          extendee = named.written;
          message = named.there;
          number = z.0.field.says.number;
        },
        later es z.1,
      )
  one_zipped h d b more ms ks es none e later z = later es z

  zipped : (h : AtHand) (ds : List Declaration) (es : List ExtensionType)
      → reference_faults_along at views ds ≡ []
      → map target_of h.rest ≡ targets_along views ds
      → AllZip IsExtensionOf (all_of is_extension (along h ds)) es
      → Zipped (keys_along views ds) es
  zipped h [] [] none e z = tt
  zipped h [] (y ∷ es) none e z = absurd z
  zipped h (d ∷ ds) es none e z =
      let parts = none_both (reference_faults_at (at d.file) (views d.file) d)
      (reference_faults_along at views ds) none in
      let more = targets_along views ds in
      let left = left_behind views at h.rest d d.body more parts.0 e in
      one_zipped h d d.body more (all_of is_extension (along (hand_behind h d) ds))
      (keys_along views ds) es parts.0 e
      (λ xs k. zipped (hand_behind h d) ds xs parts.1 left k) z

-- and these are the keys of the linked files
module _ (files : List FileDescriptorProto) (known : Known) (are : AreKnown files known)
    (indexes : Indexes) (sees : ℕ → ℕ → Bool) where
  name_seen : (f : FileContent) (scope : Text) (o : Option (String Global))
      → name_by (see keys_by keys_of files known are indexes sees f) scope o
      ≡ rename_message_type (names keys_by keys_of files known are indexes sees f) scope (text_view o)
  name_seen f scope None = refl
  name_seen f scope (Some s) = refl

  body_keys : (f : FileContent) (d : Declaration) (b : Body)
      → keys_by (see keys_by keys_of files known are indexes sees f) (record d { body = b })
      ≡ listed_seen keys_by keys_of files known are indexes sees f (seen (record d { body = b }))
  body_keys f d (of_extension x) =
      ap (λ (o : Option Text). (o, x.number) ∷ []) (name_seen f d.name x.extendee)
  body_keys f d b = refl

  batch_keys : (o : Offsets) (i : ℕ) (fs : List FileDescriptorProto)
      → AreAt files known are indexes sees i fs
      → keys_along (views_of known sees) (batch_declarations o i fs)
      ≡ written_keys (all_linked (meanings files known are indexes sees) (map file_view fs))
  batch_keys o i fs at = batch_listed keys_by keys_of files known are indexes sees
      (record { none = λ v i f. refl; one = body_keys }) o i fs at

  -- and so the entries are those of the linked files
  module _ (o : Offsets) (i : ℕ) (fs : List FileDescriptorProto)
      (placed : AreAt files known are indexes sees i fs) where
    pub keys_zipped : (full_names : List FullName) → AreFound (found messages known) full_names
        → (at : ℕ → Places) (h : AtHand) (es : List ExtensionType)
        → reference_faults_along at (views_of known sees) (batch_declarations o i fs) ≡ []
        → map target_of h.rest ≡ targets_along (views_of known sees) (batch_declarations o i fs)
        → AllZip IsExtensionOf (all_of is_extension (along h (batch_declarations o i fs))) es
        → AllZip (HasWritten full_names)
        (written_keys (all_linked (meanings files known are indexes sees) (map file_view fs))) es
    keys_zipped full_names stand at h es none targets z =
        subst (λ ks. AllZip (HasWritten full_names) ks es) (batch_keys o i fs placed)
        (zipped full_names known stand sees at h (batch_declarations o i fs) es none targets z)
