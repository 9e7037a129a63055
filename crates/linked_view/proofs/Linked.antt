-- The records of accepted files are those that are linked by what each reference means.
use Rattle.std.proofs.Common.{◌≡◌, ◌∙◌, ◌+◌, ℕ, suc, Bool, false, List, [], ◌∷◌, ◌++◌, Option, Some, None, String, Global, string_bytes, map, slice_get, ap, sym, subst, refl, arith}
use Rattle.std.specs.List.{Contains, AllByRecursion, flat_map}
use Rattle.std.proofs.lemmas.List.{map-append}
use Rattle.std.proofs.lemmas.List.Elements.{Contains-append_left, Contains-append_right}
use Rattle.descriptor_records.specs.Content.{Text, FileContent, text_view, file_view}
use Rattle.descriptor_records.specs.declared.file.FileDescriptorProto.{FileDescriptorProto}
use Rattle.reflect_scope.specs.declared.definition.Definition.{Definition}
use Rattle.reflect_scope.specs.declared.definition.DefinitionKind.TheVariants as kind
use Rattle.reflect_scope.specs.declared.definition.ResolveNameFilter.TheVariants as filter
use Rattle.reflect_scope.specs.FileIndexes.{Indexes}
use Rattle.reflect_scope.specs.Known.{Known}
use Rattle.reflect_scope.specs.Means.{Meaning, means, resolve}
use Rattle.reflect_declarations.specs.declared.offsets.Offsets.{Offsets}
use Rattle.reflect_declarations.specs.Declarations.{Declaration, Body, of_field, of_method, of_extension, file_declaration, file_declarations, past_file}
use Rattle.reflect_declarations.specs.Batches.{batch_declarations}
use Rattle.reflect_names.specs.References.{View, name_targets, targets_of}
use Rattle.reflect_names.specs.References as pass
use Rattle.reflect_names.specs.ReferencePass.{views_of, targets_along}
use Rattle.reflect_index.proofs.Counted.{file_next}
use Rattle.schema_view.specs.Declarations as view
use Rattle.schema_view.specs.Files.{file_name}
use Rattle.schema_view.specs.References.{a_message, a_type, Reference, to_message, to_type, references_of, references}
use Rattle.schema_view.specs.Outlines.{Outline, outline_of}
use Rattle.schema_view.specs.Lawful.{outlines, Meanings}
use Rattle.schema_view.specs.Means.{ReferenceMeans}
use Rattle.schema_view.proofs.Lists.{contains_here, contains_there, contains_map, contains_map_cases, contains_flat}
use Rattle.linked_view.specs.Known.{AreKnown}
use Rattle.linked_view.specs.Referred.{HasMeaning, AreMeant, AreSeenBy}
use Rattle.linked_view.specs.Resolved.{filter_of, SeesThose}
use Rattle.linked_view.specs.Taken.{type_of, in_order}
use Rattle.linked_view.proofs.Known.{next_file}
use Rattle.linked_view.proofs.Named.{all_in}
use Rattle.linked_view.proofs.Places.{contains_get}
use Rattle.linked_view.proofs.References.{meaning_to, reference_from}
use Rattle.linked_view.proofs.Walked.{Seen, seen, told, inner_declarations, file_seen}

-- what is meant, if anything is
abbrev pub found_by : Meaning → Text × Definition
found_by (means full d) = (full, d)
found_by _ = ([], record { file = 0; kind = kind.Message 0 })

abbrev pub target : Meaning → pass.Target
target m = (46 ∷ (found_by m).0, (found_by m).1)

one_target : (m : Meaning) (full : Text) (d : Definition) → m ≡ means full d
    → pass.targets m ≡ target m ∷ []
one_target m full d e = subst (λ x. pass.targets x ≡ target x ∷ []) (sym e) refl

abbrev pub meaning_in : Known → (ℕ → Bool) → Reference → Meaning
meaning_in known sees r = resolve known sees (filter_of r.want) r.scope r.name

module _ (files : List FileDescriptorProto) (known : Known) (are : AreKnown files known)
    (from : Outline) (sees : ℕ → Bool) (those : SeesThose files from sees) where
  abbrev os : List Outline
  os = outlines (map file_view files)

  abbrev see : View
  see = record { known = known; sees = sees }

  abbrev found : Reference → pass.Target
  found r = target (meaning_in known sees r)

  abbrev IsMeant : Reference → Type 0
  IsMeant r = HasMeaning os from r

  -- what is found is what it means
  means_found : (r : Reference) → IsMeant r
      → ReferenceMeans os from r (record {
        name = (found_by (meaning_in known sees r)).0;
        type = type_of (found_by (meaning_in known sees r)).1.kind;
      })
  means_found r h =
      let m = reference_from files known are from sees those r.want r.scope r.name h in
      subst (λ x. ReferenceMeans os from r (record { name = (found_by x).0; type = type_of (found_by x).1.kind }))
      (sym m.2) (meaning_to files known are from sees those r.want r.scope r.name m.0 m.1 m.2 m.3)

  message_target : (scope : Text) (o : Option (String Global))
      → ((r : Reference) → Contains (to_message scope (text_view o)) r → IsMeant r)
      → name_targets see filter.Message scope o ≡ map found (to_message scope (text_view o))
  message_target scope None h = refl
  message_target scope (Some s) h =
      let r : Reference = record { want = a_message; scope = scope; name = string_bytes s } in
      let m = reference_from files known are from sees those a_message scope (string_bytes s)
      (h r (contains_here r [])) in
      one_target (meaning_in known sees r) m.0 m.1 m.2

  type_target : (scope : Text) (t : Option _) (o : Option (String Global))
      → ((r : Reference) → Contains (to_type scope t (text_view o)) r → IsMeant r)
      → name_targets see filter.FieldType scope o ≡ map found (to_type scope t (text_view o))
  type_target scope t None h = refl
  type_target scope t (Some s) h =
      let r : Reference = record { want = a_type t; scope = scope; name = string_bytes s } in
      let m = reference_from files known are from sees those (a_type t) scope (string_bytes s)
      (h r (contains_here r [])) in
      one_target (meaning_in known sees r) m.0 m.1 m.2

  -- of a declaration
  abbrev referred : Seen → List Reference
  referred s = elim s.1 [ None ↦ [] | Some b ↦ references_of (record { name = s.0; body = b }) ]

  abbrev AllMeant : Seen → Type 0
  AllMeant s = (r : Reference) → Contains (referred s) r → IsMeant r

  both_targets : (a b : List Reference) (x y : List pass.Target) → x ≡ map found a → y ≡ map found b
      → x ++ y ≡ map found (a ++ b)
  both_targets a b x y e f =
      ap (λ z. z ++ y) e ∙ ap (λ z. map found a ++ z) f ∙ sym (map-append found a b)

  body_targets : (d : Declaration) (b : Body) → AllMeant (seen (record d { body = b }))
      → targets_of see (record d { body = b }) ≡ map found (referred (seen (record d { body = b })))
  body_targets d (of_field f) h = type_target d.name f.field_type f.type_name h
  body_targets d (of_method m) h =
      let a = to_message d.name (text_view m.input_type) in
      let b = to_message d.name (text_view m.output_type) in
      both_targets a b _ _
      (message_target d.name m.input_type (λ r j. h r (Contains-append_left a b r j)))
      (message_target d.name m.output_type (λ r j. h r (Contains-append_right a b r j)))
  body_targets d (of_extension x) h =
      let a = to_message d.name (text_view x.extendee) in
      let b = to_type d.name x.field_type (text_view x.type_name) in
      both_targets a b _ _
      (message_target d.name x.extendee (λ r j. h r (Contains-append_left a b r j)))
      (type_target d.name x.field_type x.type_name (λ r j. h r (Contains-append_right a b r j)))
  body_targets d b h = refl

  -- of the declarations of one file
  along_targets : (views : ℕ → View) (i : ℕ) → views i ≡ see → (ds : List Declaration)
      → AllByRecursion (λ (d : Declaration). (d.file ≡ i) × AllMeant (seen d)) ds
      → targets_along views ds ≡ map found (flat_map referred (map seen ds))
  along_targets views i is [] h = refl
  along_targets views i is (d ∷ ds) h =
      let here : targets_of (views d.file) d ≡ map found (referred (seen d)) =
      ap (λ v. targets_of v d) (ap views h.0.0 ∙ is) ∙ body_targets d d.body h.0.1 in
      both_targets (referred (seen d)) (flat_map referred (map seen ds)) _ _ here
      (along_targets views i is ds h.1)

  told_referred : (vs : List view.Declaration) → flat_map referred (map told vs)
      ≡ flat_map references_of vs
  told_referred [] = refl
  told_referred (v ∷ vs) = ap (λ rs. references_of v ++ rs) (told_referred vs)

  file_targets : (views : ℕ → View) (o : Offsets) (i : ℕ) (f : FileDescriptorProto) → views i ≡ see
      → ((r : Reference) → Contains (references (file_view f)) r → IsMeant r)
      → targets_along views (file_declarations o i f) ≡ map found (references (file_view f))
  file_targets views o i f is h =
      let inner = inner_declarations o i f in
      let content = view.declarations (file_view f) in
      let meant = all_in (λ (d : Declaration). (d.file ≡ i) × AllMeant (seen d)) inner (λ d j. (
        next_file i o (past_file o f) (file_declarations o i f) d (file_next i o f)
            (contains_there (file_declaration [] i f) inner d j),
        λ r k.
            let s = subst (λ l. Contains l (seen d)) (file_seen o i f) (contains_map seen inner d j) in
            let v = contains_map_cases told content (seen d) s in
            h r (contains_flat references_of content v.0 r v.1
            (subst (λ (x : Seen). Contains (referred x) r) (sym v.2) k)),
      )) in
      along_targets views i is inner meant
      ∙ ap (λ ss. map found (flat_map referred ss)) (file_seen o i f)
      ∙ ap (map found) (told_referred content)

targets_both : (views : ℕ → View) (a b : List Declaration)
    → targets_along views (a ++ b) ≡ targets_along views a ++ targets_along views b
targets_both views [] b = refl
targets_both views (d ∷ a) b =
    ap (λ ts. targets_of (views d.file) d ++ ts) (targets_both views a b)
    ∙ sym (append_same (targets_of (views d.file) d) (targets_along views a) (targets_along views b))
  where
    append_same : (x y z : List pass.Target) → (x ++ y) ++ z ≡ x ++ (y ++ z)
    append_same [] y z = refl
    append_same (g ∷ x) y z = ap (λ gs. g ∷ gs) (append_same x y z)

-- of a batch, whose files are found by their names
module _ (files : List FileDescriptorProto) (known : Known) (are : AreKnown files known)
    (indexes : Indexes) (sees : ℕ → ℕ → Bool) where
  abbrev pub sees_of : FileContent → ℕ → Bool
  sees_of f j = elim (indexes (file_name f)) [ None ↦ false | Some i ↦ sees i j ]

  abbrev pub meanings : Meanings
  meanings f r = record {
    name = (found_by (meaning_in known (sees_of f) r)).0;
    type = type_of (found_by (meaning_in known (sees_of f) r)).1.kind;
  }

  abbrev pub targets_in : FileContent → Reference → pass.Target
  targets_in f r = target (meaning_in known (sees_of f) r)

  -- the files have these indexes
  abbrev pub AreAt : ℕ → List FileDescriptorProto → Type 0
  AreAt first fs = (k : ℕ) (f : FileDescriptorProto) → slice_get fs k ≡ Some f
      → indexes (file_name (file_view f)) ≡ Some (first + k)

  pub sees_at : (f : FileDescriptorProto) (i : ℕ) → indexes (file_name (file_view f)) ≡ Some i
      → sees_of (file_view f) ≡ sees i
  sees_at f i e = ap (λ (o : Option ℕ). λ j. elim o as (λ _. Bool) [ None ↦ false | Some x ↦ sees x j ]) e

  pub batch_targets : (o : Offsets) (i : ℕ) (fs : List FileDescriptorProto) → AreAt i fs
      → AreSeenBy files i fs sees → AreMeant (outlines (map file_view files)) (map file_view fs)
      → targets_along (views_of known sees) (batch_declarations o i fs)
      ≡ flat_map (λ f. in_order (targets_in f) f) (map file_view fs)
  batch_targets o i [] at those meant = refl
  batch_targets o i (f ∷ fs) at those meant =
      let zero_place : i + 0 ≡ i = omega arith in
      let here = at 0 f refl ∙ ap Some zero_place in
      let first : SeesThose files (outline_of (file_view f)) (sees i) =
      subst (λ n. SeesThose files (outline_of (file_view f)) (sees n)) zero_place (those 0 f refl) in
      let own = file_targets files known are (outline_of (file_view f)) (sees i) first
      (views_of known sees) o i f refl
      (λ r k. meant (file_view f) r (contains_here (file_view f) (map file_view fs)) k)
      ∙ ap (λ s. map (λ r. target (meaning_in known s r)) (references (file_view f)))
      (sym (sees_at f i here)) in
      let later = batch_targets (past_file o f) (i + 1) fs
      (λ k g e. (let place : i + suc k ≡ i + 1 + k = omega arith in at (suc k) g e ∙ ap Some place))
      (λ k g e. (let place : i + suc k ≡ i + 1 + k = omega arith in
      subst (λ n. SeesThose files (outline_of (file_view g)) (sees n)) place (those (suc k) g e)))
      (λ g r j. meant g r (contains_there (file_view f) (map file_view fs) g j)) in
      targets_both (views_of known sees) (file_declarations o i f)
      (batch_declarations (past_file o f) (i + 1) fs)
      ∙ ap (λ ts. ts ++ targets_along (views_of known sees)
      (batch_declarations (past_file o f) (i + 1) fs)) own
      ∙ ap (λ ts. in_order (targets_in (file_view f)) (file_view f) ++ ts) later

  batch_means : (i : ℕ) (fs : List FileDescriptorProto) → AreAt i fs → AreSeenBy files i fs sees
      → AreMeant (outlines (map file_view files)) (map file_view fs)
      → (k : ℕ) (f : FileDescriptorProto) → slice_get fs k ≡ Some f → (r : Reference)
      → Contains (references (file_view f)) r → Contains (map file_view fs) (file_view f)
      → ReferenceMeans (outlines (map file_view files)) (outline_of (file_view f)) r (meanings (file_view f) r)
  batch_means i fs at those meant k f e r j there =
      subst (λ s. ReferenceMeans (outlines (map file_view files)) (outline_of (file_view f)) r (record {
        name = (found_by (meaning_in known s r)).0;
        type = type_of (found_by (meaning_in known s r)).1.kind;
      })) (sym (sees_at f (i + k) (at k f e)))
      (means_found files known are (outline_of (file_view f)) (sees (i + k)) (those k f e) r
      (meant (file_view f) r there j))

  -- and so does each in the contents of the files
  pub files_mean : (i : ℕ) (fs : List FileDescriptorProto) → AreAt i fs → AreSeenBy files i fs sees
      → AreMeant (outlines (map file_view files)) (map file_view fs)
      → (c : FileContent) (r : Reference) → Contains (map file_view fs) c
      → Contains (references c) r
      → ReferenceMeans (outlines (map file_view files)) (outline_of c) r (meanings c r)
  files_mean i fs at those meant c r j k =
      let f = contains_map_cases file_view fs c j in
      let place = contains_get fs f.0 f.1 in
      subst (λ x. ReferenceMeans (outlines (map file_view files)) (outline_of x) r (meanings x r)) f.2
      (batch_means i fs at those meant place.0 f.0 place.1 r
      (subst (λ x. Contains (references x) r) (sym f.2) k) (contains_map file_view fs f.0 f.1))
