-- What the name of a group's type means: the message that its own message declares.
use Rattle.std.proofs.Common.{◌≡◌, inl, inr, ◌<◌, ◌+◌, ◌++◌, ℕ, ℤ, pos, Bool, true, false, List, [], ◌∷◌, map, length, length-append, Option, None, Some, String, Global, string_bytes, refl, sym, ap, ◌∙◌, subst, arith}
use Rattle.std.proofs.lemmas.List.{length-map}
use Rattle.descriptor_records.specs.Content.{Text, text_view, field_view}
use Rattle.descriptor_records.specs.declared.field.FieldDescriptorProto.{FieldDescriptorProto}
use Rattle.descriptor_records.specs.declared.file.FileDescriptorProto.{FileDescriptorProto}
use Rattle.reflect_scope.specs.FileIndexes.{link_view}
use Rattle.reflect_scope.specs.Known.{Known}
use Rattle.reflect_scope.specs.Means.{means, join, has_dot, outer, scopes, is_wanted, standing, marks, undotted, resolve}
use Rattle.reflect_scope.specs.declared.definition.Definition.{Definition}
use Rattle.reflect_scope.specs.declared.definition.DefinitionKind.{DefinitionKind}
use Rattle.reflect_scope.specs.declared.definition.DefinitionKind.TheVariants as kind
use Rattle.reflect_scope.specs.declared.definition.ResolveNameFilter.TheVariants as filter
use Rattle.reflect_scope.proofs.Steps.{undotted_found, undotted_more, resolve_undotted}
use Rattle.reflect_declarations.specs.Declarations.{Declaration, of_field}
use Rattle.reflect_declarations.specs.Tree.{text_of}
use Rattle.reflect_faults.specs.Faults.{batch_places}
use Rattle.reflect_names.specs.ImportedFiles.{links_to}
use Rattle.reflect_names.specs.Names.{Places}
use Rattle.reflect_names.specs.References.{View, Target, meaning_of, kind_meant, suits, unmet, mismatch, type_name_faults, label_faults, type_faults, targets_of, reference_faults_at}
use Rattle.reflect_names.specs.ReferencePass.{views_of, targets_along, reference_faults_along}
use Rattle.reflect_names.specs.ReferenceSteps.{target_of}
use Rattle.reflect_references.specs.Meanings.{meaning}
use Rattle.reflect_passes.specs.NameFaults.{name_faults}
use Rattle.reflect_index.specs.Along.{AtHand, Met, along, before_files, hand_behind}
use Rattle.reflect_tables.specs.Names.{place_in, place_of, with_file, messages}
use Rattle.reflect_tables.specs.Types.{PoolType, ArePooled, type_at}
use Rattle.reflect_pool.specs.Imports.{imported_places}
use Rattle.reflect_build.specs.Accepted.{FaultlessBatch}
use Rattle.reflect_build.specs.Refusals.{Linking, with_declared, IsOf}
use Rattle.source_records.specs.SourceNames.{IsGroup}
use Rattle.reflect_index.proofs.Among.{Among}
use Rattle.linked_view.specs.AtHand.{kind_by}
use Rattle.linked_view.proofs.AtHand.{at_hand, left_behind, resolved_type}
use Rattle.linked_view.proofs.Faults.{none_both, unless_to}
use Rattle.linked_view.proofs.Means.{resolved_to}
use Rattle.linked_names.specs.SourcePools.{IsScoped}
use Rattle.linked_names.proofs.Batch.{ds, known, message_known, messages_found, field_no_scope, first_is}
use Rattle.linked_names.proofs.Dots.{identifier_undotted, outer_join, called_some}
use Rattle.reflect_index.proofs.Behind.{get_in}
use Rattle.linked_names.proofs.Sourced.{IsFileAt, IsGrouped, IsSourcedField, spelled_text}

-- ---- the scope around the innermost one

-- a message that is seen is wanted
message_stands : (sees : ℕ → Bool) (n i : ℕ) → sees n ≡ true
    → standing sees filter.FieldType (Some (record { file = n; kind = kind.Message i }))
    ≡ standing (λ k. true) filter.FieldType (Some (record { file = n; kind = kind.Message i }))
message_stands sees n i seen = rw seen refl

empty_is : (s : Text) → length s ≡ 0 → s ≡ []
empty_is [] e = refl
empty_is (b ∷ bs) e = absurd (omega (arith, e))

no_dot_first : (t : Text) → has_dot t ≡ false → (rest : Text) → t ≡ 46 ∷ rest → ⊥
no_dot_first t plain rest e = cc (sym plain ∙ ap has_dot e)

-- where nothing is meant in the innermost scope, what the next one has of the name is meant
inner_means : (known : Known) (sees : ℕ → Bool) (s m t : Text) (n i : ℕ)
    → has_dot t ≡ false → (s ≡ [] → ⊥) → outer s ≡ m
    → ((e : Definition) → known (join s t) ≡ Some e → is_wanted filter.FieldType e.kind ≡ true
    → resolve known sees filter.FieldType s t ≡ means (join s t) e → ⊥)
    → known (join m t) ≡ Some (record { file = n; kind = kind.Message i }) → sees n ≡ true
    → resolve known sees filter.FieldType s t
    ≡ means (join m t) (record { file = n; kind = kind.Message i })
inner_means known sees s m t n i plain some around never knows seen =
    let at = λ (p : Text). standing sees filter.FieldType (known (join p t)) in
    let whole = resolve_undotted known sees filter.FieldType s t (no_dot_first t plain) plain in
    whole ∙ undotted_more at t s false (at s) refl (λ e is.
    (let meant = whole ∙ undotted_found at t s false e is in
    let r = (resolved_to known sees filter.FieldType s t (join s t) e meant).1 in
    never e r.known_as r.wanted meant)) (λ e. some (empty_is s e))
    ∙ ap (λ q. undotted at t (scopes q) (marks (at s) false)) around
    ∙ undotted_found at t m (marks (at s) false) (record { file = n; kind = kind.Message i })
    (ap (standing sees filter.FieldType) knows ∙ message_stands sees n i seen)

-- the number of a field's type suits what its name means
suits_meant : (at : Places) (v : View) (d : Declaration) (r : FieldDescriptorProto)
    (s : String Global) (full : Text) (e : Definition)
    → reference_faults_at at v (record d { body = of_field r }) ≡ [] → r.type_name ≡ Some s
    → meaning_of v filter.FieldType d.name (string_bytes s) ≡ means full e
    → suits r.field_type e.kind ≡ true
suits_meant at v d r s full e none named is =
    let types = none_both (type_faults at d.path r.field_type) _
    (none_both (label_faults at d.path r.label) _ none).1 in
    let whole : type_name_faults at v d.path d.name (record r { type_name = Some s }) ≡ [] =
    subst (λ o. type_name_faults at v d.path d.name (record r { type_name = o }) ≡ []) named
    types.1 in
    let other = (none_both
    (unmet filter.FieldType (meaning_of v filter.FieldType d.name (string_bytes s)) (string_bytes s)
    (at (d.path ++ (pos 6 ∷ []))))
    (mismatch at d.path (string_bytes s) r.field_type
    (kind_meant (meaning_of v filter.FieldType d.name (string_bytes s)))) whole).1 in
    let now : mismatch at d.path (string_bytes s) r.field_type (Some e.kind) ≡ [] =
    subst (λ m. mismatch at d.path (string_bytes s) r.field_type (kind_meant m) ≡ []) is other in
    unless_to (suits r.field_type e.kind) _ now

no_group : (number : Option ℤ) (i : ℕ) → number ≡ Some (pos 10) → suits number (kind.Enum i) ≡ true
    → ⊥
no_group number i e h = cc (sym (ap (λ n. suits n (kind.Enum i)) e) ∙ h)

-- ---- groups of a batch

module _ (old new : PoolType) (ns : List FileDescriptorProto) (w : Linking) (is : IsOf old w)
    (pooled : ArePooled old) (names : name_faults w.indexes w.known w.before w.first ns ≡ [])
    (batch : FaultlessBatch (with_declared w ns) ns new) where
  abbrev all : List Declaration
  all = ds old new ns w is pooled names batch

  abbrev knows : Known
  knows = known old new ns w is pooled names batch

  abbrev sees : ℕ → ℕ → Bool
  sees = batch.means.right.sees

  abbrev views : ℕ → View
  views = views_of knows sees

  abbrev spots : ℕ → Places
  spots = batch_places ns w.first

  -- each file sees itself
  many_links : length batch.means.links ≡ length old.files + length ns
  many_links =
      let links = batch.means.links in
      let linked = batch.means.linked in
      let one = sym (length-map links link_view) ∙ ap (λ (l : List _). length l) linked
      ∙ length-append (map link_view w.links) (map (links_to (with_declared w ns).indexes) ns) in
      let two = ap (λ (l : List _). length l) is.links
      ∙ length-map old.files (imported_places w.indexes) in
      let three = length-map ns (links_to (with_declared w ns).indexes) in
      omega (arith, one, two, three)

  sees_itself : (n : ℕ) → IsFileAt ns w.first all n → sees n n ≡ true
  sees_itself n at =
      let lt = get_in ns at.place at.own at.at in
      let index = at.index in
      let count = many_links in
      let start = first_is old new ns w is pooled names batch in
      (batch.means.right.right n n (omega (arith, index)) (omega (arith, index, lt))
      (omega (arith, index, lt, count, start))).1 (inl refl)

  -- what is at hand at each declaration
  pub record IsMet (m : Met) : Type 0 where
    pub more : List Target
    pub targets : map target_of m.hand.rest
        ≡ targets_of (views m.declaration.file) m.declaration ++ more
    pub none : reference_faults_at (spots m.declaration.file) (views m.declaration.file)
        m.declaration ≡ []

  all_met : (h : AtHand) (xs : List Declaration) → reference_faults_along spots views xs ≡ []
      → map target_of h.rest ≡ targets_along views xs → (m : Met) → Among m (along h xs) → IsMet m
  all_met h [] none e m k = absurd k
  all_met h (d ∷ xs) none e m k =
      let parts = none_both (reference_faults_at (spots d.file) (views d.file) d)
      (reference_faults_along spots views xs) none in
      elim k [
        | inl same ↦ subst IsMet same
            (record { more = targets_along views xs; targets = e; none = parts.0 })
        | inr later ↦ all_met (hand_behind h d) xs parts.1
            (left_behind views spots h.rest d d.body (targets_along views xs) parts.0 e) m later
      ]

  met_all : (m : Met) → Among m (along (before_files batch.references) all) → IsMet m
  met_all = all_met (before_files batch.references) all (sym batch.means.right.faults)
      batch.means.right.targets

  module _ (scoped : (i : ℕ) → i < length new.messages → IsScoped new (type_at new i)) where
    -- the name of a group's type means what its message declares
    module _ (d : Declaration) (r : FieldDescriptorProto) (h : Among d all)
        (body : d.body ≡ of_field r)
        (f : IsSourcedField ns w.first all (record d { body = of_field r }) r)
        (group : IsGroup (field_view r)) where
      abbrev g : IsGrouped ns w.first all f.outer r
      g = f.grouped group

      abbrev v : View
      v = views d.file

      never : (none : reference_faults_at (spots d.file) v (record d { body = of_field r }) ≡ [])
          (s : String Global) → r.type_name ≡ Some s → string_bytes s ≡ g.type → (e : Definition)
          → (k : DefinitionKind) → e.kind ≡ k → knows (join d.name g.type) ≡ Some e
          → is_wanted filter.FieldType k ≡ true
          → resolve knows (sees d.file) filter.FieldType d.name g.type
          ≡ means (join d.name g.type) e → ⊥
      never none s named same e (kind.Message i) is_kind there wanted meant =
          field_no_scope old new ns w is pooled names batch d r h body scoped
          (λ empty. called_some f.outer.name (text_of r.name) (spelled_text r.name f.spelled)
          (sym f.called ∙ empty)) g.type (identifier_undotted g.type g.spelled) i e.file
          ((messages_found old new ns w is pooled names batch (join d.name g.type) i e.file).0
          (ap (place_in messages) there ∙ ap (λ k. with_file e (place_of messages k)) is_kind))
      never none s named same e (kind.Enum i) is_kind there wanted meant =
          no_group r.field_type i group
          (subst (λ k. suits r.field_type k ≡ true) is_kind
          (suits_meant (spots d.file) v d r s (join d.name g.type) e none named
          (ap (meaning_of v filter.FieldType d.name) same ∙ meant)))
      never none s named same e k is_kind there wanted meant = absurd (cc wanted)

      group_means : (none : reference_faults_at (spots d.file) v (record d { body = of_field r })
          ≡ []) (s : String Global) → r.type_name ≡ Some s → string_bytes s ≡ g.type
          → resolve knows (sees d.file) filter.FieldType d.name g.type
          ≡ means (join f.outer.name g.type)
          (record {
            file = g.nested.declaration.file;
            kind = kind.Message g.nested.declaration.index;
          })
      group_means none s named same =
          let x = g.nested.declaration in
          let plain = spelled_text r.name f.spelled in
          inner_means knows (sees d.file) d.name f.outer.name g.type x.file x.index
          (identifier_undotted g.type g.spelled)
          (λ empty. called_some f.outer.name (text_of r.name) plain (sym f.called ∙ empty))
          (ap outer f.called
          ∙ outer_join f.outer.name (text_of r.name) (identifier_undotted (text_of r.name) plain))
          (λ e there wanted meant. never none s named same e e.kind refl there wanted meant)
          (sym (ap knows g.nested.name)
          ∙ message_known old new ns w is pooled names batch x g.nested.own g.nested.here
          g.nested.body)
          (ap (sees d.file) (g.nested.file ∙ f.file) ∙ sees_itself d.file f.placed)

    -- so it is at hand where the walk meets the field
    pub group_meant : (m : Met) (r : FieldDescriptorProto)
        → Among m (along (before_files batch.references) all) → Among m.declaration all
        → m.declaration.body ≡ of_field r
        → (f : IsSourcedField ns w.first all (record m.declaration { body = of_field r }) r)
        → (group : IsGroup (field_view r)) → (s : String Global) × (r.type_name ≡ Some s)
        × (meaning r.type_name m.hand.rest
        ≡ Some (kind.Message (f.grouped group).nested.declaration.index))
    group_meant m r along_there h body f group = by r.type_name refl (f.grouped group).typed where
      its : IsMet m
      its = met_all m along_there

      none : reference_faults_at (spots m.declaration.file) (views m.declaration.file)
          (record m.declaration { body = of_field r }) ≡ []
      none = subst (λ b. reference_faults_at (spots m.declaration.file) (views m.declaration.file)
          (record m.declaration { body = b }) ≡ []) body its.none

      targets : map target_of m.hand.rest
          ≡ targets_of (views m.declaration.file) (record m.declaration { body = of_field r })
          ++ its.more
      targets = subst (λ b. map target_of m.hand.rest
          ≡ targets_of (views m.declaration.file) (record m.declaration { body = b }) ++ its.more)
          body its.targets

      hand : meaning r.type_name m.hand.rest
          ≡ kind_by (views m.declaration.file) filter.FieldType m.declaration.name r.type_name
      hand = (at_hand (views m.declaration.file) filter.FieldType m.declaration.name r.type_name
          m.hand.rest its.more
          (resolved_type (spots m.declaration.file) (views m.declaration.file) m.declaration.path
          m.declaration.name r none) targets).kind

      by : (o : Option (String Global)) → r.type_name ≡ o
          → text_view o ≡ Some (f.grouped group).type
          → (s : String Global) × (r.type_name ≡ Some s)
          × (meaning r.type_name m.hand.rest
          ≡ Some (kind.Message (f.grouped group).nested.declaration.index))
      by None named typed = absurd (cc typed)
      by (Some s) named typed =
          let same : string_bytes s ≡ (f.grouped group).type = cc typed in (
            s,
            named,
            hand
                ∙ ap (kind_by (views m.declaration.file) filter.FieldType m.declaration.name) named
                ∙ ap (λ t. kind_meant (meaning_of (views m.declaration.file) filter.FieldType
                m.declaration.name t)) same
                ∙ ap kind_meant
                (group_means m.declaration r h body f group none s named same),
          )
