-- Options of one content, wherever they lie in memory, are refused at one place and for one fault.
use Rattle.std.proofs.Common.{◌≡◌, ◌∙◌, inl, inr, ℕ, zero, suc, ℤ, true, false, List, [], ◌∷◌, map, Option, None, Some, take, slice_get, sym, ap, subst}
use Rattle.std.proofs.lemmas.List.{take-map}
use Rattle.std.specs.Option.{unwrap_or}
use Rattle.std.specs.Prelude.{MatchBool}
use Rattle.descriptor_records.specs.Content.{NameContent, OptionContent, OptionsContent, name_view, option_view, options_view}
use Rattle.descriptor_records.specs.declared.options.NamePart.{NamePart}
use Rattle.descriptor_records.specs.declared.options.Options.{Options}
use Rattle.descriptor_records.specs.declared.options.UninterpretedOption.{UninterpretedOption}
use Rattle.option_parts.specs.declared.option_error.OptionErrorKind.{OptionErrorKind}
use Rattle.option_parts.specs.declared.option_error.OptionErrorKind.TheVariants as kinds
use Rattle.option_parts.specs.declared.option_scope.OptionScope.{OptionScope}
use Rattle.option_parts.specs.declared.option_scope.OptionScope.TheVariants as scopes
use Rattle.option_setter.specs.OptionNames.{LacksExtension, LacksField, LacksTarget}
use Rattle.option_setter.specs.SetOptions.{RefusesParts}
use Rattle.option_setter.specs.WrittenNames.{TellsOption}
use Rattle.option_setter.specs.declared.option_setter.NameScope.{NameScope}
use Rattle.reflect_decode.specs.Spelled.{IsSpelled, TellsWhy}
use Rattle.reflect_index.proofs.Among.{get_map, got_map}
use Rattle.reflect_message.specs.Names.{DynamicMessage}
use Rattle.reflect_options.specs.Settled.{FindsForbidden, IsForbiddenAt, IsStored, IsWhole, RefusesAt, RefusesOptions, RefusesStored, RefusesTyped, is_forbidden}
use Rattle.reflect_pool.specs.declared.message.MessageDescriptor.{MessageDescriptor}
use Rattle.stored_options.proofs.Reworded.{agrees_same, all_same, none_left, part_same}
use Rattle.stored_options.proofs.TwinPools.{first_there}

module _ (s : NameScope) where
  -- why a part leads to nothing, by its content
  abbrev Lacks : MessageDescriptor → NameContent → OptionErrorKind → Type 0
  Lacks d part e = MatchBool part.is_extension (LacksExtension s d part.name_part e) (LacksField d part.name_part e)

  lacks_same : (d : MessageDescriptor) (p q : NamePart) → name_view q ≡ name_view p → (e : OptionErrorKind) → LacksTarget s d q e → LacksTarget s d p e
  lacks_same d p q same e lacks = subst (λ (c : NameContent). Lacks d c e) same lacks

  -- a name is refused as its content is
  parts_refused : (o : OptionContent) (levels : ℕ) (ps qs : List NamePart) → map name_view qs ≡ map name_view ps → (m : DynamicMessage) (e : OptionErrorKind)
      → RefusesParts s o levels qs m e → RefusesParts s o levels ps m e
  parts_refused o levels [] [] same m e refuses = refuses
  parts_refused o levels [] (q ∷ qs) same m e refuses = absurd (cc same)
  parts_refused o levels (p ∷ ps) [] same m e refuses = absurd (cc same)
  parts_refused o levels (p ∷ []) (q ∷ v ∷ qs) same m e refuses = absurd (cc same)
  parts_refused o levels (p ∷ u ∷ ps) (q ∷ []) same m e refuses = absurd (cc same)
  parts_refused o levels (p ∷ []) (q ∷ []) same m e (inl lacks) =
      let one : name_view q ≡ name_view p = cc same in
      inl (lacks_same m.descriptor p q one e lacks)
  parts_refused o levels (p ∷ []) (q ∷ []) same m e (inr (t, named, why)) =
      let one : name_view q ≡ name_view p = cc same in
      inr (t, part_same s m.descriptor p q one t named, why)
  parts_refused o zero (p ∷ u ∷ ps) (q ∷ v ∷ qs) same m e (inl lacks) =
      let one : name_view q ≡ name_view p = cc same in
      inl (lacks_same m.descriptor p q one e lacks)
  parts_refused o zero (p ∷ u ∷ ps) (q ∷ v ∷ qs) same m e (inr (t, named, deep)) =
      let one : name_view q ≡ name_view p = cc same in
      inr (t, part_same s m.descriptor p q one t named, deep)
  parts_refused o (suc levels) (p ∷ u ∷ ps) (q ∷ v ∷ qs) same m e (inl lacks) =
      let one : name_view q ≡ name_view p = cc same in
      inl (lacks_same m.descriptor p q one e lacks)
  parts_refused o (suc levels) (p ∷ u ∷ ps) (q ∷ v ∷ qs) same m e (inr (t, named, inl nowhere)) =
      let one : name_view q ≡ name_view p = cc same in
      inr (t, part_same s m.descriptor p q one t named, inl nowhere)
  parts_refused o (suc levels) (p ∷ u ∷ ps) (q ∷ v ∷ qs) same m e (inr (t, named, inr (left, inner, leads, deeper))) =
      let one : name_view q ≡ name_view p = cc same in
      let rest : map name_view (v ∷ qs) ≡ map name_view (u ∷ ps) = cc same in
      inr (t, part_same s m.descriptor p q one t named, inr (left, inner, leads, parts_refused o levels (u ∷ ps) (v ∷ qs) rest inner e deeper))

  -- options are refused at a place as their contents are
  refused_at : (os xs : List UninterpretedOption) → map option_view xs ≡ map option_view os → (m : DynamicMessage) (place : ℕ) (e : OptionErrorKind)
      → RefusesAt s xs m place e → RefusesAt s os m place e
  refused_at os xs same m place e (x, front, paths, there, before, refuses, tells) =
      let own = got_map option_view os place (option_view x) (ap (λ cs. slice_get cs place) (sym same) ∙ get_map option_view xs place x there) in
      let one : option_view x ≡ option_view own.0 = sym own.2 in
      let names : map name_view x.name.items ≡ map name_view own.0.name.items = ap (λ (c : OptionContent). c.name) one in
      let fronts : map option_view (take place xs) ≡ map option_view (take place os) = sym (take-map option_view place xs) ∙ ap (take place) same ∙ take-map option_view place os in
      let moved : RefusesParts s (option_view x) 100 own.0.name.items front e = parts_refused (option_view x) 100 own.0.name.items x.name.items names front e refuses in (
        own.0,
        front,
        paths,
        own.1,
        all_same s (take place os) (take place xs) fronts m front paths before,
        subst (λ (c : OptionContent). RefusesParts s c 100 own.0.name.items front e) one moved,
        subst (λ (c : OptionContent). TellsOption c e) one tells,
      )

-- what is stored is refused as its bytes are
stored_refused : (scope : OptionScope) (d : MessageDescriptor) (o x : Options) → x.encoded.items ≡ o.encoded.items → x.map_entry ≡ o.map_entry → (e : OptionErrorKind)
    → RefusesStored scope d x e → RefusesStored scope d o e
stored_refused scope d o x bytes entry (kinds.UndecodableOptions (Some w)) refuses = (refuses.0, subst (λ b. TellsWhy d b w) bytes refuses.1)
stored_refused scopes.Message d o x bytes entry (kinds.UndecodableOptions None) refuses =
    (refuses.0, refuses.1, subst (λ b. IsSpelled d b refuses.0) bytes refuses.2, λ agrees. refuses.3 (agrees ∙ ap (λ t. unwrap_or t false) (sym entry)))
stored_refused scope d o x bytes entry e refuses = absurd refuses

module _ (scope : OptionScope) (s : NameScope) (o x : Options) (same : options_view x ≡ options_view o) where
  written : map option_view x.uninterpreted_option.items ≡ map option_view o.uninterpreted_option.items
  written = ap (λ (c : OptionsContent). c.uninterpreted_option) same

  bytes : x.encoded.items ≡ o.encoded.items
  bytes = ap (λ (c : OptionsContent). c.encoded) same

  entry : x.map_entry ≡ o.map_entry
  entry = ap (λ (c : OptionsContent). c.map_entry) same

  finds_same : (place : Option ℕ) → FindsForbidden scope x place → FindsForbidden scope o place
  finds_same place = first_there option_view (λ (c : OptionContent). is_forbidden scope c.name ≡ true) x.uninterpreted_option.items o.uninterpreted_option.items written place

  forbidden_same : (at : Option ℕ) (e : OptionErrorKind) → IsForbiddenAt scope x at e → IsForbiddenAt scope o at e
  forbidden_same (Some place) (kinds.ForbiddenOption name) (first, (y, there, tells)) =
      let own = got_map option_view o.uninterpreted_option.items place (option_view y) (ap (λ cs. slice_get cs place) (sym written) ∙ get_map option_view x.uninterpreted_option.items place y there) in
      (finds_same (Some place) first, (own.0, own.1, subst (λ (c : OptionContent). TellsOption c (kinds.ForbiddenOption name)) (sym own.2) tells))
  forbidden_same at e forbidden = absurd forbidden

  module _ (d : MessageDescriptor) where
    stored_same : (m : DynamicMessage) → IsStored scope d x m → IsStored scope d o m
    stored_same m (of, spelled, agrees, sole) = (of, subst (λ b. IsSpelled d b m) bytes spelled, agrees_same scope o x m entry agrees, sole)

    whole_same : (whole : DynamicMessage) (paths : List (List ℤ)) → IsWhole scope s d x whole paths → IsWhole scope s d o whole paths
    whole_same whole paths (stored, set, is, sets, unset) =
        (stored, set, stored_same stored is, all_same s o.uninterpreted_option.items x.uninterpreted_option.items written stored set paths sets, unset)

    typed_same : (at : Option ℕ) (e : OptionErrorKind) → RefusesTyped scope s d x at e → RefusesTyped scope s d o at e
    typed_same None e (inl why) = inl (stored_refused scope d o x bytes entry e why)
    typed_same None e (inr (whole, paths, is, why)) = inr (whole, paths, whole_same whole paths is, why)
    typed_same (Some place) e (stored, is, refuses) = (stored, stored_same stored is, refused_at s o.uninterpreted_option.items x.uninterpreted_option.items written stored place e refuses)

  pub refused_same : (at : Option ℕ) (e : OptionErrorKind) → RefusesOptions scope s x at e → RefusesOptions scope s o at e
  refused_same at e (inl forbidden) = inl (forbidden_same at e forbidden)
  refused_same at e (inr (finds, inl (none, some, first, told))) =
      inr (finds_same None finds, inl (none, (λ empty. some (none_left x.uninterpreted_option.items o.uninterpreted_option.items (sym written) empty)), first, told))
  refused_same at e (inr (finds, inr (d, its, why))) = inr (finds_same None finds, inr (d, its, typed_same d at e why))
