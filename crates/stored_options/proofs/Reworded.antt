-- Options of one content, wherever they lie in memory, settle to the same, and stay as they are in one.
use Rattle.std.proofs.Common.{◌≡◌, ◌∙◌, ℕ, zero, suc, ℤ, true, false, List, [], ◌∷◌, map, None, refl, sym, ap, subst}
use Rattle.std.specs.Option.{unwrap_or}
use Rattle.descriptor_records.specs.Content.{NameContent, OptionContent, OptionsContent, name_view, option_view, options_view}
use Rattle.descriptor_records.specs.declared.options.NamePart.{NamePart}
use Rattle.descriptor_records.specs.declared.options.Options.{Options}
use Rattle.descriptor_records.specs.declared.options.UninterpretedOption.{UninterpretedOption}
use Rattle.option_parts.specs.declared.option_scope.OptionScope.{OptionScope}
use Rattle.option_parts.specs.declared.option_scope.OptionScope.TheVariants as scopes
use Rattle.option_setter.specs.OptionNames.{NamesTarget}
use Rattle.option_setter.specs.SetOptions.{SetsParts}
use Rattle.option_setter.specs.declared.option_setter.NameScope.{NameScope}
use Rattle.reflect_decode.specs.Spelled.{IsSpelled}
use Rattle.reflect_format.specs.declared.target.Target.{Target}
use Rattle.reflect_message.specs.Names.{DynamicMessage}
use Rattle.reflect_options.specs.Settled.{AgreesOnEntries, IsStored, SetsAll, Settles, StayAsTheyAre, is_forbidden}
use Rattle.reflect_pool.specs.declared.message.MessageDescriptor.{MessageDescriptor}
use Rattle.stored_options.proofs.Led.{Names}
use Rattle.stored_options.proofs.TwinPools.{first_there}

module _ (s : NameScope) where
  -- a part of a name leads where its content does
  pub part_same : (d : MessageDescriptor) (p q : NamePart) → name_view q ≡ name_view p → (t : Target) → NamesTarget s d q t → NamesTarget s d p t
  part_same d p q same t named = subst (λ (c : NameContent). Names s d c t) same named

  -- and so does a name
  parts_same : (o : OptionContent) (levels : ℕ) (ps qs : List NamePart) → map name_view qs ≡ map name_view ps → (old new : DynamicMessage) (path : List ℤ)
      → SetsParts s o levels qs old new path → SetsParts s o levels ps old new path
  parts_same o levels [] [] same old new path sets = sets
  parts_same o levels [] (q ∷ qs) same old new path sets = absurd (cc same)
  parts_same o levels (p ∷ ps) [] same old new path sets = absurd (cc same)
  parts_same o levels (p ∷ []) (q ∷ []) same old new path sets =
      let one : name_view q ≡ name_view p = cc same in
      (sets.0, sets.1, part_same old.descriptor p q one sets.0 sets.2, sets.3, sets.4)
  parts_same o levels (p ∷ []) (q ∷ v ∷ qs) same old new path sets = absurd (cc same)
  parts_same o levels (p ∷ u ∷ ps) (q ∷ []) same old new path sets = absurd (cc same)
  parts_same o zero (p ∷ u ∷ ps) (q ∷ v ∷ qs) same old new path sets = sets
  parts_same o (suc levels) (p ∷ u ∷ ps) (q ∷ v ∷ qs) same old new path sets =
      let one : name_view q ≡ name_view p = cc same in
      let rest : map name_view (v ∷ qs) ≡ map name_view (u ∷ ps) = cc same in (
        sets.0,
        sets.1,
        sets.2,
        sets.3,
        sets.4,
        part_same old.descriptor p q one sets.0 sets.5,
        sets.6,
        parts_same o levels (u ∷ ps) (v ∷ qs) rest sets.3 sets.4 sets.1 sets.7,
        sets.8,
        sets.9,
        sets.10,
        sets.11,
        sets.12,
      )

  -- options are set as their contents are
  pub all_same : (os xs : List UninterpretedOption) → map option_view xs ≡ map option_view os → (old new : DynamicMessage) (paths : List (List ℤ))
      → SetsAll s xs old new paths → SetsAll s os old new paths
  all_same [] [] same old new paths sets = sets
  all_same [] (x ∷ xs) same old new paths sets = absurd (cc same)
  all_same (o ∷ os) [] same old new paths sets = absurd (cc same)
  all_same (o ∷ os) (x ∷ xs) same old new paths sets =
      let one : option_view x ≡ option_view o = cc same in
      let rest : map option_view xs ≡ map option_view os = cc same in
      let names : map name_view x.name.items ≡ map name_view o.name.items = ap (λ (c : OptionContent). c.name) one in
      let first : SetsParts s (option_view x) 100 o.name.items old sets.0 sets.1 = parts_same (option_view x) 100 o.name.items x.name.items names old sets.0 sets.1 sets.3 in
      (sets.0, sets.1, sets.2, subst (λ (c : OptionContent). SetsParts s c 100 o.name.items old sets.0 sets.1) one first, all_same os xs rest sets.0 new sets.2 sets.4, sets.5)

-- what they say of a map's entries is so of both
pub agrees_same : (scope : OptionScope) (o x : Options) (m : DynamicMessage) → x.map_entry ≡ o.map_entry → AgreesOnEntries scope x m → AgreesOnEntries scope o m
agrees_same scopes.Message o x m same agrees = agrees ∙ ap (λ e. unwrap_or e false) same
agrees_same scope o x m same agrees = agrees

pub none_left : (os xs : List UninterpretedOption) → map option_view xs ≡ map option_view os → xs ≡ [] → os ≡ []
none_left [] xs same none = refl
none_left (o ∷ os) xs same none = absurd (cc (sym same ∙ ap (map option_view) none))

module _ (scope : OptionScope) (s : NameScope) (o x : Options) (same : options_view x ≡ options_view o) where
  written : map option_view x.uninterpreted_option.items ≡ map option_view o.uninterpreted_option.items
  written = ap (λ (c : OptionsContent). c.uninterpreted_option) same

  pub settles_same : (settled : OptionsContent) (paths : List (List ℤ)) → Settles scope s x settled paths → Settles scope s o settled paths
  settles_same settled paths (none, (d, its, whole, (stored, set, (of, spelled, agrees, sole), sets, unset), out)) =
      let bytes : x.encoded.items ≡ o.encoded.items = ap (λ (c : OptionsContent). c.encoded) same in
      let entry : x.map_entry ≡ o.map_entry = ap (λ (c : OptionsContent). c.map_entry) same in
      let here : IsStored scope d o stored = (of, subst (λ b. IsSpelled d b stored) bytes spelled, agrees_same scope o x stored entry agrees, sole) in (
        first_there option_view (λ (c : OptionContent). is_forbidden scope c.name ≡ true) x.uninterpreted_option.items o.uninterpreted_option.items written None none,
        (d, its, whole, (stored, set, here, all_same s o.uninterpreted_option.items x.uninterpreted_option.items written stored set paths sets, unset), out),
      )

  pub stay_same : StayAsTheyAre scope s x → StayAsTheyAre scope s o
  stay_same (lacks, none) = (lacks, none_left o.uninterpreted_option.items x.uninterpreted_option.items written none)
