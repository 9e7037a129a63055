-- A name means the same by indexes of files and by their names.
use Rattle.std.proofs.Common.{◌≡◌, ◌∙◌, ◌⊎◌, inl, inr, ℕ, ℤ, Bool, true, false, eqb, List, [], ◌∷◌, Option, Some, None, map, slice_get, cond, ap, sym, subst, refl}
use Rattle.std.specs.Prelude.{MatchBool}
use Rattle.std.specs.List.{Contains}
use Rattle.descriptor_records.specs.Content.{Text, file_view}
use Rattle.descriptor_records.specs.declared.file.FileDescriptorProto.{FileDescriptorProto}
use Rattle.reflect_scope.specs.declared.definition.Definition.{Definition}
use Rattle.reflect_scope.specs.declared.definition.DefinitionKind.{DefinitionKind}
use Rattle.reflect_scope.specs.declared.definition.DefinitionKind.TheVariants as kind
use Rattle.reflect_scope.specs.Known.{Known, is_package}
use Rattle.reflect_scope.specs.Means.{means, is_wanted, is_seen, is_holder, resolve}
use Rattle.schema_view.specs.Files.{join}
use Rattle.schema_view.specs.Outlines.{Sort, message_sort, enum_sort, service_sort, other_sort, Outline, outline_of, Sees}
use Rattle.schema_view.specs.Lawful.{outlines}
use Rattle.schema_view.specs.Means.{has_dot, first_part, IsWanted, HoldsNames, MeansUndotted, MeansDotted, MeansPlain, MeansBy}
use Rattle.schema_view.specs.Means as view
use Rattle.schema_view.specs.References.{Want, a_message, a_type}
use Rattle.schema_view.proofs.Lists.{contains_map, contains_map_cases}
use Rattle.schema_view.proofs.Within.{match_map}
use Rattle.linked_view.specs.Known.{IsKindOf, AreKnown}
use Rattle.linked_view.specs.Resolved.{filter_of, SeesThose}
use Rattle.linked_view.proofs.Means.{IsFound, Wanted, Holding, resolved_to, resolved_from}
use Rattle.linked_view.proofs.Places.{get_contains, contains_get}

-- whether a kind holds names
abbrev pub kind_holds : DefinitionKind → Bool
kind_holds k = is_holder (Some (record { file = 0; kind = k }))

-- a kind and a sort that agree on what is wanted and what holds names
pub record Agree (k : DefinitionKind) (s : Sort) : Type 0 where
  pub wanted : (w : Want) → is_wanted (filter_of w) k ≡ view.is_wanted w s
  pub holds : kind_holds k ≡ view.is_holder s
  pub plain : is_package k ≡ false

both : (k : DefinitionKind) (s : Sort) → is_wanted (filter_of a_message) k ≡ view.is_wanted a_message s
    → ((n : Option ℤ) → is_wanted (filter_of (a_type n)) k ≡ view.is_wanted (a_type n) s) → (w : Want)
    → is_wanted (filter_of w) k ≡ view.is_wanted w s
both k s p q a_message = p
both k s p q (a_type n) = q n

pub agree : (k : DefinitionKind) (s : Sort) → IsKindOf k s → Agree k s
agree (kind.Message i) (message_sort extensions reserved) h = record { wanted = both _ _ refl (λ n. refl); holds = refl; plain = refl }
agree (kind.Enum i) (enum_sort values) h = record { wanted = both _ _ refl (λ n. refl); holds = refl; plain = refl }
agree (kind.Service i) service_sort h = record { wanted = both _ _ refl (λ n. refl); holds = refl; plain = refl }
agree kind.Field other_sort h = record { wanted = both _ _ refl (λ n. refl); holds = refl; plain = refl }
agree kind.Oneof other_sort h = record { wanted = both _ _ refl (λ n. refl); holds = refl; plain = refl }
agree kind.EnumValue other_sort h = record { wanted = both _ _ refl (λ n. refl); holds = refl; plain = refl }
agree (kind.Extension i) other_sort h = record { wanted = both _ _ refl (λ n. refl); holds = refl; plain = refl }
agree kind.Method other_sort h = record { wanted = both _ _ refl (λ n. refl); holds = refl; plain = refl }
agree k s h = absurd h

-- packages are not wanted
pub unwanted : (w : Want) (k : DefinitionKind) → is_package k ≡ true → is_wanted (filter_of w) k ≡ true → ⊥
unwanted a_message kind.Package e h = cc h
unwanted (a_type n) kind.Package e h = cc h
unwanted w k e h = cc e

-- what is no package is seen where its file is
seen_file : (sees : ℕ → Bool) (file : ℕ) (k : DefinitionKind) → is_package k ≡ false
    → is_seen sees (record { file = file; kind = k }) ≡ sees file
seen_file sees file kind.Package e = absurd (cc e)
seen_file sees file k e = refl

package_holds : (k : DefinitionKind) → is_package k ≡ true → kind_holds k ≡ true
package_holds kind.Package e = refl
package_holds k e = absurd (cc e)

decide : (b : Bool) → (b ≡ true) ⊎ (b ≡ false)
decide true = inl refl
decide false = inr refl

module _ (files : List FileDescriptorProto) (known : Known) (are : AreKnown files known)
    (from : Outline) (sees : ℕ → Bool) (those : SeesThose files from sees) (w : Want) where
  abbrev os : List Outline
  os = outlines (map file_view files)

  pub there : (i : ℕ) (f : FileDescriptorProto) → slice_get files i ≡ Some f
      → Contains os (outline_of (file_view f))
  there i f e = contains_map outline_of (map file_view files) (file_view f)
      (contains_map file_view files f (get_contains files i f e))

  pub of_outline : (o : Outline) → Contains os o → (i : ℕ) × (f : FileDescriptorProto)
      × (slice_get files i ≡ Some f) × (outline_of (file_view f) ≡ o)
  of_outline o h =
      let c = contains_map_cases outline_of (map file_view files) o h in
      let f = contains_map_cases file_view files c.0 c.1 in
      let i = contains_get files f.0 f.1 in
      (i.0, f.0, i.1, ap outline_of f.2 ∙ c.2)

  wanted_to : (n : Text) → Wanted known sees (filter_of w) n → IsWanted os from w n
  wanted_to n (d, h) = elim (decide (is_package d.kind)) [
    | inl packaged ↦ absurd (unwanted w d.kind packaged h.wanted)
    | inr plain ↦ (
        let found = are.declared n d h.known_as plain in
        let agrees = agree d.kind found.head.sort found.sort in
        let see : sees d.file ≡ true = sym (seen_file sees d.file d.kind plain) ∙ h.seen in (
          outline_of (file_view found.file),
          found.head,
          there d.file found.file found.at,
          found.inside,
          found.name,
          sym (agrees.wanted w) ∙ h.wanted,
          (those d.file found.file found.at).0 see,
        ))
  ]

  wanted_from : (n : Text) → IsWanted os from w n → Wanted known sees (filter_of w) n
  wanted_from n (o, h, i, j, name, want, see) =
      let f = of_outline o i in
      let j' : Contains (outline_of (file_view f.1)).heads h =
      subst (λ (p : Outline). Contains p.heads h) (sym f.3) j in
      let d = are.declared_known f.0 f.1 h f.2 j' in
      let agrees = agree d.0.kind h.sort d.3 in
      let see' = (those f.0 f.1 f.2).1 (subst (λ (p : Outline). Sees os from p.name) (sym f.3) see) in (
        d.0,
        record {
          known_as = ap known (sym name) ∙ d.1;
          seen = seen_file sees d.0.file d.0.kind agrees.plain ∙ ap sees d.2 ∙ see';
          wanted = agrees.wanted w ∙ want;
        },
      )

  holds_to : (n : Text) → Holding known sees (filter_of w) n → HoldsNames os n
  holds_to n h = by (known n) refl where
    by : (x : Option Definition) → known n ≡ x → HoldsNames os n
    by None is = absurd (cc (sym (ap is_holder is) ∙ h))
    by (Some d) is =
        let holder : kind_holds d.kind ≡ true = sym (ap is_holder is) ∙ h in
        elim (decide (is_package d.kind)) [
          | inl packaged ↦ inl (are.packages n d is packaged).0
          | inr plain ↦ (
              let found = are.declared n d is plain in
              let agrees = agree d.kind found.head.sort found.sort in
              inr (
                outline_of (file_view found.file),
                found.head,
                there d.file found.file found.at,
                found.inside,
                found.name,
                sym agrees.holds ∙ holder,
              ))
        ]

  pub holds_from : (n : Text) → (n ≡ [] → ⊥) → HoldsNames os n → Holding known sees (filter_of w) n
  holds_from n full (inl packaged) =
      let d = are.package_known n packaged full in ap is_holder d.1 ∙ package_holds d.0.kind d.2
  holds_from n full (inr (o, h, i, j, name, holder)) =
      let f = of_outline o i in
      let d = are.declared_known f.0 f.1 h f.2
      (subst (λ (p : Outline). Contains p.heads h) (sym f.3) j) in
      let agrees = agree d.0.kind h.sort d.3 in
      ap is_holder (ap known (sym name) ∙ d.1) ∙ agrees.holds ∙ holder

  -- the first part of a name with a dot is there, but for a leading dot
  full_part : (b : ℕ) (name p : Text) → eqb b 46 ≡ false → join p (first_part (b ∷ name)) ≡ [] → ⊥
  full_part b name [] is e =
      let part : first_part (b ∷ name) ≡ b ∷ first_part name =
      ap (λ v. cond v [] (b ∷ first_part name)) is in
      let wrong : b ∷ first_part name ≡ [] = sym part ∙ e in cc wrong
  full_part b name (c ∷ p) is e = cc e

  undotted_to : (around name full : Text)
      → MeansUndotted (Wanted known sees (filter_of w)) (Holding known sees (filter_of w)) around name full
      → MeansUndotted (IsWanted os from w) (HoldsNames os) around name full
  undotted_to around name full (p, s, is, x, less) =
      (p, s, is, wanted_to full x, λ q sq lt y. less q sq lt (wanted_from (join q name) y))

  undotted_from : (around name full : Text) → MeansUndotted (IsWanted os from w) (HoldsNames os) around name full
      → MeansUndotted (Wanted known sees (filter_of w)) (Holding known sees (filter_of w)) around name full
  undotted_from around name full (p, s, is, x, less) =
      (p, s, is, wanted_from full x, λ q sq lt y. less q sq lt (wanted_to (join q name) y))

  module _ (around name full : Text) (parts : (q : Text) → join q (first_part name) ≡ [] → ⊥) where
    dotted_to : MeansDotted (Wanted known sees (filter_of w)) (Holding known sees (filter_of w)) around
        name full → MeansDotted (IsWanted os from w) (HoldsNames os) around name full
    dotted_to (p, s, is, x, holder, less) = (
      p,
      s,
      is,
      wanted_to full x,
      holds_to (join p (first_part name)) holder,
      λ q sq lt y. less q sq lt (holds_from (join q (first_part name)) (parts q) y),
    )

    dotted_from : MeansDotted (IsWanted os from w) (HoldsNames os) around name full
        → MeansDotted (Wanted known sees (filter_of w)) (Holding known sees (filter_of w)) around name full
    dotted_from (p, s, is, x, holder, less) = (
      p,
      s,
      is,
      wanted_from full x,
      holds_from (join p (first_part name)) (parts p) holder,
      λ q sq lt y. less q sq lt (holds_to (join q (first_part name)) y),
    )

    plain_to : MeansPlain (Wanted known sees (filter_of w)) (Holding known sees (filter_of w)) around name
        full → MeansPlain (IsWanted os from w) (HoldsNames os) around name full
    plain_to h = match_map (has_dot name) _ _ _ _ dotted_to (undotted_to around name full) h

    plain_from : MeansPlain (IsWanted os from w) (HoldsNames os) around name full
        → MeansPlain (Wanted known sees (filter_of w)) (Holding known sees (filter_of w)) around name full
    plain_from h = match_map (has_dot name) _ _ _ _ dotted_from (undotted_from around name full) h

  by_to : (around name full : Text)
      → MeansBy (Wanted known sees (filter_of w)) (Holding known sees (filter_of w)) around name full
      → MeansBy (IsWanted os from w) (HoldsNames os) around name full
  by_to around [] full h = undotted_to around [] full h
  by_to around (b ∷ name) full h = by (eqb b 46) refl h where
    by : (v : Bool) → eqb b 46 ≡ v
        → MatchBool v ((full ≡ name) × Wanted known sees (filter_of w) name)
        (MeansPlain (Wanted known sees (filter_of w)) (Holding known sees (filter_of w)) around (b ∷ name)
        full)
        → MatchBool v ((full ≡ name) × IsWanted os from w name)
        (MeansPlain (IsWanted os from w) (HoldsNames os) around (b ∷ name) full)
    by true is k = (k.0, wanted_to name k.1)
    by false is k = plain_to around (b ∷ name) full (λ q. full_part b name q is) k

  by_from : (around name full : Text) → MeansBy (IsWanted os from w) (HoldsNames os) around name full
      → MeansBy (Wanted known sees (filter_of w)) (Holding known sees (filter_of w)) around name full
  by_from around [] full h = undotted_from around [] full h
  by_from around (b ∷ name) full h = by (eqb b 46) refl h where
    by : (v : Bool) → eqb b 46 ≡ v
        → MatchBool v ((full ≡ name) × IsWanted os from w name)
        (MeansPlain (IsWanted os from w) (HoldsNames os) around (b ∷ name) full)
        → MatchBool v ((full ≡ name) × Wanted known sees (filter_of w) name)
        (MeansPlain (Wanted known sees (filter_of w)) (Holding known sees (filter_of w)) around (b ∷ name)
        full)
    by true is k = (k.0, wanted_from name k.1)
    by false is k = plain_from around (b ∷ name) full (λ q. full_part b name q is) k

  pub names_to : (around name full : Text) (d : Definition)
      → resolve known sees (filter_of w) around name ≡ means full d
      → MeansBy (IsWanted os from w) (HoldsNames os) around name full
      × IsFound known sees (filter_of w) full d
  names_to around name full d e =
      let r = resolved_to known sees (filter_of w) around name full d e in
      (by_to around name full r.0, r.1)

  pub names_from : (around name full : Text) → MeansBy (IsWanted os from w) (HoldsNames os) around name full
      → (d : Definition) × (resolve known sees (filter_of w) around name ≡ means full d)
  names_from around name full h =
      resolved_from known sees (filter_of w) around name full (by_from around name full h)
