-- Where each reference means something, the references that a walk takes one after another are at
-- each declaration what its names mean.
use Rattle.std.proofs.Common.{◌≡◌, ◌∙◌, ℕ, ℤ, List, [], ◌∷◌, ◌++◌, Option, Some, None, String, Global, string_bytes, map, append_assoc, ap, sym, subst, refl}
use Rattle.reflect_scope.specs.declared.definition.Definition.{Definition}
use Rattle.reflect_scope.specs.declared.definition.ResolveNameFilter.{ResolveNameFilter}
use Rattle.reflect_scope.specs.declared.definition.ResolveNameFilter.TheVariants as filter
use Rattle.reflect_scope.specs.Means.{means}
use Rattle.reflect_declarations.specs.Declarations.{Declaration, Body, of_field, of_method, of_extension}
use Rattle.reflect_names.specs.Names.{Places}
use Rattle.reflect_names.specs.References.{View, Target, meaning_of, kind_meant, targets, unmet, mismatch, name_targets, targets_of, reference_faults, type_name_faults, label_faults, type_faults, field_reference_faults, reference_faults_at}
use Rattle.reflect_names.specs.ReferencePass.{targets_along, reference_faults_along}
use Rattle.reflect_names.specs.ReferenceSteps.{target_of}
use Rattle.reflect_names.specs.declared.resolve_visitor.Reference.{Reference}
use Rattle.reflect_references.specs.Meanings.{meaning, behind, rest_behind}
use Rattle.reflect_rules.specs.Rules.{Values, number_of, message_of}
use Rattle.reflect_rules.specs.Walks.{Facts, Place, place_behind}
use Rattle.descriptor_records.specs.declared.field.FieldDescriptorProto.{FieldDescriptorProto}
use Rattle.descriptor_records.specs.declared.service.MethodDescriptorProto.{MethodDescriptorProto}
use Rattle.linked_view.specs.AtHand.{kind_by, IsMetBy, AreMetBy}
use Rattle.linked_view.specs.Ruled.{IsMetField, IsExtensionNumber, IsMet, AreMet}
use Rattle.linked_view.proofs.Faults.{none_both}
use Rattle.linked_view.proofs.References.{met_to}

-- a name that is there means something
abbrev pub IsResolved : View → ResolveNameFilter → List ℕ → Option (String Global) → Type 0
IsResolved v f scope None = Unit {0}
IsResolved v f scope (Some s) =
    (full : List ℕ) × (d : Definition) × (meaning_of v f scope (string_bytes s) ≡ means full d)

-- the next reference is that of the name, and what is behind it is left
pub record IsAtHand (v : View) (f : ResolveNameFilter) (scope : List ℕ) (o : Option (String Global))
    (rest : List Reference) (more : List Target) : Type 0 where
  pub kind : meaning o rest ≡ kind_by v f scope o
  pub left : map target_of (behind o rest) ≡ more

pub at_hand : (v : View) (f : ResolveNameFilter) (scope : List ℕ) (o : Option (String Global))
    (rest : List Reference) (more : List Target) → IsResolved v f scope o
    → map target_of rest ≡ name_targets v f scope o ++ more → IsAtHand v f scope o rest more
at_hand v f scope None rest more h e = record { kind = refl; left = e }
at_hand v f scope (Some s) [] more (full, d, is) e =
    absurd (cc (e ∙ ap (λ m. targets m ++ more) is))
at_hand v f scope (Some s) (r ∷ rs) more (full, d, is) e =
    let whole : target_of r ∷ map target_of rs ≡ (46 ∷ full, d) ∷ more =
    e ∙ ap (λ m. targets m ++ more) is in
    let first : target_of r ≡ (46 ∷ full, d) = cc whole in
    let later : map target_of rs ≡ more = cc whole in
    record {
      kind = ap (λ (t : Target). Some t.1.kind) first ∙ sym (ap kind_meant is);
      left = later;
    }

module _ (at : Places) (v : View) (path : List ℤ) (scope : List ℕ) where
  pub resolved_one : (f : ResolveNameFilter) (tag : ℤ) (o : Option (String Global))
      → reference_faults at v f path scope tag o ≡ [] → IsResolved v f scope o
  resolved_one f tag None e = tt
  resolved_one f tag (Some s) e =
      met_to f (meaning_of v f scope (string_bytes s)) (string_bytes s) _ e

  resolved_name : (f : FieldDescriptorProto) (o : Option (String Global))
      → type_name_faults at v path scope (record f { type_name = o }) ≡ []
      → IsResolved v filter.FieldType scope o
  resolved_name f None e = tt
  resolved_name f (Some s) e =
      met_to filter.FieldType (meaning_of v filter.FieldType scope (string_bytes s)) (string_bytes s) _
      (none_both
      (unmet filter.FieldType (meaning_of v filter.FieldType scope (string_bytes s))
      (string_bytes s) _)
      (mismatch at path (string_bytes s) f.field_type
      (kind_meant (meaning_of v filter.FieldType scope (string_bytes s)))) e).0

  pub resolved_type : (f : FieldDescriptorProto) → field_reference_faults at v path scope f ≡ []
      → IsResolved v filter.FieldType scope f.type_name
  resolved_type f e =
      let first = none_both (label_faults at path f.label) _ e in
      let rest = none_both (type_faults at path f.field_type) _ first.1 in
      resolved_name f f.type_name rest.1

-- the names of a declaration, one behind the other
module _ (at : Places) (v : View) where
  both_at_hand : (f g : ResolveNameFilter) (scope : List ℕ) (a b : Option (String Global))
      (rest : List Reference) (more : List Target) → IsResolved v f scope a → IsResolved v g scope b
      → map target_of rest ≡ (name_targets v f scope a ++ name_targets v g scope b) ++ more
      → IsAtHand v f scope a rest (name_targets v g scope b ++ more)
      × IsAtHand v g scope b (behind a rest) more
  both_at_hand f g scope a b rest more first second e =
      let hand = at_hand v f scope a rest (name_targets v g scope b ++ more) first
      (e ∙ append_assoc (name_targets v f scope a) (name_targets v g scope b) more) in
      (hand, at_hand v g scope b (behind a rest) more second hand.left)

  -- what a method takes, and what it gives
  method_at_hand : (d : Declaration) (m : MethodDescriptorProto) (rest : List Reference)
      (more : List Target) → reference_faults_at at v (record d { body = of_method m }) ≡ []
      → map target_of rest ≡ targets_of v (record d { body = of_method m }) ++ more
      → IsAtHand v filter.Message d.name m.input_type rest
      (name_targets v filter.Message d.name m.output_type ++ more)
      × IsAtHand v filter.Message d.name m.output_type (behind m.input_type rest) more
  method_at_hand d m rest more none e =
      let parts = none_both (reference_faults at v filter.Message d.path d.name _ m.input_type) _
      none in
      both_at_hand filter.Message filter.Message d.name m.input_type m.output_type rest more
      (resolved_one at v d.path d.name filter.Message _ m.input_type parts.0)
      (resolved_one at v d.path d.name filter.Message _ m.output_type parts.1) e

  -- what an extension extends, and its type
  pub extension_at_hand : (d : Declaration) (x : FieldDescriptorProto) (rest : List Reference)
      (more : List Target) → reference_faults_at at v (record d { body = of_extension x }) ≡ []
      → map target_of rest ≡ targets_of v (record d { body = of_extension x }) ++ more
      → IsAtHand v filter.Message d.name x.extendee rest
      (name_targets v filter.FieldType d.name x.type_name ++ more)
      × IsAtHand v filter.FieldType d.name x.type_name (behind x.extendee rest) more
  extension_at_hand d x rest more none e =
      let parts = none_both (reference_faults at v filter.Message d.path d.name _ x.extendee) _
      none in
      both_at_hand filter.Message filter.FieldType d.name x.extendee x.type_name rest more
      (resolved_one at v d.path d.name filter.Message _ x.extendee parts.0)
      (resolved_type at v d.path d.name x parts.1) e

module _ (views : ℕ → View) (at : ℕ → Places) where
  -- the references behind a declaration
  pub left_behind : (rest : List Reference) (d : Declaration) (b : Body) (more : List Target)
      → reference_faults_at (at d.file) (views d.file) (record d { body = b }) ≡ []
      → map target_of rest ≡ targets_of (views d.file) (record d { body = b }) ++ more
      → map target_of (rest_behind (record d { body = b }) rest) ≡ more
  left_behind rest d (of_field f) more none e =
      (at_hand (views d.file) filter.FieldType d.name f.type_name rest more
      (resolved_type (at d.file) (views d.file) d.path d.name f none) e).left
  left_behind rest d (of_method m) more none e =
      (method_at_hand (at d.file) (views d.file) d m rest more none e).1.left
  left_behind rest d (of_extension x) more none e =
      (extension_at_hand (at d.file) (views d.file) d x rest more none e).1.left
  left_behind rest d b more none e = e

module _ (g : Facts) (values : Values) (views : ℕ → View) (at : ℕ → Places) where
  -- what is met at a declaration is so by what its names mean
  pub record IsStep (p : Place) (d : Declaration) : Type 0 where
    pub to : IsMet g values p d → IsMetBy g values (views d.file) d
    pub from : IsMetBy g values (views d.file) d → IsMet g values p d

  step_of : (p : Place) (d : Declaration) (b : Body) (more : List Target)
      → reference_faults_at (at d.file) (views d.file) (record d { body = b }) ≡ []
      → map target_of p.rest ≡ targets_of (views d.file) (record d { body = b }) ++ more
      → IsStep p (record d { body = b })
  step_of p d (of_field f) more none e =
      let hand = at_hand (views d.file) filter.FieldType d.name f.type_name p.rest more
      (resolved_type (at d.file) (views d.file) d.path d.name f none) e in
      record {
        to = λ h. subst (λ k. IsMetField g values k f) hand.kind h;
        from = λ h. subst (λ k. IsMetField g values k f) (sym hand.kind) h;
      }
  step_of p d (of_extension x) more none e =
      let hands = extension_at_hand (at d.file) (views d.file) d x p.rest more none e in
      record {
        to = λ h. (
          subst (λ k. IsExtensionNumber g.types (number_of x) (message_of k)) hands.0.kind h.0,
          subst (λ k. IsMetField g values k x) hands.1.kind h.1,
        );
        from = λ h. (
          subst (λ k. IsExtensionNumber g.types (number_of x) (message_of k)) (sym hands.0.kind)
              h.0,
          subst (λ k. IsMetField g values k x) (sym hands.1.kind) h.1,
        );
      }
  step_of p d b more none e = record { to = λ h. h; from = λ h. h }

  met_same : (p : Place) (ds : List Declaration) → reference_faults_along at views ds ≡ []
      → map target_of p.rest ≡ targets_along views ds
      → (AreMet g values p ds → AreMetBy g values views ds)
      × (AreMetBy g values views ds → AreMet g values p ds)
  met_same p [] none e = (λ h. tt, λ h. tt)
  met_same p (d ∷ ds) none e =
      let more = targets_along views ds in
      let parts = none_both (reference_faults_at (at d.file) (views d.file) d)
      (reference_faults_along at views ds) none in
      let here = step_of p d d.body more parts.0 e in
      let later = met_same (place_behind p d) ds parts.1
      (left_behind views at p.rest d d.body more parts.0 e) in
      (λ h. (here.to h.0, later.0 h.1), λ h. (here.from h.0, later.1 h.1))

  pub met_to_by : (p : Place) (ds : List Declaration) → reference_faults_along at views ds ≡ []
      → map target_of p.rest ≡ targets_along views ds → AreMet g values p ds
      → AreMetBy g values views ds
  met_to_by p ds none e = (met_same p ds none e).0

  pub met_by_to : (p : Place) (ds : List Declaration) → reference_faults_along at views ds ≡ []
      → map target_of p.rest ≡ targets_along views ds → AreMetBy g values views ds
      → AreMet g values p ds
  met_by_to p ds none e = (met_same p ds none e).1
