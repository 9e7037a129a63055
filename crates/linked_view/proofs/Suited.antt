-- The defaults of new fields whose type is an enum are names of the enum's values.
use Rattle.std.proofs.Common.{◌≡◌, ◌∙◌, ℕ, ℤ, Bool, true, List, ◌∷◌, Option, Some, None, String, Global, string_bytes, ap, sym, subst, refl}
use Rattle.std.specs.List.{Contains}
use Rattle.descriptor_records.specs.Content.{Text, FileContent, text_view}
use Rattle.descriptor_records.specs.declared.file.FileDescriptorProto.{FileDescriptorProto}
use Rattle.reflect_scope.specs.declared.definition.Definition.{Definition}
use Rattle.reflect_scope.specs.declared.definition.DefinitionKind.{DefinitionKind}
use Rattle.reflect_scope.specs.declared.definition.DefinitionKind.TheVariants as kind
use Rattle.reflect_scope.specs.declared.definition.ResolveNameFilter.TheVariants as filter
use Rattle.reflect_scope.specs.FileIndexes.{Indexes}
use Rattle.reflect_scope.specs.Known.{Known}
use Rattle.reflect_declarations.specs.Declarations.{of_field, of_extension}
use Rattle.reflect_names.specs.Names.{Places}
use Rattle.reflect_names.specs.References.{View, meaning_of, kind_meant, reference_faults}
use Rattle.reflect_passes.specs.Linked.{enum_at, HasValue, linked_values}
use Rattle.reflect_passes.specs.declared.linked_types.LinkedTypes.{LinkedTypes}
use Rattle.reflect_rules.specs.Rules.{IsSuited, IsDefaultOf}
use Rattle.reflect_rules.specs.Walks.{Facts}
use Rattle.schema_view.specs.Declarations as view
use Rattle.schema_view.specs.References.{Reference, Target as Naming, rename_type}
use Rattle.schema_view.specs.Lawful.{SuitsEnum}
use Rattle.schema_view.specs.Outlines.{Outline, enum_sort, IsDeclared}
use Rattle.linked_view.specs.AtHand.{kind_by}
use Rattle.linked_view.specs.Known.{AreKnown}
use Rattle.linked_view.proofs.AtHand.{IsResolved, resolved_type}
use Rattle.linked_view.proofs.Faults.{none_both}
use Rattle.linked_view.proofs.Linked.{found_by}
use Rattle.linked_view.proofs.Means.{resolved_to}
use Rattle.linked_view.proofs.Settling.{names, see, HoldsOne}

-- the text is the name of a value of the enum of the full name
abbrev pub IsValueOf : List Outline → Text → Text → Type 0
IsValueOf os full text =
    (values : List Text) × IsDeclared os full (enum_sort values) × Contains values text

module _ (files : List FileDescriptorProto) (known : Known) (are : AreKnown files known)
    (indexes : Indexes) (sees : ℕ → ℕ → Bool) (t : LinkedTypes) (g : Facts) (at : ℕ → Places)
    (os : List Outline)
    (valued : (i : ℕ) (full text : Text) (d : Definition) → known full ≡ Some d
    → d.kind ≡ kind.Enum i → HasValue (enum_at t i) text → IsValueOf os full text) where
  module _ (f : FileContent) where
    abbrev Suits : view.Body → Type 0
    Suits = SuitsEnum os

    abbrev namings : Reference → Naming
    namings = names files known are indexes sees t g at Suits f

    abbrev view_of : View
    view_of = see files known are indexes sees t g at Suits f

    kind_value : (type : Option ℤ) (k : DefinitionKind) (full text : Text) (d : Definition)
        → d.kind ≡ k → known full ≡ Some d → IsSuited (linked_values t) type (Some k) text true
        → IsValueOf os full text
    kind_value type (kind.Enum i) full text d is knows h = valued i full text d knows is (h.0 refl)
    kind_value type k full text d is knows h = absurd (cc h)

    named_default : (scope : Text) (type : Option ℤ) (o given : Option (String Global))
        → IsResolved view_of filter.FieldType scope o
        → ((name : String Global) → o ≡ Some name → IsDefaultOf (linked_values t) type
        (kind_by view_of filter.FieldType scope o) given true)
        → (text full : Text) → text_view given ≡ Some text
        → rename_type namings scope type (text_view o) ≡ Some (46 ∷ full) → IsValueOf os full text
    named_default scope type None given r h text full e f = absurd (cc f)
    named_default scope type (Some s) None r h text full e f = absurd (cc e)
    named_default scope type (Some s) (Some v) (name, d, is) h text full e f =
        let m = meaning_of view_of filter.FieldType scope (string_bytes s) in
        let same : string_bytes v ≡ text = cc e in
        let written : Some (46 ∷ (found_by m).0) ≡ Some (46 ∷ full) = f in
        let own : name ≡ full = cc (sym (ap (λ x. Some (46 ∷ (found_by x).0)) is) ∙ written) in
        let suited = subst (λ x. IsSuited (linked_values t) type (kind_meant x) (string_bytes v) true)
        is (h s refl) in
        let found = resolved_to known view_of.sees filter.FieldType scope (string_bytes s) name d is in
        subst (λ n. IsValueOf os n text) own
        (subst (IsValueOf os name) same
        (kind_value type d.kind name (string_bytes v) d refl found.1.known_as suited))

    pub suits_seen : HoldsOne files known are indexes sees t g at Suits f
    suits_seen d (of_field x) none h =
        named_default d.name x.field_type x.type_name x.default_value
        (resolved_type (at d.file) view_of d.path d.name x none) h.default
    suits_seen d (of_extension x) none h =
        let parts = none_both
        (reference_faults (at d.file) view_of filter.Message d.path d.name _ x.extendee) _ none in
        named_default d.name x.field_type x.type_name x.default_value
        (resolved_type (at d.file) view_of d.path d.name x parts.1) h.1.default
    suits_seen d b none h = tt
