-- The numbers of new extensions are kept for extensions by the messages that they extend.
use Rattle.std.proofs.Common.{◌≡◌, ◌∙◌, ℕ, ℤ, pos, unwrap_or, Bool, true, List, ◌∷◌, Option, Some, None, String, Global, string_bytes, ap, sym, subst, refl}
use Rattle.descriptor_records.specs.Content.{Text, FileContent, text_view}
use Rattle.descriptor_records.specs.declared.file.FileDescriptorProto.{FileDescriptorProto}
use Rattle.reflect_scope.specs.declared.definition.Definition.{Definition}
use Rattle.reflect_scope.specs.declared.definition.DefinitionKind.{DefinitionKind}
use Rattle.reflect_scope.specs.declared.definition.DefinitionKind.TheVariants as kind
use Rattle.reflect_scope.specs.declared.definition.ResolveNameFilter.TheVariants as filter
use Rattle.reflect_scope.specs.FileIndexes.{Indexes}
use Rattle.reflect_scope.specs.Known.{Known}
use Rattle.reflect_declarations.specs.Declarations.{of_extension}
use Rattle.reflect_names.specs.Names.{Places}
use Rattle.reflect_names.specs.References.{View, meaning_of, kind_meant, reference_faults}
use Rattle.reflect_passes.specs.declared.linked_types.LinkedTypes.{LinkedTypes}
use Rattle.reflect_rules.specs.Walks.{Facts}
use Rattle.schema_view.specs.Declarations as view
use Rattle.schema_view.specs.References.{Reference, Target as Naming}
use Rattle.schema_view.specs.Outlines.{Outline}
use Rattle.linked_view.specs.AtHand.{kind_by}
use Rattle.linked_view.specs.Known.{AreKnown}
use Rattle.linked_view.proofs.AtHand.{IsResolved}
use Rattle.linked_view.proofs.Faults.{none_both}
use Rattle.linked_view.proofs.Linked.{found_by}
use Rattle.linked_view.proofs.Means.{resolved_to}
use Rattle.linked_view.proofs.Settling.{names, see, HoldsOne}
use Rattle.reflect_rules.specs.Rules.{message_of}
use Rattle.schema_view.specs.Lawful.{KeepsForExtensions, KeepsNumber}
use Rattle.schema_view.specs.References.{rename_message_type}
use Rattle.linked_view.proofs.AtHand.{resolved_one}
use Rattle.linked_view.specs.Ruled.{IsExtensionNumber}
use Rattle.reflect_scope.specs.Means.{is_wanted}

module _ (files : List FileDescriptorProto) (known : Known) (are : AreKnown files known)
    (indexes : Indexes) (sees : ℕ → ℕ → Bool) (t : LinkedTypes) (g : Facts) (at : ℕ → Places)
    (os : List Outline)
    (kept : (i : ℕ) (full : Text) (n : ℤ) (d : Definition) → known full ≡ Some d
    → d.kind ≡ kind.Message i → IsExtensionNumber g.types n (Some i) → KeepsForExtensions os full n) where
  module _ (f : FileContent) where
    abbrev AreKept : view.Body → Type 0
    AreKept = KeepsNumber os

    abbrev namings : Reference → Naming
    namings = names files known are indexes sees t g at AreKept f

    abbrev view_of : View
    view_of = see files known are indexes sees t g at AreKept f

    kind_kept : (k : DefinitionKind) (full : Text) (n : ℤ) (d : Definition) → d.kind ≡ k
        → known full ≡ Some d → is_wanted filter.Message k ≡ true
        → IsExtensionNumber g.types n (message_of (Some k)) → KeepsForExtensions os full n
    kind_kept (kind.Message i) full n d is knows wanted h = kept i full n d knows is h
    kind_kept k full n d is knows wanted h = absurd (cc wanted)

    named_number : (scope : Text) (o : Option (String Global)) (number : Option ℤ)
        → IsResolved view_of filter.Message scope o
        → IsExtensionNumber g.types (unwrap_or number (pos 0))
        (message_of (kind_by view_of filter.Message scope o))
        → (full : Text) (n : ℤ) → rename_message_type namings scope (text_view o) ≡ Some (46 ∷ full)
        → number ≡ Some n → KeepsForExtensions os full n
    named_number scope None number r h full n e f = absurd (cc e)
    named_number scope (Some s) number (name, d, is) h full n e f =
        let m = meaning_of view_of filter.Message scope (string_bytes s) in
        let written : Some (46 ∷ (found_by m).0) ≡ Some (46 ∷ full) = e in
        let own : name ≡ full = cc (sym (ap (λ x. Some (46 ∷ (found_by x).0)) is) ∙ written) in
        let found = resolved_to known view_of.sees filter.Message scope (string_bytes s) name d is in
        let told = subst (λ x. IsExtensionNumber g.types (unwrap_or number (pos 0))
        (message_of (kind_meant x))) is h in
        let at_number = subst (λ z. IsExtensionNumber g.types (unwrap_or z (pos 0))
        (message_of (Some d.kind))) f told in
        subst (λ x. KeepsForExtensions os x n) own
        (kind_kept d.kind name n d refl found.1.known_as found.1.wanted at_number)

    pub kept_seen : HoldsOne files known are indexes sees t g at AreKept f
    kept_seen d (of_extension x) none h =
        let parts = none_both
        (reference_faults (at d.file) view_of filter.Message d.path d.name _ x.extendee) _ none in
        named_number d.name x.extendee x.number
        (resolved_one (at d.file) view_of d.path d.name filter.Message _ x.extendee parts.0) h.0
    kept_seen d b none h = tt
