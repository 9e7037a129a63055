-- What a linked declaration says of others is what the rules of numbers ask of it by what its names
-- mean.
use Rattle.std.proofs.Common.{◌≡◌, ◌∙◌, ◌&&◌, inl, inr, ℕ, ℤ, pos, Bool, true, false, nat_lt, bytes_eq, List, [], ◌∷◌, Option, Some, None, String, Global, string_bytes, unwrap_or, ap, sym, subst, refl}
use Rattle.std.specs.List.{Contains}
use Rattle.descriptor_records.specs.Content.{Text, FileContent, field_view, text_view}
use Rattle.descriptor_records.specs.declared.field.FieldDescriptorProto.{FieldDescriptorProto}
use Rattle.descriptor_records.specs.declared.file.FileDescriptorProto.{FileDescriptorProto}
use Rattle.reflect_names.specs.Names.{Places}
use Rattle.reflect_names.specs.ReferencePass.{reference_faults_along}
use Rattle.reflect_names.specs.References.{View, kind_meant, reference_faults, reference_faults_at}
use Rattle.reflect_passes.specs.Linked.{enum_at, HasValue, linked_values}
use Rattle.reflect_passes.specs.declared.linked_types.LinkedTypes.{LinkedTypes}
use Rattle.reflect_rules.specs.Rules.{IsDefaultOf, IsSuited, is_one_map, message_of}
use Rattle.reflect_rules.specs.Walks.{Facts}
use Rattle.reflect_scope.specs.FileIndexes.{Indexes}
use Rattle.reflect_scope.specs.Known.{Known}
use Rattle.reflect_scope.specs.declared.definition.Definition.{Definition}
use Rattle.reflect_scope.specs.declared.definition.DefinitionKind.{DefinitionKind}
use Rattle.reflect_scope.specs.declared.definition.DefinitionKind.TheVariants as kind
use Rattle.reflect_scope.specs.declared.definition.ResolveNameFilter.TheVariants as filter
use Rattle.reflect_declarations.specs.Declarations.{Declaration, Body, of_message, of_field, of_extension}
use Rattle.reflect_walk.specs.MapEntries.{says_entry}
use Rattle.reflect_declarations.specs.Tree.{MessageParts}
use Rattle.schema_view.specs.Declarations as view
use Rattle.schema_view.specs.Files.{IsThere}
use Rattle.schema_view.specs.Lawful.{is_dotted, is_use, IsSettled, KeepsForExtensions}
use Rattle.schema_view.specs.Outlines.{Outline}
use Rattle.schema_view.specs.References.{Reference, Target, dotted, rename_message_type, rename_type}
use Rattle.schema_view.specs.Rules.{IsSound}
use Rattle.schema_view.proofs.Lists.{contains_cases, contains_none}
use Rattle.schema_view.proofs.Renames.{rename_body}
use Rattle.linked_view.specs.AtHand.{kind_by, IsMetBy}
use Rattle.linked_view.specs.Known.{AreKnown}
use Rattle.linked_view.specs.Ruled.{IsExtensionNumber, IsMetField, IsNewer}
use Rattle.linked_view.proofs.AtHand.{IsResolved, resolved_one, resolved_type}
use Rattle.linked_view.proofs.Counts.{bytes_refl}
use Rattle.linked_view.proofs.Faults.{none_both}
use Rattle.linked_view.proofs.Linked.{found_by, meanings, sees_of}
use Rattle.linked_view.proofs.Means.{resolved_to}
use Rattle.linked_view.proofs.Suited.{IsValueOf}
use Rattle.linked_view.proofs.Walked.{seen_body}

module _ (files : List FileDescriptorProto) (known : Known) (are : AreKnown files known)
    (indexes : Indexes) (sees : ℕ → ℕ → Bool) (t : LinkedTypes) (g : Facts) (os : List Outline) where
  -- a message of the older files that is the type of a map's entries
  pub record IsOldEntry (full : Text) : Type 0 where
    pub index : ℕ
    pub definition : Definition
    pub knows : known full ≡ Some definition
    pub is_message : definition.kind ≡ kind.Message index
    pub is_entry : (nat_lt index g.first && g.types.is_entry index) ≡ true

  -- a declaration of linked files is sound, agrees with the others, and has no such type
  pub record IsAgreed (b : view.Body) : Type 0 where
    pub proto3 : Bool
    pub sound : IsSound proto3 b
    pub settled : IsSettled os b
    pub unused : (full : Text) → IsOldEntry full → is_use full b ≡ false

  -- what is kept for extensions by records is so by types, and values of declared enums are values
  -- of enums
  pub record TypesTell : Type 0 where
    pub numbers : (i : ℕ) (full : Text) (n : ℤ) (d : Definition) → known full ≡ Some d
        → d.kind ≡ kind.Message i → KeepsForExtensions os full n → IsExtensionNumber g.types n (Some i)
    pub values : (full text : Text) (d : Definition) → known full ≡ Some d
        → IsValueOf os full text
        → (i : ℕ) × (d.kind ≡ kind.Enum i) × HasValue (enum_at t i) text

  module _ (tell : TypesTell) (f : FileContent) where
    abbrev pub namings : Reference → Target
    namings r = dotted (meanings files known are indexes sees f r)

    abbrev pub view_of : View
    view_of = record { known = known; sees = sees_of files known are indexes sees f }

    numbered : (k : DefinitionKind) (full : Text) (n : ℤ) (d : Definition) → d.kind ≡ k
        → known full ≡ Some d → KeepsForExtensions os full n
        → IsExtensionNumber g.types n (message_of (Some k))
    numbered (kind.Message i) full n d is knows h = tell.numbers i full n d knows is h
    numbered k full n d is knows h = tt

    extension_number : (scope : Text) (o : Option (String Global)) (number : Option ℤ)
        → IsThere number → IsResolved view_of filter.Message scope o
        → ((full : Text) (n : ℤ) → rename_message_type namings scope (text_view o) ≡ Some (46 ∷ full)
        → number ≡ Some n → KeepsForExtensions os full n)
        → IsExtensionNumber g.types (unwrap_or number (pos 0))
        (message_of (kind_by view_of filter.Message scope o))
    extension_number scope None number there r h = tt
    extension_number scope (Some s) number (n, is) (full, d, m) h =
        let found = resolved_to known view_of.sees filter.Message scope (string_bytes s) full d m in
        let keeps = h full n (ap (λ x. Some (46 ∷ (found_by x).0)) m) is in
        subst (λ x. IsExtensionNumber g.types (unwrap_or number (pos 0))
        (message_of (kind_meant x))) (sym m)
        (subst (λ z. IsExtensionNumber g.types (unwrap_or z (pos 0)) (message_of (Some d.kind)))
        (sym is) (numbered d.kind full n d refl found.1.known_as keeps))

    newer_kind : (full : Text) (d : Definition) → known full ≡ Some d
        → (IsOldEntry full → ⊥) → (k : DefinitionKind) → d.kind ≡ k
        → IsNewer g.types g.first (message_of (Some k))
    newer_kind full d knows none (kind.Message i) is =
        by (nat_lt i g.first && g.types.is_entry i) refl where
          by : (b : Bool) → (nat_lt i g.first && g.types.is_entry i) ≡ b
              → (nat_lt i g.first && g.types.is_entry i) ≡ false
          by false e = e
          by true e = absurd (none (record {
            index = i;
            definition = d;
            knows = knows;
            is_message = is;
            is_entry = e;
          }))
    newer_kind full d knows none k is = tt

    is_newer : (scope : Text) (type : Option ℤ) (o : Option (String Global))
        → IsResolved view_of filter.FieldType scope o
        → ((full : Text) → IsOldEntry full
        → is_dotted full (rename_type namings scope type (text_view o)) ≡ false)
        → IsNewer g.types g.first (message_of (kind_by view_of filter.FieldType scope o))
    is_newer scope type None r none = tt
    is_newer scope type (Some s) (full, d, m) none =
        let found = resolved_to known view_of.sees filter.FieldType scope (string_bytes s) full d m in
        let written : is_dotted full (rename_type namings scope type (text_view (Some s))) ≡ true =
        ap (λ x. bytes_eq (46 ∷ (found_by x).0) (46 ∷ full)) m ∙ bytes_refl (46 ∷ full) in
        subst (λ x. IsNewer g.types g.first (message_of (kind_meant x))) (sym m)
        (newer_kind full d found.1.known_as (λ old. cc (sym written ∙ none full old)) d.kind refl)

    named_default : (scope : Text) (type : Option ℤ) (o given : Option (String Global))
        → IsResolved view_of filter.FieldType scope o
        → ((text full : Text) → text_view given ≡ Some text
        → rename_type namings scope type (text_view o) ≡ Some (46 ∷ full) → IsValueOf os full text)
        → (name : String Global) → o ≡ Some name
        → IsDefaultOf (linked_values t) type (kind_by view_of filter.FieldType scope o) given true
    named_default scope type None given r h name e = absurd (cc e)
    named_default scope type (Some s) None r h name e = refl
    named_default scope type (Some s) (Some v) (full, d, m) h name e =
        let found = resolved_to known view_of.sees filter.FieldType scope (string_bytes s) full d m in
        let value = tell.values full (string_bytes v) d found.1.known_as
        (h (string_bytes v) full refl (ap (λ x. Some (46 ∷ (found_by x).0)) m)) in
        subst (λ x. IsSuited (linked_values t) type (kind_meant x) (string_bytes v) true) (sym m)
        (subst (λ k. IsSuited (linked_values t) type (Some k) (string_bytes v) true) (sym value.1)
        ((λ is. value.2), (λ has. refl)))

    -- a field and an extension alike
    field_met : (d : Declaration) (x : FieldDescriptorProto)
        → IsResolved view_of filter.FieldType d.name x.type_name
        → ((text full : Text) → text_view x.default_value ≡ Some text
        → rename_type namings d.name x.field_type (text_view x.type_name) ≡ Some (46 ∷ full)
        → IsValueOf os full text)
        → ((full : Text) → IsOldEntry full
        → is_dotted full (rename_type namings d.name x.field_type (text_view x.type_name)) ≡ false)
        → IsMetField g (linked_values t) (kind_by view_of filter.FieldType d.name x.type_name) x
    field_met d x r suits unused = record {
      newer = is_newer d.name x.field_type x.type_name r unused;
      default = named_default d.name x.field_type x.type_name x.default_value r suits;
    }

    pub met_seen : (at : Places) (d : Declaration) (b : Body)
        → reference_faults_at at view_of (record d { body = b }) ≡ []
        → ((v : view.Body) → seen_body b ≡ Some v → IsAgreed (rename_body namings d.name v))
        → ((m : MessageParts) → b ≡ of_message m → says_entry m.options ≡ true
        → is_one_map (g.uses d.index) ≡ true)
        → IsMetBy g (linked_values t) view_of (record d { body = b })
    met_seen at d (of_message m) none h uses = uses m refl
    met_seen at d (of_field x) none h uses =
        let own = h (view.of_field (field_view x)) refl in
        field_met d x (resolved_type at view_of d.path d.name x none) own.settled.defaults own.unused
    met_seen at d (of_extension x) none h uses =
        let own = h (view.of_extension (field_view x)) refl in
        let parts = none_both
        (reference_faults at view_of filter.Message d.path d.name _ x.extendee) _ none in
        let number = own.sound.0.number in (
          extension_number d.name x.extendee x.number (number.0, number.1)
              (resolved_one at view_of d.path d.name filter.Message _ x.extendee parts.0)
              own.settled.numbers,
          field_met d x (resolved_type at view_of d.path d.name x parts.1) own.settled.defaults
              own.unused,
        )
    met_seen at d b none h uses = tt

-- no reference of a declaration is wrong where none is along all
pub none_at : (at : ℕ → Places) (views : ℕ → View) (ds : List Declaration)
    → reference_faults_along at views ds ≡ [] → (d : Declaration) → Contains ds d
    → reference_faults_at (at d.file) (views d.file) d ≡ []
none_at at views [] none d h = absurd (contains_none d h)
none_at at views (x ∷ ds) none d h =
    let parts = none_both (reference_faults_at (at x.file) (views x.file) x)
    (reference_faults_along at views ds) none in
    elim (contains_cases x ds d h) [
      | inl same ↦ subst (λ (y : Declaration).
          reference_faults_at (at y.file) (views y.file) y ≡ []) same parts.0
      | inr j ↦ none_at at views ds parts.1 d j
    ]
