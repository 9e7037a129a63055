-- The pass over numbers finds nothing wrong with a declaration exactly where it meets the rules by
-- itself, by its message, and by what it refers to.
use Rattle.std.proofs.Common.{◌≡◌, ◌∙◌, inl, inr, ℕ, ℤ, pos, Bool, true, false, cond, not, ◌&&◌, nat_lt, List, [], ◌++◌, Option, Some, None, String, Global, string_bytes, unwrap_or, map, sum_by, ap, sym, subst, refl, arith}
use Rattle.std.proofs.lemmas.Bool.{and_from, and_parts}
use Rattle.std.specs.List.{AllByRecursion}
use Rattle.std.proofs.lemmas.List.Elements.{All-contains}
use Rattle.descriptor_records.specs.Content.{Text, text_view, field_view}
use Rattle.descriptor_records.specs.declared.field.FieldDescriptorProto.{FieldDescriptorProto}
use Rattle.reflect_scope.specs.declared.definition.DefinitionKind.{DefinitionKind}
use Rattle.reflect_scope.specs.declared.definition.DefinitionKind.TheVariants as kind
use Rattle.reflect_declarations.specs.Tree.{MessageParts}
use Rattle.reflect_walk.specs.MapEntries.{says_entry}
use Rattle.reflect_declarations.specs.Declarations.{Declaration, Body, of_message, of_field, of_enum, of_extension}
use Rattle.reflect_faults.specs.Faults.{Fault, duplicate_number}
use Rattle.reflect_names.specs.Names.{Places}
use Rattle.reflect_tables.specs.Ranges.{Range, IsIn, IsRangeOf}
use Rattle.reflect_references.specs.Meanings.{meaning, behind}
use Rattle.reflect_rules.specs.TypesSay.{TypesSay}
use Rattle.reflect_rules.specs.MapEntries.{has_entry_shape}
use Rattle.reflect_rules.specs.Numbers.{is_field_number, number_faults, reserved_faults, kept_faults, outside_faults, oneof_faults}
use Rattle.reflect_rules.specs.Rules.{Values, IsSuited, IsDefaultOf, FieldFindings, FieldFaults, ExtensionNumber, ExtensionFindings, ExtensionFaults, number_of, message_of, is_one_map, entry_faults, message_faults, older_faults, default_faults, parent_of, FaultsOf}
use Rattle.reflect_rules.specs.Walks.{Facts, Place}
use Rattle.schema_view.specs.Files.{IsThere}
use Rattle.schema_view.specs.Declarations as view
use Rattle.schema_view.specs.Scalars.{is_scalar, IsScalarDefault}
use Rattle.schema_view.specs.Rules.{is_number, HasFieldNumber, HasOneof, HasType}
use Rattle.schema_view.proofs.Renames.{map_same}
use Rattle.linked_view.specs.Ruled.{IsRuledMessage, IsRuledField, IsRuled, IsPlacedField, IsNewer, IsMetField, IsExtensionNumber, IsMet}
use Rattle.linked_view.proofs.FieldNumbers.{none_found, none_found_in}
use Rattle.linked_view.proofs.Completes.{IsCompleteBody}
use Rattle.linked_view.proofs.Defaults.{scalar_only, suited_to, suited_from}
use Rattle.linked_view.proofs.Enums.{enum_to, enum_from}
use Rattle.linked_view.proofs.Faults.{none_both, both_none, unless_to, unless_from, when_to, when_from}
use Rattle.linked_view.proofs.Messages as fields
use Rattle.linked_view.proofs.NamedFiles.{place_to, place_from}
use Rattle.linked_view.proofs.Numbers.{number_to, number_from}
use Rattle.linked_view.proofs.Repeated.{often, often_seen, once_to, once_from}
use Rattle.linked_view.proofs.Shapes.{IsTypedField, entry_to, entry_from, shape_to, shape_from}
use Rattle.linked_view.proofs.Walked.{facts_in, seen_body}

abbrev pub IsTypedBody : Body → Type 0
IsTypedBody (of_message m) = AllByRecursion IsTypedField m.field
IsTypedBody (of_field f) = IsTypedField f
IsTypedBody (of_extension x) = IsTypedField x
IsTypedBody _ = Unit {0}

abbrev pub IsRuledBody : Bool → Option view.Body → Type 0
IsRuledBody proto3 None = Unit {0}
IsRuledBody proto3 (Some b) = IsRuled proto3 b

-- a field by its message
abbrev pub IsPlacedIn : TypesSay → ℕ → Declaration → Type 0
IsPlacedIn types oneofs d = fields.IsIn (IsPlacedField types) oneofs d

pub record IsClean (g : Facts) (values : Values) (p : Place) (d : Declaration) : Type 0 where
  pub own : IsRuledBody p.is_proto3 (seen_body d.body)
  pub placed : IsPlacedIn g.types p.oneofs d
  pub met : IsMet g values p d

number_in : (o : Option ℤ) → IsThere o → is_field_number (unwrap_or o (pos 0)) ≡ true
    → HasFieldNumber o
number_in None (z, e) is = absurd (cc e)
number_in (Some z) h is = (z, refl, number_to z is)

in_number : (o : Option ℤ) → HasFieldNumber o → is_field_number (unwrap_or o (pos 0)) ≡ true
in_number o (z, e, is) = ap (λ n. is_field_number (unwrap_or n (pos 0))) e ∙ number_from z is

default_is : (at : Places) (path : List ℤ) (values : Values) (number : Option ℤ)
    (m : Option DefinitionKind) (value : Option (String Global)) (suits : Bool)
    → IsDefaultOf values number m value suits → default_faults at path value suits ≡ []
    → IsDefaultOf values number m value true
default_is at path values number m None suits h e = refl
default_is at path values number m (Some s) suits h e =
    subst (IsDefaultOf values number m (Some s)) (unless_to suits _ e) h

is_default : (at : Places) (path : List ℤ) (value : Option (String Global))
    → default_faults at path value true ≡ []
is_default at path None = refl
is_default at path (Some s) = refl

named_scalar : (z : ℤ) (t : Text) → HasType (Some z) (Some t) → is_scalar z ≡ true → ⊥
named_scalar z t (inl is) e = cc (sym (ap is_scalar is) ∙ e)
named_scalar z t (inr (inl is)) e = cc (sym (ap is_scalar is) ∙ e)
named_scalar z t (inr (inr is)) e = cc (sym (ap is_scalar is) ∙ e)

-- what is asked of enums' values has one answer where it is yes
abbrev pub IsDecided : Values → Type 0
IsDecided values = (i : ℕ) (text : Text) (suits : Bool) → values i text true → values i text suits
    → suits ≡ true

suited_only : (values : Values) → IsDecided values → (number : Option ℤ) (m : Option DefinitionKind)
    (text : Text) (suits : Bool) → IsSuited values number m text true
    → IsSuited values number m text suits → suits ≡ true
suited_only values decided number None text suits h k = scalar_only number text suits h k
suited_only values decided number (Some (kind.Enum i)) text suits h k = decided i text suits h k
suited_only values decided number m text suits h k = absurd (cc h)

default_only : (values : Values) → IsDecided values → (number : Option ℤ)
    (m : Option DefinitionKind) (value : Option (String Global)) (suits : Bool)
    → IsDefaultOf values number m value true → IsDefaultOf values number m value suits
    → suits ≡ true
default_only values decided number m None suits h k = k
default_only values decided number m (Some s) suits h k =
    suited_only values decided number m (string_bytes s) suits h k

range_only : (rs : List Range) (n : ℤ) (r : Option Range) → IsRangeOf rs n None → IsRangeOf rs n r
    → r ≡ None
range_only rs n None none h = refl
range_only rs n (Some r) none h = absurd (All-contains (λ q. IsIn n q → ⊥) rs r none h.0 h.1)

scalar_to : (values : Values) (number : Option ℤ) (name value : Option (String Global))
    (m : Option DefinitionKind) → (name ≡ None → m ≡ None) → HasType number (text_view name)
    → IsDefaultOf values number m value true → (text : Text) (z : ℤ) → text_view value ≡ Some text
    → number ≡ Some z → is_scalar z ≡ true → IsScalarDefault z text
scalar_to values number name None m none typed h text z e is scalar = absurd (cc e)
scalar_to values None name (Some s) m none typed h text z e is scalar = absurd (cc is)
scalar_to values (Some y) (Some n) (Some s) m none typed h text z e is scalar =
    let same : y ≡ z = cc is in
    absurd (named_scalar y (string_bytes n) typed (ap is_scalar same ∙ scalar))
scalar_to values (Some y) None (Some s) m none typed h text z e is scalar =
    let same : y ≡ z = cc is in
    let bytes : string_bytes s ≡ text = cc e in
    let plain = subst (λ k. IsDefaultOf values (Some y) k (Some s) true) (none refl) h in
    subst (λ k. IsScalarDefault k text) same
    (subst (IsScalarDefault y) bytes (suited_to y s plain))

scalar_from : (values : Values) (number : Option ℤ) (name value : Option (String Global))
    (m : Option DefinitionKind) → (name ≡ None → m ≡ None) → HasType number (text_view name)
    → ((text : Text) (z : ℤ) → text_view value ≡ Some text → number ≡ Some z → is_scalar z ≡ true
    → IsScalarDefault z text)
    → ((n : String Global) → name ≡ Some n → IsDefaultOf values number m value true)
    → IsDefaultOf values number m value true
scalar_from values number name None m none typed h k = refl
scalar_from values number (Some n) (Some s) m none typed h k = k n refl
scalar_from values None None (Some s) m none typed h k = absurd (cc typed.1)
scalar_from values (Some z) None (Some s) m none typed h k =
    subst (λ y. IsDefaultOf values (Some z) y (Some s) true) (sym (none refl))
    (suited_from z (string_bytes s) (h (string_bytes s) z refl refl typed))

newer_to : (at : Places) (path : List ℤ) (types : TypesSay) (first : ℕ) (o : Option ℕ)
    → older_faults at path types first o ≡ [] → IsNewer types first o
newer_to at path types first None e = tt
newer_to at path types first (Some i) e = when_to (nat_lt i first && types.is_entry i) _ e

newer_from : (at : Places) (path : List ℤ) (types : TypesSay) (first : ℕ) (o : Option ℕ)
    → IsNewer types first o → older_faults at path types first o ≡ []
newer_from at path types first None h = refl
newer_from at path types first (Some i) h = when_from (nat_lt i first && types.is_entry i) _ h

reserved_to : (at : Places) (path : List ℤ) (n : ℤ) (r : Option Range)
    → reserved_faults at path n r ≡ [] → r ≡ None
reserved_to at path n None e = refl
reserved_to at path n (Some r) e = absurd (cc e)

kept_to : (at : Places) (path : List ℤ) (n : ℤ) (r : Option Range)
    → kept_faults at path n r ≡ [] → r ≡ None
kept_to at path n None e = refl
kept_to at path n (Some r) e = absurd (cc e)

outside_to : (at : Places) (path : List ℤ) (n : ℤ) (name : Text) (r : Option Range)
    → outside_faults at path n name r ≡ [] → (x : Range) × (r ≡ Some x)
outside_to at path n name None e = absurd (cc e)
outside_to at path n name (Some r) e = (r, refl)

oneof_to : (at : Places) (path : List ℤ) (count : ℕ) (o : Option ℤ)
    → oneof_faults at path count o ≡ [] → HasOneof count o
oneof_to at path count None e = inl refl
oneof_to at path count (Some z) e =
    let p = place_to z count (unless_to _ _ e) in inr (p.0, ap Some p.1, p.2)

oneof_from : (at : Places) (path : List ℤ) (count : ℕ) (o : Option ℤ) → HasOneof count o
    → oneof_faults at path count o ≡ []
oneof_from at path count None h = refl
oneof_from at path count (Some z) (inl e) = absurd (cc e)
oneof_from at path count (Some z) (inr (k, e, lt)) =
    let same : z ≡ pos k = cc e in unless_from _ _ (place_from z count (k, same, lt))

meaning_none : (o : Option (String Global)) (rest : List _) → o ≡ None → meaning o rest ≡ None
meaning_none o rest e = ap (λ n. meaning n rest) e

module _ (g : Facts) (values : Values) (at : Places) (path : List ℤ) where
  -- what a field and an extension have in common
  module _ (f : FieldDescriptorProto) (m : Option DefinitionKind) (none : f.type_name ≡ None → m ≡ None)
      (typed : IsTypedField f) where
    field_own : IsThere f.number → number_faults at path (number_of f) ≡ []
        → IsDefaultOf values f.field_type m f.default_value true → IsRuledField (field_view f)
    field_own there e h = record {
      number = number_in f.number there (unless_to (is_field_number (number_of f)) _ e);
      default = scalar_to values f.field_type f.type_name f.default_value m none typed h;
    }

    own_default : IsRuledField (field_view f)
        → ((n : String Global) → f.type_name ≡ Some n
        → IsDefaultOf values f.field_type m f.default_value true)
        → IsDefaultOf values f.field_type m f.default_value true
    own_default own k =
        scalar_from values f.field_type f.type_name f.default_value m none typed own.default k

    field_to : (oneofs message : ℕ) → IsThere f.number
        → FieldFaults g values oneofs at path message f (number_of f) m []
        → IsRuledField (field_view f) × IsPlacedField g.types oneofs message f
        × IsMetField g values m f
    field_to oneofs message there (r, e) =
        let n = number_of f in
        let found = none_found g values oneofs at path message f m (r, e) in
        let suits = default_is at path values f.field_type m f.default_value r.suits r.is_suited
        found.default in (
          field_own there found.number suits,
          record {
            unreserved = subst (IsRangeOf (g.types.reserved message) n)
                (reserved_to at path n r.reserved found.reserved) r.is_reserved;
            no_extension = subst (IsRangeOf (g.types.extensions message) n)
                (kept_to at path n r.kept found.kept) r.is_kept;
            oneof = oneof_to at path oneofs f.oneof_index found.oneof;
          },
          record {
            newer = newer_to at path g.types g.first (message_of m) found.older;
            default = λ n e. suits;
          },
        )

    -- nothing is wrong with a field that meets the rules, whatever is found of it
    field_clear : (oneofs message : ℕ) → IsRuledField (field_view f)
        → IsPlacedField g.types oneofs message f → IsMetField g values m f
        → (r : FieldFindings g values m message (number_of f) f) → r.suits ≡ true
        → number_faults at path (number_of f) ++ reserved_faults at path (number_of f) r.reserved
        ++ kept_faults at path (number_of f) r.kept ++ oneof_faults at path oneofs f.oneof_index
        ++ older_faults at path g.types g.first (message_of m)
        ++ default_faults at path f.default_value r.suits ≡ []
    field_clear oneofs message own placed met r suits =
        let n = number_of f in
        let a = number_faults at path n in
        let b = a ++ reserved_faults at path n r.reserved in
        let c = b ++ kept_faults at path n r.kept in
        let d = c ++ oneof_faults at path oneofs f.oneof_index in
        let o = d ++ older_faults at path g.types g.first (message_of m) in
        let reserved = range_only (g.types.reserved message) n r.reserved placed.unreserved r.is_reserved
        in
        let kept = range_only (g.types.extensions message) n r.kept placed.no_extension r.is_kept in
        both_none o (default_faults at path f.default_value r.suits)
        (both_none d (older_faults at path g.types g.first (message_of m))
        (both_none c (oneof_faults at path oneofs f.oneof_index)
        (both_none b (kept_faults at path n r.kept)
        (both_none a (reserved_faults at path n r.reserved)
        (unless_from (is_field_number n) _ (in_number f.number own.number))
        (ap (reserved_faults at path n) reserved)) (ap (kept_faults at path n) kept))
        (oneof_from at path oneofs f.oneof_index placed.oneof))
        (newer_from at path g.types g.first (message_of m) met.newer))
        (ap (default_faults at path f.default_value) suits ∙ is_default at path f.default_value)

    field_from : (oneofs message : ℕ) → IsRuledField (field_view f)
        → IsPlacedField g.types oneofs message f → IsMetField g values m f
        → FieldFaults g values oneofs at path message f (number_of f) m []
    field_from oneofs message own placed met =
        let r : FieldFindings g values m message (number_of f) f = record {
          reserved = None;
          kept = None;
          suits = true;
          is_reserved = placed.unreserved;
          is_kept = placed.no_extension;
          is_suited = own_default own met.default;
        } in
        (r, sym (field_clear oneofs message own placed met r refl))

    field_only : IsDecided values → (oneofs message : ℕ) → IsRuledField (field_view f)
        → IsPlacedField g.types oneofs message f → IsMetField g values m f → (xs : List Fault)
        → FieldFaults g values oneofs at path message f (number_of f) m xs → xs ≡ []
    field_only decided oneofs message own placed met xs (r, is) =
        is ∙ field_clear oneofs message own placed met r
        (default_only values decided f.field_type m f.default_value r.suits
        (own_default own met.default) r.is_suited)

    numbered_to : (extendee : Option ℕ) (xs : List Fault)
        → ExtensionNumber g.types at path (number_of f) extendee xs → xs ≡ []
        → IsExtensionNumber g.types (number_of f) extendee
    numbered_to None xs h e = tt
    numbered_to (Some i) xs (reserved, kept, is_reserved, is_kept, is) e =
        let n = number_of f in
        let parts = none_both (reserved_faults at path n reserved) _ (sym is ∙ e) in
        let r = outside_to at path n (g.types.name i) kept parts.1 in (
          subst (IsRangeOf (g.types.reserved i) n) (reserved_to at path n reserved parts.0) is_reserved,
          r.0,
          subst (IsRangeOf (g.types.extensions i) n) r.1 is_kept,
        )

    numbered_from : (extendee : Option ℕ) → IsExtensionNumber g.types (number_of f) extendee
        → ExtensionNumber g.types at path (number_of f) extendee []
    numbered_from None h = refl
    numbered_from (Some i) (unreserved, r, kept) = (None, Some r, unreserved, kept, refl)

    numbered_only : (extendee : Option ℕ) → IsExtensionNumber g.types (number_of f) extendee
        → (xs : List Fault) → ExtensionNumber g.types at path (number_of f) extendee xs → xs ≡ []
    numbered_only None h xs e = e
    numbered_only (Some i) (unreserved, r, kept) xs (reserved, o, is_reserved, is_kept, is) =
        let n = number_of f in
        let none = range_only (g.types.reserved i) n reserved unreserved is_reserved in
        is ∙ both_none (reserved_faults at path n reserved)
        (outside_faults at path n (g.types.name i) o) (ap (reserved_faults at path n) none)
        (by o is_kept) where
          by : (o : Option Range) → IsRangeOf (g.types.extensions i) (number_of f) o
              → outside_faults at path (number_of f) (g.types.name i) o ≡ []
          by None h = absurd (All-contains (λ q. IsIn (number_of f) q → ⊥) (g.types.extensions i) r h
              kept.0 kept.1)
          by (Some x) h = refl

    extension_to : (extendee : Option DefinitionKind) → IsThere f.number
        → ExtensionFaults g values at path f (number_of f) extendee m []
        → IsRuledField (field_view f) × IsExtensionNumber g.types (number_of f) (message_of extendee)
        × IsMetField g values m f
    extension_to extendee there (r, e) =
        let found = none_found_in g values at path f extendee m (r, e) in
        let suits = default_is at path values f.field_type m f.default_value r.suits r.is_suited
        found.default in (
          field_own there found.number suits,
          numbered_to (message_of extendee) r.numbers r.is_number found.numbers,
          record {
            newer = newer_to at path g.types g.first (message_of m) found.older;
            default = λ n e. suits;
          },
        )

    extension_clear : (extendee : Option DefinitionKind) → IsRuledField (field_view f)
        → IsExtensionNumber g.types (number_of f) (message_of extendee) → IsMetField g values m f
        → (r : ExtensionFindings g values at path f (number_of f) extendee m) → r.suits ≡ true
        → number_faults at path (number_of f) ++ r.numbers
        ++ older_faults at path g.types g.first (message_of m)
        ++ default_faults at path f.default_value r.suits ≡ []
    extension_clear extendee own numbered met r suits =
        let n = number_of f in
        let a = number_faults at path n in
        let b = a ++ r.numbers in
        let o = b ++ older_faults at path g.types g.first (message_of m) in
        both_none o (default_faults at path f.default_value r.suits)
        (both_none b (older_faults at path g.types g.first (message_of m))
        (both_none a r.numbers
        (unless_from (is_field_number n) _ (in_number f.number own.number))
        (numbered_only (message_of extendee) numbered r.numbers r.is_number))
        (newer_from at path g.types g.first (message_of m) met.newer))
        (ap (default_faults at path f.default_value) suits ∙ is_default at path f.default_value)

    extension_from : (extendee : Option DefinitionKind) → IsRuledField (field_view f)
        → IsExtensionNumber g.types (number_of f) (message_of extendee) → IsMetField g values m f
        → ExtensionFaults g values at path f (number_of f) extendee m []
    extension_from extendee own numbered met =
        let r : ExtensionFindings g values at path f (number_of f) extendee m = record {
          numbers = [];
          suits = true;
          is_number = numbered_from (message_of extendee) numbered;
          is_suited = own_default own met.default;
        } in
        (r, sym (extension_clear extendee own numbered met r refl))

    extension_only : IsDecided values → (extendee : Option DefinitionKind)
        → IsRuledField (field_view f)
        → IsExtensionNumber g.types (number_of f) (message_of extendee) → IsMetField g values m f
        → (xs : List Fault) → ExtensionFaults g values at path f (number_of f) extendee m xs → xs ≡ []
    extension_only decided extendee own numbered met xs (r, is) =
        is ∙ extension_clear extendee own numbered met r
        (default_only values decided f.field_type m f.default_value r.suits
        (own_default own met.default) r.is_suited)

-- two numbers of a message's fields
fields_seen : (n : ℤ) (fs : List FieldDescriptorProto)
    → sum_by (λ (f : view.FieldFacts). cond (is_number n f.number) 1 0)
    (map view.facts_of (map field_view fs)) ≡ often n (map (λ (f : FieldDescriptorProto). f.number) fs)
fields_seen n fs =
    ap (λ xs. sum_by (λ (f : view.FieldFacts). cond (is_number n f.number) 1 0) xs)
    (map_same view.facts_of field_view (λ (f : FieldDescriptorProto). view.facts_of (field_view f))
    (λ f. refl) fs)
    ∙ often_seen (λ (f : FieldDescriptorProto). view.facts_of (field_view f))
    (λ (f : FieldDescriptorProto). f.number) (λ (f : view.FieldFacts). f.number) (λ f. refl) n fs

module _ (at : Places) (path : List ℤ) (name : Text) (m : MessageParts) where
  entry_says : (used : _) → entry_faults at path name used m ≡ [] → says_entry m.options ≡ true
      → (has_entry_shape m.field ≡ true) × (is_one_map used ≡ true)
  entry_says used e is =
      let inner : not (has_entry_shape m.field && is_one_map used) ≡ false =
      sym (ap (λ b. b && not (has_entry_shape m.field && is_one_map used)) is)
      ∙ when_to (says_entry m.options && not (has_entry_shape m.field && is_one_map used)) _ e in
      and_parts (has_entry_shape m.field) (is_one_map used) (positive _ inner) where
        positive : (b : Bool) → not b ≡ false → b ≡ true
        positive true h = refl
        positive false h = absurd (cc h)

  says_entries : (used : _) → (says_entry m.options ≡ true
      → (has_entry_shape m.field ≡ true) × (is_one_map used ≡ true))
      → entry_faults at path name used m ≡ []
  says_entries used h =
      when_from (says_entry m.options && not (has_entry_shape m.field && is_one_map used)) _
      (by (says_entry m.options) refl) where
        by : (b : Bool) → says_entry m.options ≡ b
            → (says_entry m.options && not (has_entry_shape m.field && is_one_map used)) ≡ false
        by false is = ap (λ b. b && not (has_entry_shape m.field && is_one_map used)) is
        by true is =
            let both = h is in
            let inner : (has_entry_shape m.field && is_one_map used) ≡ true =
            and_from (has_entry_shape m.field) (is_one_map used) both.0 both.1 in
            ap (λ b. b && not (has_entry_shape m.field && is_one_map used)) is ∙ ap not inner

  abbrev numbers : List (Option ℤ)
  numbers = map (λ (f : FieldDescriptorProto). f.number) m.field

  message_to : (used : _) → AllByRecursion IsTypedField m.field
      → message_faults at path name used m ≡ []
      → IsRuledMessage (facts_in m) × (says_entry m.options ≡ true → is_one_map used ≡ true)
  message_to used typed e =
      let parts = none_both (entry_faults at path name used m) _ e in
      let once = once_to duplicate_number (pos 2) (pos 3) path at numbers parts.1 in (
        record {
          apart = λ n. let le = once n in let same = fields_seen n m.field in omega (arith, le, same);
          entry = λ says. shape_to m.field typed
              (entry_says used parts.0 (entry_from m.options says)).0;
        },
        λ is. (entry_says used parts.0 is).1,
      )

  message_from : (used : _) → IsRuledMessage (facts_in m)
      → (says_entry m.options ≡ true → is_one_map used ≡ true)
      → message_faults at path name used m ≡ []
  message_from used own met =
      both_none (entry_faults at path name used m) _
      (says_entries used (λ is. (shape_from m.field (own.entry (entry_to m.options is)), met is)))
      (once_from duplicate_number (pos 2) (pos 3) path at numbers
      (λ n. let le = own.apart n in let same = fields_seen n m.field in omega (arith, le, same)))

module _ (g : Facts) (values : Values) (p : Place) (at : Places) (d : Declaration) where
  abbrev with_body : Body → Declaration
  with_body b = record d { body = b }

  body_to : (b : Body) → IsCompleteBody (seen_body b) → IsTypedBody b
      → FaultsOf g values p at (with_body b) [] → IsClean g values p (with_body b)
  body_to (of_message m) complete typed e =
      let parts = message_to at d.path d.name m (g.uses d.index) typed (sym e) in
      record { own = parts.0; placed = tt; met = parts.1 }
  body_to (of_field f) complete typed e =
      let m = meaning f.type_name p.rest in
      let parts = field_to g values at d.path f m (meaning_none f.type_name p.rest) typed p.oneofs
      (parent_of d) complete.number e in
      record { own = parts.0; placed = parts.1; met = parts.2 }
  body_to (of_enum k) complete typed e =
      record { own = enum_to at d.path p.is_proto3 k (sym e); placed = tt; met = tt }
  body_to (of_extension x) complete typed e =
      let rest = behind x.extendee p.rest in
      let parts = extension_to g values at d.path x (meaning x.type_name rest)
      (meaning_none x.type_name rest) typed (meaning x.extendee p.rest) complete.0.number e in
      record { own = parts.0; placed = tt; met = (parts.1, parts.2) }
  body_to b complete typed e = record { own = tt; placed = tt; met = tt }

  body_from : (b : Body) → IsTypedBody b → IsClean g values p (with_body b)
      → FaultsOf g values p at (with_body b) []
  body_from (of_message m) typed h = sym (message_from at d.path d.name m (g.uses d.index) h.own h.met)
  body_from (of_field f) typed h =
      field_from g values at d.path f (meaning f.type_name p.rest) (meaning_none f.type_name p.rest) typed
      p.oneofs (parent_of d) h.own h.placed h.met
  body_from (of_enum k) typed h = sym (enum_from at d.path p.is_proto3 k h.own)
  body_from (of_extension x) typed h =
      let rest = behind x.extendee p.rest in
      extension_from g values at d.path x (meaning x.type_name rest) (meaning_none x.type_name rest) typed
      (meaning x.extendee p.rest) h.own h.met.0 h.met.1
  body_from b typed h = refl

  body_only : IsDecided values → (b : Body) → IsTypedBody b → IsClean g values p (with_body b)
      → (xs : List Fault) → FaultsOf g values p at (with_body b) xs → xs ≡ []
  body_only decided (of_message m) typed h xs e =
      e ∙ message_from at d.path d.name m (g.uses d.index) h.own h.met
  body_only decided (of_field f) typed h xs e =
      field_only g values at d.path f (meaning f.type_name p.rest) (meaning_none f.type_name p.rest) typed
      decided p.oneofs (parent_of d) h.own h.placed h.met xs e
  body_only decided (of_enum k) typed h xs e = e ∙ enum_from at d.path p.is_proto3 k h.own
  body_only decided (of_extension x) typed h xs e =
      let rest = behind x.extendee p.rest in
      extension_only g values at d.path x (meaning x.type_name rest) (meaning_none x.type_name rest) typed
      decided (meaning x.extendee p.rest) h.own h.met.0 h.met.1 xs e
  body_only decided b typed h xs e = e

pub clean_to : (g : Facts) (values : Values) (p : Place) (at : Places) (d : Declaration)
    → IsCompleteBody (seen_body d.body) → IsTypedBody d.body → FaultsOf g values p at d []
    → IsClean g values p d
clean_to g values p at d = body_to g values p at d d.body

pub clean_from : (g : Facts) (values : Values) (p : Place) (at : Places) (d : Declaration)
    → IsTypedBody d.body → IsClean g values p d → FaultsOf g values p at d []
clean_from g values p at d = body_from g values p at d d.body

pub clean_only : (g : Facts) (values : Values) (p : Place) (at : Places) (d : Declaration)
    → IsDecided values → IsTypedBody d.body → IsClean g values p d → (xs : List Fault)
    → FaultsOf g values p at d xs → xs ≡ []
clean_only g values p at d decided = body_only g values p at d decided d.body
