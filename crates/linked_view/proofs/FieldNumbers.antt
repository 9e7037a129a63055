-- Where no rule finds a fault, numbers are those of fields, fields have none that their message
-- keeps for extensions, and extensions have one of these.
use Rattle.std.proofs.Common.{◌≡◌, ℕ, ℤ, pos, negsuc, true, List, [], ◌++◌, Option, None, Some, unwrap_or, refl, sym, ap, ◌∙◌, subst, arith}
use Rattle.descriptor_records.specs.declared.field.FieldDescriptorProto.{FieldDescriptorProto}
use Rattle.reflect_scope.specs.declared.definition.DefinitionKind.{DefinitionKind}
use Rattle.reflect_scope.specs.declared.definition.DefinitionKind.TheVariants as kind
use Rattle.reflect_fields.specs.Fields.{natural}
use Rattle.reflect_names.specs.Names.{Places}
use Rattle.reflect_references.specs.Meanings.{meaning, behind}
use Rattle.reflect_rules.specs.Numbers.{is_field_number, number_faults, reserved_faults, kept_faults, outside_faults, oneof_faults}
use Rattle.reflect_rules.specs.Rules.{Values, FaultsOf, FieldFaults, FieldFindings, ExtensionFaults, ExtensionFindings, ExtensionNumber, older_faults, default_faults, number_of, parent_of, message_of}
use Rattle.reflect_rules.specs.TypesSay.{TypesSay}
use Rattle.reflect_rules.specs.Walks.{Facts, Place}
use Rattle.reflect_tables.specs.Ranges.{Range, IsRangeOf}
use Rattle.reflect_declarations.specs.Declarations.{Declaration, of_field, of_extension}
use Rattle.message_view.specs.Sound.{IsFieldNumber}
use Rattle.reflect_build.proofs.Rules.{none_both}
use Rattle.linked_view.proofs.Faultless.{unfaulted}

-- the record has the number, which is one of fields
pub record HasNumber (r : FieldDescriptorProto) (n : ℕ) : Type 0 where
  pub written : r.number ≡ Some (pos n)
  pub is : IsFieldNumber n

written_number : (o : Option ℤ) → is_field_number (unwrap_or o (pos 0)) ≡ true → (n : ℕ)
    × (o ≡ Some (pos n)) × IsFieldNumber n
written_number None e = absurd (cc e)
written_number (Some (pos n)) e = (n, refl, (grind (arith, e), grind (arith, e)))
written_number (Some (negsuc n)) e = absurd (cc e)

-- so it is of an entry of the record
pub has_number : (r : FieldDescriptorProto) (n : ℕ) → n ≡ unwrap_or (natural r.number) 0
    → is_field_number (number_of r) ≡ true → HasNumber r n
has_number r n says e =
    let w = written_number r.number e in
    let same : n ≡ w.0 = says ∙ ap (λ o. unwrap_or (natural o) 0) w.1 in
    record {
      written = w.1 ∙ ap (λ k. Some (pos k)) (sym same);
      is = subst IsFieldNumber (sym same) w.2;
    }

pub the_number : (r : FieldDescriptorProto) (n : ℕ) → HasNumber r n → number_of r ≡ pos n
the_number r n h = ap (λ o. unwrap_or o (pos 0)) h.written

-- ---- fields

-- no rule finds a fault in the number of a field of a message
pub record IsFree (types : TypesSay) (i : ℕ) (r : FieldDescriptorProto) : Type 0 where
  pub number : is_field_number (number_of r) ≡ true
  pub free : IsRangeOf (types.extensions i) (number_of r) None

none_kept : (at : Places) (path : List ℤ) (n : ℤ) (rs : List Range) (o : Option Range)
    → kept_faults at path n o ≡ [] → IsRangeOf rs n o → IsRangeOf rs n None
none_kept at path n rs None e h = h
none_kept at path n rs (Some r) e h = absurd (cc e)

-- each rule of fields finds nothing in this one
pub record NoneFound (g : Facts) (values : Values) (oneofs : ℕ) (at : Places) (path : List ℤ)
    (i : ℕ) (r : FieldDescriptorProto) (m : Option DefinitionKind)
    (found : FieldFindings g values m i (number_of r) r) : Type 0 where
  pub number : number_faults at path (number_of r) ≡ []
  pub reserved : reserved_faults at path (number_of r) found.reserved ≡ []
  pub kept : kept_faults at path (number_of r) found.kept ≡ []
  pub oneof : oneof_faults at path oneofs r.oneof_index ≡ []
  pub older : older_faults at path g.types g.first (message_of m) ≡ []
  pub default : default_faults at path r.default_value found.suits ≡ []

pub none_found : (g : Facts) (values : Values) (oneofs : ℕ) (at : Places) (path : List ℤ) (i : ℕ)
    (r : FieldDescriptorProto) (m : Option DefinitionKind)
    → (h : FieldFaults g values oneofs at path i r (number_of r) m [])
    → NoneFound g values oneofs at path i r m h.0
none_found g values oneofs at path i r m (found, none) =
    let n = number_of r in
    let one = number_faults at path n in
    let two = one ++ reserved_faults at path n found.reserved in
    let three = two ++ kept_faults at path n found.kept in
    let four = three ++ oneof_faults at path oneofs r.oneof_index in
    let five = four ++ older_faults at path g.types g.first (message_of m) in
    let fifth = none_both five (default_faults at path r.default_value found.suits) (sym none) in
    let fourth = none_both four (older_faults at path g.types g.first (message_of m)) fifth.0 in
    let third = none_both three (oneof_faults at path oneofs r.oneof_index) fourth.0 in
    let second = none_both two (kept_faults at path n found.kept) third.0 in
    let first = none_both one (reserved_faults at path n found.reserved) second.0 in
    record {
      number = first.0;
      reserved = first.1;
      kept = second.1;
      oneof = third.1;
      older = fourth.1;
      default = fifth.1;
    }

read_field : (g : Facts) (values : Values) (oneofs : ℕ) (at : Places) (path : List ℤ) (i : ℕ)
    (r : FieldDescriptorProto) (m : Option DefinitionKind)
    → FieldFaults g values oneofs at path i r (number_of r) m [] → IsFree g.types i r
read_field g values oneofs at path i r m h =
    let none = none_found g values oneofs at path i r m h in
    let n = number_of r in
    record {
      number = unfaulted (is_field_number n) _ none.number;
      free = none_kept at path n (g.types.extensions i) h.0.kept none.kept h.0.is_kept;
    }

pub field_free : (g : Facts) (values : Values) (q : Place) (at : Places) (d : Declaration)
    (r : FieldDescriptorProto) → FaultsOf g values q at d [] → d.body ≡ of_field r
    → IsFree g.types (parent_of d) r
field_free g values q at d r h is =
    read_field g values q.oneofs at d.path (parent_of d) r (meaning r.type_name q.rest)
    (subst (λ b. FaultsOf g values q at (record d { body = b }) []) is h)

-- ---- extensions

-- nor in that of an extension of a message
pub record IsKeptFor (types : TypesSay) (i : ℕ) (r : FieldDescriptorProto) : Type 0 where
  pub number : is_field_number (number_of r) ≡ true
  pub range : Range
  pub kept : IsRangeOf (types.extensions i) (number_of r) (Some range)

some_kept : (at : Places) (path : List ℤ) (n : ℤ) (name : List ℕ) (rs : List Range)
    (o : Option Range) → outside_faults at path n name o ≡ [] → IsRangeOf rs n o → (r : Range)
    × IsRangeOf rs n (Some r)
some_kept at path n name rs None e h = absurd (cc e)
some_kept at path n name rs (Some r) e h = (r, h)

-- each rule of extensions finds nothing in this one
pub record NoneFoundIn (g : Facts) (values : Values) (at : Places) (path : List ℤ)
    (r : FieldDescriptorProto) (extendee m : Option DefinitionKind)
    (found : ExtensionFindings g values at path r (number_of r) extendee m) : Type 0 where
  pub number : number_faults at path (number_of r) ≡ []
  pub numbers : found.numbers ≡ []
  pub older : older_faults at path g.types g.first (message_of m) ≡ []
  pub default : default_faults at path r.default_value found.suits ≡ []

pub none_found_in : (g : Facts) (values : Values) (at : Places) (path : List ℤ)
    (r : FieldDescriptorProto) (extendee m : Option DefinitionKind)
    → (h : ExtensionFaults g values at path r (number_of r) extendee m [])
    → NoneFoundIn g values at path r extendee m h.0
none_found_in g values at path r extendee m (found, none) =
    let one = number_faults at path (number_of r) in
    let two = one ++ found.numbers in
    let three = two ++ older_faults at path g.types g.first (message_of m) in
    let third = none_both three (default_faults at path r.default_value found.suits) (sym none) in
    let second = none_both two (older_faults at path g.types g.first (message_of m)) third.0 in
    let first = none_both one found.numbers second.0 in
    record { number = first.0; numbers = first.1; older = second.1; default = third.1 }

read_extension : (g : Facts) (values : Values) (at : Places) (path : List ℤ)
    (r : FieldDescriptorProto) (i : ℕ) (extendee m : Option DefinitionKind)
    → ExtensionFaults g values at path r (number_of r) extendee m []
    → extendee ≡ Some (kind.Message i) → IsKeptFor g.types i r
read_extension g values at path r i extendee m h extended =
    let none = none_found_in g values at path r extendee m h in
    let n = number_of r in
    let own : ExtensionNumber g.types at path n (Some i) h.0.numbers =
    subst (λ m. ExtensionNumber g.types at path n (message_of m) h.0.numbers) extended
    h.0.is_number in
    let parts = none_both (reserved_faults at path n own.0)
    (outside_faults at path n (g.types.name i) own.1) (sym own.4 ∙ none.numbers) in
    let range = some_kept at path n (g.types.name i) (g.types.extensions i) own.1 parts.1 own.3 in
    record {
      number = unfaulted (is_field_number n) _ none.number;
      range = range.0;
      kept = range.1;
    }

pub extension_kept : (g : Facts) (values : Values) (q : Place) (at : Places) (d : Declaration)
    (r : FieldDescriptorProto) (i : ℕ) → FaultsOf g values q at d [] → d.body ≡ of_extension r
    → meaning r.extendee q.rest ≡ Some (kind.Message i) → IsKeptFor g.types i r
extension_kept g values q at d r i h is extended =
    read_extension g values at d.path r i (meaning r.extendee q.rest)
    (meaning r.type_name (behind r.extendee q.rest))
    (subst (λ b. FaultsOf g values q at (record d { body = b }) []) is h) extended
