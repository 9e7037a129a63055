-- The pass over references finds nothing wrong exactly where labels and types are those that there
-- are, and each reference means something.
use Rattle.std.proofs.Common.{◌≡◌, ◌∙◌, ◌⊎◌, inl, inr, ◌+◌, ◌≤ℤ◌, ◌==◌, eqb, nat_le, ℕ, suc, ℤ, pos, negsuc, Bool, true, false, not, ◌||◌, ◌&&◌, List, [], ◌∷◌, Option, Some, None, String, Global, string_bytes, map, ap, sym, subst, refl, arith}
use Rattle.std.proofs.lemmas.Bool.{and_from, and_parts}
use Rattle.std.specs.List.{Contains, AllByRecursion}
use Rattle.std.proofs.lemmas.List.Elements.{Contains-append_left, Contains-append_right, Contains-append_cases}
use Rattle.descriptor_records.specs.Content.{Text, text_view, file_view}
use Rattle.descriptor_records.specs.declared.field.FieldDescriptorProto.{FieldDescriptorProto}
use Rattle.descriptor_records.specs.declared.file.FileDescriptorProto.{FileDescriptorProto}
use Rattle.reflect_scope.specs.declared.definition.Definition.{Definition}
use Rattle.reflect_scope.specs.declared.definition.DefinitionKind.{DefinitionKind}
use Rattle.reflect_scope.specs.declared.definition.DefinitionKind.TheVariants as kind
use Rattle.reflect_scope.specs.declared.definition.ResolveNameFilter.{ResolveNameFilter}
use Rattle.reflect_scope.specs.declared.definition.ResolveNameFilter.TheVariants as filter
use Rattle.reflect_scope.specs.Known.{Known, is_package}
use Rattle.reflect_scope.specs.Means.{Meaning, means, not_found, wrong_kind, shadowed, is_wanted, resolve}
use Rattle.reflect_declarations.specs.declared.offsets.Offsets.{Offsets}
use Rattle.reflect_declarations.specs.Declarations.{Declaration, Body, of_file, of_field, of_method, of_extension, file_declarations, past_file}
use Rattle.reflect_declarations.specs.Batches.{batch_declarations}
use Rattle.reflect_faults.specs.Faults.{Place}
use Rattle.reflect_names.specs.Names.{Places}
use Rattle.reflect_names.specs.References.{View, meaning_of, unmet, is_in, is_type_of, suits, kind_meant, mismatch, reference_faults, type_name_faults, label_faults, type_faults, field_reference_faults, reference_faults_at}
use Rattle.reflect_names.specs.ReferencePass.{views_of, reference_faults_along}
use Rattle.reflect_index.proofs.Counted.{file_next}
use Rattle.schema_view.specs.Declarations as view
use Rattle.schema_view.specs.References.{Want, a_message, a_type, Reference, to_message, to_type, references_of, references}
use Rattle.schema_view.specs.Outlines.{Sort, message_sort, enum_sort, service_sort, other_sort, Outline, outline_of}
use Rattle.schema_view.specs.Lawful.{outlines}
use Rattle.schema_view.specs.Means.{SuitsWant, ReferenceMeans}
use Rattle.schema_view.specs.Means as meant
use Rattle.schema_view.specs.Rules.{HasLabel, HasType}
use Rattle.schema_view.specs.Scalars.{is_scalar}
use Rattle.schema_view.proofs.Lists.{contains_here, contains_there, contains_cases, contains_none, contains_map, contains_map_cases, contains_flat, contains_flat_cases}
use Rattle.linked_view.specs.Complete.{IsNamedType, GivesType, IsComplete}
use Rattle.linked_view.specs.Known.{IsKindOf, AreKnown}
use Rattle.linked_view.specs.Referred.{HasMeaning, AreMeant, AreSeenBy}
use Rattle.linked_view.specs.Resolved.{filter_of, SeesThose}
use Rattle.linked_view.specs.Ruled.{IsTyped, Each}
use Rattle.linked_view.specs.Taken.{type_of}
use Rattle.linked_view.specs.Whole.{IsLabelled}
use Rattle.linked_view.proofs.Completes.{IsCompleteBody}
use Rattle.linked_view.proofs.Faults.{none_both, both_none, unless_to, unless_from}
use Rattle.linked_view.proofs.Known.{next_file}
use Rattle.linked_view.proofs.Along.{batch_complete, each_on}
use Rattle.linked_view.proofs.Named.{in_all, all_in, all_split, all_joined, content_to, content_from}
use Rattle.linked_view.proofs.Resolved.{agree, unwanted, of_outline, names_to, names_from}
use Rattle.linked_view.proofs.Resolved as resolved
use Rattle.linked_view.proofs.Walked.{Seen, seen, seen_body, told, inner_declarations}

-- a kind fits the number that is given, if one is
abbrev pub Fits : Want → DefinitionKind → Type 0
Fits a_message k = Unit {0}
Fits (a_type None) k = Unit {0}
Fits (a_type (Some n)) k = is_type_of n k ≡ true

no_service : (w : Want) → meant.is_wanted w service_sort ≡ true → ⊥
no_service a_message e = cc e
no_service (a_type n) e = cc e

no_other : (w : Want) → meant.is_wanted w other_sort ≡ true → ⊥
no_other a_message e = cc e
no_other (a_type n) e = cc e

sort_typed : (w : Want) (k : DefinitionKind) (s : Sort) → IsKindOf k s
    → meant.is_wanted w s ≡ true → meant.HasType s (type_of k)
sort_typed w k other_sort h e = absurd (no_other w e)
sort_typed w k service_sort h e = absurd (no_service w e)
sort_typed w (kind.Message i) (message_sort extensions reserved) h e = refl
sort_typed w (kind.Enum i) (enum_sort values) h e = refl
sort_typed w k s h e = absurd h

-- a number by the kind that it stands for
type_message : (n : ℤ) (i : ℕ) → is_type_of n (kind.Message i) ≡ true → (n ≡ pos 10) ⊎ (n ≡ pos 11)
type_message (negsuc m) i e = absurd (cc e)
type_message (pos m) i e = by (eqb m 10) refl where
  by : (b : Bool) → eqb m 10 ≡ b → (pos m ≡ pos 10) ⊎ (pos m ≡ pos 11)
  by true is = let same : m ≡ 10 = grind (arith, is) in inl (ap pos same)
  by false is =
      let last : eqb m 11 ≡ true = sym (ap (λ b. b || eqb m 11) is) ∙ e in
      let same : m ≡ 11 = grind (arith, last) in inr (ap pos same)

type_enum : (n : ℤ) (i : ℕ) → is_type_of n (kind.Enum i) ≡ true → n ≡ pos 14
type_enum (negsuc m) i e = absurd (cc e)
type_enum (pos m) i e = let same : m ≡ 14 = grind (arith, e) in ap pos same

no_type : (n : ℤ) (k : DefinitionKind) → is_type_of n k ≡ true → IsNamedType n
no_type n (kind.Message i) e = elim (type_message n i e) [ inl a ↦ inl a | inr b ↦ inr (inl b) ]
no_type n (kind.Enum i) e = inr (inr (type_enum n i e))
no_type (pos m) k e = absurd (cc e)
no_type (negsuc m) k e = absurd (cc e)

number_suits : (n : ℤ) (k : DefinitionKind) (s : Sort) → IsKindOf k s → meant.HasType s (type_of k)
    → is_type_of n k ≡ true → SuitsWant (a_type (Some n)) (type_of k)
number_suits n (kind.Message i) s h t e = elim (type_message n i e) [
  | inl a ↦ inr (a, refl)
  | inr b ↦ inl b
]
number_suits n (kind.Enum i) s h t e = inl (type_enum n i e)
number_suits n k other_sort h t e = absurd t
number_suits n k service_sort h t e = absurd t
number_suits n k s h t e = absurd h

want_suits : (w : Want) (k : DefinitionKind) (s : Sort) → IsKindOf k s → is_wanted (filter_of w) k ≡ true
    → meant.HasType s (type_of k) → Fits w k → SuitsWant w (type_of k)
want_suits a_message (kind.Message i) s h e t f = refl
want_suits (a_type None) k s h e t f = tt
want_suits (a_type (Some n)) k s h e t f = number_suits n k s h t f
want_suits a_message k s h e t f = absurd (cc e)

-- back
fits_want : (w : Want) (k : DefinitionKind) (s : Sort) (type : ℤ) → IsKindOf k s → meant.HasType s type
    → SuitsWant w type → Fits w k
fits_want a_message k s type h t u = tt
fits_want (a_type None) k s type h t u = tt
fits_want (a_type (Some n)) k s type h t u = number_fits n k s type h t u where
  number_fits : (n : ℤ) (k : DefinitionKind) (s : Sort) (type : ℤ) → IsKindOf k s
      → meant.HasType s type → (n ≡ type) ⊎ ((n ≡ pos 10) × (type ≡ pos 11))
      → is_type_of n k ≡ true
  number_fits n k other_sort type h t u = absurd t
  number_fits n k service_sort type h t u = absurd t
  number_fits n (kind.Message i) (message_sort extensions reserved) type h t (inl e) = ap (λ y. is_type_of y (kind.Message i)) (e ∙ t)
  number_fits n (kind.Message i) (message_sort extensions reserved) type h t (inr (e, u)) = ap (λ y. is_type_of y (kind.Message i)) e
  number_fits n (kind.Enum i) (enum_sort values) type h t (inl e) = ap (λ y. is_type_of y (kind.Enum i)) (e ∙ t)
  number_fits n (kind.Enum i) (enum_sort values) type h t (inr (e, u)) = absurd (cc (sym t ∙ u))
  number_fits n k s type h t u = absurd h

in_three : (o : Option ℤ) (at : Places) (path : List ℤ) → label_faults at path o ≡ [] → HasLabel o
in_three None at path e = inl refl
in_three (Some (negsuc m)) at path e = absurd (cc e)
in_three (Some (pos m)) at path e =
    let both = and_parts (nat_le 1 m) (nat_le m 3) (unless_to (is_in (pos m) 3) _ e) in
    inr (pos m, refl, grind (arith, both.0), grind (arith, both.1))

three_in : (o : Option ℤ) (at : Places) (path : List ℤ) → HasLabel o → label_faults at path o ≡ []
three_in None at path h = refl
three_in (Some z) at path (inl e) = absurd (cc e)
three_in (Some z) at path (inr (n, e, low, high)) =
    let same : z ≡ n = cc e in
    unless_from (is_in z 3) _ (ap (λ y. is_in y 3) same ∙ small n low high) where
      small : (y : ℤ) → pos 1 ≤ℤ y → y ≤ℤ pos 3 → is_in y 3 ≡ true
      small (negsuc m) low high = absurd (omega (arith, low))
      small (pos m) low high =
          and_from (nat_le 1 m) (nat_le m 3) (grind (arith, low)) (grind (arith, high))

named_in : (z : ℤ) → IsNamedType z → is_in z 18 ≡ true
named_in z (inl e) = ap (λ y. is_in y 18) e
named_in z (inr (inl e)) = ap (λ y. is_in y 18) e
named_in z (inr (inr e)) = ap (λ y. is_in y 18) e

or_right : (a b : Bool) → b ≡ true → (a || b) ≡ true
or_right true b e = refl
or_right false b e = e

or_left : (a b : Bool) → a ≡ true → (a || b) ≡ true
or_left true b e = refl
or_left false b e = absurd (cc e)

or_cases : (a b : Bool) → (a || b) ≡ true → (a ≡ true) ⊎ (b ≡ true)
or_cases true b e = inl refl
or_cases false b e = inr e

scalar_in : (z : ℤ) → is_scalar z ≡ true → is_in z 18 ≡ true
scalar_in (negsuc m) e = absurd (cc e)
scalar_in (pos m) e =
    elim (or_cases (nat_le 1 m && nat_le m 9) ((m == 12) || ((m == 13) || (nat_le 15 m && nat_le m 18))) e) [
      | inl a ↦ (let both = and_parts (nat_le 1 m) (nat_le m 9) a in
          and_from (nat_le 1 m) (nat_le m 18) both.0 (grind (arith, both.1)))
      | inr b ↦ elim (or_cases (m == 12) ((m == 13) || (nat_le 15 m && nat_le m 18)) b) [
        | inl is ↦ and_from (nat_le 1 m) (nat_le m 18) (grind (arith, is)) (grind (arith, is))
        | inr c ↦ elim (or_cases (m == 13) (nat_le 15 m && nat_le m 18) c) [
          | inl is ↦ and_from (nat_le 1 m) (nat_le m 18) (grind (arith, is)) (grind (arith, is))
          | inr d ↦ (let both = and_parts (nat_le 15 m) (nat_le m 18) d in
              and_from (nat_le 1 m) (nat_le m 18) (grind (arith, both.0)) both.1)
        ]
      ]
    ]

in_scalar : (z : ℤ) → is_in z 18 ≡ true → (IsNamedType z → ⊥) → is_scalar z ≡ true
in_scalar (negsuc m) e h = absurd (cc e)
in_scalar (pos m) e h =
    by (nat_le m 9) refl (eqb m 12) refl (eqb m 13) refl (nat_le 15 m) refl where
      bounds : (nat_le 1 m ≡ true) × (nat_le m 18 ≡ true)
      bounds = and_parts (nat_le 1 m) (nat_le m 18) e

      rest : Bool
      rest = (m == 13) || (nat_le 15 m && nat_le m 18)

      last : (nat_le m 9 ≡ false) → (eqb m 12 ≡ false) → (eqb m 13 ≡ false) → (nat_le 15 m ≡ false)
          → (u : Bool) → eqb m 10 ≡ u → (v : Bool) → eqb m 11 ≡ v → ⊥
      last a b c d true is v _ = let same : m ≡ 10 = grind (arith, is) in h (inl (ap pos same))
      last a b c d false is true other =
          let same : m ≡ 11 = grind (arith, other) in h (inr (inl (ap pos same)))
      last a b c d false is false other =
          let same : m ≡ 14 = grind (arith, a, b, c, d, is, other) in h (inr (inr (ap pos same)))

      by : (u : Bool) → nat_le m 9 ≡ u → (v : Bool) → eqb m 12 ≡ v → (w : Bool) → eqb m 13 ≡ w
          → (x : Bool) → nat_le 15 m ≡ x → is_scalar (pos m) ≡ true
      by true is v _ w _ x _ =
          or_left (nat_le 1 m && nat_le m 9) ((m == 12) || rest)
          (and_from (nat_le 1 m) (nat_le m 9) bounds.0 is)
      by false a true is w _ x _ =
          or_right (nat_le 1 m && nat_le m 9) ((m == 12) || rest) (or_left (m == 12) rest is)
      by false a false b true is x _ =
          or_right (nat_le 1 m && nat_le m 9) ((m == 12) || rest) (or_right (m == 12) rest
          (or_left (m == 13) (nat_le 15 m && nat_le m 18) is))
      by false a false b false c true is =
          or_right (nat_le 1 m && nat_le m 9) ((m == 12) || rest) (or_right (m == 12) rest
          (or_right (m == 13) (nat_le 15 m && nat_le m 18)
          (and_from (nat_le 15 m) (nat_le m 18) is bounds.1)))
      by false a false b false c false d =
          absurd (last a b c d (eqb m 10) refl (eqb m 11) refl)

-- a number that may have a name
named_number : (n : ℤ) (k : DefinitionKind) → is_in n 18 ≡ true → suits (Some n) k ≡ true
    → is_type_of n k ≡ true
named_number n k e h = by (is_in n 18) e h where
  by : (b : Bool) → b ≡ true → (not b || is_type_of n k) ≡ true → is_type_of n k ≡ true
  by true e h = h
  by false e h = absurd (cc e)

-- the type's number and its name, where a number alone has to be there
type_to : (t : Option ℤ) (o : Option Text) (at : Places) (path : List ℤ) → GivesType t o
    → type_faults at path t ≡ []
    → ((s : Text) → o ≡ Some s → (k : DefinitionKind) × (suits t k ≡ true)) → HasType t o
type_to None o at path given e named = given
type_to (Some z) None at path given e named = in_scalar z (unless_to (is_in z 18) _ e) given
type_to (Some z) (Some s) at path given e named =
    let k = named s refl in
    no_type z k.0 (named_number z k.0 (unless_to (is_in z 18) _ e) k.1)

type_from : (t : Option ℤ) (o : Option Text) (at : Places) (path : List ℤ) → HasType t o
    → type_faults at path t ≡ []
type_from None o at path h = refl
type_from (Some z) None at path h = unless_from (is_in z 18) _ (scalar_in z h)
type_from (Some z) (Some s) at path h = unless_from (is_in z 18) _ (named_in z h)

pub met_to : (f : ResolveNameFilter) (m : Meaning) (name : Text) (place : Place)
    → unmet f m name place ≡ [] → (full : Text) × (d : Definition) × (m ≡ means full d)
met_to f (means full d) name place e = (full, d, refl)
met_to f not_found name place e = absurd (cc e)
met_to f wrong_kind name place e = absurd (cc e)
met_to f (shadowed full) name place e = absurd (cc e)

met_from : (f : ResolveNameFilter) (m : Meaning) (name : Text) (place : Place) (full : Text)
    (d : Definition) → m ≡ means full d → unmet f m name place ≡ []
met_from f m name place full d e = ap (λ x. unmet f x name place) e

module _ (files : List FileDescriptorProto) (known : Known) (are : AreKnown files known)
    (from : Outline) (sees : ℕ → Bool) (those : SeesThose files from sees) where
  abbrev os : List Outline
  os = outlines (map file_view files)

  abbrev see : View
  see = record { known = known; sees = sees }

  -- one reference
  pub meaning_to : (w : Want) (scope name full : Text) (d : Definition)
      → resolve known sees (filter_of w) scope name ≡ means full d → Fits w d.kind
      → ReferenceMeans os from (record { want = w; scope = scope; name = name })
      (record { name = full; type = type_of d.kind })
  meaning_to w scope name full d e fits =
      let r = names_to files known are from sees those w scope name full d e in
      let plain : is_package d.kind ≡ false = not_package (is_package d.kind) refl r.1.wanted in
      let found = are.declared full d r.1.known_as plain in
      let agrees = agree d.kind found.head.sort found.sort in
      let typed = sort_typed w d.kind found.head.sort found.sort
      (sym (agrees.wanted w) ∙ r.1.wanted) in
      record {
        named = r.0;
        typed = (
          found.head.sort,
          (
            outline_of (file_view found.file),
            found.head,
            resolved.there files known are from sees those w d.file found.file found.at,
            found.inside,
            found.name,
            refl,
          ),
          typed,
        );
        suits = want_suits w d.kind found.head.sort found.sort r.1.wanted typed fits;
      } where
        not_package : (b : Bool) → is_package d.kind ≡ b → is_wanted (filter_of w) d.kind ≡ true
            → is_package d.kind ≡ false
        not_package true is wanted = absurd (unwanted w d.kind is wanted)
        not_package false is wanted = is

  reference_to : (w : Want) (scope name full : Text) (d : Definition)
      → resolve known sees (filter_of w) scope name ≡ means full d → Fits w d.kind
      → HasMeaning os from (record { want = w; scope = scope; name = name })
  reference_to w scope name full d e fits =
      (record { name = full; type = type_of d.kind }, meaning_to w scope name full d e fits)

  pub reference_from : (w : Want) (scope name : Text)
      → HasMeaning os from (record { want = w; scope = scope; name = name })
      → (full : Text) × (d : Definition) × (resolve known sees (filter_of w) scope name ≡ means full d)
      × Fits w d.kind
  reference_from w scope name (t, m) =
      let r = names_from files known are from sees those w scope name t.name m.named in
      let found = (names_to files known are from sees those w scope name t.name r.0 r.1).1 in
      let declared = m.typed.1 in
      let f = of_outline files known are from sees those w declared.0 declared.2 in
      let j : Contains (outline_of (file_view f.1)).heads declared.1 =
      subst (λ (p : Outline). Contains p.heads declared.1) (sym f.3) declared.3 in
      let x = are.declared_known f.0 f.1 declared.1 f.2 j in
      let same : x.0 ≡ r.0 = cc (sym x.1 ∙ ap known declared.4 ∙ found.known_as) in
      let sort : IsKindOf r.0.kind m.typed.0 = subst (IsKindOf r.0.kind) declared.5
      (subst (λ (d : Definition). IsKindOf d.kind declared.1.sort) same x.3) in
      (t.name, r.0, r.1, fits_want w r.0.kind m.typed.0 t.type sort m.typed.2 m.suits)

  -- a reference to a message
  message_to : (at : Places) (path : List ℤ) (scope : Text) (tag : ℤ) (o : Option (String Global))
      → reference_faults at see filter.Message path scope tag o ≡ [] → (r : Reference)
      → Contains (to_message scope (text_view o)) r → HasMeaning os from r
  message_to at path scope tag None e r h = absurd (contains_none r h)
  message_to at path scope tag (Some s) e r h =
      let m = met_to filter.Message (meaning_of see filter.Message scope (string_bytes s))
      (string_bytes s) _ e in
      elim (contains_cases _ [] r h) [
        | inl same ↦ subst (HasMeaning os from) same
            (reference_to a_message scope (string_bytes s) m.0 m.1 m.2 tt)
        | inr j ↦ absurd (contains_none r j)
      ]

  message_from : (at : Places) (path : List ℤ) (scope : Text) (tag : ℤ) (o : Option (String Global))
      → ((r : Reference) → Contains (to_message scope (text_view o)) r → HasMeaning os from r)
      → reference_faults at see filter.Message path scope tag o ≡ []
  message_from at path scope tag None h = refl
  message_from at path scope tag (Some s) h =
      let m = reference_from a_message scope (string_bytes s) (h _ (contains_here _ [])) in
      met_from filter.Message (meaning_of see filter.Message scope (string_bytes s)) (string_bytes s) _
      m.0 m.1 m.2

  fits_of : (t : Option ℤ) (k : DefinitionKind) (at : Places) (path : List ℤ)
      → type_faults at path t ≡ [] → suits t k ≡ true → Fits (a_type t) k
  fits_of None k at path e h = tt
  fits_of (Some z) k at path e h = named_number z k (unless_to (is_in z 18) _ e) h

  suits_of : (t : Option ℤ) (k : DefinitionKind) → Fits (a_type t) k → suits t k ≡ true
  suits_of None k h = refl
  suits_of (Some z) k h = or_right (not (is_in z 18)) (is_type_of z k) h

  -- the name of a field's type
  module _ (at : Places) (path : List ℤ) (scope : Text) (f : FieldDescriptorProto) where
    abbrev with_name : Option (String Global) → FieldDescriptorProto
    with_name o = record f { type_name = o }

    abbrev meaning_by : String Global → Meaning
    meaning_by s = meaning_of see filter.FieldType scope (string_bytes s)

    name_to : (o : Option (String Global)) → type_name_faults at see path scope (with_name o) ≡ []
        → ((s : Text) → text_view o ≡ Some s
        → (k : DefinitionKind) × (suits f.field_type k ≡ true))
        × (type_faults at path f.field_type ≡ [] → (r : Reference)
        → Contains (to_type scope f.field_type (text_view o)) r → HasMeaning os from r)
    name_to None e = ((λ s is. absurd (cc is)), λ t r h. absurd (contains_none r h))
    name_to (Some s) e =
        let name = string_bytes s in
        let parts = none_both (unmet filter.FieldType (meaning_by s) name _)
        (mismatch at path name f.field_type (kind_meant (meaning_by s))) e in
        let m = met_to filter.FieldType (meaning_by s) name _ parts.0 in
        let suit : suits f.field_type m.1.kind ≡ true = unless_to (suits f.field_type m.1.kind) _
        (sym (ap (λ x. mismatch at path name f.field_type (kind_meant x)) m.2) ∙ parts.1) in (
          (λ t is. (m.1.kind, suit)),
          λ typed r h. elim (contains_cases _ [] r h) [
            | inl same ↦ subst (HasMeaning os from) same
                (reference_to (a_type f.field_type) scope (string_bytes s) m.0 m.1 m.2
                (fits_of f.field_type m.1.kind at path typed suit))
            | inr j ↦ absurd (contains_none r j)
          ],
        )

    name_from : (o : Option (String Global)) → ((r : Reference)
        → Contains (to_type scope f.field_type (text_view o)) r → HasMeaning os from r)
        → type_name_faults at see path scope (with_name o) ≡ []
    name_from None h = refl
    name_from (Some s) h =
        let m = reference_from (a_type f.field_type) scope (string_bytes s) (h _ (contains_here _ [])) in
        let name = string_bytes s in
        both_none (unmet filter.FieldType (meaning_by s) name _)
        (mismatch at path name f.field_type (kind_meant (meaning_by s)))
        (met_from filter.FieldType (meaning_by s) name _ m.0 m.1 m.2)
        (ap (λ x. mismatch at path name f.field_type (kind_meant x)) m.2
        ∙ unless_from (suits f.field_type m.1.kind) _ (suits_of f.field_type m.1.kind m.3))

    field_to : GivesType f.field_type (text_view f.type_name)
        → field_reference_faults at see path scope f ≡ []
        → HasLabel f.label × HasType f.field_type (text_view f.type_name)
        × ((r : Reference) → Contains (to_type scope f.field_type (text_view f.type_name)) r
        → HasMeaning os from r)
    field_to given e =
        let first = none_both (label_faults at path f.label) _ e in
        let rest = none_both (type_faults at path f.field_type) _ first.1 in
        let name = name_to f.type_name rest.1 in (
          in_three f.label at path first.0,
          type_to f.field_type (text_view f.type_name) at path given rest.0 name.0,
          name.1 rest.0,
        )

    field_from : HasLabel f.label → HasType f.field_type (text_view f.type_name)
        → ((r : Reference) → Contains (to_type scope f.field_type (text_view f.type_name)) r
        → HasMeaning os from r) → field_reference_faults at see path scope f ≡ []
    field_from label typed h =
        both_none (label_faults at path f.label) _ (three_in f.label at path label)
        (both_none (type_faults at path f.field_type) _
        (type_from f.field_type (text_view f.type_name) at path typed) (name_from f.type_name h))

  abbrev IsMeant : Seen → Type 0
  IsMeant s = elim s.1 [
    | None ↦ Unit {0}
    | Some b ↦ ((r : Reference)
        → Contains (references_of (record { name = s.0; body = b })) r → HasMeaning os from r)
  ]

  abbrev IsLabelledSeen : Option view.Body → Type 0
  IsLabelledSeen None = Unit {0}
  IsLabelledSeen (Some b) = IsLabelled b

  abbrev IsTypedSeen : Option view.Body → Type 0
  IsTypedSeen None = Unit {0}
  IsTypedSeen (Some b) = IsTyped b

  -- of a declaration
  pub record IsReferred (s : Seen) : Type 0 where
    pub labelled : IsLabelledSeen s.1
    pub typed : IsTypedSeen s.1
    pub meant : IsMeant s

  module _ (at : Places) (d : Declaration) where
    abbrev with_body : Body → Declaration
    with_body b = record d { body = b }

    abbrev IsNone : Body → Type 0
    IsNone b = reference_faults_at at see (with_body b) ≡ []

    nothing : (r : Reference) → Contains [] r → HasMeaning os from r
    nothing r h = absurd (contains_none r h)

    body_to : (b : Body) → IsCompleteBody (seen_body b) → IsNone b → IsReferred (seen (with_body b))
    body_to (of_file f) complete e = record { labelled = tt; typed = tt; meant = tt }
    body_to (of_field f) complete e =
        let parts = field_to at d.path d.name f complete.type e in
        record { labelled = parts.0; typed = parts.1; meant = parts.2 }
    body_to (of_method m) complete e =
        let parts = none_both (reference_faults at see filter.Message d.path d.name (pos 2) m.input_type)
        (reference_faults at see filter.Message d.path d.name (pos 3) m.output_type) e in
        record {
          labelled = tt;
          typed = tt;
          meant = λ r h. elim (Contains-append_cases (to_message d.name (text_view m.input_type))
              (to_message d.name (text_view m.output_type)) r h) [
                | inl j ↦ message_to at d.path d.name (pos 2) m.input_type parts.0 r j
                | inr j ↦ message_to at d.path d.name (pos 3) m.output_type parts.1 r j
              ];
        }
    body_to (of_extension x) complete e =
        let first = none_both (reference_faults at see filter.Message d.path d.name (pos 2) x.extendee)
        (field_reference_faults at see d.path d.name x) e in
        let parts = field_to at d.path d.name x complete.0.type first.1 in
        record {
          labelled = parts.0;
          typed = parts.1;
          meant = λ r h. elim (Contains-append_cases (to_message d.name (text_view x.extendee))
              (to_type d.name x.field_type (text_view x.type_name)) r h) [
                | inl j ↦ message_to at d.path d.name (pos 2) x.extendee first.0 r j
                | inr j ↦ parts.2 r j
              ];
        }
    body_to b complete e = record { labelled = tt; typed = tt; meant = nothing }

    body_from : (b : Body) → IsReferred (seen (with_body b)) → IsNone b
    body_from (of_field f) h = field_from at d.path d.name f h.labelled h.typed h.meant
    body_from (of_method m) h =
        let left = to_message d.name (text_view m.input_type) in
        let right = to_message d.name (text_view m.output_type) in
        both_none (reference_faults at see filter.Message d.path d.name (pos 2) m.input_type)
        (reference_faults at see filter.Message d.path d.name (pos 3) m.output_type)
        (message_from at d.path d.name (pos 2) m.input_type
        (λ r j. h.meant r (Contains-append_left left right r j)))
        (message_from at d.path d.name (pos 3) m.output_type
        (λ r j. h.meant r (Contains-append_right left right r j)))
    body_from (of_extension x) h =
        let left = to_message d.name (text_view x.extendee) in
        let right = to_type d.name x.field_type (text_view x.type_name) in
        both_none (reference_faults at see filter.Message d.path d.name (pos 2) x.extendee)
        (field_reference_faults at see d.path d.name x)
        (message_from at d.path d.name (pos 2) x.extendee
        (λ r j. h.meant r (Contains-append_left left right r j)))
        (field_from at d.path d.name x h.labelled h.typed
        (λ r j. h.meant r (Contains-append_right left right r j)))
    body_from b h = refl

-- of a batch
abbrev AreNone : (ℕ → Places) → (ℕ → View) → List Declaration → Type 0
AreNone at views ds = AllByRecursion (λ (d : Declaration).
    reference_faults_at (at d.file) (views d.file) d ≡ []) ds

none_to : (at : ℕ → Places) (views : ℕ → View) (ds : List Declaration)
    → reference_faults_along at views ds ≡ [] → AreNone at views ds
none_to at views [] e = tt
none_to at views (d ∷ ds) e =
    let parts = none_both (reference_faults_at (at d.file) (views d.file) d)
    (reference_faults_along at views ds) e in
    (parts.0, none_to at views ds parts.1)

none_from : (at : ℕ → Places) (views : ℕ → View) (ds : List Declaration) → AreNone at views ds
    → reference_faults_along at views ds ≡ []
none_from at views [] h = refl
none_from at views (d ∷ ds) h =
    both_none (reference_faults_at (at d.file) (views d.file) d) (reference_faults_along at views ds) h.0
    (none_from at views ds h.1)

module _ (files : List FileDescriptorProto) (known : Known) (are : AreKnown files known)
    (at : ℕ → Places) (sees : ℕ → ℕ → Bool) where
  abbrev views : ℕ → View
  views = views_of known sees

  abbrev seen_by : FileDescriptorProto → ℕ → Type 0
  seen_by f i = SeesThose files (outline_of (file_view f)) (sees i)

  abbrev Referred : (f : FileDescriptorProto) (i : ℕ) → seen_by f i → Seen → Type 0
  Referred f i those s = IsReferred files known are (outline_of (file_view f)) (sees i) those s

  module _ (o : Offsets) (i : ℕ) (f : FileDescriptorProto) (those : seen_by f i) where
    abbrev inner : List Declaration
    inner = inner_declarations o i f

    in_file : (d : Declaration) → Contains inner d → d.file ≡ i
    in_file d h = next_file i o (past_file o f) (file_declarations o i f) d (file_next i o f)
        (contains_there _ inner d h)

    file_to : AllByRecursion (λ (d : Declaration). IsCompleteBody (seen_body d.body)) inner
        → AreNone at views inner
        → AllByRecursion (λ (v : view.Declaration). Referred f i those (told v))
        (view.declarations (file_view f))
    file_to complete h =
        content_to o i f (Referred f i those) (all_in (λ (d : Declaration). Referred f i those (seen d))
        inner (λ d j.
        let none = in_all (λ (x : Declaration).
        reference_faults_at (at x.file) (views x.file) x ≡ []) inner h d j in
        body_to files known are (outline_of (file_view f)) (sees i) those (at d.file) d d.body
        (in_all (λ (x : Declaration). IsCompleteBody (seen_body x.body)) inner complete d j)
        (subst (λ k. reference_faults_at (at d.file) (views k) d ≡ []) (in_file d j) none)))

    file_from : AllByRecursion (λ (v : view.Declaration). Referred f i those (told v))
        (view.declarations (file_view f)) → AreNone at views inner
    file_from h =
        let all = content_from o i f (Referred f i those) h in
        all_in (λ (x : Declaration). reference_faults_at (at x.file) (views x.file) x ≡ []) inner (λ d j.
        subst (λ k. reference_faults_at (at d.file) (views k) d ≡ []) (sym (in_file d j))
        (body_from files known are (outline_of (file_view f)) (sees i) those (at d.file) d d.body
        (in_all (λ (x : Declaration). Referred f i those (seen x)) inner all d j)))

  -- what holds of each declaration of a file
  abbrev IsDone : FileDescriptorProto → view.Declaration → Type 0
  IsDone f v = IsLabelled v.body × IsTyped v.body
      × ((r : Reference) → Contains (references_of v) r
      → HasMeaning (outlines (map file_view files)) (outline_of (file_view f)) r)

  abbrev AreDone : FileDescriptorProto → Type 0
  AreDone f = AllByRecursion (IsDone f) (view.declarations (file_view f))

  done_to : (f : FileDescriptorProto) (i : ℕ) (those : seen_by f i) (vs : List view.Declaration)
      → AllByRecursion (λ (v : view.Declaration). Referred f i those (told v)) vs
      → AllByRecursion (IsDone f) vs
  done_to f i those [] h = tt
  done_to f i those (v ∷ vs) h =
      ((h.0.labelled, h.0.typed, h.0.meant), done_to f i those vs h.1)

  done_from : (f : FileDescriptorProto) (i : ℕ) (those : seen_by f i) (vs : List view.Declaration)
      → AllByRecursion (IsDone f) vs
      → AllByRecursion (λ (v : view.Declaration). Referred f i those (told v)) vs
  done_from f i those [] h = tt
  done_from f i those (v ∷ vs) h = (
    record { labelled = h.0.0; typed = h.0.1; meant = h.0.2 },
    done_from f i those vs h.1,
  )

  first_seen : (i : ℕ) (f : FileDescriptorProto) (fs : List FileDescriptorProto)
      → AreSeenBy files i (f ∷ fs) sees → seen_by f i
  first_seen i f fs those =
      let place : i + 0 ≡ i = omega arith in subst (seen_by f) place (those 0 f refl)

  later_seen : (i : ℕ) (f : FileDescriptorProto) (fs : List FileDescriptorProto)
      → AreSeenBy files i (f ∷ fs) sees → AreSeenBy files (i + 1) fs sees
  later_seen i f fs those k g e =
      let place : i + suc k ≡ i + 1 + k = omega arith in subst (seen_by g) place (those (suc k) g e)

  batch_to : (o : Offsets) (i : ℕ) (fs : List FileDescriptorProto) → AreSeenBy files i fs sees
      → AllByRecursion (λ (d : Declaration). IsCompleteBody (seen_body d.body)) (batch_declarations o i fs)
      → AreNone at views (batch_declarations o i fs) → AllByRecursion AreDone fs
  batch_to o i [] those complete h = tt
  batch_to o i (f ∷ fs) those complete h =
      let rest = batch_declarations (past_file o f) (i + 1) fs in
      let whole = all_split (λ (d : Declaration). IsCompleteBody (seen_body d.body))
      (file_declarations o i f) rest complete in
      let parts = all_split (λ (d : Declaration).
      reference_faults_at (at d.file) (views d.file) d ≡ []) (file_declarations o i f) rest h in
      let here = first_seen i f fs those in (
        done_to f i here (view.declarations (file_view f)) (file_to o i f here whole.0.1 parts.0.1),
        batch_to (past_file o f) (i + 1) fs (later_seen i f fs those) whole.1 parts.1,
      )

  batch_from : (o : Offsets) (i : ℕ) (fs : List FileDescriptorProto) → AreSeenBy files i fs sees
      → AllByRecursion AreDone fs → AreNone at views (batch_declarations o i fs)
  batch_from o i [] those h = tt
  batch_from o i (f ∷ fs) those h =
      let here = first_seen i f fs those in
      all_joined (λ (d : Declaration). reference_faults_at (at d.file) (views d.file) d ≡ [])
      (file_declarations o i f) (batch_declarations (past_file o f) (i + 1) fs)
      (refl, file_from o i f here (done_from f i here (view.declarations (file_view f)) h.0))
      (batch_from (past_file o f) (i + 1) fs (later_seen i f fs those) h.1)

  module _ (o : Offsets) (i : ℕ) (new : List FileDescriptorProto) (those : AreSeenBy files i new sees)
    where
      pub referred_to : Each IsComplete (map file_view new)
          → reference_faults_along at views (batch_declarations o i new) ≡ []
          → Each IsLabelled (map file_view new) × Each IsTyped (map file_view new)
          × AreMeant (outlines (map file_view files)) (map file_view new)
      referred_to complete e =
          let done = batch_to o i new those (batch_complete o i new (each_on IsComplete new complete))
          (none_to at views (batch_declarations o i new) e) in
          let of : (f : FileDescriptorProto) → Contains new f → AreDone f = in_all AreDone new done in (
            λ c v j k. (let f = contains_map_cases file_view new c j in
                (in_all (IsDone f.0) (view.declarations (file_view f.0)) (of f.0 f.1) v
                (subst (λ x. Contains (view.declarations x) v) (sym f.2) k)).0),
            λ c v j k. (let f = contains_map_cases file_view new c j in
                (in_all (IsDone f.0) (view.declarations (file_view f.0)) (of f.0 f.1) v
                (subst (λ x. Contains (view.declarations x) v) (sym f.2) k)).1),
            λ c r j k. (let f = contains_map_cases file_view new c j in
                let x = contains_flat_cases references_of (view.declarations (file_view f.0)) r
                (subst (λ x. Contains (references x) r) (sym f.2) k) in
                subst (λ y. HasMeaning (outlines (map file_view files)) (outline_of y) r) f.2
                ((in_all (IsDone f.0) (view.declarations (file_view f.0)) (of f.0 f.1) x.0 x.1).2 r x.2)),
          )

      pub referred_from : Each IsLabelled (map file_view new) × Each IsTyped (map file_view new)
          × AreMeant (outlines (map file_view files)) (map file_view new)
          → reference_faults_along at views (batch_declarations o i new) ≡ []
      referred_from (labelled, typed, meant) =
          none_from at views (batch_declarations o i new) (batch_from o i new those
          (all_in AreDone new (λ f j. all_in (IsDone f) (view.declarations (file_view f)) (λ v k.
          let there = contains_map file_view new f j in (
            labelled (file_view f) v there k,
            typed (file_view f) v there k,
            λ r h. meant (file_view f) r there
                (contains_flat references_of (view.declarations (file_view f)) v r k h),
          )))))
