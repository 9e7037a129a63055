-- How often the type of a map's entries is used in a batch, by its name and by its index.
use Rattle.std.proofs.Common.{◌≡◌, ◌∙◌, ℕ, ℤ, pos, negsuc, Bool, true, false, not, ◌||◌, ◌&&◌, ◌==◌, cond, bytes_eq, List, [], ◌∷◌, ◌++◌, Option, Some, None, String, Global, string_bytes, map, length, slice_get, ap, sym, refl, arith}
use Rattle.std.specs.List.{AllZip, Contains, filter}
use Rattle.std.specs.Ordering.{int_eq}
use Rattle.std.proofs.lemmas.Bool.Decides.{Decides-int_eq}
use Rattle.std.specs.Cmp.Lexicographic.{bytes_decides}
use Rattle.descriptor_records.specs.Content.{Text}
use Rattle.descriptor_records.specs.declared.field.FieldDescriptorProto.{FieldDescriptorProto}
use Rattle.reflect_scope.specs.declared.definition.Definition.{Definition}
use Rattle.reflect_scope.specs.declared.definition.DefinitionKind.{DefinitionKind}
use Rattle.reflect_scope.specs.declared.definition.DefinitionKind.TheVariants as kind
use Rattle.reflect_scope.specs.declared.definition.ResolveNameFilter.TheVariants as filter
use Rattle.reflect_scope.specs.Known.{Known}
use Rattle.reflect_scope.specs.Means.{means}
use Rattle.reflect_declarations.specs.Declarations.{Declaration, Body, of_file, of_message, of_field, of_oneof, of_enum, of_enum_value, of_service, of_method, of_extension}
use Rattle.reflect_names.specs.Names.{Places}
use Rattle.reflect_names.specs.References.{View, Target, meaning_of, kind_meant, is_in, suits, mismatch, unmet, label_faults, type_faults, field_reference_faults, type_name_faults, reference_faults, reference_faults_at, targets_of}
use Rattle.reflect_names.specs.ReferencePass.{views_of, targets_along, reference_faults_along}
use Rattle.reflect_names.specs.ReferenceSteps.{target_of}
use Rattle.reflect_names.specs.declared.resolve_visitor.Reference.{Reference}
use Rattle.reflect_references.specs.Meanings.{meaning, behind, rest_behind}
use Rattle.reflect_rules.specs.MapEntries.{is_equal}
use Rattle.reflect_rules.specs.Rules.{message_of, is_one_map}
use Rattle.reflect_rules.specs.TypesSay.{TypesSay}
use Rattle.reflect_rules.specs.Uses.{is_entry_at, users_in, users, use_by}
use Rattle.reflect_rules.specs.declared.uses.EntryUse.TheVariants as uses
use Rattle.reflect_tables.specs.Names.{FullName, AreFound, found, place_in, place_of, with_file, messages}
use Rattle.schema_view.specs.Lawful.{is_dotted}
use Rattle.linked_view.specs.AtHand.{kind_by}
use Rattle.linked_view.specs.Taken.{type_of}
use Rattle.linked_view.proofs.AtHand.{IsResolved, at_hand, extension_at_hand, left_behind, resolved_type}
use Rattle.linked_view.proofs.Counts.{bytes_same}
use Rattle.linked_view.proofs.Faults.{none_both, unless_to}
use Rattle.linked_view.proofs.Linked.{found_by}
use Rattle.descriptor_records.specs.Content.{FileContent, text_view}
use Rattle.descriptor_records.specs.declared.file.FileDescriptorProto.{FileDescriptorProto}
use Rattle.reflect_scope.specs.FileIndexes.{Indexes}
use Rattle.schema_view.specs.Declarations as view
use Rattle.schema_view.specs.References.{rename_type, fill_type}
use Rattle.linked_view.specs.Known.{AreKnown}
use Rattle.linked_view.proofs.Listed.{listed_along, GivesSame, names, see, listed_seen}
use Rattle.linked_view.proofs.Walked.{seen}
use Rattle.linked_view.proofs.Means.{resolved_to}
use Rattle.schema_view.proofs.Lists.{contains_here}

-- a field's type by its name, its label, and the number of its type
abbrev pub WrittenUse : Type 0
WrittenUse = Option Text × (Option ℤ × Option ℤ)

abbrev pub type_by : View → Text → Option (String Global) → Option Text
type_by v scope None = None
type_by v scope (Some s) =
    Some (46 ∷ (found_by (meaning_of v filter.FieldType scope (string_bytes s))).0)

abbrev pub filled_by : View → Text → Option ℤ → Option (String Global) → Option ℤ
filled_by v scope (Some n) o = Some n
filled_by v scope None None = None
filled_by v scope None (Some s) =
    Some (type_of (found_by (meaning_of v filter.FieldType scope (string_bytes s))).1.kind)

abbrev pub use_seen : View → Text → FieldDescriptorProto → WrittenUse
use_seen v scope f =
    (type_by v scope f.type_name, (f.label, filled_by v scope f.field_type f.type_name))

abbrev pub uses_by : View → Declaration → List WrittenUse
uses_by v d = elim d.body [
  | of_file f ↦ []
  | of_message m ↦ []
  | of_field f ↦ use_seen v d.name f ∷ []
  | of_oneof o ↦ []
  | of_enum e ↦ []
  | of_enum_value x ↦ []
  | of_service s ↦ []
  | of_method m ↦ []
  | of_extension x ↦ use_seen v d.name x ∷ []
]

-- and of the linked files
abbrev pub uses_of : view.Declaration → List WrittenUse
uses_of d = elim d.body [
  | view.of_message m ↦ []
  | view.of_field f ↦ (f.type_name, (f.label, f.field_type)) ∷ []
  | view.of_oneof o ↦ []
  | view.of_enum e ↦ []
  | view.of_value v ↦ []
  | view.of_service s ↦ []
  | view.of_method m ↦ []
  | view.of_extension x ↦ (x.type_name, (x.label, x.field_type)) ∷ []
]

abbrev pub uses_along : (ℕ → View) → List Declaration → List WrittenUse
uses_along views ds = listed_along uses_by uses_of views ds

-- what a field that is used as a map's says
pub record IsUseOf (u : WrittenUse) (f : FieldDescriptorProto) : Type 0 where
  pub label : u.1.0 ≡ f.label
  pub type : is_equal f.field_type (pos 10) ≡ false → u.1.1 ≡ Some (pos 11)
  pub given : (z : ℤ) → f.field_type ≡ Some z → u.1.1 ≡ Some z

filled_given : (v : View) (scope : Text) (t : Option ℤ) (o : Option (String Global)) (z : ℤ)
    → t ≡ Some z → filled_by v scope t o ≡ Some z
filled_given v scope None o z e = absurd (cc e)
filled_given v scope (Some n) o z e = e

-- where one use is written, and it is a map's, there is one user, which is a map
pub map_one : (us : List WrittenUse) (fs : List FieldDescriptorProto) → AllZip IsUseOf us fs
    → length us ≡ 1
    → ((u : WrittenUse) → Contains us u → (u.1.0 ≡ Some (pos 3)) × (u.1.1 ≡ Some (pos 11)))
    → is_one_map (use_by fs) ≡ true
map_one [] fs z one maps = absurd (omega (arith, one))
map_one (u ∷ v ∷ us) fs z one maps = absurd (omega (arith, one))
map_one (u ∷ []) [] z one maps = absurd z
map_one (u ∷ []) (f ∷ g ∷ fs) z one maps = absurd z.1
map_one (u ∷ []) (f ∷ []) z one maps =
    ap (λ b. is_one_map (Some (cond (is_equal f.label (pos 3) && not b) uses.OneMap uses.Other))) group
    ∙ ap (λ a. is_one_map (Some (cond (a && not false) uses.OneMap uses.Other))) label where
      is : (u.1.0 ≡ Some (pos 3)) × (u.1.1 ≡ Some (pos 11))
      is = maps u (contains_here u [])

      label : is_equal f.label (pos 3) ≡ true
      label = ap (λ o. is_equal o (pos 3)) (sym z.0.label ∙ is.0)
          ∙ (Decides-int_eq (pos 3) (pos 3)).1 refl

      by : (o : Option ℤ) → f.field_type ≡ o → is_equal o (pos 10) ≡ false
      by None e = refl
      by (Some x) e =
          let same : x ≡ pos 11 = cc (sym (z.0.given x e) ∙ is.1) in
          ap (λ y. int_eq y (pos 10)) same

      group : is_equal f.field_type (pos 10) ≡ false
      group = by f.field_type refl

ten_or_eleven : (n : ℕ) → ((n == 10) || (n == 11)) ≡ true → int_eq (pos n) (pos 10) ≡ false → n ≡ 11
ten_or_eleven n e ten = by (n == 10) refl (n == 11) refl where
  by : (a : Bool) → (n == 10) ≡ a → (b : Bool) → (n == 11) ≡ b → n ≡ 11
  by true is b _ =
      let same : n ≡ 10 = grind (arith, is) in
      absurd (cc (sym ten ∙ (Decides-int_eq (pos n) (pos 10)).1 (ap pos same)))
  by false _ true is = grind (arith, is)
  by false is false other =
      absurd (cc (sym e ∙ ap (λ a. a || (n == 11)) is ∙ other))

-- what means a message and is no group has the number of messages
message_type : (z : ℤ) (i : ℕ) → suits (Some z) (kind.Message i) ≡ true → is_in z 18 ≡ true
    → int_eq z (pos 10) ≡ false → z ≡ pos 11
message_type (pos n) i suited inside ten =
    ap pos (ten_or_eleven n
    (sym (ap (λ a. not a || ((n == 10) || (n == 11))) inside) ∙ suited) ten)
message_type (negsuc n) i suited inside ten = absurd (cc inside)

module _ (names : List FullName) (known : Known) (are : AreFound (found messages known) names)
    (says : TypesSay) (full : Text) (own : Definition) (i : ℕ) (knows : known full ≡ Some own)
    (is_message : own.kind ≡ kind.Message i) (is_entry : says.is_entry i ≡ true) where
  there : (n : Text) (d : Definition) (j : ℕ) → known n ≡ Some d → d.kind ≡ kind.Message j
      → slice_get names j ≡ Some (n, d.file)
  there n d j e is = (are n j d.file).0
      (ap (place_in messages) e ∙ ap (λ k. with_file d (place_of messages k)) is)

  one_name : (n : Text) (d : Definition) → known n ≡ Some d → d.kind ≡ kind.Message i → n ≡ full
  one_name n d e is =
      let pair : ◌≡◌ {A = FullName} (n, d.file) (full, own.file) =
      cc (sym (there n d i e is) ∙ there full own i knows is_message) in
      ap (λ (p : FullName). p.0) pair

  same_kind : (n : Text) (d : Definition) → known n ≡ Some d → n ≡ full → d.kind ≡ kind.Message i
  same_kind n d e is =
      let both : Some d ≡ Some own = sym e ∙ ap known is ∙ knows in
      let same : d ≡ own = cc both in ap (λ (x : Definition). x.kind) same ∙ is_message

  dotted_same : (n : Text) → bytes_eq (46 ∷ n) (46 ∷ full) ≡ true → n ≡ full
  dotted_same n e = let whole : 46 ∷ n ≡ 46 ∷ full = bytes_same (46 ∷ n) (46 ∷ full) e in cc whole

  -- its name is written exactly where its index is meant
  test_kind : (n : Text) (d : Definition) → known n ≡ Some d → (k : DefinitionKind) → d.kind ≡ k
      → bytes_eq (46 ∷ n) (46 ∷ full) ≡ is_entry_at says i (message_of (Some k))
  test_kind n d e k is = by (bytes_eq (46 ∷ n) (46 ∷ full)) refl where
    meant : (k : DefinitionKind) → k ≡ kind.Message i → true ≡ is_entry_at says i (message_of (Some k))
    meant k same =
        let equal : (i == i) ≡ true = grind (arith) in
        sym (ap (λ x. is_entry_at says i (message_of (Some x))) same
        ∙ ap (λ a. a && says.is_entry i) equal ∙ is_entry)

    other : (k : DefinitionKind) → (k ≡ kind.Message i → ⊥)
        → false ≡ is_entry_at says i (message_of (Some k))
    other (kind.Message j) apart = at (j == i) refl where
      at : (b : Bool) → (j == i) ≡ b → false ≡ (j == i && says.is_entry j)
      at true is = absurd (apart (let same : j ≡ i = grind (arith, is) in ap kind.Message same))
      at false is = sym (ap (λ a. a && says.is_entry j) is)
    other k apart = refl

    by : (b : Bool) → bytes_eq (46 ∷ n) (46 ∷ full) ≡ b
        → bytes_eq (46 ∷ n) (46 ∷ full) ≡ is_entry_at says i (message_of (Some k))
    by true e' = e' ∙ meant k (sym is ∙ same_kind n d e (dotted_same n e'))
    by false e' = e' ∙ other k (λ same.
        let name = one_name n d e (is ∙ same) in
        let yes = (bytes_decides (46 ∷ n) (46 ∷ full)).1 (ap (λ (x : Text). 46 ∷ x) name) in
        cc (sym e' ∙ yes))

  module _ (v : View) (known_by : v.known ≡ known) (at : Places) (path : List ℤ) (scope : Text) where
    pub test_same : (o : Option (String Global)) → IsResolved v filter.FieldType scope o
        → is_dotted full (type_by v scope o)
        ≡ is_entry_at says i (message_of (kind_by v filter.FieldType scope o))
    test_same None r = refl
    test_same (Some s) (n, d, is) =
        let found = resolved_to v.known v.sees filter.FieldType scope (string_bytes s) n d is in
        let e : known n ≡ Some d = ap (λ (k : Known). k n) (sym known_by) ∙ found.1.known_as in
        ap (λ m. bytes_eq (46 ∷ (found_by m).0) (46 ∷ full)) is
        ∙ test_kind n d e d.kind refl
        ∙ ap (λ m. is_entry_at says i (message_of (kind_meant m))) (sym is)

    abbrev NoneWrong : Option ℤ → Option (String Global) → Type 0
    NoneWrong t o = elim o [
      | None ↦ Unit {0}
      | Some s ↦ mismatch at path (string_bytes s) t
          (kind_meant (meaning_of v filter.FieldType scope (string_bytes s))) ≡ []
    ]

    -- what it means is the entries' type
    means_it : (s : String Global) (n : Text) (d : Definition)
        → meaning_of v filter.FieldType scope (string_bytes s) ≡ means n d
        → is_dotted full (type_by v scope (Some s)) ≡ true → d.kind ≡ kind.Message i
    means_it s n d is test =
        let found = resolved_to v.known v.sees filter.FieldType scope (string_bytes s) n d is in
        let e : known n ≡ Some d = ap (λ (k : Known). k n) (sym known_by) ∙ found.1.known_as in
        same_kind n d e (dotted_same n
        (sym (ap (λ m. bytes_eq (46 ∷ (found_by m).0) (46 ∷ full)) is) ∙ test))

    type_is : (t : Option ℤ) (o : Option (String Global)) → type_faults at path t ≡ []
        → NoneWrong t o → IsResolved v filter.FieldType scope o
        → is_dotted full (type_by v scope o) ≡ true → is_equal t (pos 10) ≡ false
        → filled_by v scope t o ≡ Some (pos 11)
    type_is t None a b r test ten = absurd (cc test)
    type_is None (Some s) a b (n, d, is) test ten =
        ap (λ m. Some (type_of (found_by m).1.kind)) is
        ∙ ap (λ k. Some (type_of k)) (means_it s n d is test)
    type_is (Some z) (Some s) a b (n, d, is) test ten =
        let name = string_bytes s in
        let here : mismatch at path name (Some z) (Some (kind.Message i)) ≡ [] =
        ap (λ k. mismatch at path name (Some z) (Some k)) (sym (means_it s n d is test))
        ∙ ap (λ m. mismatch at path name (Some z) (kind_meant m)) (sym is) ∙ b in
        ap Some (message_type z i (unless_to (suits (Some z) (kind.Message i)) _ here)
        (unless_to (is_in z 18) _ a) ten)

    none_wrong : (f : FieldDescriptorProto) (o : Option (String Global))
        → type_name_faults at v path scope (record f { type_name = o }) ≡ []
        → NoneWrong f.field_type o
    none_wrong f None e = tt
    none_wrong f (Some s) e = (none_both
        (unmet filter.FieldType (meaning_of v filter.FieldType scope (string_bytes s))
        (string_bytes s) _) _ e).1

    -- a field that means the entries' type
    use_is : (f : FieldDescriptorProto) → field_reference_faults at v path scope f ≡ []
        → is_dotted full (type_by v scope f.type_name) ≡ true → IsUseOf (use_seen v scope f) f
    use_is f none test =
        let first = none_both (label_faults at path f.label) _ none in
        let rest = none_both (type_faults at path f.field_type) _ first.1 in
        record {
          label = refl;
          type = type_is f.field_type f.type_name rest.0 (none_wrong f f.type_name rest.1)
              (resolved_type at v path scope f none) test;
          given = filled_given v scope f.field_type f.type_name;
        }

  one_use : (u : WrittenUse) (f : FieldDescriptorProto) (us : List WrittenUse)
      (fs : List FieldDescriptorProto) (a b : Bool) → a ≡ b → (a ≡ true → IsUseOf u f)
      → AllZip IsUseOf us fs
      → AllZip IsUseOf (cond a (u ∷ us) us) (cond b (f ∷ []) [] ++ fs)
  one_use u f us fs true true e h z = (h refl, z)
  one_use u f us fs false false e h z = z
  one_use u f us fs true false e h z = absurd (cc e)
  one_use u f us fs false true e h z = absurd (cc e)

  module _ (sees : ℕ → ℕ → Bool) (at : ℕ → Places) where
    abbrev views : ℕ → View
    views = views_of known sees

    abbrev test : WrittenUse → Bool
    test u = is_dotted full u.0

    one_used : (rest : List Reference) (d : Declaration) (b : Body) (more : List Target)
        (us : List WrittenUse) (fs : List FieldDescriptorProto)
        → reference_faults_at (at d.file) (views d.file) (record d { body = b }) ≡ []
        → map target_of rest ≡ targets_of (views d.file) (record d { body = b }) ++ more
        → AllZip IsUseOf (filter test us) fs
        → AllZip IsUseOf (filter test (uses_by (views d.file) (record d { body = b }) ++ us))
        (users_in says i rest (record d { body = b }) ++ fs)
    one_used rest d (of_field f) more us fs none e z =
        let v = views d.file in
        let resolved = resolved_type (at d.file) v d.path d.name f none in
        let hand = at_hand v filter.FieldType d.name f.type_name rest more resolved e in
        one_use (use_seen v d.name f) f (filter test us) fs (is_dotted full (type_by v d.name f.type_name))
        (is_entry_at says i (message_of (meaning f.type_name rest)))
        (test_same v refl (at d.file) d.path d.name f.type_name resolved
        ∙ ap (λ k. is_entry_at says i (message_of k)) (sym hand.kind))
        (use_is v refl (at d.file) d.path d.name f none) z
    one_used rest d (of_extension x) more us fs none e z =
        let v = views d.file in
        let parts = none_both (reference_faults (at d.file) v filter.Message d.path d.name _ x.extendee) _
        none in
        let resolved = resolved_type (at d.file) v d.path d.name x parts.1 in
        let hand = (extension_at_hand (at d.file) v d x rest more none e).1 in
        one_use (use_seen v d.name x) x (filter test us) fs (is_dotted full (type_by v d.name x.type_name))
        (is_entry_at says i (message_of (meaning x.type_name (behind x.extendee rest))))
        (test_same v refl (at d.file) d.path d.name x.type_name resolved
        ∙ ap (λ k. is_entry_at says i (message_of k)) (sym hand.kind))
        (use_is v refl (at d.file) d.path d.name x parts.1) z
    one_used rest d b more us fs none e z = z

    -- those that write the name are the users of the index
    pub used : (rest : List Reference) (ds : List Declaration)
        → reference_faults_along at views ds ≡ [] → map target_of rest ≡ targets_along views ds
        → AllZip IsUseOf (filter test (uses_along views ds)) (users says i rest ds)
    used rest [] none e = tt
    used rest (d ∷ ds) none e =
        let parts = none_both (reference_faults_at (at d.file) (views d.file) d)
        (reference_faults_along at views ds) none in
        let left = left_behind views at rest d d.body (targets_along views ds) parts.0 e in
        one_used rest d d.body (targets_along views ds) (uses_along views ds)
        (users says i (rest_behind d rest) ds) parts.0 e (used (rest_behind d rest) ds parts.1 left)

    -- and so there is one, a map's
    pub one_map : (us : List WrittenUse) (fs : List FieldDescriptorProto) → AllZip IsUseOf us fs
        → is_one_map (use_by fs) ≡ true
        → (u : WrittenUse) × (us ≡ u ∷ []) × (u.1.0 ≡ Some (pos 3)) × (u.1.1 ≡ Some (pos 11))
    one_map us [] z e = absurd (cc e)
    one_map us (f ∷ g ∷ fs) z e = absurd (cc e)
    one_map [] (f ∷ []) z e = absurd z
    one_map (u ∷ v ∷ us) (f ∷ []) z e = absurd z.1
    one_map (u ∷ []) (f ∷ []) z e = by (is_equal f.label (pos 3)) refl (is_equal f.field_type (pos 10)) refl where
      equal_is : (o : Option ℤ) (n : ℤ) → is_equal o n ≡ true → o ≡ Some n
      equal_is None n h = absurd (cc h)
      equal_is (Some m) n h = ap Some ((Decides-int_eq m n).0 h)

      by : (a : Bool) → is_equal f.label (pos 3) ≡ a → (b : Bool) → is_equal f.field_type (pos 10) ≡ b
          → (x : WrittenUse) × (u ∷ [] ≡ x ∷ []) × (x.1.0 ≡ Some (pos 3)) × (x.1.1 ≡ Some (pos 11))
      by true is false other =
          (u, refl, z.0.label ∙ equal_is f.label (pos 3) is, z.0.type other)
      by true is true other = absurd (cc (sym (ap (λ b. is_one_map (Some (cond (is_equal f.label (pos 3) && not b) uses.OneMap uses.Other))) other ∙ ap (λ a. is_one_map (Some (cond (a && false) uses.OneMap uses.Other))) is) ∙ e))
      by false is b other = absurd (cc (sym (ap (λ a. is_one_map (Some (cond (a && not (is_equal f.field_type (pos 10))) uses.OneMap uses.Other))) is) ∙ e))

module _ (files : List FileDescriptorProto) (known : Known) (are : AreKnown files known)
    (indexes : Indexes) (sees : ℕ → ℕ → Bool) where
  abbrev see_of : FileContent → View
  see_of f = see uses_by uses_of files known are indexes sees f

  type_seen : (f : FileContent) (scope : Text) (t : Option ℤ) (o : Option (String Global))
      → type_by (see_of f) scope o
      ≡ rename_type (names uses_by uses_of files known are indexes sees f) scope t (text_view o)
  type_seen f scope t None = refl
  type_seen f scope t (Some s) = refl

  filled_seen : (f : FileContent) (scope : Text) (t : Option ℤ) (o : Option (String Global))
      → filled_by (see_of f) scope t o
      ≡ fill_type (names uses_by uses_of files known are indexes sees f) scope t (text_view o)
  filled_seen f scope (Some n) o = refl
  filled_seen f scope None None = refl
  filled_seen f scope None (Some s) = refl

  field_seen : (f : FileContent) (d : Declaration) (x : FieldDescriptorProto)
      → use_seen (see_of f) d.name x ∷ [] ≡ (
        rename_type (names uses_by uses_of files known are indexes sees f) d.name x.field_type (text_view x.type_name),
        (
          x.label,
          fill_type (names uses_by uses_of files known are indexes sees f) d.name x.field_type (text_view x.type_name),
        ),
      ) ∷ []
  field_seen f d x =
      ap (λ (o : Option Text). (o, (x.label, filled_by (see_of f) d.name x.field_type x.type_name)) ∷ [])
      (type_seen f d.name x.field_type x.type_name)
      ∙ ap (λ (o : Option ℤ). (
        rename_type (names uses_by uses_of files known are indexes sees f) d.name
            x.field_type (text_view x.type_name),
        (x.label, o),
      ) ∷ [])
      (filled_seen f d.name x.field_type x.type_name)

  body_uses : (f : FileContent) (d : Declaration) (b : Body)
      → uses_by (see_of f) (record d { body = b })
      ≡ listed_seen uses_by uses_of files known are indexes sees f (seen (record d { body = b }))
  body_uses f d (of_field x) = field_seen f d x
  body_uses f d (of_extension x) = field_seen f d x
  body_uses f d b = refl

  pub gives_uses : GivesSame uses_by uses_of files known are indexes sees
  gives_uses = record { none = λ v i f. refl; one = body_uses }
