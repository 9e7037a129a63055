-- A name that files do not use: of an older type of a map's entries by new files, of a new one by
-- older files. What is used once elsewhere is so among all of them.
use Rattle.std.proofs.Common.{◌≡◌, ◌≤◌, ◌<◌, ◌+◌, ◌∙◌, ◌==◌, ◌&&◌, inl, inr, ℕ, ℤ, Bool, true, false, cond, nat_lt, List, [], ◌∷◌, ◌++◌, Option, Some, None, String, Global, sum_by, map, ap, sym, subst, refl, arith}
use Rattle.std.specs.List.{Contains}
use Rattle.std.proofs.lemmas.List.{map-append}
use Rattle.std.proofs.lemmas.List.Elements.{Contains-append_cases, Contains-append_right}
use Rattle.std.proofs.lemmas.List.Sums.{sum_by-cons, sum_by-append}
use Rattle.descriptor_records.specs.Content.{Text, FileContent, text_view}
use Rattle.descriptor_records.specs.declared.file.FileDescriptorProto.{FileDescriptorProto}
use Rattle.reflect_names.specs.Names.{Places}
use Rattle.reflect_names.specs.References.{View, reference_faults}
use Rattle.reflect_passes.specs.declared.linked_types.LinkedTypes.{LinkedTypes}
use Rattle.reflect_rules.specs.Rules.{message_of}
use Rattle.reflect_rules.specs.Uses.{is_entry_at}
use Rattle.reflect_rules.specs.Walks.{Facts}
use Rattle.reflect_scope.specs.FileIndexes.{Indexes}
use Rattle.reflect_scope.specs.Known.{Known}
use Rattle.reflect_scope.specs.declared.definition.Definition.{Definition}
use Rattle.reflect_scope.specs.declared.definition.DefinitionKind.TheVariants as kind
use Rattle.reflect_scope.specs.declared.definition.ResolveNameFilter.TheVariants as filter
use Rattle.reflect_tables.specs.Names.{FullName, AreFound, found, messages}
use Rattle.reflect_declarations.specs.Declarations.{of_file, of_field, of_extension}
use Rattle.schema_view.specs.Declarations as view
use Rattle.schema_view.specs.Declarations.{Declaration, declarations}
use Rattle.schema_view.specs.Lawful.{outlines, is_dotted, is_use, times_by, IsMapUse, IsOneMap}
use Rattle.schema_view.specs.Outlines.{Sort, Head, Outline, outline_of, IsDeclared, AreApart, times, times_declared}
use Rattle.schema_view.specs.References.{Reference, Target as Naming, a_type, to_message, to_type, references_of, rename_type}
use Rattle.schema_view.proofs.Lists.{contains_here, contains_there, contains_flat, contains_map, sum_some}
use Rattle.schema_view.proofs.Road.{AreLinked, after_dot}
use Rattle.linked_view.specs.AtHand.{kind_by}
use Rattle.linked_view.specs.Known.{AreKnown}
use Rattle.linked_view.specs.Ruled.{IsNewer}
use Rattle.linked_view.proofs.AtHand.{IsResolved, resolved_type}
use Rattle.linked_view.proofs.Counts.{times_there}
use Rattle.linked_view.proofs.Extended.{dotted_is}
use Rattle.linked_view.proofs.Faults.{none_both}
use Rattle.linked_view.proofs.Settling.{names, see, HoldsOne}
use Rattle.linked_view.proofs.Used.{test_same}

-- no declaration of the files has the name as its type's
abbrev pub Unused : Text → List FileContent → Type 0
Unused full fs = (f : FileContent) (d : Declaration) → Contains fs f → Contains (declarations f) d
    → is_use full d.body ≡ false

sum_none : {X : Type 0} (w : X → ℕ) (xs : List X) → ((x : X) → Contains xs x → w x ≡ 0)
    → sum_by w xs ≡ 0
sum_none w [] none = refl
sum_none w (x ∷ xs) none =
    let here = none x (contains_here x xs) in
    let rest = sum_none w xs (λ y i. none y (contains_there x xs y i)) in
    let sum = sum_by-cons w x xs in
    omega (arith, here, rest, sum)

never_used : (full : Text) (fs : List FileContent) → Unused full fs → times_by (is_use full) fs ≡ 0
never_used full fs none =
    sum_none (λ f. sum_by (λ d. cond (is_use full d.body) 1 0) (declarations f)) fs (λ f i.
    sum_none (λ d. cond (is_use full d.body) 1 0) (declarations f) (λ d j.
    ap (λ b. cond b 1 0) (none f d i j)))

unused_from : (full : Text) (fs : List FileContent) → times_by (is_use full) fs ≡ 0 → Unused full fs
unused_from full fs none f d i j = by (is_use full d.body) refl where
  by : (b : Bool) → is_use full d.body ≡ b → is_use full d.body ≡ false
  by false e = e
  by true e =
      let outer = sum_some (λ f. sum_by (λ d. cond (is_use full d.body) 1 0) (declarations f)) fs f i in
      let inner = sum_some (λ d. cond (is_use full d.body) 1 0) (declarations f) d j in
      let one : ◌≡◌ {A = ℕ} (cond (is_use full d.body) 1 0) 1 = ap (λ b. cond b 1 0) e in
      absurd (omega (arith, none, outer, inner, one))

unused_map : (full : Text) (b : view.Body) → is_use full b ≡ false → IsMapUse full b
unused_map full (view.of_field f) none = λ e. absurd (cc (sym e ∙ none))
unused_map full (view.of_extension x) none = λ e. absurd (cc (sym e ∙ none))
unused_map full b none = tt

times_both : (full : Text) (a b : List FileContent) → times_by (is_use full) (a ++ b)
    ≡ times_by (is_use full) a + times_by (is_use full) b
times_both full a b =
    sum_by-append (λ f. sum_by (λ d. cond (is_use full d.body) 1 0) (declarations f)) a b

-- a map that other files do not use is one among all
pub one_map_left : (full : Text) (a b : List FileContent) → IsOneMap a full → Unused full b
    → IsOneMap (a ++ b) full
one_map_left full a b one none = record {
  once = (let here = one.once in let rest = never_used full b none in let sum = times_both full a b in
      omega (arith, here, rest, sum));
  map = λ f d i j. elim (Contains-append_cases a b f i) [
    | inl k ↦ one.map f d k j
    | inr k ↦ unused_map full d.body (none f d k j)
  ];
}

pub one_map_right : (full : Text) (a b : List FileContent) → IsOneMap b full → Unused full a
    → IsOneMap (a ++ b) full
one_map_right full a b one none = record {
  once = (let here = one.once in let rest = never_used full a none in let sum = times_both full a b in
      omega (arith, here, rest, sum));
  map = λ f d i j. elim (Contains-append_cases a b f i) [
    | inl k ↦ unused_map full d.body (none f d k j)
    | inr k ↦ one.map f d k j
  ];
}

-- and back
pub map_left_only : (full : Text) (a b : List FileContent) → IsOneMap a full
    → IsOneMap (a ++ b) full → Unused full b
map_left_only full a b one all = unused_from full b
    (let here = one.once in let both = all.once in let sum = times_both full a b in
    omega (arith, here, both, sum))

pub map_right_only : (full : Text) (a b : List FileContent) → IsOneMap (a ++ b) full
    → Unused full a → IsOneMap b full
map_right_only full a b all none = record {
  once = (let both = all.once in let rest = never_used full a none in let sum = times_both full a b in
      omega (arith, both, rest, sum));
  map = λ f d i j. all.map f d (Contains-append_right a b f i) j;
}

-- ---- an older type, by new files

module _ (files : List FileDescriptorProto) (known : Known) (are : AreKnown files known)
    (indexes : Indexes) (sees : ℕ → ℕ → Bool) (t : LinkedTypes) (g : Facts) (at : ℕ → Places)
    (all : List FullName) (stand : AreFound (found messages known) all) (full : Text)
    (own : Definition) (i : ℕ) (knows : known full ≡ Some own)
    (is_message : own.kind ≡ kind.Message i) (is_entry : g.types.is_entry i ≡ true)
    (early : i < g.first) where
  module _ (f : FileContent) where
    abbrev IsUnused : view.Body → Type 0
    IsUnused b = is_use full b ≡ false

    abbrev namings : Reference → Naming
    namings = names files known are indexes sees t g at IsUnused f

    abbrev view_of : View
    view_of = see files known are indexes sees t g at IsUnused f

    -- what is meant is another type, since it is no older one of entries
    other_meant : (o : Option ℕ) → IsNewer g.types g.first o → is_entry_at g.types i o ≡ false
    other_meant None newer = refl
    other_meant (Some j) newer = by (j == i) refl where
      by : (b : Bool) → (j == i) ≡ b → (j == i && g.types.is_entry j) ≡ false
      by false is = ap (λ a. a && g.types.is_entry j) is
      by true is =
          let same : j ≡ i = grind (arith, is) in
          let low : nat_lt j g.first ≡ true = grind (arith, same, early) in
          let says : g.types.is_entry j ≡ true = ap (λ k. g.types.is_entry k) same ∙ is_entry in
          let both : (nat_lt j g.first && g.types.is_entry j) ≡ true =
          ap (λ a. a && g.types.is_entry j) low ∙ says in
          absurd (cc (sym both ∙ newer))

    not_written : (d : Places) (path : List ℤ) (scope : Text) (type : Option ℤ)
        (o : Option (String Global)) → IsResolved view_of filter.FieldType scope o
        → IsNewer g.types g.first (message_of (kind_by view_of filter.FieldType scope o))
        → is_dotted full (rename_type namings scope type (text_view o)) ≡ false
    not_written places path scope type None r newer = refl
    not_written places path scope type (Some s) r newer =
        test_same all known stand g.types full own i knows is_message is_entry view_of refl places path
        scope (Some s) r
        ∙ other_meant (message_of (kind_by view_of filter.FieldType scope (Some s))) newer

    pub unused_seen : HoldsOne files known are indexes sees t g at IsUnused f
    unused_seen d (of_file x) none h = tt
    unused_seen d (of_field x) none h =
        not_written (at d.file) d.path d.name x.field_type x.type_name
        (resolved_type (at d.file) view_of d.path d.name x none) h.newer
    unused_seen d (of_extension x) none h =
        let parts = none_both
        (reference_faults (at d.file) view_of filter.Message d.path d.name _ x.extendee) _ none in
        not_written (at d.file) d.path d.name x.field_type x.type_name
        (resolved_type (at d.file) view_of d.path d.name x parts.1) h.1.newer
    unused_seen d b none h = refl

-- ---- a new type, by older files

-- a field that uses a name refers to it
used_reference : (full n : Text) (type : Option ℤ) (o : Option Text) → is_dotted full o ≡ true
    → (r : Reference) × Contains (to_type n type o) r × (r.name ≡ 46 ∷ full)
used_reference full n type None e = absurd (cc e)
used_reference full n type (Some s) e =
    let same : s ≡ 46 ∷ full = cc (dotted_is full (Some s) e) in
    let r : Reference = record { want = a_type type; scope = n; name = s } in
    (r, contains_here r [], same)

refers_to : (full n : Text) (b : view.Body) → is_use full b ≡ true
    → (r : Reference) × Contains (references_of (record { name = n; body = b })) r
    × (r.name ≡ 46 ∷ full)
refers_to full n (view.of_field f) e = used_reference full n f.field_type f.type_name e
refers_to full n (view.of_extension x) e =
    let u = used_reference full n x.field_type x.type_name e in
    (u.0, Contains-append_right (to_message n x.extendee) (to_type n x.field_type x.type_name) u.0 u.1, u.2)
refers_to full n b e = absurd (cc e)

declared_often : (os : List Outline) (full : Text) (s : Sort) → IsDeclared os full s
    → 1 ≤ times_declared full os
declared_often os full s (o, h, i, j, name, is) =
    let some = sum_some (λ (p : Outline). times full (map (λ (x : Head). x.name) p.heads)) os o i in
    let there = subst (Contains (map (λ (x : Head). x.name) o.heads)) name
    (contains_map (λ (x : Head). x.name) o.heads h j) in
    let one = times_there full (map (λ (x : Head). x.name) o.heads) there in
    omega (arith, some, one)

-- where the older files are linked, they use no name that only new files declare
pub unused_before : (old new : List FileContent) → AreLinked old → AreApart (outlines (old ++ new))
    → (full : Text) (s : Sort) → IsDeclared (outlines new) full s → Unused full old
unused_before old new are apart full s declared f d i j = by (is_use full d.body) refl where
  twice : (k : Sort) → IsDeclared (outlines old) full k → ⊥
  twice k h =
      let a = declared_often (outlines old) full k h in
      let b = declared_often (outlines new) full s declared in
      let sum = sum_by-append (λ (p : Outline). times full (map (λ (x : Head). x.name) p.heads))
      (outlines old) (outlines new) in
      let most = subst (λ os. times_declared full os ≤ 1) (map-append outline_of old new) (apart.names full) in
      omega (arith, a, b, sum, most)

  by : (b : Bool) → is_use full d.body ≡ b → is_use full d.body ≡ false
  by false e = e
  by true e =
      let r = refers_to full d.name d.body e in
      let known = (are.each f i).numbers r.0 (contains_flat references_of (declarations f) d r.0 j r.1) in
      absurd (twice known.0 (subst (λ n. IsDeclared (outlines old) n known.0) (ap after_dot r.2) known.1))
