-- What holds of each declaration in which no pass finds a fault.
use Rattle.std.proofs.Common.{◌≡◌, inl, inr, ℕ, ℤ, pos, negsuc, Bool, true, false, cond, List, [], ◌∷◌, ◌++◌, map, Option, None, Some, String, string_bytes, refl, sym, subst, arith}
use Rattle.std.specs.declared.alloc.Global.{Global}
use Rattle.descriptor_records.specs.declared.field.FieldDescriptorProto.{FieldDescriptorProto}
use Rattle.reflect_scope.specs.declared.definition.DefinitionKind.{DefinitionKind}
use Rattle.reflect_scope.specs.declared.definition.DefinitionKind.TheVariants as kind
use Rattle.reflect_scope.specs.declared.definition.ResolveNameFilter.TheVariants as filter
use Rattle.reflect_scope.specs.Means.{Meaning, means, not_found, wrong_kind, shadowed}
use Rattle.reflect_declarations.specs.Tree.{MessageParts}
use Rattle.reflect_declarations.specs.Declarations.{Declaration, of_message, of_field}
use Rattle.reflect_faults.specs.Faults.{Fault, Place as Spot, duplicate_number}
use Rattle.reflect_names.specs.Names.{Places}
use Rattle.reflect_names.specs.References.{View, meaning_of, kind_meant, suits, unmet, mismatch, type_name_faults, type_faults, label_faults, reference_faults_at}
use Rattle.reflect_names.specs.ReferencePass.{reference_faults_along}
use Rattle.reflect_rules.specs.MapEntries.{is_key_type}
use Rattle.reflect_rules.specs.Repeats.{repeat_faults}
use Rattle.reflect_rules.specs.Rules.{Values, FaultsOf, entry_faults}
use Rattle.reflect_rules.specs.Walks.{Facts, Place}
use Rattle.reflect_index.proofs.Among.{Among}
use Rattle.reflect_build.proofs.Rules.{none_both}

-- the numbers of a message's fields repeat none
pub repeats_none : (g : Facts) (values : Values) (q : Place) (at : Places) (d : Declaration)
    (own : MessageParts) → FaultsOf g values q at d [] → d.body ≡ of_message own
    → repeat_faults duplicate_number (pos 2) (pos 3) d.path at
    (map (λ (f : FieldDescriptorProto). f.number) own.field) ≡ []
repeats_none g values q at d own h is =
    let here : FaultsOf g values q at (record d { body = of_message own }) [] =
    subst (λ b. FaultsOf g values q at (record d { body = b }) []) is h in
    (none_both (entry_faults at d.path d.name (g.uses d.index) own) _ (sym here)).1

-- no reference of any of them is at fault
pub references_at : (at : ℕ → Places) (views : ℕ → View) (ds : List Declaration)
    → reference_faults_along at views ds ≡ [] → (d : Declaration) → Among d ds
    → reference_faults_at (at d.file) (views d.file) d ≡ []
references_at at views [] none d k = absurd k
references_at at views (e ∷ ds) none d (inl same) =
    subst (λ (x : Declaration). reference_faults_at (at x.file) (views x.file) x ≡ []) same
    (none_both (reference_faults_at (at e.file) (views e.file) e)
    (reference_faults_along at views ds) none).0
references_at at views (e ∷ ds) none d (inr later) =
    references_at at views ds
    (none_both (reference_faults_at (at e.file) (views e.file) e)
    (reference_faults_along at views ds) none).1 d later

pub unfaulted : (b : Bool) (x : Fault) → cond b [] (x ∷ []) ≡ [] → b ≡ true
unfaulted true x e = refl
unfaulted false x e = absurd (cc e)

is_meant : (at : Places) (path : List ℤ) (number : Option ℤ) (m : Meaning) (name : List ℕ)
    (place : Spot)
    → unmet filter.FieldType m name place ++ mismatch at path name number (kind_meant m) ≡ []
    → (k : DefinitionKind) × (suits number k ≡ true)
is_meant at path number (means full d) name place none =
    (d.kind, unfaulted (suits number d.kind) _ none)
is_meant at path number not_found name place none = absurd (cc none)
is_meant at path number wrong_kind name place none = absurd (cc none)
is_meant at path number (shadowed full) name place none = absurd (cc none)

-- a field whose type has a name has a type that may have one
pub named_suits : (at : Places) (v : View) (d : Declaration) (r : FieldDescriptorProto)
    (name : String Global) → reference_faults_at at v d ≡ [] → d.body ≡ of_field r
    → r.type_name ≡ Some name → (k : DefinitionKind) × (suits r.field_type k ≡ true)
named_suits at v d r name none is named =
    let here : reference_faults_at at v (record d { body = of_field r }) ≡ [] =
    subst (λ b. reference_faults_at at v (record d { body = b }) ≡ []) is none in
    let types = none_both (type_faults at d.path r.field_type) _
    (none_both (label_faults at d.path r.label) _ here).1 in
    let whole : type_name_faults at v d.path d.name (record r { type_name = Some name }) ≡ [] =
    subst (λ o. type_name_faults at v d.path d.name (record r { type_name = o }) ≡ []) named
    types.1 in
    is_meant at d.path r.field_type (meaning_of v filter.FieldType d.name (string_bytes name))
    (string_bytes name) _ whole

-- the type of a key may have none
pub key_is_unnamed : (number : Option ℤ) (k : DefinitionKind) → is_key_type number ≡ true
    → suits number k ≡ true → ⊥
key_is_unnamed None k key h = absurd (cc key)
key_is_unnamed (Some (negsuc n)) k key h = absurd (cc key)
key_is_unnamed (Some (pos n)) (kind.Message i) key h = grind (arith, key, h)
key_is_unnamed (Some (pos n)) (kind.Enum i) key h = grind (arith, key, h)
key_is_unnamed (Some (pos n)) k key h = grind (arith, key, h)
